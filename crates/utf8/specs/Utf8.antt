-- Well-formed UTF-8: the syntax of RFC 3629, section 4, rule by rule. A byte is a number, and no rule holds one above 0xF4.
-- Assumes nothing.
use Rattle.std.specs.Prelude.{ℕ, Bool, true, false, ◌&&◌, ◌||◌, List, [], ◌∷◌, ◌++◌, leb}

-- ---- rules

-- the bytes from low to high, as in `%x80-BF`
pub record Range : Type 0 where
  pub low : ℕ
  pub high : ℕ

infix 68 ◌to◌
abbrev pub ◌to◌ : ℕ → ℕ → Range
◌to◌ low high = record { low = low; high = high }

unfoldable pub within : Range → ℕ → Bool
within r b = leb r.low b && leb b r.high

-- one way to write a character: the range of the byte that leads, and the ranges of those that follow it
pub record Row : Type 0 where
  pub lead : Range
  pub after : List Range

infix 65 ◌then◌
abbrev pub ◌then◌ : Range → List Range → Row
◌then◌ lead after = record { lead = lead; after = after }

-- UTF8-tail = %x80-BF
abbrev pub utf8_tail : Range
utf8_tail = 0x80 to 0xBF

-- UTF8-1 = %x00-7F
abbrev pub utf8_1 : List Row
utf8_1 = (0x00 to 0x7F then []) ∷ []

-- UTF8-2 = %xC2-DF UTF8-tail
abbrev pub utf8_2 : List Row
utf8_2 = (0xC2 to 0xDF then utf8_tail ∷ []) ∷ []

-- UTF8-3 = %xE0 %xA0-BF UTF8-tail / %xE1-EC 2( UTF8-tail ) / %xED %x80-9F UTF8-tail / %xEE-EF 2( UTF8-tail )
abbrev pub utf8_3 : List Row
utf8_3 =
    (0xE0 to 0xE0 then 0xA0 to 0xBF ∷ utf8_tail ∷ [])
    ∷ (0xE1 to 0xEC then utf8_tail ∷ utf8_tail ∷ [])
    ∷ (0xED to 0xED then 0x80 to 0x9F ∷ utf8_tail ∷ [])
    ∷ (0xEE to 0xEF then utf8_tail ∷ utf8_tail ∷ [])
    ∷ []

-- UTF8-4 = %xF0 %x90-BF 2( UTF8-tail ) / %xF1-F3 3( UTF8-tail ) / %xF4 %x80-8F 2( UTF8-tail )
abbrev pub utf8_4 : List Row
utf8_4 =
    (0xF0 to 0xF0 then 0x90 to 0xBF ∷ utf8_tail ∷ utf8_tail ∷ [])
    ∷ (0xF1 to 0xF3 then utf8_tail ∷ utf8_tail ∷ utf8_tail ∷ [])
    ∷ (0xF4 to 0xF4 then 0x80 to 0x8F ∷ utf8_tail ∷ utf8_tail ∷ [])
    ∷ []

-- UTF8-char = UTF8-1 / UTF8-2 / UTF8-3 / UTF8-4
unfoldable pub utf8_char : List Row
utf8_char = utf8_1 ++ utf8_2 ++ utf8_3 ++ utf8_4

-- ---- bytes

-- the test passes at one row at least
unfoldable pub some_row : (Row → Bool) → List Row → Bool
some_row f [] = false
some_row f (r ∷ rs) = f r || some_row f rs

-- UTF8-octets = *( UTF8-char ), inside a character of which some bytes are still due: one in each of their ranges, and then
-- characters to the end
unfoldable pub octets : List Range → List ℕ → Bool
octets [] [] = true
octets (r ∷ due) [] = false
octets [] (b ∷ bs) = some_row (λ row. within row.lead b && octets row.after bs) utf8_char
octets (r ∷ due) (b ∷ bs) = within r b && octets due bs

unfoldable pub is_utf8 : List ℕ → Bool
is_utf8 bs = octets [] bs
