-- ASCII, which is UTF-8 however it is cut, and what the inner functions tell one another, by places of the bytes. It need not be
-- believed: `is_utf8` does not rest on it.
-- Assumes nothing.
use Rattle.std.specs.Prelude.{◌≡◌, Option, Some, None, Bool, true, false, ◌&&◌, cond, List, [], ◌∷◌, ℕ, ◌+◌, ◌≤◌, ◌<◌, length, get_or, drop, ltb, eqb}
use Rattle.utf8.specs.Utf8.{Range, ◌to◌, within, utf8_tail, is_utf8}

-- every byte is a UTF8-1
unfoldable pub is_ascii : List ℕ → Bool
is_ascii [] = true
is_ascii (b ∷ bs) = within (0x00 to 0x7F) b && is_ascii bs

-- from one place to a later one there are whole characters: what is behind them decides
pub record WholeChars (bs : List ℕ) (from next : ℕ) : Type 0 where
  pub onward : from ≤ next
  pub inside : next ≤ length bs
  pub same : is_utf8 (drop from bs) ≡ is_utf8 (drop next bs)

-- from one place to a later one there is ASCII
pub record Ascii (bs : List ℕ) (from next : ℕ) : Type 0 where
  pub onward : from ≤ next
  pub inside : next ≤ length bs
  pub low : (k : ℕ) → from ≤ k → k < next → get_or bs k 0 < 0x80

-- and no further
pub record AsciiTo (bs : List ℕ) (from next : ℕ) : Type 0 where
  pub run : Ascii bs from next
  pub stops : next < length bs → 0x80 ≤ get_or bs next 0

-- n bytes are the character at a place; or none stands there
abbrev pub Width : List ℕ → ℕ → Option ℕ → Type 0
Width bs at (Some n) = (0 < n) × WholeChars bs at (at + n)
Width bs at None = is_utf8 (drop at bs) ≡ false

-- how many bytes a character has that a byte leads; 0 where it leads none
unfoldable pub char_size : ℕ → ℕ
char_size a =
    cond (ltb a 0x80) 1
    (cond (ltb a 0xC2) 0 (cond (ltb a 0xE0) 2 (cond (ltb a 0xF0) 3 (cond (ltb a 0xF5) 4 0))))

-- the range of the byte behind it
unfoldable pub second : ℕ → Range
second a =
    cond (eqb a 0xE0) (0xA0 to 0xBF)
    (cond (eqb a 0xED) (0x80 to 0x9F) (cond (eqb a 0xF0) (0x90 to 0xBF) (cond (eqb a 0xF4) (0x80 to 0x8F) utf8_tail)))
