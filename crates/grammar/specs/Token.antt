-- What a token of a text is: its kind, where it begins and ends, and, of a name or label, its word.
-- Assumes nothing.
use Rattle.std.specs.Prelude.{Bool, true, false, cond, List, [], ◌∷◌, ℕ, zero, suc, ◌+◌, ◌-◌, ◌*◌, ◌^◌, eqb, take, drop}

-- The kind of a sign is its own byte; the other kinds are those of Kind.antt and, of a word, its first letter. The token's bytes are those from
-- `start` up to `end`.
pub record Token : Type 0 where
  pub kind : ℕ
  pub start : ℕ
  pub end : ℕ

-- a token of kind k from a up to e
abbrev pub token : ℕ → ℕ → ℕ → Token
token k a e = record { kind = k; start = a; end = e }

-- the bytes from a up to e
abbrev pub part : List ℕ → ℕ → ℕ → List ℕ
part s a e = take (e - a) (drop a s)

-- ---- names

-- the first n bytes as one number, high byte first, filled up with 0x00
unfoldable pub packed : ℕ → List ℕ → ℕ
packed zero w = 0
packed (suc n) [] = 0
packed (suc n) (b ∷ bs) = b * 256 ^ n + packed n bs

-- the word of a name or label: its eight bytes
unfoldable pub word_of : List ℕ → ℕ
word_of w = packed 8 w

-- the word that a token is
abbrev pub word_in : List ℕ → Token → ℕ
word_in s k = word_of (part s k.start k.end)

-- x is in the list
abbrev pub one_of : List ℕ → ℕ → Bool
one_of [] x = false
one_of (k ∷ ks) x = cond (eqb x k) true (one_of ks x)
