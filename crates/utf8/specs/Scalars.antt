-- What UTF-8 says: the bytes are Unicode scalar values, each encoded by RFC 3629, section 3, one behind the other.
-- Assumes nothing.
use Rattle.std.specs.Prelude.{◌≡◌, Bool, true, ◌&&◌, not, cond, List, [], ◌∷◌, ◌++◌, ◌↔◌, ℕ, ◌+◌, ◌/◌, ◌%◌, leb}
use Rattle.utf8.specs.Utf8.{is_utf8}

-- the last code point
abbrev pub last_point : ℕ
last_point = 0x10FFFF

-- a code point that is no surrogate: those are U+D800 to U+DFFF
unfoldable pub scalar : ℕ → Bool
scalar n = leb n last_point && not (leb 0xD800 n && leb n 0xDFFF)

unfoldable pub scalars : List ℕ → Bool
scalars [] = true
scalars (n ∷ ns) = scalar n && scalars ns

-- 0xxxxxxx; 110xxxxx 10xxxxxx; 1110xxxx 10xxxxxx 10xxxxxx; 11110xxx 10xxxxxx 10xxxxxx 10xxxxxx: the x are the number's bits
unfoldable pub encode : ℕ → List ℕ
encode n =
    cond (leb n 0x7F) (n ∷ [])
    (cond (leb n 0x7FF) ((0xC0 + n / 64) ∷ (0x80 + n % 64) ∷ [])
    (cond (leb n 0xFFFF) ((0xE0 + n / 4096) ∷ (0x80 + n / 64 % 64) ∷ (0x80 + n % 64) ∷ [])
    ((0xF0 + n / 262144) ∷ (0x80 + n / 4096 % 64) ∷ (0x80 + n / 64 % 64) ∷ (0x80 + n % 64) ∷ [])))

unfoldable pub encode_all : List ℕ → List ℕ
encode_all [] = []
encode_all (n ∷ ns) = encode n ++ encode_all ns

-- the bytes are the encoding of some scalar values
pub record Encoded (bs : List ℕ) : Type 0 where
  pub values : List ℕ
  pub are_scalars : scalars values ≡ true
  pub encoding : encode_all values ≡ bs

-- exactly where they are well formed
abbrev pub EncodedExactly : Type 0
EncodedExactly = (bs : List ℕ) → (is_utf8 bs ≡ true) ↔ Encoded bs

-- and then of one list only
abbrev pub EncodedOnce : Type 0
EncodedOnce = (bs : List ℕ) (s t : Encoded bs) → s.values ≡ t.values
