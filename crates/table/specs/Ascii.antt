-- Words, numbers and labels as bytes.
-- Assumes nothing.
use Rattle.std.specs.Prelude.{ℕ, zero, suc, ◌+◌, ◌/◌, ◌%◌, cond, List, [], ◌∷◌, ◌++◌, ◌==◌, nat_lt}
use Prim.Native.Char.{code}
use Prim.Native.String.{String, len, char_at}

-- the bytes of a text without bytes above 0x7F
abbrev from : ℕ → String → ℕ → List ℕ
from zero s i = []
from (suc n) s i = code (char_at s i) ∷ from n s (suc i)

abbrev pub ascii : String → List ℕ
ascii s = from (len s) s 0

-- the decimal digits of a number below 10 ^ places, without a leading zero
unfoldable pub digits : ℕ → ℕ → List ℕ
digits zero n = []
digits (suc places) n = cond (nat_lt n 10) ((48 + n) ∷ []) (digits places (n / 10) ++ ((48 + n % 10) ∷ []))

-- of a number below 10 ^ 20, as every number of 64 bits is
unfoldable pub decimal : ℕ → List ℕ
decimal n = digits 20 n

-- a label without the 0x00 that fill it up
unfoldable pub letters : List ℕ → List ℕ
letters [] = []
letters (b ∷ r) = cond (b == 0) [] (b ∷ letters r)
