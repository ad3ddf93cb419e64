-- A number of a text and a number of a message are the same number: in a message it is document 01's four bytes, two's complement, high byte
-- first.
-- Assumes nothing.
use Rattle.std.specs.Prelude.{◌≡◌, true, cond, List, [], ◌∷◌, ℕ, ◌-◌, ◌/◌, ◌%◌}
use Rattle.message.specs.Message.{first_number}
use Rattle.message.specs.Make.{four_bytes}
use Rattle.grammar.specs.Number.{Signed, offset, in_kind}

-- v; or -v modulo 2^32, where a minus stands before it
abbrev pub complement : Signed → ℕ
complement n = cond n.minus ((4294967296 - n.value) % 4294967296) n.value

abbrev pub high_first : ℕ → List ℕ
high_first w = w / 16777216 ∷ w / 65536 % 256 ∷ w / 256 % 256 ∷ w % 256 ∷ []

-- of every number that a text can name the bytes are read as it, and it is written as them
abbrev pub SameNumbers : Type 0
SameNumbers =
    (kind : ℕ) (n : Signed) → in_kind kind n ≡ true
    → (first_number (high_first (complement n)) ≡ offset n) × (four_bytes (offset n) ≡ high_first (complement n))
