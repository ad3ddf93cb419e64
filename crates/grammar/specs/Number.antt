-- The numbers of a protocol text: sign and value, whether they are within a kind, and their offset form, value + 2^31.
-- Assumes nothing.
use Rattle.std.specs.Prelude.{Bool, true, false, not, ◌&&◌, ◌||◌, cond, List, [], ◌∷◌, ℕ, ◌+◌, ◌-◌, ◌*◌, leb, eqb}
use Rattle.table.specs.Table.{origin, within_kind, shares_sum, known_edition}
use Rattle.grammar.specs.Token.{Token, part}

pub record Signed : Type 0 where
  pub minus : Bool
  pub value : ℕ

-- the value of decimal digits, after digits of the value v
unfoldable pub value_of : ℕ → List ℕ → ℕ
value_of v [] = v
value_of v (b ∷ bs) = value_of (v * 10 + (b - 48)) bs

-- a minus and digits, or digits
unfoldable pub signed_of : List ℕ → Signed
signed_of [] = record { minus = false; value = 0 }
signed_of (b ∷ bs) =
    cond (eqb b 45) (record { minus = true; value = value_of 0 bs }) (record { minus = false; value = value_of 0 (b ∷ bs) })

-- the number that a token is
abbrev pub signed_in : List ℕ → Token → Signed
signed_in s k = signed_of (part s k.start k.end)

-- value + 2^31, for a number that is not below -2^31
unfoldable pub offset : Signed → ℕ
offset n = cond n.minus (origin - n.value) (origin + n.value)

-- within its kind (0 int, 1 text, 2 flag)
unfoldable pub in_kind : ℕ → Signed → Bool
in_kind kind n = (not n.minus || leb n.value origin) && within_kind kind (offset n)

-- from 1 to a limit
unfoldable pub in_count : ℕ → Signed → Bool
in_count most n = not n.minus && leb 1 n.value && leb n.value most

-- a share: 1 to 1000 thousandths
abbrev pub in_share : Signed → Bool
in_share n = in_count shares_sum n

-- an edition: 1 or 2
abbrev pub in_edition : Signed → Bool
in_edition n = not n.minus && known_edition n.value
