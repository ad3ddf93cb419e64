-- The digits that the speller writes have the number's value.
-- Assumes nothing.
use Prim.Native.Nat.{suc}
use native.Mathlib.Omega.{arith}
use Rattle.spelling.specs.TextTheorems.{DecimalValue}
use Rattle.spelling.proofs.laws.Speller.{decimal_is}

-- The digits that division by ten gives have the value.
pub decimal_value : DecimalValue
decimal_value n = (decimal_is (suc n) n (omega arith)).value
