-- What a text spells is what the scanner finds, where no token is malformed.
-- Assumes nothing.
use mathlib.Core.Path.{refl, sym, subst}
use Prim.Native.Nat.{suc}
use native.Mathlib.Omega.{arith}
use lib.ListN.{length}
use Rattle.grammar.specs.inner.Scanner.{tokens}
use Rattle.spelling.specs.Spelling.{Spelt}
use Rattle.spelling.specs.Scanned.{WellFormed, SpeltScanned}
use Rattle.spelling.proofs.laws.Spelling.{found_spelt, spelt_formed, spelt_found}

-- A text spells tokens exactly when the scanner finds them in it and none of them is malformed.
pub spelt_scanned : SpeltScanned
unfolding tokens
spelt_scanned s ts = (
  (λ sp. (spelt_found s sp (suc (length s)) 0 refl (omega arith), spelt_formed sp)),
  (λ h. subst (Spelt s) h.0 (found_spelt s (suc (length s)) (suc (length s)) 0 (omega arith) (omega arith) (subst WellFormed (sym h.0) h.1))),
)
