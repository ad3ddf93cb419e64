-- The scanner finds a protocol's tokens in a text that is not too long exactly when the text spells them.
-- Assumes nothing.
use mathlib.Core.Logic.{◌↔◌}
use mathlib.Core.List.{List}
use Prim.Native.Nat.{ℕ, ◌≤◌}
use lib.ListN.{length}
use Rattle.grammar.specs.Grammar.{Protocol, print_text}
use Rattle.grammar.specs.inner.Writes.{Writes}
use Rattle.spelling.specs.Spelling.{Spelt}
use Rattle.spelling.proofs.claims.SpeltScanned.{spelt_scanned}
use Rattle.spelling.proofs.laws.WellFormed.{text_formed}

pub writes_spelt : (s : List ℕ) (p : Protocol) → Writes s p ↔ ((length s ≤ 8192) × Spelt s (print_text p))
writes_spelt s p = (
  (λ w. (w.short, (spelt_scanned s (print_text p)).1 (w.written, text_formed p))),
  (λ h. record { short = h.0; written = ((spelt_scanned s (print_text p)).0 h.1).0 }),
)
