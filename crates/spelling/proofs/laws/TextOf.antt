-- A text of a protocol is read, into the protocol's table; and a text that is read is one of a protocol.
-- Assumes nothing.
use mathlib.Core.Path.{◌≡◌, ap}
use mathlib.Core.List.{List}
use Prim.Native.Nat.{ℕ}
use Rattle.grammar.specs.Grammar.{Protocol, table_of, Legal}
use Rattle.grammar.specs.inner.Writes.{Writes}
use Rattle.grammar.specs.Filled.{came_out, filled}
use Rattle.grammar.specs.Reading.{reads}
use Rattle.grammar.specs.declared.Reading.{Reading}
use Rattle.grammar.proofs.laws.Reads.{read_only, read_filled}
use Rattle.spelling.specs.TextOf.{TextOf}
use Rattle.spelling.proofs.laws.Writes.{writes_spelt}

module _ (s : List ℕ) (p : Protocol) (x : TextOf s p) where
  pub writes : Writes s p
  writes = (writes_spelt s p).1 (x.short, x.spelt)

  pub read_into : reads s ≡ came_out 0 0 (filled (table_of p))
  read_into = read_filled s p writes x.legal

  pub is_read : (reads s).question ≡ 0
  is_read = ap (λ (r : Reading). r.question) read_into

pub text_of : (s : List ℕ) (p : Protocol) → Writes s p → Legal p → TextOf s p
text_of s p w l = let x = (writes_spelt s p).0 w in record { short = x.0; spelt = x.1; legal = l }

-- a text that is read is one of a protocol
pub its_protocol : (s : List ℕ) → (reads s).question ≡ 0 → (p : Protocol) × TextOf s p
its_protocol s h = let r = read_only s h in (r.0, text_of s r.0 r.1 r.2)
