use Rattle.std.proofs.Common.{◌≡◌, ℕ, ◌+◌, ◌*◌, ◌≤◌, ◌<◌, true}
use Rattle.table.specs.Lists.{upto}
use Rattle.table.specs.inner.Scans.{all}
use Rattle.message.specs.Message.{text_bytes, legal_value}
use Rattle.message.proofs.laws.Message.{value_at}
use Rattle.monitor.specs.inner.Leaves.{kind_is, inside}
use Rattle.monitor.proofs.straight.carry.Given as goal

-- the fields passed are held, and announce the bytes of text that are counted
abbrev pub invariant-loop-f : goal.invariant-loop-f
invariant-loop-f l = record {
  kinds : true ≡ all l.f (λ f. kind_is l.t l.message (l.at + f) f);
  numbers : (j : ℕ) → j < l.f → inside l.t l.message (l.at + j) j ≡ true;
  legal : true ≡ all l.f (λ k. legal_value (value_at l.message k));
  texts_are : l.texts ≡ text_bytes (upto l.f (value_at l.message));
  few : l.texts ≤ 64 * l.f;
}
