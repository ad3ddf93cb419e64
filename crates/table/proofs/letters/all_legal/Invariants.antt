-- The words put together have no high bit exactly where the labels before the place are legal.
use Rattle.std.proofs.Common.{◌≡◌, ℕ, ◌<◌}
use Rattle.table.specs.Table.{legal_label}
use Rattle.table.specs.View.{word_at, label_of}
use Rattle.table.specs.inner.Scans.{all, clear, Word}
use Rattle.table.proofs.letters.all_legal.Given as goal

abbrev pub invariant-loop-k : goal.invariant-loop-k
invariant-loop-k l = record {
  legal : clear l.bad ≡ all l.k (λ k. legal_label (label_of (word_at l.t k)));
  words : (i : ℕ) → i < l.k → Word (word_at l.t i);
}
