use Rattle.std.proofs.Common.{◌≡◌, true}
use Rattle.table.specs.inner.Scans.{all}
use Rattle.conversation.specs.inner.Keeping.{sums_to}
use Rattle.questions.proofs.counts.all_added.Given as goal

abbrev pub invariant-loop-i : goal.invariant-loop-i
invariant-loop-i l = true ≡ all l.i (sums_to l.fn.t l.fn.c l.fn.sums)
