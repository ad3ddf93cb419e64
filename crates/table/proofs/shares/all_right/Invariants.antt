-- The sums before the place are right.
use Rattle.std.proofs.Common.{◌≡◌, true, get_or}
use Rattle.table.specs.inner.Scans.{all, right_sum}
use Rattle.table.proofs.shares.all_right.Given as goal

abbrev pub invariant-loop-sum : goal.invariant-loop-sum
invariant-loop-sum l = true ≡ all l.sum-index (λ i. right_sum (get_or l.sums i 0))
