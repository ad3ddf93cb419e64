-- The shares before the place are added.
use Rattle.table.proofs.laws.SharesRight.{Summed}
use Rattle.table.proofs.shares.right.Given as goal

abbrev pub invariant-loop-k : goal.invariant-loop-k
invariant-loop-k l = Summed l.t l.sums l.k
