-- The loop of `shares_right`: no share of the owner's branches so far is above 1000, and the sum is what they add to. Assumes nothing.
use Rattle.text.proofs.laws.FindIn.{Adds}
use Rattle.text.proofs.build.shares_right.Given as goal

abbrev pub invariant-loop-k : goal.invariant-loop-k
invariant-loop-k l = Adds l.t l.owner l.k l.sum
