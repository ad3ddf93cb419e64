use Rattle.std.proofs.Common.{◌≡◌, ℕ, ◌<◌, false}
use Rattle.monitor.specs.inner.Leaves.{branch_named}
use Rattle.monitor.proofs.judge.find.Given as goal

-- no branch passed is one of the state's with this label
abbrev pub invariant-loop-k : goal.invariant-loop-k
invariant-loop-k l = (j : ℕ) → j < l.k → branch_named l.t l.position l.bytes j ≡ false
