use Rattle.std.proofs.Common.{◌≡◌, ℕ, ◌+◌, ◌<◌, false, not}
use Rattle.monitor.specs.inner.Leaves.{inside}
use Rattle.monitor.proofs.judge.first_outside.Given as goal

-- every field passed is inside its range
abbrev pub invariant-loop-f : goal.invariant-loop-f
invariant-loop-f l = (j : ℕ) → j < l.f → not (inside l.t l.message (l.at + j) j) ≡ false
