use Rattle.std.proofs.Common.{◌≡◌, ◌+◌, true}
use Rattle.table.specs.inner.Scans.{all}
use Rattle.monitor.specs.inner.Leaves.{kind_is}
use Rattle.monitor.proofs.judge.same_kinds.Given as goal

abbrev pub invariant-loop-f : goal.invariant-loop-f
invariant-loop-f l = true ≡ all l.f (λ f. kind_is l.t l.message (l.at + f) f)
