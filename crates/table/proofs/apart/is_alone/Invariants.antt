-- No branch before the place is a twin.
use Rattle.std.proofs.Common.{◌≡◌, true, not}
use Rattle.table.specs.inner.Scans.{all, twins}
use Rattle.table.proofs.apart.is_alone.Given as goal

abbrev pub invariant-loop-k : goal.invariant-loop-k
invariant-loop-k l = true ≡ all l.k (λ j. not (twins l.t l.i j))
