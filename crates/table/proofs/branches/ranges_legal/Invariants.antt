-- The ranges before the place are legal.
use Rattle.std.proofs.Common.{◌≡◌, ◌+◌, true}
use Rattle.table.specs.inner.Scans.{all, legal_at}
use Rattle.table.proofs.branches.ranges_legal.Given as goal

abbrev pub invariant-loop-f : goal.invariant-loop-f
invariant-loop-f l = true ≡ all l.f (λ f. legal_at l.t (l.at + f))
