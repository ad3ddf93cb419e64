-- Every branch before the place has its mark in the filter, and no twin.
use Rattle.std.proofs.Common.{◌≡◌, true}
use Rattle.table.specs.inner.Scans.{all, no_twin}
use Rattle.table.proofs.laws.Twins.{Filter}
use Rattle.table.proofs.apart.all_apart.Given as goal

abbrev pub invariant-loop-k : goal.invariant-loop-k
invariant-loop-k l = record { filled : Filter l.t l.seen l.k; alone : true ≡ all l.k (no_twin l.t) }
