-- The branches before the place are in place, and owners and shares are theirs.
use Rattle.std.proofs.Common.{◌≡◌, true}
use Rattle.table.specs.inner.Scans.{all, in_place, Members, Unshared}
use Rattle.table.proofs.branches.places.Given as goal

abbrev pub invariant-loop-k : goal.invariant-loop-k
invariant-loop-k l = record { placed : true ≡ all l.k (in_place l.t l.m); owners : Members l.t l.k l.set; shares : Unshared l.t l.k l.shares }
