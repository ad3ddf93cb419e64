-- The branches before the place are in order, and owners and shares are theirs.
use Rattle.std.proofs.Common.{◌≡◌, ℕ, ◌<◌, true}
use Rattle.table.specs.View.{word_at}
use Rattle.table.specs.inner.Scans.{all, in_order, Word, Members, Unshared}
use Rattle.table.proofs.branches.few.Given as goal

abbrev pub invariant-loop-k : goal.invariant-loop-k
invariant-loop-k l =
    record {
      ordered : true ≡ all l.k (in_order l.t l.m);
      owners : Members l.t l.k l.set;
      shares : Unshared l.t l.k l.shares;
      words : (i : ℕ) → i < l.k → Word (word_at l.t i);
    }
