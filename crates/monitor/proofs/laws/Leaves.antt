-- One place of a table: what a compare says of the tests of specs/inner/Leaves.
-- Assumes nothing.
use mathlib.Core.Path.{◌≡◌, ap}
use mathlib.Core.Bool.{Bool, true, false, ◌&&◌}
use mathlib.Core.List.{List}
use Prim.Native.Nat.{ℕ, ◌+◌, ◌*◌}
use lib.ListN.{get_or}
use lib.Dec.{leb}
use borrow.Author.Tests.{eq-eqb, ne_eqb}
use Rattle.table.proofs.laws.Lists.{left_fails}
use Rattle.table.specs.View.{owner_at, word_at, kind_at, low_at, high_at}
use Rattle.message.specs.Message.{number_at, count_of, has_label}
use Rattle.monitor.specs.inner.Leaves.{branch_named, kind_is, inside}

module _ (t : List ℕ) (i : ℕ) (bytes : List ℕ) (k : ℕ) where
  pub named_other_owner : (owner_at t k ≡ i → ⊥) → branch_named t i bytes k ≡ false
  unfolding branch_named
  named_other_owner n = left_fails (has_label bytes (word_at t k)) (ne_eqb (owner_at t k) i n)

  -- the state's own branch: the compare of labels decides
  pub named_by_label : owner_at t k ≡ i → branch_named t i bytes k ≡ has_label bytes (word_at t k)
  unfolding branch_named
  named_by_label o = ap (λ b. b && has_label bytes (word_at t k)) (eq-eqb (owner_at t k) i o)

module _ (t message : List ℕ) (k f : ℕ) where
  pub kind_yes : get_or message (9 + f) 0 ≡ kind_at t k → kind_is t message k f ≡ true
  unfolding kind_is
  kind_yes e = eq-eqb (get_or message (9 + f) 0) (kind_at t k) e

  pub kind_no : (get_or message (9 + f) 0 ≡ kind_at t k → ⊥) → kind_is t message k f ≡ false
  unfolding kind_is
  kind_no n = ne_eqb (get_or message (9 + f) 0) (kind_at t k) n

-- what was read of field f, and tested against the range at its place
pub inside_read : (t message : List ℕ) (k f : ℕ) {j n x : ℕ} {b : Bool} → b ≡ (leb (low_at t j) x && leb x (high_at t j)) → j ≡ k
    → x ≡ number_at message n → n ≡ 9 + count_of message + 4 * f → inside t message k f ≡ b
unfolding inside
inside_read t message k f {j} {n} {x} b i e m = rw (b, i, e, m)
