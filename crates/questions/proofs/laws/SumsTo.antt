-- A choice's n against its sum. Assumes nothing.
use mathlib.Core.Path.{◌≡◌, ap, ◌∙◌}
use mathlib.Core.Bool.{true, false, ◌&&◌, ◌||◌}
use mathlib.Core.List.{List}
use Prim.Native.Nat.{ℕ, ◌+◌, ◌≤◌, ◌<◌}
use native.Mathlib.Omega.{arith}
use lib.ListN.{get_or}
use lib.Dec.{leb, eqb}
use borrow.Author.Tests.{eq-eqb, ne_eqb, le-leb, lt-leb}
use Rattle.table.proofs.laws.Lists.{join, left_fails, right_fails}
use Rattle.table.proofs.laws.SharesRight.{Adds, added_most}
use Rattle.table.specs.View.{owner_at, sort_at}
use Rattle.conversation.specs.Counts.{n_at, k_at, counted_most}
use Rattle.conversation.specs.inner.Keeping.{sums_to}

-- the sum of k's of 16 bits, one more among them
pub sum_fits : (t c sums : List ℕ) (k v : ℕ) → Adds t sums (k_at c) k → ((i : ℕ) → get_or c i 0 < 65536) → k < 128 → owner_at t k < 32 → v ≡ k_at c k
    → get_or sums (owner_at t k) 0 + v < 4294967296
sum_fits t c sums k v s small l o e =
    omega (
      arith,
      s.each (owner_at t k) o,
      added_most t (owner_at t k) (k_at c) 65535 k (λ j m q. omega (arith, small (33 + j))),
      small (33 + k),
    )

module _ (t c sums : List ℕ) (i : ℕ) where
  pub sums_end : sort_at t i ≡ 0 → sums_to t c sums i ≡ true
  unfolding sums_to
  sums_end e = ap (λ b. b || (leb (n_at c i) counted_most && eqb (get_or sums i 0) (n_at c i))) (eq-eqb (sort_at t i) 0 e)

  module _ (n : sort_at t i ≡ 0 → ⊥) where
    sums_choice : sums_to t c sums i ≡ (leb (n_at c i) counted_most && eqb (get_or sums i 0) (n_at c i))
    unfolding sums_to
    sums_choice = ap (λ b. b || (leb (n_at c i) counted_most && eqb (get_or sums i 0) (n_at c i))) (ne_eqb (sort_at t i) 0 n)

    pub sums_over : 10000 < n_at c i → sums_to t c sums i ≡ false
    sums_over h = sums_choice ∙ left_fails (eqb (get_or sums i 0) (n_at c i)) (lt-leb (n_at c i) counted_most h)

    pub sums_other : (get_or sums i 0 ≡ n_at c i → ⊥) → sums_to t c sums i ≡ false
    sums_other h = sums_choice ∙ right_fails (leb (n_at c i) counted_most) (ne_eqb (get_or sums i 0) (n_at c i) h)

    pub sums_right : n_at c i ≤ 10000 → get_or sums i 0 ≡ n_at c i → sums_to t c sums i ≡ true
    sums_right h e = sums_choice ∙ join (le-leb (n_at c i) counted_most h) (eq-eqb (get_or sums i 0) (n_at c i) e)
