-- The shares' part of question 9: what the passes say of sums is what the definitions say of each choice.
-- Assumes nothing.
use Rattle.std.proofs.Common.{◌≡◌, ℕ, zero, suc, ◌+◌, ◌*◌, ◌%◌, ◌<◌, ◌≤◌, Bool, true, false, cond, not, ◌&&◌, ◌||◌, eqb, leb, List, [], ◌∷◌, length, get_or, take, set, replicate, sym, refl, ap, ◌∙◌, subst, ap₂, ⊎_elim, zero-le, not-suc-le-zero, add-zero, mul-suc, add-one, arith, length-set, get_or-set_other, get_or-set_same, eq-eqb, ne_eqb, eqb-true, le-leb, leb-true}
use Rattle.std.proofs.lemmas.List.{length-take-le, get_or-take}
use lib.ListN.{length-replicate, get_or-replicate}
use lib.Bits.{bit_or, or_add_and, and_le_l, and_le_r}
use Rattle.bits.proofs.laws.Digits.{lt_or_ge, same_or}
use Rattle.table.specs.Lists.{every, upto, sum_of}
use Rattle.table.specs.Table.{Branch, of_choice, shares_right, shares_kept}
use Rattle.table.specs.View.{states_of, branches_of, owner_at, share_at, sort_at, sort_of, branch_at, view}
use Rattle.table.specs.Sound.{added}
use Rattle.table.specs.inner.Scans.{all, Unshared, Owned, weight_of, weights, right_sum}
use Rattle.table.proofs.laws.Lists.{both, join, alike, either, implies, all_more, all_yes, all_at, all_by, all_same, upto_length, every_upto, upto_every}

-- ---- the numbers of a choice

module _ (i : ℕ) where
  chosen_sum : (b : Bool) (n : ℕ) (ns : List ℕ) → sum_of (cond b (n ∷ ns) ns) ≡ cond b n 0 + sum_of ns
  unfolding sum_of
  chosen_sum true n ns = refl
  chosen_sum false n ns = omega arith

  one_more : (n : ℕ) (g : ℕ → Branch) (f : ℕ → ℕ)
      → sum_of (of_choice i (upto (suc n) g) (upto (suc n) f)) ≡ sum_of (of_choice i (upto n g) (upto n f)) + cond (eqb (g n).owner i) (f n) 0
  unfolding of_choice upto sum_of
  one_more zero g f = chosen_sum (eqb (g zero).owner i) (f zero) [] ∙ omega arith
  one_more (suc n) g f =
      let b = eqb (g zero).owner i in
      let r = one_more n (λ k. g (suc k)) (λ k. f (suc k)) in
      omega (
        arith,
        r,
        chosen_sum b (f zero) (of_choice i (upto (suc n) (λ k. g (suc k))) (upto (suc n) (λ k. f (suc k)))),
        chosen_sum b (f zero) (of_choice i (upto n (λ k. g (suc k))) (upto n (λ k. f (suc k)))),
      )

  -- a test of the numbers is one of the places
  module _ (p : ℕ → Bool) where
    chosen_every : (b : Bool) (n : ℕ) (ns : List ℕ) → every p (cond b (n ∷ ns) ns) ≡ ((not b || p n) && every p ns)
    unfolding every
    chosen_every true n ns = refl
    chosen_every false n ns = refl

    by_places : (n : ℕ) (g : ℕ → Branch) (f : ℕ → ℕ)
        → every p (of_choice i (upto n g) (upto n f)) ≡ every (λ b. b) (upto n (λ k. not (eqb (g k).owner i) || p (f k)))
    unfolding of_choice upto every
    by_places zero g f = refl
    by_places (suc n) g f =
        chosen_every (eqb (g zero).owner i) (f zero) (of_choice i (upto n (λ k. g (suc k))) (upto n (λ k. f (suc k))))
        ∙ ap (λ b. (not (eqb (g zero).owner i) || p (f zero)) && b) (by_places n (λ k. g (suc k)) (λ k. f (suc k)))

-- 1 where there is no share
unfoldable missing : ℕ → ℕ
missing zero = 1
missing (suc w) = 0

missing_none : (w : ℕ) → missing w ≡ 0 → 1 ≤ w
unfolding missing
missing_none zero e = absurd (omega arith)
missing_none (suc w) e = omega arith

none_missing : (w : ℕ) → 1 ≤ w → missing w ≤ 0
unfolding missing
none_missing zero l = absurd (omega arith)
none_missing (suc w) l = zero-le

pub weight_none : (w : ℕ) → w ≡ 0 → weight_of w ≡ 1048576
unfolding weight_of
weight_none w e = ap (λ b. cond b 1048576 w) (eq-eqb w 0 e)

pub weight_some : (w : ℕ) → (w ≡ 0 → ⊥) → weight_of w ≡ w
unfolding weight_of
weight_some w n = ap (λ b. cond b 1048576 w) (ne_eqb w 0 n)

weight_parts : (w : ℕ) → weight_of w ≡ w + 1048576 * missing w
unfolding missing
weight_parts zero = weight_none 0 refl
weight_parts (suc w) = weight_some (suc w) (λ e. absurd (omega arith)) ∙ omega arith

module _ (t : List ℕ) where
  -- the numbers of state i's branches, added
  pub choice_sum : (f : ℕ → ℕ) (i n : ℕ) → sum_of (of_choice i (upto n (branch_at t)) (upto n f)) ≡ added t f i n
  unfolding added of_choice upto sum_of
  choice_sum f i zero = refl
  choice_sum f i (suc n) =
      one_more i n (branch_at t) f ∙ ap (λ s. s + cond (eqb (owner_at t n) i) (f n) 0) (choice_sum f i n)

  -- a test passes at the numbers of state i's branches
  module _ (p : ℕ → Bool) (f : ℕ → ℕ) (i n : ℕ) where
    pub choice_at : every p (of_choice i (upto n (branch_at t)) (upto n f)) ≡ true → (k : ℕ) → k < n → owner_at t k ≡ i → p (f k) ≡ true
    choice_at e k l o =
        subst (λ b. (not b || p (f k)) ≡ true) (eq-eqb (owner_at t k) i o)
        (every_upto (λ b. b) n (λ k. not (eqb (owner_at t k) i) || p (f k)) (sym (by_places i p n (branch_at t) f) ∙ e) k l)

    pub choice_by : ((k : ℕ) → k < n → owner_at t k ≡ i → p (f k) ≡ true) → every p (of_choice i (upto n (branch_at t)) (upto n f)) ≡ true
    choice_by h =
        by_places i p n (branch_at t) f
        ∙ upto_every (λ b. b) n (λ k. not (eqb (owner_at t k) i) || p (f k))
        (λ k l. implies (eqb (owner_at t k) i) (p (f k)) (λ e. h k l (eqb-true (owner_at t k) i e)))

  -- ---- sums by places

  module _ (i : ℕ) where
    -- a sum of numbers that are at most m
    pub added_most : (f : ℕ → ℕ) (m n : ℕ) → ((k : ℕ) → k < n → owner_at t k ≡ i → f k ≤ m) → added t f i n ≤ m * n
    unfolding added
    added_most f m zero h = zero-le
    added_most f m (suc n) h =
        omega (arith, mul-suc m n, added_most f m n (λ k l. h k (omega arith)), last (eqb (owner_at t n) i) (λ e. h n (omega arith) (eqb-true (owner_at t n) i e)))
      where
        last : (b : Bool) → (b ≡ true → f n ≤ m) → cond b (f n) 0 ≤ m
        last true l = l refl
        last false l = zero-le

    -- each of its numbers is at most the sum
    pub added_has : (f : ℕ → ℕ) (n k : ℕ) → k < n → owner_at t k ≡ i → f k ≤ added t f i n
    unfolding added
    added_has f zero k l o = absurd (not-suc-le-zero l)
    added_has f (suc n) k l o =
        ⊎_elim (λ (h : k < n). omega (arith, added_has f n k h o))
        (λ (h : n ≤ k).
        let e : k ≡ n = omega arith in
        subst (λ x. f x ≤ added t f i n + cond (eqb (owner_at t n) i) (f n) 0) (sym e)
        (omega (arith, ap (λ b. cond b (f n) 0) (eq-eqb (owner_at t n) i (subst (λ x. owner_at t x ≡ i) e o)))))
        (lt_or_ge k n)

    -- a state's sum: its shares, and 1048576 for each that is missing
    parted : (n : ℕ) → weights t i n ≡ added t (share_at t) i n + 1048576 * added t (λ k. missing (share_at t k)) i n
    unfolding added
    parted zero = refl
    parted (suc n) = omega (arith, parted n, one (eqb (owner_at t n) i) (share_at t n))
      where
        one : (b : Bool) (w : ℕ) → cond b (weight_of w) 0 ≡ cond b w 0 + 1048576 * cond b (missing w) 0
        one true w = weight_parts w
        one false w = refl

-- ---- question 9

-- the shares of state i
abbrev pub shares_of : List ℕ → ℕ → ℕ → List ℕ
shares_of t n i = of_choice i (upto n (branch_at t)) (upto n (share_at t))

module _ (t : List ℕ) (n i : ℕ) (room : n ≤ 128) (small : (k : ℕ) → k < n → owner_at t k ≡ i → leb (share_at t k) 1000 ≡ true) where
  few : added t (share_at t) i n ≤ 1000 * n
  few = added_most t i (share_at t) 1000 n (λ k l o. leb-true (share_at t k) 1000 (small k l o))

  none_of : weights t i n % 1048576 ≡ 0 → every (λ w. eqb w 0) (shares_of t n i) ≡ true
  none_of e =
      choice_by t (λ w. eqb w 0) (share_at t) i n
      (λ k l o. eq-eqb (share_at t k) 0 (omega (arith, few, parted t i n, added_has t i (share_at t) n k l o)))

  none_by : every (λ w. eqb w 0) (shares_of t n i) ≡ true → weights t i n % 1048576 ≡ 0
  none_by e =
      omega (
        arith,
        parted t i n,
        added_most t i (share_at t) 0 n (λ k l o. omega (arith, eqb-true (share_at t k) 0 (choice_at t (λ w. eqb w 0) (share_at t) i n e k l o))),
      )

  each_of : weights t i n ≡ 1000 → (every (λ w. leb 1 w && leb w 1000) (shares_of t n i) && eqb (sum_of (shares_of t n i)) 1000) ≡ true
  each_of e =
      join (choice_by t (λ w. leb 1 w && leb w 1000) (share_at t) i n
      (λ k l o. join (le-leb 1 (share_at t k) (missing_none (share_at t k)
      (omega (arith, parted t i n, added_has t i (λ k. missing (share_at t k)) n k l o)))) (small k l o)))
      (eq-eqb (sum_of (shares_of t n i)) 1000 (omega (arith, choice_sum t (share_at t) i n, few, parted t i n)))

  each_by : (every (λ w. leb 1 w && leb w 1000) (shares_of t n i) && eqb (sum_of (shares_of t n i)) 1000) ≡ true → weights t i n ≡ 1000
  each_by e =
      let p = both (every (λ w. leb 1 w && leb w 1000) (shares_of t n i)) (eqb (sum_of (shares_of t n i)) 1000) e in
      omega (
        arith,
        parted t i n,
        choice_sum t (share_at t) i n,
        eqb-true (sum_of (shares_of t n i)) 1000 p.1,
        added_most t i (λ k. missing (share_at t k)) 0 n
            (λ k l o. none_missing (share_at t k) (leb-true 1 (share_at t k) (both (leb 1 (share_at t k)) (leb (share_at t k) 1000) (choice_at t (λ w. leb 1 w && leb w 1000) (share_at t) i n p.0 k l o)).0)),
      )

  -- a sum is right exactly where the choice's shares are
  pub sum_right : right_sum (weights t i n) ≡ shares_right (shares_of t n i)
  unfolding right_sum shares_right
  sum_right =
      ap₂ ◌||◌ (alike (eqb (weights t i n % 1048576) 0) (every (λ w. eqb w 0) (shares_of t n i)) (λ e. none_of (eqb-true (weights t i n % 1048576) 0 e)) (λ e. eq-eqb (weights t i n % 1048576) 0 (none_by e)))
      (alike (eqb (weights t i n) 1000) (every (λ w. leb 1 w && leb w 1000) (shares_of t n i) && eqb (sum_of (shares_of t n i)) 1000) (λ e. each_of (eqb-true (weights t i n) 1000 e)) (λ e. eq-eqb (weights t i n) 1000 (each_by e)))

-- shares that are right are at most 1000
pub right_most : (t : List ℕ) (n i : ℕ) → shares_right (shares_of t n i) ≡ true → (k : ℕ) → k < n → owner_at t k ≡ i → leb (share_at t k) 1000 ≡ true
unfolding shares_right
right_most t n i e k l o =
    let ws = shares_of t n i in
    ⊎_elim (λ h. le-leb (share_at t k) 1000 (omega (arith, eqb-true (share_at t k) 0 (choice_at t (λ w. eqb w 0) (share_at t) i n h k l o))))
    (λ h.
    let p = both (every (λ w. leb 1 w && leb w 1000) ws) (eqb (sum_of ws) 1000) h in
    (both (leb 1 (share_at t k)) (leb (share_at t k) 1000) (choice_at t (λ w. leb 1 w && leb w 1000) (share_at t) i n p.0 k l o)).1)
    (either (every (λ w. eqb w 0) ws) (every (λ w. leb 1 w && leb w 1000) ws && eqb (sum_of ws) 1000) e)

module _ (t : List ℕ) (n : ℕ) (whole : n ≡ branches_of t) where
  pub kept_is : shares_kept (view t) ≡ every (λ i. shares_right (shares_of t n i)) (upto (states_of t) (λ i. i))
  unfolding shares_kept view
  kept_is =
      ap₂ (λ m b. every (λ i. shares_right (of_choice i (upto b (branch_at t)) (upto b (share_at t)))) (upto m (λ i. i)))
      (upto_length (states_of t) (λ i. sort_of (sort_at t i))) (sym whole)

  none_right : (i : ℕ) → ((k : ℕ) → k < n → owner_at t k ≡ i → eqb (share_at t k) 0 ≡ true) → shares_right (shares_of t n i) ≡ true
  unfolding shares_right
  none_right i h =
      ap (λ b. b || (every (λ w. leb 1 w && leb w 1000) (shares_of t n i) && eqb (sum_of (shares_of t n i)) 1000))
      (choice_by t (λ w. eqb w 0) (share_at t) i n h)

  -- no branch has a share
  pub none_kept : (a : ℕ) → Unshared t n a → a ≡ 0 → shares_kept (view t) ≡ true
  none_kept a u z =
      kept_is
      ∙ upto_every (λ i. shares_right (shares_of t n i)) (states_of t) (λ i. i)
      (λ i l. none_right i (λ k m o. all_at (λ k. eqb (share_at t k) 0) n (sym u ∙ eq-eqb a 0 z) k m))

module _ (t : List ℕ) (n : ℕ) {m : ℕ} (o : Owned t n m) where
  module _ (e : shares_kept (view t) ≡ true) where
    choice_right : (i : ℕ) → shares_right (shares_of t n i) ≡ true
    choice_right i =
        ⊎_elim (λ (l : i < states_of t). every_upto (λ i. shares_right (shares_of t n i)) (states_of t) (λ i. i) (sym (kept_is t n o.whole) ∙ e) i l)
        (λ (l : states_of t ≤ i). none_right t n o.whole i (λ k h q. absurd (omega (arith, o.below k h)))) (lt_or_ge i (states_of t))

    pub share_most : (k : ℕ) → k < n → leb (share_at t k) 1000 ≡ true
    share_most k l = right_most t n (owner_at t k) (choice_right (owner_at t k)) k l refl

  -- no share is above 1000, and the sums are right
  sums_kept : (all n (λ k. leb (share_at t k) 1000) && all m (λ i. right_sum (weights t i n))) ≡ shares_kept (view t)
  sums_kept =
      alike (all n (λ k. leb (share_at t k) 1000) && all m (λ i. right_sum (weights t i n))) (shares_kept (view t))
      (λ e.
      let p = both (all n (λ k. leb (share_at t k) 1000)) (all m (λ i. right_sum (weights t i n))) e in
      kept_is t n o.whole
      ∙ upto_every (λ i. shares_right (shares_of t n i)) (states_of t) (λ i. i)
      (λ i l. sym (sum_right t n i o.room (λ k h q. all_at (λ k. leb (share_at t k) 1000) n p.0 k h))
      ∙ all_at (λ i. right_sum (weights t i n)) m p.1 i (omega (arith, o.states))))
      (λ e.
      join (all_by (λ k. leb (share_at t k) 1000) n (share_most e))
      (all_by (λ i. right_sum (weights t i n)) m (λ i l. sum_right t n i o.room (λ k h q. share_most e k h) ∙ choice_right e i)))

-- ---- the passes

-- one share more, of shares put together that are 0 exactly where each of them is
pub none_more : (t : List ℕ) (k a : ℕ) → Unshared t k a → Unshared t (k + 1) (bit_or a (share_at t k))
none_more t k a p = or_none (share_at t k) ∙ ap (λ b. b && eqb (share_at t k) 0) p ∙ sym (all_more (λ k. eqb (share_at t k) 0) k)
  where
    or_none : (w : ℕ) → eqb (bit_or a w) 0 ≡ (eqb a 0 && eqb w 0)
    or_none w =
        alike (eqb (bit_or a w) 0) (eqb a 0 && eqb w 0)
        (λ e.
        let z = eqb-true (bit_or a w) 0 e in
        join (eq-eqb a 0 (omega (arith, or_add_and a w, and_le_r a w))) (eq-eqb w 0 (omega (arith, or_add_and a w, and_le_l a w))))
        (λ e.
        let h = both (eqb a 0) (eqb w 0) e in
        eq-eqb (bit_or a w) 0 (omega (arith, or_add_and a w, eqb-true a 0 h.0, eqb-true w 0 h.1)))

-- right sums and others
module _ (s : ℕ) where
  pub empty_sum : s % 1048576 ≡ 0 → right_sum s ≡ true
  unfolding right_sum
  empty_sum e = ap (λ b. b || eqb s 1000) (eq-eqb (s % 1048576) 0 e)

  pub full_sum : s ≡ 1000 → right_sum s ≡ true
  unfolding right_sum
  full_sum e = ap (λ s. eqb (s % 1048576) 0 || eqb s 1000) e

  pub wrong_sum : (s % 1048576 ≡ 0 → ⊥) → (s ≡ 1000 → ⊥) → right_sum s ≡ false
  unfolding right_sum
  wrong_sum a b = ap₂ ◌||◌ (ne_eqb (s % 1048576) 0 a) (ne_eqb s 1000 b)

pub owner_small : (t : List ℕ) (n m k : ℕ) → Owned t n m → k < n → owner_at t k < 32
owner_small t n m k o l = omega (arith, o.few, o.below k l)

-- `sums` has, for each of 32 states, the numbers of its branches among the first k, added
pub record Adds (t sums : List ℕ) (f : ℕ → ℕ) (k : ℕ) : Type 0 where
  pub size : length sums ≡ 32
  pub each : (i : ℕ) → i < 32 → get_or sums i 0 ≡ added t f i k

pub adds_none : (t : List ℕ) (f : ℕ → ℕ) → Adds t (replicate 32 0) f 0
unfolding added
adds_none t f = record { size = length-replicate {A = ℕ} 32 0; each = λ i l. get_or-replicate {A = ℕ} 32 i 0 0 l }

-- branch k's number goes to its owner's sum
pub adds_more : (t sums : List ℕ) (f : ℕ → ℕ) (k : ℕ) → Adds t sums f k → owner_at t k < 32 → (v : ℕ) → v ≡ f k
    → Adds t (set sums (owner_at t k) (get_or sums (owner_at t k) 0 + v)) f (k + 1)
unfolding added
adds_more t sums f k s b v e =
    record { size = simp length-set s.size; each = λ i l. ⊎_elim (λ p. here i p) (λ n. other i l n) (same_or (owner_at t k) i) }
  where
    x : ℕ
    x = get_or sums (owner_at t k) 0 + v

    more : (i w : ℕ) → cond (eqb (owner_at t k) i) (f k) 0 ≡ w → added t f i k + w ≡ added t f i (k + 1)
    more i w q = ap (λ w. added t f i k + w) (sym q) ∙ sym (ap (added t f i) (add-one k))

    here : (i : ℕ) → owner_at t k ≡ i → get_or (set sums (owner_at t k) x) i 0 ≡ added t f i (k + 1)
    here i p =
        subst (λ i. get_or (set sums (owner_at t k) x) i 0 ≡ added t f i (k + 1)) p
        (get_or-set_same sums (owner_at t k) x 0 (omega (arith, s.size)) ∙ ap₂ ◌+◌ (s.each (owner_at t k) b) e
        ∙ more (owner_at t k) (f k) (ap (λ b. cond b (f k) 0) (eq-eqb (owner_at t k) (owner_at t k) refl)))

    other : (i : ℕ) → i < 32 → (owner_at t k ≡ i → ⊥) → get_or (set sums (owner_at t k) x) i 0 ≡ added t f i (k + 1)
    other i l n =
        get_or-set_other sums (owner_at t k) i x 0 (λ p. n (sym p)) ∙ s.each i l ∙ sym (add-zero (added t f i k))
        ∙ more i 0 (ap (λ b. cond b (f k) 0) (ne_eqb (owner_at t k) i n))

-- of the first k branches: no share is above 1000, and `sums` has each state's sum
pub record Summed (t sums : List ℕ) (k : ℕ) : Type 0 where
  pub small : true ≡ all k (λ j. leb (share_at t j) 1000)
  pub adds : Adds t sums (λ j. weight_of (share_at t j)) k

pub summed_none : (t : List ℕ) → Summed t (replicate 32 0) 0
unfolding all
summed_none t = record { small = refl; adds = adds_none t (λ j. weight_of (share_at t j)) }

module _ (t sums : List ℕ) (k : ℕ) (s : Summed t sums k) where
  -- one number of 32 bits holds a sum
  pub sum_most : (i : ℕ) → i < 32 → get_or sums i 0 ≤ 1048576 * k
  sum_most i l =
      rw (s.adds.each i l)
      (added_most t i (λ j. weight_of (share_at t j)) 1048576 k
      (λ j m o. weight_most (share_at t j) (leb-true (share_at t j) 1000 (all_at (λ j. leb (share_at t j) 1000) k (sym s.small) j m))))
    where
      weight_most : (w : ℕ) → w ≤ 1000 → weight_of w ≤ 1048576
      weight_most w l = ⊎_elim (λ e. omega (arith, weight_none w e)) (λ n. omega (arith, weight_some w n)) (same_or w 0)

  -- one branch more
  pub summed_more : share_at t k ≤ 1000 → owner_at t k < 32 → (v : ℕ) → v ≡ weight_of (share_at t k)
      → Summed t (set sums (owner_at t k) (get_or sums (owner_at t k) 0 + v)) (k + 1)
  summed_more m b v e =
      record {
        small = all_yes (λ j. leb (share_at t j) 1000) k s.small (le-leb (share_at t k) 1000 m);
        adds = adds_more t sums (λ j. weight_of (share_at t j)) k s.adds b v e;
      }

  -- the pass is over: of the 32 sums the first m are asked
  pub summed_all : (n m : ℕ) → Owned t n m → k ≡ n → {b : Bool} → b ≡ all (length (take m sums)) (λ i. right_sum (get_or (take m sums) i 0))
      → b ≡ shares_kept (view t)
  summed_all n m o q e =
      e ∙ ap (λ j. all j (λ i. right_sum (get_or (take m sums) i 0))) (length-take-le m sums (omega (arith, o.few, o.states, s.adds.size)))
      ∙ all_same (λ i. right_sum (get_or (take m sums) i 0)) (λ i. right_sum (weights t i k)) m
      (λ i l. ap right_sum (get_or-take m sums i 0 l ∙ s.adds.each i (omega (arith, o.few, o.states))))
      ∙ ap (λ b. b && all m (λ i. right_sum (weights t i k))) s.small
      ∙ ap (λ n. all n (λ j. leb (share_at t j) 1000) && all m (λ i. right_sum (weights t i n))) q
      ∙ sums_kept t n o
