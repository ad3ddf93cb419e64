-- The two sets of question 9, one number more at a time.
-- Assumes nothing.
use Rattle.std.proofs.Common.{◌≡◌, ℕ, zero, suc, ◌+◌, ◌-◌, ◌*◌, ◌/◌, ◌<◌, ◌≤◌, true, leb, List, sym, refl, ap, ◌∙◌, subst, ⊎_elim, zero-le, not-suc-le-zero, arith, le-leb}
use Rattle.bits.specs.Digits.{digit, With}
use Rattle.bits.proofs.laws.Digits.{digit_none, digit_first, digit_next, lt_or_ge, same_or}
use Rattle.table.specs.View.{sort_at, owner_at}
use Rattle.table.specs.inner.Scans.{all, Members, Choices}
use Rattle.table.proofs.laws.Lists.{all_by}

module _ (t : List ℕ) where
  pub members_none : Members t 0 0
  members_none = record {
    has = λ k l. absurd (not-suc-le-zero l);
    only = λ j e. absurd (omega (arith, digit_none j));
  }

  pub members_more : (k s r : ℕ) → Members t k s → With s (owner_at t k) r → Members t (k + 1) r
  members_more k s r m w = record {
    has = λ i l. ⊎_elim (λ (e : owner_at t i ≡ owner_at t k). ap (digit r) e ∙ w.here)
        (λ n. w.other (owner_at t i) n ∙ m.has i (smaller i l n)) (same_or (owner_at t i) (owner_at t k));
    only = λ j e. ⊎_elim (λ (q : j ≡ owner_at t k). (k, omega arith, sym q))
        (λ n.
        let x = m.only j (sym (w.other j n) ∙ e) in
        (x.0, wider x.1, x.2)) (same_or j (owner_at t k));
  }
    where
      wider : {i : ℕ} → i < k → i < k + 1
      wider l = omega arith

      smaller : (i : ℕ) → i < k + 1 → (owner_at t i ≡ owner_at t k → ⊥) → i < k
      smaller i l n = ⊎_elim (λ x. x) (λ (g : k ≤ i). absurd (n (ap (λ x. owner_at t x) (both_ways i l g)))) (lt_or_ge i k)
        where
          both_ways : (i : ℕ) → i < k + 1 → k ≤ i → i ≡ k
          both_ways i l g = omega arith

-- set has the states from k up to n that are no ends, each moved down by k
pub record From (t : List ℕ) (k n set : ℕ) : Type 0 where
  pub codes : (i : ℕ) → k ≤ i → i < n → sort_at t i ≤ 2
  pub choice : (j : ℕ) → k + j < n → (sort_at t (k + j) ≡ 0 → ⊥) → digit set j ≡ 1
  pub end : (j : ℕ) → k + j < n → sort_at t (k + j) ≡ 0 → digit set j ≡ 0
  pub rest : (j : ℕ) → n ≤ k + j → digit set j ≡ 0

module _ (t : List ℕ) (n : ℕ) where
  pub from_none : From t n n 0
  from_none = record {
    codes = λ i l m. absurd (omega arith);
    choice = λ j l h. absurd (omega arith);
    end = λ j l h. absurd (omega arith);
    rest = λ j l. digit_none j;
  }

  -- the state below comes first
  one_more : (k s : ℕ) → From t (suc k) n s → sort_at t k ≤ 2 → k < n → From t k n (2 * s + (sort_at t k + 1) / 2)
  one_more k s f c l = record {
    codes = λ i a b. ⊎_elim (λ (e : i ≡ k). rw e c) (λ d. f.codes i (above i a d) b) (same_or i k);
    choice = choice;
    end = end;
    rest = rest;
  }
    where
      bit : ℕ
      bit = (sort_at t k + 1) / 2

      below_two : bit ≤ 1
      below_two = omega arith

      above : (i : ℕ) → k ≤ i → (i ≡ k → ⊥) → suc k ≤ i
      above i a d = ⊎_elim (λ (x : i < suc k). absurd (d (omega arith))) (λ x. x) (lt_or_ge i (suc k))

      here : k + 0 ≡ k
      here = omega arith

      next : (j : ℕ) → k + suc j ≡ suc k + j
      next j = omega arith

      choice : (j : ℕ) → k + j < n → (sort_at t (k + j) ≡ 0 → ⊥) → digit (2 * s + bit) j ≡ 1
      choice zero b h =
          let z : (sort_at t k ≡ 0 → ⊥) = λ e. h (ap (λ x. sort_at t x) here ∙ e) in
          digit_first s bit below_two ∙ some (sort_at t k) z c
        where
          some : (a : ℕ) → (a ≡ 0 → ⊥) → a ≤ 2 → (a + 1) / 2 ≡ 1
          some zero h l = absurd (h refl)
          some (suc a) h l = omega arith
      choice (suc j) b h = digit_next s bit j below_two ∙ f.choice j (subst (λ x. x < n) (next j) b) (λ e. h (ap (λ x. sort_at t x) (next j) ∙ e))

      end : (j : ℕ) → k + j < n → sort_at t (k + j) ≡ 0 → digit (2 * s + bit) j ≡ 0
      end zero b e =
          let z : sort_at t k ≡ 0 = ap (λ x. sort_at t x) (sym here) ∙ e in
          digit_first s bit below_two ∙ omega arith
      end (suc j) b e = digit_next s bit j below_two ∙ f.end j (subst (λ x. x < n) (next j) b) (ap (λ x. sort_at t x) (sym (next j)) ∙ e)

      rest : (j : ℕ) → n ≤ k + j → digit (2 * s + bit) j ≡ 0
      rest zero b = absurd (omega arith)
      rest (suc j) b = digit_next s bit j below_two ∙ f.rest j (subst (λ x. n ≤ x) (next j) b)

  -- down to the first state
  pub from_end : (k s : ℕ) → From t k n s → k ≡ 0 → From t 0 n s
  from_end k s f e = subst (λ k. From t k n s) e f

  pub from_choices : (s : ℕ) → From t 0 n s → Choices t n s
  from_choices s f = record {
    choice = λ j l h. f.choice j (omega arith) (λ e. h (ap (λ x. sort_at t x) (sym (none j)) ∙ e));
    end = λ j l e. f.end j (omega arith) (ap (λ x. sort_at t x) (none j) ∙ e);
    rest = λ j h. f.rest j (⊎_elim (λ l. absurd (h l)) (λ (l : n ≤ j). omega arith) (lt_or_ge j n));
  }
    where
      none : (j : ℕ) → 0 + j ≡ j
      none j = omega arith

  pub from_codes : (s : ℕ) → From t 0 n s → true ≡ all n (λ k. leb (sort_at t k) 2)
  from_codes s f = sym (all_by (λ k. leb (sort_at t k) 2) n (λ k l. le-leb (sort_at t k) 2 (f.codes k zero-le l)))

  module _ (k s : ℕ) (p : 0 < k) (f : From t k n s) where
    less : k ≡ suc (k - 1)
    less = omega arith

    pub from_more : sort_at t (k - 1) ≤ 2 → k ≤ n → From t (k - 1) n (2 * s + (sort_at t (k - 1) + 1) / 2)
    from_more c l = one_more (k - 1) s (subst (λ x. From t x n s) less f) c (omega arith)

    -- there is room for one more
    pub from_small : n ≤ 32 → s < 4294967296 → s < 2147483648
    unfolding digit
    from_small l m = let h = f.rest 31 (omega arith) in omega arith
