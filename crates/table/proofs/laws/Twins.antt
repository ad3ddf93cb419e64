-- Twins, and the filter that tells branches apart.
-- Assumes nothing.
use Rattle.std.proofs.Common.{◌≡◌, ℕ, ◌+◌, ◌/◌, ◌%◌, ◌<◌, ◌≤◌, Bool, true, not, ◌&&◌, eqb, List, length, get_or, set, sym, ap, ◌∙◌, ap₂, ⊎_elim, not-suc-le-zero, arith, length-set, get_or-set_other, get_or-set_same, eqb-true}
use Rattle.bits.specs.Digits.{digit, With}
use Rattle.bits.proofs.laws.Digits.{with_same, lt_or_ge, same_or}
use Rattle.table.specs.View.{owner_at, word_at}
use Rattle.table.specs.inner.Scans.{twins, no_twin, mark_of}
use Rattle.table.proofs.laws.Lists.{both, all_by, refuted}

-- mark m is in the filter
unfoldable pub marked : List ℕ → ℕ → ℕ
marked seen m = digit (get_or seen (m / 32) 0) (m % 32)

pub mark_below : (o l : ℕ) → mark_of o l < 4096
unfolding mark_of
mark_below o l = omega arith

pub twins_are : (t : List ℕ) (i j : ℕ) {b : Bool} → b ≡ eqb (word_at t j) (word_at t i) → twins t i j ≡ (eqb (owner_at t j) (owner_at t i) && b)
unfolding twins
twins_are t i j e = ap (λ b. eqb (owner_at t j) (owner_at t i) && b) (sym e)

-- mark p is in once q was put in, where it is q or was in before
put : (seen : List ℕ) (q r : ℕ) → With (get_or seen (q / 32) 0) (q % 32) r → q / 32 < length seen → (p : ℕ) → ((p ≡ q → ⊥) → marked seen p ≡ 1)
    → marked (set seen (q / 32) r) p ≡ 1
unfolding marked
put seen q r w l p h = ⊎_elim (λ e. ⊎_elim (λ d. here e d) (λ d. beside e d) (same_or (p % 32) (q % 32))) other (same_or (p / 32) (q / 32))
  where
    here : p / 32 ≡ q / 32 → p % 32 ≡ q % 32 → digit (get_or (set seen (q / 32) r) (p / 32) 0) (p % 32) ≡ 1
    here e d = rw (e, d) (ap (λ (x : ℕ). digit x (q % 32)) (get_or-set_same seen (q / 32) r 0 l) ∙ w.here)

    beside : p / 32 ≡ q / 32 → (p % 32 ≡ q % 32 → ⊥) → digit (get_or (set seen (q / 32) r) (p / 32) 0) (p % 32) ≡ 1
    beside e d =
        ap (λ (x : ℕ). digit (get_or (set seen (q / 32) r) x 0) (p % 32)) e
        ∙ ap (λ (x : ℕ). digit x (p % 32)) (get_or-set_same seen (q / 32) r 0 l) ∙ w.other (p % 32) d
        ∙ ap (λ (x : ℕ). digit (get_or seen x 0) (p % 32)) (sym e) ∙ h (λ x. d (ap (λ y. y % 32) x))

    other : (p / 32 ≡ q / 32 → ⊥) → digit (get_or (set seen (q / 32) r) (p / 32) 0) (p % 32) ≡ 1
    other d = ap (λ (x : ℕ). digit x (p % 32)) (get_or-set_other seen (q / 32) (p / 32) r 0 d) ∙ h (λ x. d (ap (λ y. y / 32) x))

-- every branch before k has its mark in the filter
pub record Filter (t seen : List ℕ) (k : ℕ) : Type 0 where
  pub size : length seen ≡ 128
  pub held : (j : ℕ) → j < k → marked seen (mark_of (owner_at t j) (word_at t j)) ≡ 1

pub filter_none : {t seen : List ℕ} → length seen ≡ 128 → Filter t seen 0
filter_none e = record { size = e; held = λ j l. absurd (not-suc-le-zero l) }

module _ (t seen : List ℕ) (k : ℕ) (f : Filter t seen k) where
  -- a branch with a new mark is alone
  new_mark : (marked seen (mark_of (owner_at t k) (word_at t k)) ≡ 1 → ⊥) → no_twin t k ≡ true
  unfolding twins
  new_mark n = all_by (λ j. not (twins t k j)) k (λ j l. ap not (refuted (twins t k j) (λ e. n (seen_it j l e))))
    where
      seen_it : (j : ℕ) → j < k → twins t k j ≡ true → marked seen (mark_of (owner_at t k) (word_at t k)) ≡ 1
      seen_it j l e =
          let p = both (eqb (owner_at t j) (owner_at t k)) (eqb (word_at t j) (word_at t k)) e in
          ap (marked seen) (sym (ap₂ mark_of (eqb-true (owner_at t j) (owner_at t k) p.0) (eqb-true (word_at t j) (word_at t k) p.1)))
          ∙ f.held j l

  -- so is one whose mark changes the filter
  pub changed : (q r : ℕ) → q ≡ mark_of (owner_at t k) (word_at t k) → With (get_or seen (q / 32) 0) (q % 32) r
      → (r ≡ get_or seen (q / 32) 0 → ⊥) → no_twin t k ≡ true
  unfolding marked
  changed q r e w n = new_mark (λ h. n (with_same w (ap (marked seen) e ∙ h)))

  -- branch k's mark is put in
  pub filter_more : (q : ℕ) → q ≡ mark_of (owner_at t k) (word_at t k) → (r : ℕ) → With (get_or seen (q / 32) 0) (q % 32) r
      → Filter t (set seen (q / 32) r) (k + 1)
  filter_more q e r w =
      record {
        size = simp length-set f.size;
        held = λ j l.
            ⊎_elim (λ (b : j < k). put seen q r w room (mark_of (owner_at t j) (word_at t j)) (λ n. f.held j b))
            (λ (g : k ≤ j).
            put seen q r w room (mark_of (owner_at t j) (word_at t j)) (λ n. absurd (n (ap (λ x. mark_of (owner_at t x) (word_at t x)) (last j l g) ∙ sym e))))
            (lt_or_ge j k);
      }
    where
      room : q / 32 < length seen
      room = omega (arith, mark_below (owner_at t k) (word_at t k), f.size)

      last : (j : ℕ) → j < k + 1 → k ≤ j → j ≡ k
      last j l g = omega arith
