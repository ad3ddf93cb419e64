-- Question 9 by places: `Facts` is what a sound table is made of.
-- Assumes nothing.
use Rattle.std.proofs.Common.{◌≡◌, ℕ, zero, suc, ◌+◌, ◌*◌, ◌/◌, ◌^◌, ◌<◌, ◌≤◌, Bool, true, false, not, ◌&&◌, ◌||◌, eqb, ltb, leb, ◌⊎◌, List, [], ◌∷◌, length, get_or, sym, refl, ap, ◌∙◌, subst, ap₂, inl, inr, ⊎_elim, suc-le-suc, zero-le, le_of_suc-le-suc, not-suc-le-zero, add-zero, pow-suc, arith, ltb-true, lt-ltb, eq-eqb, eqb-true, le-leb, leb-true}
use mathlib.Core.Bool.{false≢true}
use borrow.Author.Tests.{not-true}
use Rattle.std.specs.Prelude.{Option, Some, None}
use Rattle.bits.specs.Digits.{digit}
use Rattle.bits.proofs.laws.Digits.{digit_le, same_digits, lt_or_ge}
use Rattle.table.specs.declared.branches.Passed.{Passed}
use Rattle.table.specs.Lists.{every, some_one, upto, same, matched}
use Rattle.table.specs.Table.{is_choice, legal_label, legal_field, legal_branch, clash, labels_differ, choices_own}
use Rattle.table.specs.View.{states_of, branches_of, sort_at, owner_at, target_at, count_at, word_at, label_of, sort_of, field_at, edition_of, branch_at, view, known, regular_of, sound_of}
use Rattle.table.specs.inner.Scans.{all, no_twin, twins, legal_at, in_place, in_order, named, Word, Members, PassedLabels, PassedPlaces, PassedBranches, InOrder, Choices}
use Rattle.table.proofs.laws.Lists.{never, both, join, left_fails, right_fails, or_right, implied, implies, refuted, alike, all_at, all_by, all_both, upto_length, every_upto, upto_every}
use Rattle.table.proofs.laws.LegalLabel.{byte, label_bytes}
use Rattle.table.specs.Table as T

-- ---- lists of places, further

module _ {A : Type 0} where
  pub upto_at : (n : ℕ) (g : ℕ → A) (d : A) (k : ℕ) → k < n → get_or (upto n g) k d ≡ g k
  unfolding upto
  upto_at zero g d k l = absurd (not-suc-le-zero l)
  upto_at (suc n) g d zero l = refl
  upto_at (suc n) g d (suc k) l = upto_at n (λ k. g (suc k)) d k (le_of_suc-le-suc l)

  some_upto : (f : A → Bool) (n : ℕ) (g : ℕ → A) → some_one f (upto n g) ≡ true → (k : ℕ) × (k < n) × (f (g k) ≡ true)
  unfolding some_one upto
  some_upto f zero g e = absurd (false≢true e)
  some_upto f (suc n) g e = go (f (g zero)) refl (λ h. some_upto f n (λ k. g (suc k)) h) e
    where
      go : (b : Bool) → f (g zero) ≡ b → (some_one f (upto n (λ k. g (suc k))) ≡ true → (k : ℕ) × (k < n) × (f (g (suc k)) ≡ true))
          → (b || some_one f (upto n (λ k. g (suc k)))) ≡ true → (k : ℕ) × (k < suc n) × (f (g k) ≡ true)
      go true q r h = (zero, suc-le-suc zero-le, q)
      go false q r h = let x = r h in (suc x.0, suc-le-suc x.1, x.2)

  upto_some : (f : A → Bool) (n : ℕ) (g : ℕ → A) (k : ℕ) → k < n → f (g k) ≡ true → some_one f (upto n g) ≡ true
  unfolding some_one upto
  upto_some f zero g k l e = absurd (not-suc-le-zero l)
  upto_some f (suc n) g zero l e = ap (λ b. b || some_one f (upto n (λ k. g (suc k)))) e
  upto_some f (suc n) g (suc k) l e = or_right (f (g zero)) (upto_some f n (λ k. g (suc k)) k (le_of_suc-le-suc l) e)

none_more : (i : ℕ) → 0 + i ≡ i
none_more i = omega arith

shift : (o i : ℕ) → suc o + i ≡ o + suc i
shift o i = omega arith

-- choices own a branch
module _ (bs : List T.Branch) where
  own_upto : (o n : ℕ) (s : ℕ → T.Sort) → choices_own bs o (upto n s) ≡ true
      → (i : ℕ) → i < n → is_choice (s i) ≡ true → some_one (λ b. eqb b.owner (o + i)) bs ≡ true
  unfolding choices_own upto
  own_upto o zero s e i l c = absurd (not-suc-le-zero l)
  own_upto o (suc n) s e zero l c =
      rw (add-zero o) (implied (is_choice (s zero)) (some_one (λ b. eqb b.owner o) bs)
      (both (not (is_choice (s zero)) || some_one (λ b. eqb b.owner o) bs) (choices_own bs (suc o) (upto n (λ k. s (suc k)))) e).0 c)
  own_upto o (suc n) s e (suc i) l c =
      subst (λ x. some_one (λ b. eqb b.owner x) bs ≡ true) (shift o i) (own_upto (suc o) n (λ k. s (suc k))
      (both (not (is_choice (s zero)) || some_one (λ b. eqb b.owner o) bs) (choices_own bs (suc o) (upto n (λ k. s (suc k)))) e).1 i (le_of_suc-le-suc l) c)

  upto_own : (o n : ℕ) (s : ℕ → T.Sort) → ((i : ℕ) → i < n → is_choice (s i) ≡ true → some_one (λ b. eqb b.owner (o + i)) bs ≡ true)
      → choices_own bs o (upto n s) ≡ true
  unfolding choices_own upto
  upto_own o zero s h = refl
  upto_own o (suc n) s h =
      join (implies (is_choice (s zero)) (some_one (λ b. eqb b.owner o) bs) (λ c. rw (add-zero o) at (h zero (suc-le-suc zero-le) c)))
      (upto_own (suc o) n (λ k. s (suc k)) (λ i l c. subst (λ x. some_one (λ b. eqb b.owner x) bs ≡ true) (sym (shift o i)) (h (suc i) (suc-le-suc l) c)))

-- no two branches clash
differ_upto : (n : ℕ) (g : ℕ → T.Branch) → labels_differ (upto n g) ≡ true → (i j : ℕ) → i < j → j < n → clash (g i) (g j) ≡ false
unfolding labels_differ upto
differ_upto zero g e i j l m = absurd (not-suc-le-zero m)
differ_upto (suc n) g e i zero l m = absurd (not-suc-le-zero l)
differ_upto (suc n) g e zero (suc j) l m =
    not-true (clash (g zero) (g (suc j)))
    (every_upto (λ c. not (clash (g zero) c)) n (λ k. g (suc k))
    (both (every (λ c. not (clash (g zero) c)) (upto n (λ k. g (suc k)))) (labels_differ (upto n (λ k. g (suc k)))) e).0 j (le_of_suc-le-suc m))
differ_upto (suc n) g e (suc i) (suc j) l m =
    differ_upto n (λ k. g (suc k))
    (both (every (λ c. not (clash (g zero) c)) (upto n (λ k. g (suc k)))) (labels_differ (upto n (λ k. g (suc k)))) e).1 i j (le_of_suc-le-suc l) (le_of_suc-le-suc m)

upto_differ : (n : ℕ) (g : ℕ → T.Branch) → ((i j : ℕ) → i < j → j < n → clash (g i) (g j) ≡ false) → labels_differ (upto n g) ≡ true
unfolding labels_differ upto
upto_differ zero g h = refl
upto_differ (suc n) g h =
    join (upto_every (λ c. not (clash (g zero) c)) n (λ k. g (suc k)) (λ j l. ap not (h zero (suc j) (suc-le-suc zero-le) (suc-le-suc l))))
    (upto_differ n (λ k. g (suc k)) (λ i j l m. h (suc i) (suc j) (suc-le-suc l) (suc-le-suc m)))

-- ---- labels and sorts

pub same_eq : (xs ys : List ℕ) → same xs ys ≡ true → xs ≡ ys
unfolding same matched
same_eq [] [] e = refl
same_eq [] (y ∷ ys) e = absurd (false≢true e)
same_eq (x ∷ xs) [] e = absurd (false≢true e)
same_eq (x ∷ xs) (y ∷ ys) e =
    ap₂ ◌∷◌ (eqb-true x y (both (eqb x y) (same xs ys) e).0) (same_eq xs ys (both (eqb x y) (same xs ys) e).1)

pub same_refl : (xs : List ℕ) → same xs xs ≡ true
unfolding same matched
same_refl [] = refl
same_refl (x ∷ xs) = join (eq-eqb x x refl) (same_refl xs)

-- equal labels are equal words
bytes_eq : (n a b : ℕ) → a < 256 ^ n → b < 256 ^ n → ((i : ℕ) → i < n → byte a i ≡ byte b i) → a ≡ b
unfolding byte
bytes_eq zero a b l m h = omega arith
bytes_eq (suc n) a b l m h =
    let r = bytes_eq n (a / 256) (b / 256) (omega (arith, pow-suc 256 n)) (omega (arith, pow-suc 256 n)) (λ i k. h (suc i) (suc-le-suc k)) in
    omega (arith, h zero (suc-le-suc zero-le))

pub label_eq : (a b : ℕ) → a < 18446744073709551616 → b < 18446744073709551616 → label_of a ≡ label_of b → a ≡ b
label_eq a b l m e = bytes_eq 8 a b l m at
  where
    p : (k : ℕ) → get_or (byte a 7 ∷ byte a 6 ∷ byte a 5 ∷ byte a 4 ∷ byte a 3 ∷ byte a 2 ∷ byte a 1 ∷ byte a 0 ∷ []) k 0
        ≡ get_or (byte b 7 ∷ byte b 6 ∷ byte b 5 ∷ byte b 4 ∷ byte b 3 ∷ byte b 2 ∷ byte b 1 ∷ byte b 0 ∷ []) k 0
    p k = ap (λ x. get_or x k 0) (sym (label_bytes a) ∙ e ∙ label_bytes b)

    at : (i : ℕ) → i < 8 → byte a i ≡ byte b i
    at zero h = p 7
    at (suc zero) h = p 6
    at (suc (suc zero)) h = p 5
    at (suc (suc (suc zero))) h = p 4
    at (suc (suc (suc (suc zero)))) h = p 3
    at (suc (suc (suc (suc (suc zero))))) h = p 2
    at (suc (suc (suc (suc (suc (suc zero)))))) h = p 1
    at (suc (suc (suc (suc (suc (suc (suc zero))))))) h = p 0
    at (suc (suc (suc (suc (suc (suc (suc (suc i)))))))) h = absurd (omega arith)

pub choice_code : (s : ℕ) → is_choice (sort_of s) ≡ true → s ≡ 0 → ⊥
unfolding sort_of is_choice
choice_code zero e z = false≢true e
choice_code (suc s) e z = absurd (omega arith)

pub code_choice : (s : ℕ) → (s ≡ 0 → ⊥) → is_choice (sort_of s) ≡ true
unfolding sort_of is_choice
code_choice zero n = absurd (n refl)
code_choice (suc zero) n = refl
code_choice (suc (suc s)) n = refl

-- ---- the table by places

pub record Facts (t : List ℕ) : Type 0 where
  pub some : 1 ≤ states_of t
  pub few : states_of t ≤ 32
  pub room : branches_of t ≤ 128
  pub codes : (i : ℕ) → i < states_of t → sort_at t i ≤ 2
  pub owners : (k : ℕ) → k < branches_of t → owner_at t k < states_of t
  pub targets : (k : ℕ) → k < branches_of t → target_at t k < states_of t
  pub counts : (k : ℕ) → k < branches_of t → count_at t k ≤ 4
  pub labels : (k : ℕ) → k < branches_of t → legal_label (label_of (word_at t k)) ≡ true
  pub ranges : (k : ℕ) → k < branches_of t → (f : ℕ) → f < count_at t k → legal_field (field_at t (4 * k + f)) ≡ true
  pub no_end : (k : ℕ) → k < branches_of t → sort_at t (owner_at t k) ≡ 0 → ⊥
  pub own : (i : ℕ) → i < states_of t → (sort_at t i ≡ 0 → ⊥) → (k : ℕ) × (k < branches_of t) × (owner_at t k ≡ i)
  pub differ : (i j : ℕ) → i < j → j < branches_of t → owner_at t i ≡ owner_at t j → word_at t i ≡ word_at t j → ⊥

module _ (t : List ℕ) where
  pub sorts_of : length (view t).sorts ≡ states_of t
  unfolding view
  sorts_of = upto_length (states_of t) (λ i. sort_of (sort_at t i))

  pub branches_of_is : length (view t).branches ≡ branches_of t
  unfolding view
  branches_of_is = upto_length (branches_of t) (branch_at t)

  pub sort_of_is : (i : ℕ) → i < states_of t → T.sort (view t) i ≡ sort_of (sort_at t i)
  unfolding view T.sort
  sort_of_is i l = upto_at (states_of t) (λ i. sort_of (sort_at t i)) T.ends i l

  -- question 9 by its two parts: what is asked but for the shares, and the shares
  pub edition_sound : sound_of t ≡ true → T.known_edition (edition_of t) ≡ true
  unfolding sound_of
  edition_sound e = (both (T.known_edition (edition_of t)) (regular_of t) e).0

  sound_regular : sound_of t ≡ true → regular_of t ≡ true
  unfolding sound_of
  sound_regular e = (both (T.known_edition (edition_of t)) (regular_of t) e).1

  but_shares : regular_of t ≡ true → (known t && T.sound (view t)) ≡ true
  unfolding regular_of
  but_shares e = (both (known t && T.sound (view t)) (T.shares_kept (view t)) e).0

  pub view_sound : sound_of t ≡ true → T.sound (view t) ≡ true
  view_sound e = (both (known t) (T.sound (view t)) (but_shares (sound_regular e))).1

  pub shares_sound : sound_of t ≡ true → T.shares_kept (view t) ≡ true
  unfolding regular_of
  shares_sound e = (both (known t && T.sound (view t)) (T.shares_kept (view t)) (sound_regular e)).1

  -- the tests of the first part, in a row
  record Tests : Type 0 where
    raw : known t ≡ true
    least : leb 1 (length (view t).sorts) ≡ true
    most : leb (length (view t).sorts) 32 ≡ true
    within : leb (length (view t).branches) 128 ≡ true
    legal : every (legal_branch (view t)) (view t).branches ≡ true
    owned : choices_own (view t).branches 0 (view t).sorts ≡ true
    apart : labels_differ (view t).branches ≡ true

  tests : (known t && T.sound (view t)) ≡ true → Tests
  unfolding T.sound
  tests e =
      let v = view t in
      let a = leb 1 (length v.sorts) in
      let b = leb (length v.sorts) 32 in
      let c = leb (length v.branches) 128 in
      let d = every (legal_branch v) v.branches in
      let o = choices_own v.branches 0 v.sorts in
      let l = labels_differ v.branches in
      let x = both (known t) (a && b && c && d && o && l) e in
      let y = both (a && b && c && d && o) l x.1 in
      let z = both (a && b && c && d) o y.0 in
      let w = both (a && b && c) d z.0 in
      let u = both (a && b) c w.0 in
      let q = both a b u.0 in
      record { raw = x.0; least = q.0; most = q.1; within = u.1; legal = w.1; owned = z.1; apart = y.1 }

  -- the tests of a branch, in a row
  record Legal (k : ℕ) : Type 0 where
    owner : ltb (owner_at t k) (length (view t).sorts) ≡ true
    choice : is_choice (T.sort (view t) (owner_at t k)) ≡ true
    target : ltb (target_at t k) (length (view t).sorts) ≡ true
    label : legal_label (label_of (word_at t k)) ≡ true
    count : leb (length (upto (count_at t k) (λ f. field_at t (4 * k + f)))) 4 ≡ true
    ranges : every legal_field (upto (count_at t k) (λ f. field_at t (4 * k + f))) ≡ true

  legal_tests : (k : ℕ) → legal_branch (view t) (branch_at t k) ≡ true → Legal k
  unfolding legal_branch
  legal_tests k e =
      let a = ltb (owner_at t k) (length (view t).sorts) in
      let b = is_choice (T.sort (view t) (owner_at t k)) in
      let c = ltb (target_at t k) (length (view t).sorts) in
      let d = legal_label (label_of (word_at t k)) in
      let o = leb (length (upto (count_at t k) (λ f. field_at t (4 * k + f)))) 4 in
      let l = every legal_field (upto (count_at t k) (λ f. field_at t (4 * k + f))) in
      let y = both (a && b && c && d && o) l e in
      let z = both (a && b && c && d) o y.0 in
      let w = both (a && b && c) d z.0 in
      let u = both (a && b) c w.0 in
      let q = both a b u.0 in
      record { owner = q.0; choice = q.1; target = u.1; label = w.1; count = z.1; ranges = y.1 }

  facts : (known t && T.sound (view t)) ≡ true → Facts t
  unfolding known view clash
  facts e =
      record {
        some = omega (arith, leb-true 1 (length (view t).sorts) x.least, sorts_of);
        few = omega (arith, leb-true (length (view t).sorts) 32 x.most, sorts_of);
        room = omega (arith, leb-true (length (view t).branches) 128 x.within, branches_of_is);
        codes = λ i l. leb-true (sort_at t i) 2 (every_upto (λ c. leb c 2) (states_of t) (λ i. sort_at t i) x.raw i l);
        owners = λ k l. owner_below k l;
        targets = λ k l. omega (arith, ltb-true (target_at t k) (length (view t).sorts) (at k l).target, sorts_of);
        counts = λ k l.
            omega (arith, leb-true (length (upto (count_at t k) (λ f. field_at t (4 * k + f)))) 4 (at k l).count, upto_length (count_at t k) (λ f. field_at t (4 * k + f)));
        labels = λ k l. (at k l).label;
        ranges = λ k l f m. every_upto legal_field (count_at t k) (λ f. field_at t (4 * k + f)) (at k l).ranges f m;
        no_end = λ k l. choice_code (sort_at t (owner_at t k)) (ap is_choice (sym (sort_of_is (owner_at t k) (owner_below k l))) ∙ (at k l).choice);
        own = λ i l n.
            let y = some_upto (λ b. eqb b.owner i) (branches_of t) (branch_at t)
            (subst (λ y. some_one (λ b. eqb b.owner y) (view t).branches ≡ true) (none_more i)
            (own_upto (view t).branches 0 (states_of t) (λ i. sort_of (sort_at t i)) x.owned i l (code_choice (sort_at t i) n))) in
            (y.0, y.1, eqb-true (owner_at t y.0) i y.2);
        differ = λ i j l m p q.
            never (join (eq-eqb (owner_at t i) (owner_at t j) p) (subst (λ w. same (label_of (word_at t i)) (label_of w) ≡ true) q (same_refl (label_of (word_at t i)))))
            (differ_upto (branches_of t) (branch_at t) x.apart i j l m);
      }
    where
      x : Tests
      x = tests e

      at : (k : ℕ) → k < branches_of t → Legal k
      at k l = legal_tests k (every_upto (legal_branch (view t)) (branches_of t) (branch_at t) x.legal k l)

      owner_below : (k : ℕ) → k < branches_of t → owner_at t k < states_of t
      owner_below k l = omega (arith, ltb-true (owner_at t k) (length (view t).sorts) (at k l).owner, sorts_of)

  pub sound_facts : sound_of t ≡ true → Facts t
  sound_facts e = facts (but_shares (sound_regular e))

  -- the labels of one state differ as lists of bytes
  abbrev pub Apart : Type 0
  Apart = (i j : ℕ) → i < j → j < branches_of t → owner_at t i ≡ owner_at t j → label_of (word_at t i) ≡ label_of (word_at t j) → ⊥

  pub labels_apart : sound_of t ≡ true → Apart
  unfolding view clash
  labels_apart e i j l m p q =
      never (join (eq-eqb (owner_at t i) (owner_at t j) p)
      (subst (λ w. same (label_of (word_at t i)) w ≡ true) q (same_refl (label_of (word_at t i)))))
      (differ_upto (branches_of t) (branch_at t) (tests (but_shares (sound_regular e))).apart i j l m)

  pub facts_apart : Apart → Facts t → (known t && T.sound (view t)) ≡ true
  unfolding known T.sound view legal_branch clash
  facts_apart differ f =
      join (upto_every (λ c. leb c 2) (states_of t) (λ i. sort_at t i) (λ i l. le-leb (sort_at t i) 2 (f.codes i l)))
      (join (join (join (join (join
      (le-leb 1 (length (view t).sorts) (rw sorts_of f.some))
      (le-leb (length (view t).sorts) 32 (rw sorts_of f.few)))
      (le-leb (length (view t).branches) 128 (rw branches_of_is f.room)))
      (upto_every (legal_branch (view t)) (branches_of t) (branch_at t) legal))
      (upto_own (view t).branches 0 (states_of t) (λ i. sort_of (sort_at t i)) owned))
      (upto_differ (branches_of t) (branch_at t) apart))
    where
      legal : (k : ℕ) → k < branches_of t → legal_branch (view t) (branch_at t k) ≡ true
      legal k l =
          join (join (join (join (join
          (lt-ltb (owner_at t k) (length (view t).sorts) (rw sorts_of (f.owners k l)))
          (ap is_choice (sort_of_is (owner_at t k) (f.owners k l)) ∙ code_choice (sort_at t (owner_at t k)) (f.no_end k l)))
          (lt-ltb (target_at t k) (length (view t).sorts) (rw sorts_of (f.targets k l))))
          (f.labels k l))
          (le-leb (length (upto (count_at t k) (λ f. field_at t (4 * k + f)))) 4 (rw (upto_length (count_at t k) (λ f. field_at t (4 * k + f))) (f.counts k l))))
          (upto_every legal_field (count_at t k) (λ f. field_at t (4 * k + f)) (f.ranges k l))

      owned : (i : ℕ) → i < states_of t → is_choice (sort_of (sort_at t i)) ≡ true → some_one (λ b. eqb b.owner (0 + i)) (view t).branches ≡ true
      owned i l c =
          let y = f.own i l (choice_code (sort_at t i) c) in
          upto_some (λ b. eqb b.owner (0 + i)) (branches_of t) (branch_at t) y.0 y.1 (eq-eqb (owner_at t y.0) (0 + i) (y.2 ∙ sym (none_more i)))

      apart : (i j : ℕ) → i < j → j < branches_of t → clash (branch_at t i) (branch_at t j) ≡ false
      apart i j l m =
          refuted (clash (branch_at t i) (branch_at t j))
          (λ e.
          let p = both (eqb (owner_at t i) (owner_at t j)) (same (label_of (word_at t i)) (label_of (word_at t j))) e in
          differ i j l m (eqb-true (owner_at t i) (owner_at t j) p.0) (same_eq (label_of (word_at t i)) (label_of (word_at t j)) p.1))

  -- words of 64 bits are their bytes
  pub facts_sound : ((k : ℕ) → k < branches_of t → Word (word_at t k)) → Facts t → (known t && T.sound (view t)) ≡ true
  facts_sound small f =
      facts_apart (λ i j l m o e. f.differ i j l m o (label_eq (word_at t i) (word_at t j) (small i (omega arith)) (small j m) e)) f

  -- a return of false
  pub not_regular : (Facts t → ⊥) → false ≡ regular_of t
  not_regular n = sym (refuted (regular_of t) (λ e. n (facts (but_shares e))))

  -- ---- the sets of owners and choices

  module _ (o c : ℕ) (m : Members t (branches_of t) o) (s : Choices t (states_of t) c) where
    pub facts_sets : Facts t → o ≡ c
    facts_sets f = same_digits o c go
      where
        go : (j : ℕ) → digit o j ≡ digit c j
        go j =
            ⊎_elim (λ (p : 1 ≤ digit o j).
            let e : digit o j ≡ 1 = omega (arith, digit_le o j) in
            let k = m.only j e in
            e ∙ sym (s.choice j (subst (λ x. x < states_of t) k.2 (f.owners k.0 k.1)) (λ z. f.no_end k.0 k.1 (ap (λ x. sort_at t x) k.2 ∙ z))))
            (λ (p : digit o j < 1).
            ⊎_elim (λ (q : 1 ≤ digit c j).
            ⊎_elim (λ (l : j < states_of t).
            let k = f.own j l (λ z. absurd (omega (arith, s.end j l z))) in
            absurd (omega (arith, subst (λ x. digit o x ≡ 1) k.2 (m.has k.0 k.1))))
            (λ (l : states_of t ≤ j). absurd (omega (arith, s.rest j (λ h. absurd (omega arith))))) (lt_or_ge j (states_of t)))
            (λ (q : digit c j < 1). omega arith) (le_or_lt 1 (digit c j))) (le_or_lt 1 (digit o j))
          where
            le_or_lt : (a b : ℕ) → (a ≤ b) ⊎ (b < a)
            le_or_lt a b = ⊎_elim (λ h. inr h) (λ h. inl h) (lt_or_ge b a)

    module _ (e : o ≡ c) (below : (k : ℕ) → k < branches_of t → owner_at t k < states_of t) where
      pub sets_no_end : (k : ℕ) → k < branches_of t → sort_at t (owner_at t k) ≡ 0 → ⊥
      sets_no_end k l z =
          let x = m.has k l in
          let y = s.end (owner_at t k) (below k l) z in
          omega (arith, ap (λ n. digit n (owner_at t k)) e)

      pub sets_own : (i : ℕ) → i < states_of t → (sort_at t i ≡ 0 → ⊥) → (k : ℕ) × (k < branches_of t) × (owner_at t k ≡ i)
      sets_own i l n = m.only i (ap (λ x. digit x i) e ∙ s.choice i l n)

  -- ---- twins

  module _ where
    pub alone_differ : all (branches_of t) (no_twin t) ≡ true
        → (i j : ℕ) → i < j → j < branches_of t → owner_at t i ≡ owner_at t j → word_at t i ≡ word_at t j → ⊥
    unfolding twins
    alone_differ a i j l m p q =
        false≢true (sym (ap not (join (eq-eqb (owner_at t i) (owner_at t j) p) (eq-eqb (word_at t i) (word_at t j) q)))
        ∙ all_at (λ i. not (twins t j i)) j (all_at (no_twin t) (branches_of t) a j m) i l)

    pub differ_alone : Facts t → all (branches_of t) (no_twin t) ≡ true
    unfolding twins
    differ_alone f =
        all_by (no_twin t) (branches_of t)
        (λ j m. all_by (λ i. not (twins t j i)) j
        (λ i l. ap not (refuted (twins t j i)
        (λ e.
        let p = both (eqb (owner_at t i) (owner_at t j)) (eqb (word_at t i) (word_at t j)) e in
        f.differ i j l m (eqb-true (owner_at t i) (owner_at t j) p.0) (eqb-true (word_at t i) (word_at t j) p.1)))))

-- ---- what the passes say

-- a branch in its place, by parts
module _ (t : List ℕ) (m k : ℕ) where
  pub in_place_rest : owner_at t k < m → target_at t k < m → count_at t k ≤ 4 → in_place t m k ≡ all (count_at t k) (λ f. legal_at t (4 * k + f))
  unfolding in_place
  in_place_rest a b c =
      ap (λ x. x && all (count_at t k) (λ f. legal_at t (4 * k + f)))
      (join (join (lt-ltb (owner_at t k) m a) (lt-ltb (target_at t k) m b)) (le-leb (count_at t k) 4 c))

  pub in_place_parts : in_place t m k ≡ true
      → (owner_at t k < m) × (target_at t k < m) × (count_at t k ≤ 4) × (all (count_at t k) (λ f. legal_at t (4 * k + f)) ≡ true)
  unfolding in_place
  in_place_parts e =
      let o = ltb (owner_at t k) m in
      let g = ltb (target_at t k) m in
      let n = leb (count_at t k) 4 in
      let p = both (o && g && n) (all (count_at t k) (λ f. legal_at t (4 * k + f))) e in
      let q = both (o && g) n p.0 in
      let r = both o g q.0 in
      (ltb-true (owner_at t k) m r.0, ltb-true (target_at t k) m r.1, leb-true (count_at t k) 4 q.1, p.1)

  pub in_order_parts : in_order t m k ≡ true → (in_place t m k ≡ true) × (legal_label (label_of (word_at t k)) ≡ true) × (no_twin t k ≡ true)
  unfolding in_order named
  in_order_parts e =
      let p = both (in_place t m k) (named t k) e in
      let q = both (legal_label (label_of (word_at t k))) (no_twin t k) p.1 in
      (p.0, q.0, q.1)

  pub in_order_by : in_place t m k ≡ true → legal_label (label_of (word_at t k)) ≡ true → no_twin t k ≡ true → in_order t m k ≡ true
  unfolding in_order named
  in_order_by a b c = join a (join b c)

-- places and labels, each by passes of its own
module _ (t : List ℕ) (n : ℕ) where
  pub labels_many : {a b : Bool} → a ≡ all n (λ k. legal_label (label_of (word_at t k))) → b ≡ all n (no_twin t) → (a && b) ≡ all n (named t)
  unfolding named
  labels_many e f = ap₂ ◌&&◌ e f ∙ sym (all_both (λ k. legal_label (label_of (word_at t k))) (no_twin t) n)

  module _ (m : ℕ) where
    split : all n (in_order t m) ≡ (all n (in_place t m) && all n (named t))
    unfolding in_order
    split = all_both (in_place t m) (named t) n

    pub unnamed : PassedLabels t n false → PassedBranches t n m None
    unnamed p = split ∙ right_fails (all n (in_place t m)) (sym p.tells)

    pub placed : (r : Option Passed) → PassedPlaces t n m r → PassedLabels t n true → PassedBranches t n m r
    placed None e p = split ∙ left_fails (all n (named t)) e
    placed (Some r) e p = record { tells = split ∙ join e.0 (sym p.tells); owners = e.1; shares = e.2; words = p.words refl }

pub codes_all : (t : List ℕ) → Facts t → all (states_of t) (λ k. leb (sort_at t k) 2) ≡ true
codes_all t f = all_by (λ k. leb (sort_at t k) 2) (states_of t) (λ k l. le-leb (sort_at t k) 2 (f.codes k l))

pub order_all : (t : List ℕ) → Facts t → all (branches_of t) (in_order t (states_of t)) ≡ true
order_all t f =
    all_by (in_order t (states_of t)) (branches_of t)
    (λ k l. in_order_by t (states_of t) k
    (in_place_rest t (states_of t) k (f.owners k l) (f.targets k l) (f.counts k l) ∙ all_by (λ i. legal_at t (4 * k + i)) (count_at t k) (f.ranges k l))
    (f.labels k l) (all_at (no_twin t) (branches_of t) (differ_alone t f) k l))

pub owners_below : (t : List ℕ) (n m : ℕ) (r : Passed) → InOrder t n m r → (k : ℕ) → k < n → owner_at t k < m
owners_below t n m r p k l = (in_place_parts t m k (in_order_parts t m k (all_at (in_order t m) n p.tells k l)).0).0

-- where states and branches are in order, the two sets and the shares are left to ask
pub passed : (t : List ℕ) (r : Passed) (c : ℕ)
    → (states_of t ≡ 0 → ⊥) → states_of t ≤ 32 → branches_of t ≤ 128
    → all (states_of t) (λ k. leb (sort_at t k) 2) ≡ true → Choices t (states_of t) c
    → InOrder t (branches_of t) (states_of t) r
    → regular_of t ≡ (eqb r.set c && T.shares_kept (view t))
unfolding regular_of
passed t r c some few room codes s p =
    ap (λ b. b && T.shares_kept (view t))
    (alike (known t && T.sound (view t)) (eqb r.set c) (λ h. eq-eqb r.set c (facts_sets t r.set c p.owners s (facts t h))) sound)
  where
    at : (k : ℕ) → k < branches_of t → (in_place t (states_of t) k ≡ true) × (legal_label (label_of (word_at t k)) ≡ true) × (no_twin t k ≡ true)
    at k l = in_order_parts t (states_of t) k (all_at (in_order t (states_of t)) (branches_of t) p.tells k l)

    place : (k : ℕ) → k < branches_of t
        → (owner_at t k < states_of t) × (target_at t k < states_of t) × (count_at t k ≤ 4) × (all (count_at t k) (λ f. legal_at t (4 * k + f)) ≡ true)
    place k l = in_place_parts t (states_of t) k (at k l).0

    least : (n : ℕ) → (n ≡ 0 → ⊥) → 1 ≤ n
    least zero n = absurd (n refl)
    least (suc k) n = suc-le-suc zero-le

    sound : eqb r.set c ≡ true → (known t && T.sound (view t)) ≡ true
    sound h =
        let e = eqb-true r.set c h in
        let below = owners_below t (branches_of t) (states_of t) r p in
        facts_sound t p.words (record {
          some = least (states_of t) some;
          few = few;
          room = room;
          codes = λ i l. leb-true (sort_at t i) 2 (all_at (λ k. leb (sort_at t k) 2) (states_of t) codes i l);
          owners = below;
          targets = λ k l. (place k l).1;
          counts = λ k l. (place k l).2;
          labels = λ k l. (at k l).1;
          ranges = λ k l. all_at (λ f. legal_at t (4 * k + f)) (count_at t k) (place k l).3;
          no_end = sets_no_end t r.set c p.owners s e below;
          own = sets_own t r.set c p.owners s e below;
          differ = alone_differ t (all_by (no_twin t) (branches_of t) (λ k l. (at k l).2));
        })
