-- The loops over bindings and branches, a turn at a time. Assumes nothing.
use mathlib.Core.Path.{◌≡◌, refl, sym, ap, ap₂, subst, ◌∙◌}
use mathlib.Core.Bool.{Bool, true, false, cond, ◌&&◌, ◌||◌}
use Rattle.std.specs.List.{list_any, range_with_len}
use mathlib.Core.List.{List}
use mathlib.Core.Option.{none, some}
use Prim.Native.Nat.{ℕ, zero, suc, ◌+◌, ◌-◌, ◌*◌, ◌/◌, ◌%◌, ◌≤◌, ◌<◌, zero-le}
use native.Mathlib.Nat.{not-suc-le-zero, add-zero}
use native.Mathlib.Numerals.{add-one}
use native.Mathlib.Omega.{arith}
use lib.Dec.{leb, ltb, eqb}
use borrow.Author.Tests.{eq-eqb, eqb-true, ne_eqb, le-leb, lt-leb, leb-true, leb-false, ltb-true, ltb-false}
use Rattle.table.specs.Lists.{upto}
use Rattle.table.specs.Table.{of_choice, shares_right}
use Rattle.table.specs.View.{joined_label, owner_at, word_at, share_at, branch_at}
use Rattle.table.specs.Sound.{added}
use Rattle.table.specs.inner.Scans.{weight_of, weights, right_sum}
use Rattle.table.proofs.laws.Lists.{refuted, never}
use Rattle.table.proofs.laws.SharesRight.{shares_of, sum_right, right_most, weight_none, weight_some}
use Rattle.text.specs.inner.Stores.{any_label}
use Rattle.text.specs.inner.Recursive.{Env, binding, name_in, find_in, since_in}

-- the bindings below i, from the last on
module _ (e : Env) where
  pub find_hit : (i x : ℕ) → 0 < i → name_in e (i - 1) ≡ x → find_in e i x ≡ some (binding e (i - 1)).state
  unfolding find_in
  find_hit zero x h f = absurd (omega arith)
  find_hit (suc i) x h f = let z : suc i - 1 ≡ i = omega arith in rw (z, eq-eqb _ _ (rw z at f))

  pub find_on : (i x : ℕ) → 0 < i → (name_in e (i - 1) ≡ x → ⊥) → find_in e i x ≡ find_in e (i - 1) x
  unfolding find_in
  find_on zero x h f = absurd (omega arith)
  find_on (suc i) x h f = let z : suc i - 1 ≡ i = omega arith in rw (z, ne_eqb _ _ (rw z at f))

  pub find_out : (i x : ℕ) → i ≤ 0 → find_in e i x ≡ none
  unfolding find_in
  find_out zero x h = refl
  find_out (suc i) x h = absurd (omega arith)

-- a test of the numbers from a on, with the last of them first
any_last : (f : ℕ → Bool) (a n : ℕ) → list_any f (range_with_len a (suc n)) ≡ (f (a + n) || list_any f (range_with_len a n))
any_last f a zero = ap (λ k. f k || false) (sym (add-zero a))
any_last f a (suc n) =
    ap (λ b. f a || b) (any_last f (a + 1) n)
    ∙ swap (f a) (f (a + 1 + n)) (list_any f (range_with_len (a + 1) n))
    ∙ ap (λ k. f k || (f a || list_any f (range_with_len (a + 1) n))) (omega arith)
  where
    swap : (x y z : Bool) → (x || (y || z)) ≡ (y || (x || z))
    swap true true z = refl
    swap true false z = refl
    swap false true z = refl
    swap false false z = refl

pub any_labels : (t : List ℕ) (o l n : ℕ) → list_any (λ k. eqb (owner_at t k) o && eqb (word_at t k) l) (range_with_len 0 n) ≡ any_label t n o l
unfolding any_label
any_labels t o l zero = refl
any_labels t o l (suc n) =
    let f : ℕ → Bool = λ k. eqb (owner_at t k) o && eqb (word_at t k) l in
    any_last f 0 n ∙ ap₂ ◌||◌ (ap f (omega arith)) (any_labels t o l n)

-- a label by its two words: it is one exactly when both are
pub halves : (high low w : ℕ) (o : Bool) → low < 4294967296
    → (eqb high (w / 4294967296) && o && eqb low (w % 4294967296)) ≡ (o && eqb (joined_label high low) w)
halves high low w o l = go (eqb high (w / 4294967296)) refl (eqb low (w % 4294967296)) refl (eqb (joined_label high low) w) refl o
  where
    go : (a : Bool) → eqb high (w / 4294967296) ≡ a → (b : Bool) → eqb low (w % 4294967296) ≡ b → (c : Bool) → eqb (joined_label high low) w ≡ c
        → (o : Bool) → (a && o && b) ≡ (o && c)
    go true p true q true r true = refl
    go true p true q true r false = refl
    go true p true q false r o =
        let h : high ≡ w / 4294967296 = eqb-true _ _ p in
        let k : low ≡ w % 4294967296 = eqb-true _ _ q in
        never (eq-eqb (joined_label high low) w (omega arith)) r
    go true p false q true r o = let j : joined_label high low ≡ w = eqb-true _ _ r in never (eq-eqb low (w % 4294967296) (omega arith)) q
    go true p false q false r true = refl
    go true p false q false r false = refl
    go false p b q true r o = let j : joined_label high low ≡ w = eqb-true _ _ r in never (eq-eqb high (w / 4294967296) (omega arith)) p
    go false p b q false r true = refl
    go false p b q false r false = refl

pub any_since : (e : Env) (g x n : ℕ) → list_any (λ i. eqb (name_in e i) x) (range_with_len g (n - g)) ≡ since_in e g n x
unfolding since_in
any_since e g x zero = let d : 0 - g ≡ 0 = omega arith in rw d refl
any_since e g x (suc n) = go (leb g n) refl (any_since e g x n)
  where
    go : (b : Bool) → leb g n ≡ b → list_any (λ i. eqb (name_in e i) x) (range_with_len g (n - g)) ≡ since_in e g n x
        → list_any (λ i. eqb (name_in e i) x) (range_with_len g (suc n - g)) ≡ cond b (cond (eqb (name_in e n) x) true (since_in e g n x)) false
    go true q r =
        let l : g ≤ n = leb-true _ _ q in
        let d : suc n - g ≡ suc (n - g) = omega arith in
        let m : g + (n - g) ≡ n = omega arith in
        rw (d, any_last (λ i. eqb (name_in e i) x) g (n - g), m, r) (either (eqb (name_in e n) x) (since_in e g n x))
      where
        either : (t u : Bool) → (t || u) ≡ cond t true u
        either true u = refl
        either false u = refl
    go false q r =
        let l : n < g = leb-false _ _ q in
        let d : suc n - g ≡ 0 = omega arith in
        rw d refl

-- the owner's branches among the first k: no share is above 1000, and what they add to
pub record Adds (t : List ℕ) (o k sum : ℕ) : Type 0 where
  pub most : (j : ℕ) → j < k → owner_at t j ≡ o → leb (share_at t j) 1000 ≡ true
  pub adds : sum ≡ weights t o k
  pub fits : sum ≤ 1048576 * k

pub adds_none : (t : List ℕ) (o : ℕ) → Adds t o 0 0
unfolding added
adds_none t o = record { most = λ j l. absurd (not-suc-le-zero l); adds = refl; fits = zero-le }

module _ (t : List ℕ) (o k sum : ℕ) (a : Adds t o k sum) where
  -- what branch k adds
  adds_more : (v w : ℕ) → cond (eqb (owner_at t k) o) (weight_of (share_at t k)) 0 ≡ w → v ≡ sum + w → v ≡ weights t o (k + 1)
  unfolding added
  adds_more v w e f = f ∙ ap₂ ◌+◌ a.adds (sym e) ∙ sym (ap (weights t o) (add-one k))

  most_more : (owner_at t k ≡ o → leb (share_at t k) 1000 ≡ true) → (j : ℕ) → j < k + 1 → owner_at t j ≡ o → leb (share_at t j) 1000 ≡ true
  most_more h j l e = go (ltb j k) refl
    where
      go : (b : Bool) → ltb j k ≡ b → leb (share_at t j) 1000 ≡ true
      go true f = a.most j (ltb-true j k f) e
      go false f =
          let q : j ≡ k = omega (arith, ltb-false j k f) in
          subst (λ i. leb (share_at t i) 1000 ≡ true) (sym q) (h (subst (λ i. owner_at t i ≡ o) q e))

  pub adds_other : (owner_at t k ≡ o → ⊥) → Adds t o (k + 1) sum
  adds_other n = record {
    most = most_more (λ e. absurd (n e));
    adds = adds_more sum 0 (ap (λ b. cond b (weight_of (share_at t k)) 0) (ne_eqb (owner_at t k) o n)) (sym (add-zero sum));
    fits = omega (arith, a.fits);
  }

  pub adds_one : (v : ℕ) → owner_at t k ≡ o → share_at t k ≤ 1000 → v ≡ weight_of (share_at t k) → v ≤ 1048576 → Adds t o (k + 1) (sum + v)
  adds_one v e m w l = record {
    most = most_more (λ e. le-leb (share_at t k) 1000 m);
    adds = adds_more (sum + v) (weight_of (share_at t k)) (ap (λ b. cond b (weight_of (share_at t k)) 0) (eq-eqb (owner_at t k) o e)) (ap (λ x. sum + x) w);
    fits = omega (arith, a.fits);
  }

  pub adds_all : (n : ℕ) → k ≡ n → n ≤ 128 → {b : Bool} → right_sum sum ≡ b → b ≡ shares_right (of_choice o (upto n (branch_at t)) (upto n (share_at t)))
  adds_all n e room f =
      sym f ∙ ap right_sum a.adds ∙ sum_right t k o (omega arith) a.most
      ∙ ap (λ n. shares_right (of_choice o (upto n (branch_at t)) (upto n (share_at t)))) e

-- a share above 1000
pub adds_over : (t : List ℕ) (o k n : ℕ) → k < n → owner_at t k ≡ o → 1000 < share_at t k
    → shares_right (of_choice o (upto n (branch_at t)) (upto n (share_at t))) ≡ false
adds_over t o k n l e h =
    refuted (shares_right (shares_of t n o)) (λ r. never (right_most t n o r k l e) (lt-leb (share_at t k) 1000 h))

-- a branch more
pub ruleset adding = (adds_none, adds_other, adds_one, adds_over, weight_none, weight_some)
