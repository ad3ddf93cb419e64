-- The shares of one choice, among those of a type: the choice's own are told apart by its state, for the types inside it have later states.
-- Assumes nothing.
use mathlib.Core.Path.{◌≡◌, refl, ap, ap₂, subst, ◌∙◌}
use mathlib.Core.Bool.{cond, Bool, true, false}
use mathlib.Core.Logic.{◌⊎◌, inl, inr, ⊎_elim}
use mathlib.Core.List.{List, [], ◌∷◌, ◌++◌, append-nil}
use Prim.Native.Nat.{ℕ, suc, ◌+◌, ◌≤◌, ◌<◌}
use native.Mathlib.Omega.{arith}
use lib.Dec.{ltb, eqb}
use lib.ListN.{length, length-append}
use borrow.Author.Tests.{eq-eqb, ne_eqb, eqb-true, eqb-false, ltb-true, ltb-false}
use Rattle.table.specs.Lists.{every}
use Rattle.table.specs.Table.{Branch, of_choice, shares_right}
use Rattle.table.proofs.laws.Lists.{both, decided}
use Rattle.grammar.specs.Grammar.{SyntaxField, Share, Ty, stop, var, loop, choice, Br, last, also, sorts, sorts_br, Scope, bind, first_state, share_of, shares, shares_br, choice_shares, sums_right, sums_right_br, branch_for as row, branches as rows, branches_br as rowsBr}

-- ---- lists

module _ (i : ℕ) where
  chosen_first : (b : Branch) (r : List Branch) (n : ℕ) (ns : List ℕ) → b.owner ≡ i → of_choice i (b ∷ r) (n ∷ ns) ≡ n ∷ of_choice i r ns
  unfolding of_choice
  chosen_first b r n ns e = ap (λ c. cond c (n ∷ of_choice i r ns) (of_choice i r ns)) (eq-eqb b.owner i e)

  chosen_rest : (b : Branch) (r : List Branch) (n : ℕ) (ns : List ℕ) → (b.owner ≡ i → ⊥) → of_choice i (b ∷ r) (n ∷ ns) ≡ of_choice i r ns
  unfolding of_choice
  chosen_rest b r n ns e = ap (λ c. cond c (n ∷ of_choice i r ns) (of_choice i r ns)) (ne_eqb b.owner i e)

  -- of one branch
  pub chosen_one : (b : Branch) (n : ℕ) → b.owner ≡ i → of_choice i (b ∷ []) (n ∷ []) ≡ n ∷ []
  unfolding of_choice
  chosen_one b n e = chosen_first b [] n [] e

  pub chosen_none : (b : Branch) (n : ℕ) → (b.owner ≡ i → ⊥) → of_choice i (b ∷ []) (n ∷ []) ≡ []
  unfolding of_choice
  chosen_none b n e = chosen_rest b [] n [] e

  pub chosen_append : (bs cs : List Branch) (ms ns : List ℕ) → length ms ≡ length bs → of_choice i (bs ++ cs) (ms ++ ns) ≡ of_choice i bs ms ++ of_choice i cs ns
  unfolding of_choice
  chosen_append [] cs [] ns l = refl
  chosen_append [] cs (m ∷ ms) ns l = absurd (omega arith)
  chosen_append (b ∷ bs) cs [] ns l = absurd (omega arith)
  chosen_append (b ∷ bs) cs (m ∷ ms) ns l =
      ap (λ (x : List ℕ). cond (eqb b.owner i) (m ∷ x) x) (chosen_append bs cs ms ns (omega arith)) ∙ outside (eqb b.owner i)
    where
      outside : (c : Bool) → cond c (m ∷ (of_choice i bs ms ++ of_choice i cs ns)) (of_choice i bs ms ++ of_choice i cs ns) ≡ cond c (m ∷ of_choice i bs ms) (of_choice i bs ms) ++ of_choice i cs ns
      outside true = refl
      outside false = refl

-- ---- types

-- a share for each branch
mutual
  pub shares_length : (t : Ty) (e : Scope) (n : ℕ) → length (shares t) ≡ length (rows t e n)
  shares_length stop e n = refl
  shares_length (var x) e n = refl
  shares_length (loop x t) e n = shares_length t (bind x n e) n
  shares_length (choice w bs) e n = shares_br_length bs e n (suc n)

  shares_br_length : (bs : Br) (e : Scope) (o n : ℕ) → length (shares_br bs) ≡ length (rowsBr bs e o n)
  shares_br_length (last l fs sh t) e o n = ap suc (shares_length t e n)
  shares_br_length (also l fs sh t bs) e o n =
      let N = n + length (sorts t) in
      omega (
        arith,
        shares_length t e n,
        shares_br_length bs e o N,
        length-append (shares t) (shares_br bs),
        length-append (rows t e n) (rowsBr bs e o N),
      )

-- a branch of another choice, those of its type and those after it
parted : (l : ℕ) (fs : List SyntaxField) (sh : Share) (t : Ty) (bs : Br) (e : Scope) (o n i : ℕ) → (o ≡ i → ⊥)
    → of_choice i (rowsBr (also l fs sh t bs) e o n) (shares_br (also l fs sh t bs))
    ≡ of_choice i (rows t e n) (shares t) ++ of_choice i (rowsBr bs e o (n + length (sorts t))) (shares_br bs)
parted l fs sh t bs e o n i z =
    let R = rowsBr bs e o (n + length (sorts t)) in
    chosen_rest i (row o l fs (first_state t e n)) (rows t e n ++ R) (share_of sh) (shares t ++ shares_br bs) z
    ∙ chosen_append i (rows t e n) R (shares t) (shares_br bs) (shares_length t e n)

-- the branches of a type are of its own states
mutual
  unfolding of_choice

  pub others : (t : Ty) (e : Scope) (n i : ℕ) → (i < n) ⊎ (n + length (sorts t) ≤ i) → of_choice i (rows t e n) (shares t) ≡ []
  others stop e n i h = refl
  others (var x) e n i h = refl
  others (loop x t) e n i h = others t (bind x n e) n i h
  others (choice w bs) e n i (inl h) = others_br bs e n (suc n) i (λ z. omega arith) (inl (omega arith))
  others (choice w bs) e n i (inr h) = others_br bs e n (suc n) i (λ z. omega arith) (inr (omega arith))

  others_br : (bs : Br) (e : Scope) (o n i : ℕ) → (o ≡ i → ⊥) → (i < n) ⊎ (n + length (sorts_br bs) ≤ i) → of_choice i (rowsBr bs e o n) (shares_br bs) ≡ []
  others_br (last l fs sh t) e o n i z h =
      chosen_rest i (row o l fs (first_state t e n)) (rows t e n) (share_of sh) (shares t) z ∙ others t e n i h
  others_br (also l fs sh t bs) e o n i z h =
      let N = n + length (sorts t) in
      let len = length-append (sorts t) (sorts_br bs) in
      parted l fs sh t bs e o n i z
      ∙ ap₂ ◌++◌ (others t e n i (elim h [ inl a ↦ inl a | inr a ↦ inr (omega (arith, len)) ]))
      (others_br bs e o N i z (elim h [ inl a ↦ inl (omega arith) | inr a ↦ inr (omega (arith, len)) ]))

-- those of the choice itself
own : (bs : Br) (e : Scope) (o n : ℕ) → o < n → of_choice o (rowsBr bs e o n) (shares_br bs) ≡ choice_shares bs
own (last l fs sh t) e o n a =
    chosen_first o (row o l fs (first_state t e n)) (rows t e n) (share_of sh) (shares t) refl
    ∙ ap (λ (x : List ℕ). share_of sh ∷ x) (others t e n o (inl a))
own (also l fs sh t bs) e o n a =
    let N = n + length (sorts t) in
    let R = rowsBr bs e o N in
    chosen_first o (row o l fs (first_state t e n)) (rows t e n ++ R) (share_of sh) (shares t ++ shares_br bs) refl
    ∙ ap (λ (x : List ℕ). share_of sh ∷ x)
    (chosen_append o (rows t e n) R (shares t) (shares_br bs) (shares_length t e n) ∙ ap₂ ◌++◌ (others t e n o (inl a)) (own bs e o N (omega arith)))

-- with one branch more of the choice, and those of its type
pub one_more : (o n : ℕ) (rs : List Branch) (ws : List ℕ) (r : Branch) (w : ℕ) (t : Ty) (e : Scope) → length ws ≡ length rs → r.owner ≡ o → o < n
    → of_choice o ((rs ++ (r ∷ [])) ++ rows t e n) ((ws ++ (w ∷ [])) ++ shares t) ≡ of_choice o rs ws ++ (w ∷ [])
one_more o n rs ws r w t e l h a =
    chosen_append o (rs ++ (r ∷ [])) (rows t e n) (ws ++ (w ∷ [])) (shares t) (omega (arith, length-append rs (r ∷ []), length-append ws (w ∷ [])))
    ∙ ap₂ ◌++◌ (chosen_append o rs (r ∷ []) ws (w ∷ []) l ∙ ap (λ (x : List ℕ). of_choice o rs ws ++ x) (chosen_one o r w h)) (others t e n o (inl a))
    ∙ append-nil (of_choice o rs ws ++ (w ∷ []))

-- where the choices of a type have right shares, any state's are right: those of its choice, or none
mutual
  unfolding of_choice shares_right every

  pub all_right : (t : Ty) (e : Scope) (n i : ℕ) → sums_right t ≡ true → shares_right (of_choice i (rows t e n) (shares t)) ≡ true
  all_right stop e n i h = refl
  all_right (var x) e n i h = refl
  all_right (loop x t) e n i h = all_right t (bind x n e) n i h
  all_right (choice w bs) e n i h =
      let p = both (shares_right (choice_shares bs)) (sums_right_br bs) h in
      ⊎_elim
      (λ (y : eqb n i ≡ true). subst (λ (i : ℕ). shares_right (of_choice i (rowsBr bs e n (suc n)) (shares_br bs)) ≡ true) (eqb-true n i y)
      (ap shares_right (own bs e n (suc n) (omega arith)) ∙ p.0))
      (λ (z : eqb n i ≡ false). all_right_br bs e n (suc n) i (eqb-false n i z) p.1) (decided (eqb n i))

  all_right_br : (bs : Br) (e : Scope) (o n i : ℕ) → (o ≡ i → ⊥) → sums_right_br bs ≡ true → shares_right (of_choice i (rowsBr bs e o n) (shares_br bs)) ≡ true
  all_right_br (last l fs sh t) e o n i z h =
      ap shares_right (chosen_rest i (row o l fs (first_state t e n)) (rows t e n) (share_of sh) (shares t) z) ∙ all_right t e n i h
  all_right_br (also l fs sh t bs) e o n i z h =
      let N = n + length (sorts t) in
      let p = both (sums_right t) (sums_right_br bs) h in
      let X = of_choice i (rows t e n) (shares t) in
      let Y = of_choice i (rowsBr bs e o N) (shares_br bs) in
      ap shares_right (parted l fs sh t bs e o n i z)
      ∙ ⊎_elim
      (λ (y : ltb i N ≡ true). ap shares_right (ap (λ (x : List ℕ). X ++ x) (others_br bs e o N i z (inl (ltb-true i N y))) ∙ append-nil X) ∙ all_right t e n i p.0)
      (λ (y : ltb i N ≡ false). ap shares_right (ap (λ (x : List ℕ). x ++ Y) (others t e n i (inr (ltb-false i N y)))) ∙ all_right_br bs e o N i z p.1)
      (decided (ltb i N))
