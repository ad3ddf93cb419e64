-- The table of a type is the type, numbered: at each place stands the tree that is there.
-- Assumes nothing.
use mathlib.Core.Path.{◌≡◌, refl, ap, ap₂, ◌∙◌}
use mathlib.Core.Bool.{Bool, true, false, ◌&&◌, cond}
use mathlib.Core.List.{List, [], ◌∷◌, ◌++◌, append-nil}
use mathlib.Core.Option.{some}
use Prim.Native.Nat.{ℕ, suc, ◌+◌, ◌≤◌, ◌<◌}
use native.Mathlib.Omega.{arith}
use lib.Dec.{eqb}
use lib.ListN.{length, get_or, length-append, get_or-append}
use borrow.Author.Tests.{eq-eqb, ne_eqb}
use Rattle.table.specs.Lists.{matched, same}
use Rattle.table.specs.Table.{Sort, ends, Branch, Table, sort}
use Rattle.message.specs.Message.{Message}
use Rattle.message.specs.Judge.{holds, names, carries, goes, allows, by_fields, judge_among, judge}
use Rattle.grammar.specs.Grammar.{Ty, stop, var, loop, choice, Br, last, also, way_sort, sorts, sorts_br, Scope, nothing_bound, bind, first_state, Protocol, branch_for, branches, branches_br, table_of}
use Rattle.types.proofs.laws.StandsFor.{own, Stands, StandsBr}

-- ---- lists

pub at_left : (xs ys : List Sort) (k : ℕ) → k < length xs → get_or (xs ++ ys) k ends ≡ get_or xs k ends
at_left xs ys k h = get_or-append xs ys ends k h

pub at_right : (xs ys : List Sort) (k : ℕ) → get_or (xs ++ ys) (length xs + k) ends ≡ get_or ys k ends
at_right [] ys k = ap (λ i. get_or ys i ends) (omega arith)
at_right (x ∷ xs) ys k =
    let e : suc (length xs) + k ≡ suc (length xs + k) = omega arith in
    ap (λ i. get_or (x ∷ (xs ++ ys)) i ends) e ∙ at_right xs ys k

-- ---- the branches that a state owns

unfoldable pub owned : ℕ → List Branch → List Branch
owned i [] = []
owned i (b ∷ r) = cond (eqb b.owner i) (b ∷ owned i r) (owned i r)

owned_none : (i : ℕ) → owned i [] ≡ []
unfolding owned
owned_none i = refl

owned_append : (i : ℕ) (xs ys : List Branch) → owned i (xs ++ ys) ≡ owned i xs ++ owned i ys
unfolding owned
owned_append i [] ys = refl
owned_append i (b ∷ xs) ys = go (eqb b.owner i) (owned_append i xs ys)
  where
    go : (c : Bool) → owned i (xs ++ ys) ≡ owned i xs ++ owned i ys
        → cond c (b ∷ owned i (xs ++ ys)) (owned i (xs ++ ys)) ≡ cond c (b ∷ owned i xs) (owned i xs) ++ owned i ys
    go true e = ap (λ r. b ∷ r) e
    go false e = e

owned_own : (b : Branch) (r : List Branch) → owned b.owner (b ∷ r) ≡ b ∷ owned b.owner r
unfolding owned
owned_own b r = rw (eq-eqb b.owner b.owner refl)

owned_past : (b : Branch) (r : List Branch) (i : ℕ) → (b.owner ≡ i → ⊥) → owned i (b ∷ r) ≡ owned i r
unfolding owned
owned_past b r i h = rw (ne_eqb b.owner i h)

-- they alone say what the state allows, and how a message is judged
pub goes_owned : (bs : List Branch) (i : ℕ) (m : Message) → goes bs i m ≡ goes (owned i bs) i m
unfolding goes owned carries names
goes_owned [] i m = refl
goes_owned (b ∷ r) i m = go (eqb b.owner i) refl (goes_owned r i m)
  where
    go : (c : Bool) → eqb b.owner i ≡ c → goes r i m ≡ goes (owned i r) i m
        → cond (carries i m b) (some b.target) (goes r i m) ≡ goes (cond c (b ∷ owned i r) (owned i r)) i m
    go true e h = ap (λ o. cond (carries i m b) (some b.target) o) h
    go false e h =
        ap (λ c. cond ((c && same b.label m.label) && matched holds b.fields m.values) (some b.target) (goes r i m)) e ∙ h

pub judge_owned : (bs : List Branch) (i : ℕ) (m : Message) → judge_among bs i m ≡ judge_among (owned i bs) i m
unfolding judge_among owned names
judge_owned [] i m = refl
judge_owned (b ∷ r) i m = go (eqb b.owner i) refl (judge_owned r i m)
  where
    go : (c : Bool) → eqb b.owner i ≡ c → judge_among r i m ≡ judge_among (owned i r) i m
        → cond (names i m.label b) (by_fields b.fields b.target m.values) (judge_among r i m)
        ≡ judge_among (cond c (b ∷ owned i r) (owned i r)) i m
    go true e h = ap (λ o. cond (names i m.label b) (by_fields b.fields b.target m.values) o) h
    go false e h =
        ap (λ c. cond (c && same b.label m.label) (by_fields b.fields b.target m.values) (judge_among r i m)) e ∙ h

-- ---- the branches of a tree are of its own states

mutual
  unfolding owned

  below : (t : Ty) (e : Scope) (n i : ℕ) → i < n → owned i (branches t e n) ≡ []
  below stop e n i h = refl
  below (var x) e n i h = refl
  below (loop x t) e n i h = below t (bind x n e) n i h
  below (choice s bs) e n i h = below_br bs e n (suc n) i (omega arith) (omega arith)

  below_br : (bs : Br) (e : Scope) (o n i : ℕ) → (o ≡ i → ⊥) → i < n → owned i (branches_br bs e o n) ≡ []
  below_br (last l fs sh t) e o n i a h = owned_past (branch_for o l fs (first_state t e n)) (branches t e n) i a ∙ below t e n i h
  below_br (also l fs sh t bs) e o n i a h =
      owned_past (branch_for o l fs (first_state t e n)) (branches t e n ++ branches_br bs e o (n + length (sorts t))) i a
      ∙ owned_append i (branches t e n) (branches_br bs e o (n + length (sorts t)))
      ∙ ap₂ ◌++◌ (below t e n i h) (below_br bs e o (n + length (sorts t)) i a (omega arith))

mutual
  unfolding owned

  above : (t : Ty) (e : Scope) (n i : ℕ) → n + length (sorts t) ≤ i → owned i (branches t e n) ≡ []
  above stop e n i h = refl
  above (var x) e n i h = refl
  above (loop x t) e n i h = above t (bind x n e) n i h
  above (choice s bs) e n i h = above_br bs e n (suc n) i (omega arith) (omega arith)

  above_br : (bs : Br) (e : Scope) (o n i : ℕ) → (o ≡ i → ⊥) → n + length (sorts_br bs) ≤ i → owned i (branches_br bs e o n) ≡ []
  above_br (last l fs sh t) e o n i a h = owned_past (branch_for o l fs (first_state t e n)) (branches t e n) i a ∙ above t e n i h
  above_br (also l fs sh t bs) e o n i a h =
      let len = length-append (sorts t) (sorts_br bs) in
      owned_past (branch_for o l fs (first_state t e n)) (branches t e n ++ branches_br bs e o (n + length (sorts t))) i a
      ∙ owned_append i (branches t e n) (branches_br bs e o (n + length (sorts t)))
      ∙ ap₂ ◌++◌ (above t e n i (omega (arith, len))) (above_br bs e o (n + length (sorts t)) i a (omega (arith, len)))

-- a choice's own branches come out of the whole
choice_owns : (bs : Br) (e : Scope) (o n : ℕ) → o < n → owned o (branches_br bs e o n) ≡ own bs e o n
choice_owns (last l fs sh t) e o n h =
    owned_own (branch_for o l fs (first_state t e n)) (branches t e n) ∙ ap (λ r. branch_for o l fs (first_state t e n) ∷ r) (below t e n o h)
choice_owns (also l fs sh t bs) e o n h =
    owned_own (branch_for o l fs (first_state t e n)) (branches t e n ++ branches_br bs e o (n + length (sorts t)))
    ∙ ap (λ r. branch_for o l fs (first_state t e n) ∷ r)
    (owned_append o (branches t e n) (branches_br bs e o (n + length (sorts t)))
    ∙ ap₂ ◌++◌ (below t e n o h) (choice_owns bs e o (n + length (sorts t)) (omega arith)))

-- ---- what is in the table stands there

module _ (S : ℕ → Sort) (B : ℕ → List Branch) where
  -- from state n on, S and B give these sorts and these branches
  pub record Part (ss : List Sort) (bs : List Branch) (n : ℕ) : Type 0 where
    pub owning : (i : ℕ) → n ≤ i → i < n + length ss → B i ≡ owned i bs
    pub sorting : (k : ℕ) → k < length ss → S (n + k) ≡ get_or ss k ends

  here : (ss : List Sort) (bs : List Branch) (n : ℕ) → Part ss bs n → 0 < length ss → S n ≡ get_or ss 0 ends
  here ss bs n p h =
      let e : n ≡ n + 0 = omega arith in
      ap S e ∙ p.sorting 0 h

  mutual
    standing : (t : Ty) (e : Scope) (n : ℕ) → Part (sorts t) (branches t e n) n → Stands S B t e n
    standing stop e n p = (here (ends ∷ []) [] n p (omega arith), p.owning n (omega arith) (omega arith) ∙ owned_none n)
    standing (var x) e n p = tt
    standing (loop x t) e n p = standing t (bind x n e) n p
    standing (choice s bs) e n p = (
      here (way_sort s ∷ sorts_br bs) (branches_br bs e n (suc n)) n p (omega arith),
      p.owning n (omega arith) (omega arith) ∙ choice_owns bs e n (suc n) (omega arith),
      standing_br bs e n (suc n) (omega arith)
          (record {
            owning = λ i h k. p.owning i (omega arith) (omega arith);
            sorting = λ k h.
                let j : suc n + k ≡ n + suc k = omega arith in
                ap S j ∙ p.sorting (suc k) (omega arith);
          }),
    )

    standing_br : (bs : Br) (e : Scope) (o n : ℕ) → o < n → Part (sorts_br bs) (branches_br bs e o n) n → StandsBr S B bs e n
    standing_br (last l fs sh t) e o n a p =
        standing t e n
        (record {
          owning = λ i h k. p.owning i h k ∙ owned_past (branch_for o l fs (first_state t e n)) (branches t e n) i (omega arith);
          sorting = p.sorting;
        })
    standing_br (also l fs sh t bs) e o n a p =
        let N = n + length (sorts t) in
        let len : length (sorts t ++ sorts_br bs) ≡ length (sorts t) + length (sorts_br bs) = length-append (sorts t) (sorts_br bs) in
        let split : (i : ℕ) → n ≤ i → i < n + length (sorts t ++ sorts_br bs)
        → B i ≡ owned i (branches t e n) ++ owned i (branches_br bs e o N) =
        λ i h k. p.owning i h k
        ∙ owned_past (branch_for o l fs (first_state t e n)) (branches t e n ++ branches_br bs e o N) i (omega arith)
        ∙ owned_append i (branches t e n) (branches_br bs e o N)
        in (
          standing t e n
              (record {
                owning = λ i h k. split i h (omega (arith, len))
                    ∙ ap (λ r. owned i (branches t e n) ++ r) (below_br bs e o N i (omega arith) k)
                    ∙ append-nil (owned i (branches t e n));
                sorting = λ k h. p.sorting k (omega (arith, len)) ∙ at_left (sorts t) (sorts_br bs) k h;
              }),
          standing_br bs e o N (omega arith)
              (record {
                owning =
                    λ i h k. split i (omega arith) (omega (arith, len)) ∙ ap (λ r. r ++ owned i (branches_br bs e o N)) (above t e n i h);
                sorting = λ k h.
                    let j : N + k ≡ n + (length (sorts t) + k) = omega arith in
                    ap S j ∙ p.sorting (length (sorts t) + k) (omega (arith, len)) ∙ at_right (sorts t) (sorts_br bs) k;
              }),
        )

-- the branches of a table's state
unfoldable pub at : Table → ℕ → List Branch
at T i = owned i T.branches

-- the whole
pub table_stands : (p : Protocol) → Stands (sort (table_of p)) (at (table_of p)) p.type nothing_bound 0
unfolding table_of sort at
table_stands p =
    standing (sort (table_of p)) (at (table_of p)) p.type nothing_bound 0
    (record { owning = λ i h k. refl; sorting = λ k h. ap (λ i. get_or (sorts p.type) i ends) (omega arith) })

pub allows_at : (T : Table) (i : ℕ) (m : Message) → allows T i m ≡ goes (at T i) i m
unfolding allows at
allows_at T i m = goes_owned T.branches i m

pub judge_at : (T : Table) (i : ℕ) (m : Message) → judge T i m ≡ judge_among (at T i) i m
unfolding judge at
judge_at T i m = judge_owned T.branches i m
