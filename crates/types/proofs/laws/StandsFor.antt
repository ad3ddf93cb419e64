-- The invariant: a table's state stands for a closed type. S gives the states' sorts, B their branches.
-- Assumes nothing.
use mathlib.Core.Path.{◌≡◌, refl, sym, ap, subst, ◌∙◌}
use mathlib.Core.Bool.{Bool, true, false, not, ◌&&◌, cond, true≢false, false≢true}
use mathlib.Core.List.{List, [], ◌∷◌, map}
use mathlib.Core.Option.{Option, none, some, some-injective}
use Prim.Native.Nat.{ℕ, suc, ◌+◌}
use lib.Dec.{eqb}
use lib.ListN.{length}
use borrow.Author.Tests.{not-true, eq-eqb}
use Rattle.table.specs.Lists.{matched, same}
use Rattle.table.specs.Table.{Sort, ends, Branch}
use Rattle.table.specs.View.{label_of}
use Rattle.table.proofs.laws.Lists.{both, or_left, or_right}
use Rattle.message.specs.Message.{Message}
use Rattle.message.specs.Judge.{holds, names, carries, goes}
use Rattle.grammar.specs.Grammar.{Way, SyntaxField, Ty, stop, var, loop, choice, Br, last, also, field_of, way_sort, sorts, Scope, nothing_bound, bind, or_else, first_state, branch_for, bare, recs_guarded}
use Rattle.grammar.proofs.laws.Questions.{recs_guarded_br}
use Rattle.types.specs.Types.{recs, unroll, opened, hold, matches, takes}
use Rattle.message.proofs.laws.Judge.{none_some}
use Rattle.types.proofs.laws.Close.{free, free_br, Meaning, hide, given, otherwise, close, close_br, Shut, Covers, CoversBr, hide_shut, given_shut, given_covers, hide_covers, put_close, close_free, no_meaning, none_shut}
use Rattle.types.proofs.laws.Front.{named, named_free, recs_close, opened_unused}

-- a choice's own branches: o is its state, n the next free one
abbrev pub own : Br → Scope → ℕ → ℕ → List Branch
own (last l fs sh t) e o n = branch_for o l fs (first_state t e n) ∷ []
own (also l fs sh t bs) e o n = branch_for o l fs (first_state t e n) ∷ own bs e o (n + length (sorts t))

-- a message at one of them
pub goes_own : (l : ℕ) (fs : List SyntaxField) (o n : ℕ) (r : List Branch) (m : Message)
    → goes (branch_for o l fs n ∷ r) o m ≡ cond (matches l fs m) (some n) (goes r o m)
unfolding goes carries names matches hold
goes_own l fs o n r m =
    ap (λ b. cond ((b && same (label_of l) m.label) && matched holds (map field_of fs) m.values) (some n) (goes r o m))
    (eq-eqb o o refl)

-- where no name stands at the front, the type begins at the next free state
first_here : (t : Ty) (e : Scope) (n : ℕ) → named t ≡ false → first_state t e n ≡ n
first_here stop e n a = refl
first_here (var x) e n a = absurd (true≢false a)
first_here (loop x t) e n a = first_here t (bind x n e) n a
first_here (choice s bs) e n a = refl

-- two optional things are both missing, or both there and related
pub data Alike {A B : Type 0} (R : A → B → Type 0) : Option A → Option B → Type 0 where
  neither : Alike R none none
  each : {a : A} {b : B} → R a b → Alike R (some a) (some b)

module _ (S : ℕ → Sort) (B : ℕ → List Branch) where
  -- the tree t stands in the table from state n on, with e for the names around it
  abbrev mutual
    pub Stands : Ty → Scope → ℕ → Type 0
    Stands stop e n = (S n ≡ ends) × (B n ≡ [])
    Stands (var x) e n = Unit {0}
    Stands (loop x t) e n = Stands t (bind x n e) n
    Stands (choice s bs) e n = (S n ≡ way_sort s) × (B n ≡ own bs e n (suc n)) × StandsBr bs e (suc n)

    pub StandsBr : Br → Scope → ℕ → Type 0
    StandsBr (last l fs sh t) e n = Stands t e n
    StandsBr (also l fs sh t bs) e n = Stands t e n × StandsBr bs e (n + length (sorts t))

  -- the recs around a place: each name's state, and the closed type that it means; a name that nothing mentions means none
  pub data Means : Scope → Meaning → Type 0 where
    none_yet : Means nothing_bound no_meaning
    one_more : {e : Scope} {ρ : Meaning} (x : ℕ) (t : Ty) (k : ℕ) → Means e ρ → Stands t (bind x k e) k → named t ≡ false
        → recs_guarded (loop x t) ≡ true → Covers (loop x t) ρ → Means (bind x k e) (given x (loop x (close t (hide x ρ))) ρ)
    unused : {e : Scope} {ρ : Meaning} (x k : ℕ) → Means e ρ → Means (bind x k e) (hide x ρ)

  -- state n stands for the closed type u: it opens as the tree there does, with the recs around it substituted
  pub record Represents (u : Ty) (n : ℕ) : Type 0 where
    pub tree : Ty
    pub scope : Scope
    pub meaning : Meaning
    pub means : Means scope meaning
    pub stands : Stands tree scope n
    pub no_name : named tree ≡ false
    pub guard : recs_guarded tree ≡ true
    pub covers : Covers tree meaning
    pub is : opened u ≡ opened (close tree meaning)

  -- ---- names

  pub shut : {e : Scope} {ρ : Meaning} → Means e ρ → Shut ρ
  shut none_yet = none_shut
  shut (one_more {e} {ρ} x t k w st a g c) =
      given_shut x (loop x (close t (hide x ρ))) ρ (λ z. close_free (loop x t) z ρ (shut w) (c z)) (shut w)
  shut (unused {e} {ρ} x k w) = hide_shut x ρ (shut w)

  pub found : {e : Scope} {ρ : Meaning} → Means e ρ → (y : ℕ) (v : Ty) → ρ y ≡ some v → (k : ℕ) × (e y ≡ some k) × Represents v k
  unfolding bind given hide no_meaning
  found none_yet y v h = none_some h
  found (one_more {e} {ρ} x t k w st a g c) y v h = go (eqb x y) h (λ h. found w y v h)
    where
      go : (b : Bool) → cond b (some (loop x (close t (hide x ρ)))) (ρ y) ≡ some v
          → (ρ y ≡ some v → (k : ℕ) × (e y ≡ some k) × Represents v k)
          → (j : ℕ) × (cond b (some k) (e y) ≡ some j) × Represents v j
      go true h i = (
        k,
        refl,
        record {
          tree = loop x t;
          scope = e;
          meaning = ρ;
          means = w;
          stands = st;
          no_name = a;
          guard = g;
          covers = c;
          is = ap opened (sym (some-injective _ _ h));
        },
      )
      go false h i = i h
  found (unused {e} {ρ} x k w) y v h = go (eqb x y) h (λ h. found w y v h)
    where
      go : (b : Bool) → cond b none (ρ y) ≡ some v → (ρ y ≡ some v → (k : ℕ) × (e y ≡ some k) × Represents v k)
          → (j : ℕ) × (cond b (some k) (e y) ≡ some j) × Represents v j
      go true h i = none_some h
      go false h i = i h

  -- recs that lead to a name mean what it means
  at_name : (t : Ty) (e : Scope) (ρ : Meaning) (n : ℕ) → Means e ρ → named t ≡ true → recs_guarded t ≡ true → Covers t ρ
      → Represents (close t ρ) (first_state t e n)
  at_name stop e ρ n w a g c = absurd (false≢true a)
  at_name (var x) e ρ n w a g c = go (ρ x) refl
    where
      go : (o : Option Ty) → ρ x ≡ o → Represents (otherwise o (var x)) (or_else (e x) n)
      go none h = absurd (c x (eq-eqb x x refl) h)
      go (some v) h = let f = found w x v h in rw f.1 f.2
  at_name (loop x t) e ρ n w a g c =
      let b = both (not (bare t x)) (recs_guarded t) g in
      let f = named_free t x a ∙ not-true (bare t x) b.0 in
      let d = hide_covers x t ρ f c in
      let r = at_name t (bind x n e) (hide x ρ) n (unused x n w) a b.1 d in
      record {
        tree = r.tree;
        scope = r.scope;
        meaning = r.meaning;
        means = r.means;
        stands = r.stands;
        no_name = r.no_name;
        guard = r.guard;
        covers = r.covers;
        is = opened_unused x (close t (hide x ρ)) (close_free t x (hide x ρ) (hide_shut x ρ (shut w)) (d x)) ∙ r.is;
      }
  at_name (choice s bs) e ρ n w a g c = absurd (false≢true a)

  -- a branch leads to a state that stands for what follows the branch
  pub arrives : (t : Ty) (e : Scope) (ρ : Meaning) (n : ℕ) → Means e ρ → Stands t e n → recs_guarded t ≡ true → Covers t ρ
      → Represents (close t ρ) (first_state t e n)
  arrives t e ρ n w st g c = go (named t) refl
    where
      go : (b : Bool) → named t ≡ b → Represents (close t ρ) (first_state t e n)
      go true a = at_name t e ρ n w a g c
      go false a =
          rw (first_here t e n a)
          (record { tree = t; scope = e; meaning = ρ; means = w; stands = st; no_name = a; guard = g; covers = c; is = refl })

  -- ---- recs unfolded

  -- what a represented type is once its recs are unfolded
  pub data Head (n : ℕ) : Ty → Type 0 where
    an_end : S n ≡ ends → B n ≡ [] → Head n stop
    a_choice : (e : Scope) (ρ : Meaning) (s : Way) (bs : Br) → Means e ρ → Stands (choice s bs) e n → recs_guarded_br bs ≡ true
        → CoversBr bs ρ
        → Head n (choice s (close_br bs ρ))

  pub heads : (t : Ty) (e : Scope) (ρ : Meaning) (n : ℕ) → Means e ρ → Stands t e n → named t ≡ false → recs_guarded t ≡ true → Covers t ρ
      → Head n (unroll (recs t) (close t ρ))
  heads stop e ρ n w st a g c = an_end st.0 st.1
  heads (var x) e ρ n w st a g c = absurd (true≢false a)
  heads (loop x t) e ρ n w st a g c =
      let u = loop x (close t (hide x ρ)) in
      let b = both (not (bare t x)) (recs_guarded t) g in
      subst (λ v. Head n (unroll (recs t) v)) (sym (put_close t x u ρ (shut w)))
      (heads t (bind x n e) (given x u ρ) n (one_more x t n w st a g c) st a b.1 (given_covers x t u ρ c))
  heads (choice s bs) e ρ n w st a g c = a_choice e ρ s bs w st g c

  pub head : {u : Ty} {n : ℕ} → Represents u n → Head n (opened u)
  unfolding opened
  head {u} {n} r =
      let t = r.tree in
      subst (Head n) (sym r.is)
      (subst (λ k. Head n (unroll k (close t r.meaning))) (sym (recs_close t r.meaning r.no_name))
      (heads t r.scope r.meaning n r.means r.stands r.no_name r.guard r.covers))

  -- ---- a message at a choice

  pub goes_alike : (bs : Br) (e : Scope) (ρ : Meaning) (o n : ℕ) (m : Message) → Means e ρ → StandsBr bs e n → recs_guarded_br bs ≡ true
      → CoversBr bs ρ
      → Alike Represents (takes (close_br bs ρ) m) (goes (own bs e o n) o m)
  unfolding goes
  goes_alike (last l fs sh t) e ρ o n m w st g c = rw (goes_own l fs o (first_state t e n) [] m) (go (matches l fs m))
    where
      go : (b : Bool) → Alike Represents (cond b (some (close t ρ)) none) (cond b (some (first_state t e n)) none)
      go true = each (arrives t e ρ n w st g c)
      go false = neither
  goes_alike (also l fs sh t bs) e ρ o n m w st g c =
      let p = both (recs_guarded t) (recs_guarded_br bs) g in
      rw (goes_own l fs o (first_state t e n) (own bs e o (n + length (sorts t))) m)
      (go (matches l fs m) (arrives t e ρ n w st.0 p.0 (λ z f. c z (or_left (free_br bs z) f)))
      (goes_alike bs e ρ o (n + length (sorts t)) m w st.1 p.1 (λ z f. c z (or_right (free t z) f))))
    where
      go : (b : Bool) → Represents (close t ρ) (first_state t e n)
          → Alike Represents (takes (close_br bs ρ) m) (goes (own bs e o (n + length (sorts t))) o m)
          → Alike Represents (cond b (some (close t ρ)) (takes (close_br bs ρ) m))
          (cond b (some (first_state t e n)) (goes (own bs e o (n + length (sorts t))) o m))
      go true r i = each r
      go false r i = i
