-- The table of a legal type whose labels are legal is sound (question 9): its branches are of its own states, each choice owns one, names mean
-- states, and labels that differ as numbers differ as bytes. Its shares keep their rules.
-- Assumes nothing.
use mathlib.Core.Path.{◌≡◌, refl, sym, ap, subst, ◌∙◌}
use mathlib.Core.Logic.{◌⊎◌, inl, inr, ⊎_elim}
use mathlib.Core.Bool.{cond, Bool, true, false, not, ◌&&◌, ◌||◌, false≢true}
use mathlib.Core.List.{List, [], ◌∷◌, ◌++◌, map}
use mathlib.Core.Option.{Option, none, some}
use Prim.Native.Nat.{ℕ, suc, ◌+◌, ◌≤◌, ◌<◌}
use native.Mathlib.Omega.{arith}
use lib.Dec.{leb, eqb}
use lib.ListN.{length, get_or, length-append, length-map, get_or-append}
use lib.Seq.{get_or-append-add}
use borrow.Author.Tests.{not-true, lt-ltb, le-leb, eq-eqb, ne_eqb, eqb-true, eqb-false}
use Rattle.grammar.proofs.laws.Questions.{recs_guarded_br, ranges_legal_br, fields_few_br, labels_new_br}
use Rattle.table.specs.Lists.{every, some_one, same}
use Rattle.table.specs.Table.{sort, within_kind, legal_field, is_choice, legal_branch, clash, labels_differ, choices_own, sound, of_choice, shares_right, shares_kept, known_edition}
use Rattle.table.specs.View.{label_of}
use Rattle.table.proofs.laws.Lists.{both, join, all_three, or_left, or_right, never, refuted, left_fails, right_fails, every_append, upto_every}
use Rattle.table.proofs.laws.View.{label_eq, same_eq}
use Rattle.grammar.specs.Token.{one_of}
use Rattle.grammar.specs.Number.{Signed, offset, in_kind}
use Rattle.grammar.specs.Grammar.{Way, sending, receiving, SyntaxField, Share, Ty, stop, var, loop, choice, Br, last, also, Protocol, kind_code, way_sort, field_of, sorts, sorts_br, Scope, nothing_bound, bind, or_else, first_state, branch_for, branches, branches_br, shares, edition_named, table_of, names_bound, names_bound_br, bare, recs_guarded, range_legal, ranges_legal, fields_few, label_among, labels_new, opening_legal, Legal}
use Rattle.grammar.proofs.laws.Good.{bare_other}
use Rattle.grammar.proofs.laws.Legal.{later}
use Rattle.grammar.proofs.laws.OfChoice.{all_right}
use Rattle.grammar.proofs.laws.Packed.{Label}
use Rattle.grammar.proofs.laws.NameToken.{Labelled, LabelledBr}
use Rattle.table.specs.Table as T

-- ---- lists

abbrev All : (T.Branch → Type 0) → List T.Branch → Type 0
All P [] = Unit {0}
All P (b ∷ r) = P b × All P r

all_append : (P : T.Branch → Type 0) (xs ys : List T.Branch) → All P xs → All P ys → All P (xs ++ ys)
all_append P [] ys h k = k
all_append P (x ∷ xs) ys h k = (h.0, all_append P xs ys h.1 k)

all_map : {P Q : T.Branch → Type 0} (f : (b : T.Branch) → P b → Q b) (xs : List T.Branch) → All P xs → All Q xs
all_map f [] h = tt
all_map f (x ∷ xs) h = (f x h.0, all_map f xs h.1)

all_every : (f : T.Branch → Bool) (xs : List T.Branch) → All (λ b. f b ≡ true) xs → every f xs ≡ true
unfolding every
all_every f [] h = refl
all_every f (x ∷ xs) h = join h.0 (all_every f xs h.1)

some_left : {A : Type 0} (f : A → Bool) (xs ys : List A) → some_one f xs ≡ true → some_one f (xs ++ ys) ≡ true
unfolding some_one
some_left f [] ys h = absurd (false≢true h)
some_left f (x ∷ xs) ys h = go (f x) h (λ h. some_left f xs ys h)
  where
    go : (b : Bool) → (b || some_one f xs) ≡ true → (some_one f xs ≡ true → some_one f (xs ++ ys) ≡ true) → (b || some_one f (xs ++ ys)) ≡ true
    go true h i = refl
    go false h i = i h

some_right : {A : Type 0} (f : A → Bool) (xs ys : List A) → some_one f ys ≡ true → some_one f (xs ++ ys) ≡ true
unfolding some_one
some_right f [] ys h = h
some_right f (x ∷ xs) ys h = or_right (f x) (some_right f xs ys h)

-- ---- owners and labels

abbrev Within : ℕ → ℕ → T.Branch → Type 0
Within n k b = (n ≤ b.owner) × (b.owner < n + k)

-- a branch of the choice, with a label of it; or one of the states after
abbrev Of : Br → ℕ → ℕ → T.Branch → Type 0
Of bs o n b = ((b.owner ≡ o) × ((l : ℕ) × (label_among bs l ≡ true) × Label l × (b.label ≡ label_of l))) ⊎ Within n (length (sorts_br bs)) b

of_also : (l : ℕ) (fs : List SyntaxField) (sh : Share) (t : Ty) (bs : Br) (o n : ℕ) (b : T.Branch) → Of bs o (n + length (sorts t)) b → Of (also l fs sh t bs) o n b
of_also l fs sh t bs o n b (inl w) = inl (w.0, (w.1.0, later (eqb l w.1.0) w.1.1, w.1.2, w.1.3))
of_also l fs sh t bs o n b (inr w) =
    let len = length-append (sorts t) (sorts_br bs) in
    let lo = w.0 in
    let hi = w.1 in
    inr (omega arith, omega (arith, len))

mutual
  owners : (t : Ty) (e : Scope) (n : ℕ) → Labelled t → All (Within n (length (sorts t))) (branches t e n)
  owners stop e n d = tt
  owners (var x) e n d = tt
  owners (loop x t) e n d = owners t (bind x n e) n d
  owners (choice w bs) e n d =
      all_map (λ b h. ⊎_elim (λ w. let o = w.0 in (omega arith, omega arith)) (λ w. let lo = w.0 in let hi = w.1 in (omega arith, omega arith)) h)
      (branches_br bs e n (suc n)) (owners_br bs e n (suc n) d)

  owners_br : (bs : Br) (e : Scope) (o n : ℕ) → LabelledBr bs → All (Of bs o n) (branches_br bs e o n)
  owners_br (last l fs sh t) e o n d = (inl (refl, (l, eq-eqb l l refl, d.0, refl)), all_map (λ b w. inr w) (branches t e n) (owners t e n d.1))
  owners_br (also l fs sh t bs) e o n d =
      let len = length-append (sorts t) (sorts_br bs) in
      let N = n + length (sorts t) in (
        inl (refl, (l, ap (λ c. cond c true (label_among bs l)) (eq-eqb l l refl), d.0, refl)),
        all_append (Of (also l fs sh t bs) o n) (branches t e n) (branches_br bs e o N)
            (all_map (λ b w. let lo = w.0 in let hi = w.1 in inr (omega arith, omega (arith, len))) (branches t e n) (owners t e n d.1.0))
            (all_map (λ b h. of_also l fs sh t bs o n b h) (branches_br bs e o N) (owners_br bs e o N d.1.1)),
      )

apart : (b c : T.Branch) → (b.owner ≡ c.owner → ⊥) → not (clash b c) ≡ true
unfolding clash
apart b c h = ap not (left_fails (same b.label c.label) (ne_eqb b.owner c.owner h))

unlike : (b c : T.Branch) → same b.label c.label ≡ false → not (clash b c) ≡ true
unfolding clash
unlike b c h = ap not (right_fails (eqb b.owner c.owner) h)

-- a label that is new is new as bytes
new_label : (bs : Br) (l k : ℕ) → Label l → Label k → label_among bs l ≡ false → label_among bs k ≡ true → same (label_of l) (label_of k) ≡ false
new_label bs l k p q h g =
    refuted (same (label_of l) (label_of k)) (λ e. never (subst (λ (x : ℕ). label_among bs x ≡ true) (sym (label_eq l k p.small q.small (same_eq (label_of l) (label_of k) e))) g) h)

differ_append : (xs ys : List T.Branch) → labels_differ xs ≡ true → labels_differ ys ≡ true → All (λ b. All (λ c. not (clash b c) ≡ true) ys) xs
    → labels_differ (xs ++ ys) ≡ true
unfolding labels_differ
differ_append [] ys h k a = k
differ_append (x ∷ xs) ys h k a =
    let w = both (every (λ c. not (clash x c)) xs) (labels_differ xs) h in
    join (every_append (λ c. not (clash x c)) xs ys w.0 (all_every (λ c. not (clash x c)) ys a.0)) (differ_append xs ys w.1 k a.1)

mutual
  unfolding labels_differ every

  differ : (t : Ty) (e : Scope) (n : ℕ) → Labelled t → labels_new t ≡ true → labels_differ (branches t e n) ≡ true
  differ stop e n i d = refl
  differ (var x) e n i d = refl
  differ (loop x t) e n i d = differ t (bind x n e) n i d
  differ (choice w bs) e n i d = differ_br bs e n (suc n) (omega arith) i d

  differ_br : (bs : Br) (e : Scope) (o n : ℕ) → o < n → LabelledBr bs → labels_new_br bs ≡ true → labels_differ (branches_br bs e o n) ≡ true
  differ_br (last l fs sh t) e o n a i d =
      let b = branch_for o l fs (first_state t e n) in
      join
      (all_every (λ c. not (clash b c)) (branches t e n) (all_map (λ c w. let lo = w.0 in apart b c (omega arith)) (branches t e n) (owners t e n i.1)))
      (differ t e n i.1 d)
  differ_br (also l fs sh t bs) e o n a i d =
      let N = n + length (sorts t) in
      let b = branch_for o l fs (first_state t e n) in
      let u = both (not (label_among bs l) && labels_new t) (labels_new_br bs) d in
      let v = both (not (label_among bs l)) (labels_new t) u.0 in
      let xs = branches t e n in
      let ys = branches_br bs e o N in
      let own = owners t e n i.1.0 in
      let ownBr = owners_br bs e o N i.1.1 in
      join
      (every_append (λ c. not (clash b c)) xs ys
      (all_every (λ c. not (clash b c)) xs (all_map (λ c w. let lo = w.0 in apart b c (omega arith)) xs own))
      (all_every (λ c. not (clash b c)) ys
      (all_map
      (λ c h. ⊎_elim
      (λ k. unlike b c (ap (λ (x : List ℕ). same (label_of l) x) k.1.3 ∙ new_label bs l k.1.0 i.0 k.1.2 (not-true (label_among bs l) v.0) k.1.1))
      (λ k. let lo = k.0 in apart b c (omega arith)) h)
      ys ownBr)))
      (differ_append xs ys (differ t e n i.1.0 v.1) (differ_br bs e o N (omega arith) i.1.1 u.1)
      (all_map
      (λ x v. let lo = v.0 in let hi = v.1 in
      all_map (λ c h. ⊎_elim (λ k. let q = k.0 in apart x c (omega arith)) (λ k. let q = k.0 in apart x c (omega arith)) h) ys ownBr)
      xs own))

-- ---- each choice owns a branch

owns_append : (bs : List T.Branch) (i : ℕ) (xs ys : List T.Sort) → choices_own bs i xs ≡ true → choices_own bs (i + length xs) ys ≡ true
    → choices_own bs i (xs ++ ys) ≡ true
unfolding choices_own
owns_append bs i [] ys h k = let z : i + 0 ≡ i = omega arith in subst (λ i. choices_own bs i ys ≡ true) z k
owns_append bs i (x ∷ xs) ys h k =
    let w = both (not (is_choice x) || some_one (λ b. eqb b.owner i) bs) (choices_own bs (suc i) xs) h in
    let z : i + suc (length xs) ≡ suc i + length xs = omega arith in
    join w.0 (owns_append bs (suc i) xs ys w.1 (subst (λ i. choices_own bs i ys ≡ true) z k))

abbrev Among : List T.Branch → List T.Branch → Type 0
Among xs bs = (f : T.Branch → Bool) → some_one f xs ≡ true → some_one f bs ≡ true

starts_own : (bs : Br) (e : Scope) (o n : ℕ) → some_one (λ b. eqb b.owner o) (branches_br bs e o n) ≡ true
unfolding some_one
starts_own (last l fs sh t) e o n = or_left (some_one (λ b. eqb b.owner o) (branches t e n)) (eq-eqb o o refl)
starts_own (also l fs sh t bs) e o n =
    or_left (some_one (λ b. eqb b.owner o) (branches t e n ++ branches_br bs e o (n + length (sorts t)))) (eq-eqb o o refl)

mutual
  unfolding choices_own some_one is_choice

  owns : (t : Ty) (e : Scope) (n : ℕ) (all : List T.Branch) → Among (branches t e n) all → choices_own all n (sorts t) ≡ true
  owns stop e n all h = refl
  owns (var x) e n all h = refl
  owns (loop x t) e n all h = owns t (bind x n e) n all h
  owns (choice w bs) e n all h =
      join (or_right (not (is_choice (way_sort w))) (h (λ b. eqb b.owner n) (starts_own bs e n (suc n)))) (owns_br bs e n (suc n) all h)

  owns_br : (bs : Br) (e : Scope) (o n : ℕ) (all : List T.Branch) → Among (branches_br bs e o n) all → choices_own all n (sorts_br bs) ≡ true
  owns_br (last l fs sh t) e o n all h = owns t e n all (λ f k. h f (or_right (f (branch_for o l fs (first_state t e n))) k))
  owns_br (also l fs sh t bs) e o n all h =
      let N = n + length (sorts t) in
      let b = branch_for o l fs (first_state t e n) in
      owns_append all n (sorts t) (sorts_br bs)
      (owns t e n all (λ f k. h f (or_right (f b) (some_left f (branches t e n) (branches_br bs e o N) k))))
      (owns_br bs e o N all (λ f k. h f (or_right (f b) (some_right f (branches t e n) (branches_br bs e o N) k))))

-- ---- each branch is legal

-- a bare name is bound outside the type
bare_bound : (t : Ty) (xs : List ℕ) (x : ℕ) → names_bound t xs ≡ true → bare t x ≡ true → one_of xs x ≡ true
bare_bound stop xs x c b = absurd (false≢true b)
bare_bound (var y) xs x c b = subst (λ (z : ℕ). one_of xs z ≡ true) (eqb-true y x b) c
bare_bound (loop y t) xs x c b = go (eqb y x) refl (bare_bound t (y ∷ xs) x c) b
  where
    go : (d : Bool) → eqb y x ≡ d → (bare t x ≡ true → one_of (y ∷ xs) x ≡ true) → cond d false (bare t x) ≡ true → one_of xs x ≡ true
    go true e h b = absurd (false≢true b)
    go false e h b = rw (ne_eqb x y (λ z. eqb-false y x e (sym z))) at (h b)
bare_bound (choice w bs) xs x c b = absurd (false≢true b)

pub choice_is : (w : Way) → is_choice (way_sort w) ≡ true
unfolding is_choice
choice_is sending = refl
choice_is receiving = refl

number_legal : (κ : ℕ) (n : Signed) → in_kind κ n ≡ true → within_kind κ (offset n) ≡ true
unfolding in_kind
number_legal κ n e = (both (not n.minus || leb n.value 2147483648) (within_kind κ (offset n)) e).1

field_legal : (f : SyntaxField) → range_legal f ≡ true → legal_field (field_of f) ≡ true
unfolding range_legal legal_field
field_legal f e =
    let κ = kind_code f.kind in
    let a = both (in_kind κ f.low && in_kind κ f.high) (leb (offset f.low) (offset f.high)) e in
    let b = both (in_kind κ f.low) (in_kind κ f.high) a.0 in
    join (join (number_legal κ f.low b.0) (number_legal κ f.high b.1)) a.1

every_field : (fs : List SyntaxField) → every range_legal fs ≡ true → every legal_field (map field_of fs) ≡ true
unfolding every
every_field [] e = refl
every_field (f ∷ fs) e = let p = both (range_legal f) (every range_legal fs) e in join (field_legal f p.0) (every_field fs p.1)

module _ (U : T.Table) where
  -- the sorts from n on
  abbrev At : ℕ → List T.Sort → Type 0
  At n ss = (k : ℕ) → k < length ss → sort U (n + k) ≡ get_or ss k T.ends

  at_head : (n : ℕ) (c : T.Sort) (ss : List T.Sort) → At n (c ∷ ss) → sort U n ≡ c
  at_head n c ss a = let z : n ≡ n + 0 = omega arith in ap (sort U) z ∙ a 0 (omega arith)

  at_next : (n : ℕ) (c : T.Sort) (ss : List T.Sort) → At n (c ∷ ss) → At (suc n) ss
  at_next n c ss a k h = let z : suc n + k ≡ n + suc k = omega arith in ap (sort U) z ∙ a (suc k) (omega arith)

  at_left : (n : ℕ) (xs ys : List T.Sort) → At n (xs ++ ys) → At n xs
  at_left n xs ys a k h = a k (omega (arith, length-append xs ys)) ∙ get_or-append xs ys T.ends k h

  at_right : (n : ℕ) (xs ys : List T.Sort) → At n (xs ++ ys) → At (n + length xs) ys
  at_right n xs ys a k h =
      let z : n + length xs + k ≡ n + (length xs + k) = omega arith in
      ap (sort U) z ∙ a (length xs + k) (omega (arith, length-append xs ys)) ∙ get_or-append-add xs ys k T.ends

  -- the name means a state; so do those that are bound
  abbrev Means : Scope → ℕ → Type 0
  Means e x = (k : ℕ) × (e x ≡ some k) × (k < length U.sorts)

  abbrev Scoped : List ℕ → Scope → Type 0
  Scoped xs e = (x : ℕ) → one_of xs x ≡ true → Means e x

  scoped_more : (x n : ℕ) (xs : List ℕ) (e : Scope) → n < length U.sorts → Scoped xs e → Scoped (x ∷ xs) (bind x n e)
  unfolding bind
  scoped_more x n xs e h s y = go (eqb y x) refl
    where
      go : (b : Bool) → eqb y x ≡ b → cond b true (one_of xs y) ≡ true → Means (bind x n e) y
      go true f g = (n, ap (λ b. cond b (some n) (e y)) (eq-eqb x y (sym (eqb-true y x f))), h)
      go false f g =
          let r = s y g in
          (r.0, ap (λ b. cond b (some n) (e y)) (ne_eqb x y (λ z. eqb-false y x f (sym z))) ∙ r.1, r.2)

  -- a type whose bare names mean states begins in a state
  target_in : (t : Ty) (e : Scope) (n : ℕ) → n + length (sorts t) ≤ length U.sorts → ((x : ℕ) → bare t x ≡ true → Means e x) → recs_guarded t ≡ true
      → first_state t e n < length U.sorts
  unfolding bind
  target_in stop e n h s g = omega arith
  target_in (var x) e n h s g =
      let r = s x (eq-eqb x x refl) in
      let l = r.2 in
      subst (λ (i : Option ℕ). or_else i n < length U.sorts) (sym r.1) l
  target_in (loop x t) e n h s g =
      let w = both (not (bare t x)) (recs_guarded t) g in
      target_in t (bind x n e) n h (λ y b. let o = bare_other t x y w.0 b in rw o (s y (rw o b))) w.1
  target_in (choice w bs) e n h s g = omega arith

  legal_made : (l : ℕ) (fs : List SyntaxField) (o n : ℕ) → o < length U.sorts → is_choice (sort U o) ≡ true → n < length U.sorts
      → Label l → every range_legal fs ≡ true → leb (length fs) 4 ≡ true → legal_branch U (branch_for o l fs n) ≡ true
  unfolding legal_branch
  legal_made l fs o n a b c d f g =
      join (join (join (join (join (lt-ltb o (length U.sorts) a) b) (lt-ltb n (length U.sorts) c)) d.legal) (ap (λ (i : ℕ). leb i 4) (length-map fs field_of) ∙ g)) (every_field fs f)

  mutual
    unfolding every

    all_legal : (t : Ty) (e : Scope) (xs : List ℕ) (n : ℕ) → At n (sorts t) → n + length (sorts t) ≤ length U.sorts → (0 < length (sorts t) → Scoped xs e) → names_bound t xs ≡ true
        → recs_guarded t ≡ true → ranges_legal t ≡ true → fields_few t ≡ true → Labelled t → every (legal_branch U) (branches t e n) ≡ true
    all_legal stop e xs n a h s c g l m d = refl
    all_legal (var x) e xs n a h s c g l m d = refl
    all_legal (loop x t) e xs n a h s c g l m d =
        all_legal t (bind x n e) (x ∷ xs) n a h (λ p. scoped_more x n xs e (omega arith) (s p)) c (both (not (bare t x)) (recs_guarded t) g).1 l m d
    all_legal (choice w bs) e xs n a h s c g l m d =
        all_legal_br bs e xs n (suc n) (at_next n (way_sort w) (sorts_br bs) a) (omega arith) (ap is_choice (at_head n (way_sort w) (sorts_br bs) a) ∙ choice_is w) (omega arith) (s (omega arith)) c g l m d

    all_legal_br : (bs : Br) (e : Scope) (xs : List ℕ) (o n : ℕ) → At n (sorts_br bs) → o < length U.sorts → is_choice (sort U o) ≡ true
        → n + length (sorts_br bs) ≤ length U.sorts → Scoped xs e → names_bound_br bs xs ≡ true → recs_guarded_br bs ≡ true → ranges_legal_br bs ≡ true → fields_few_br bs ≡ true → LabelledBr bs
        → every (legal_branch U) (branches_br bs e o n) ≡ true
    all_legal_br (last k fs sh t) e xs o n a b i h s c g l m d =
        let w = both (every range_legal fs) (ranges_legal t) l in
        let y = both (leb (length fs) 4) (fields_few t) m in
        join (legal_made k fs o (first_state t e n) b i (target_in t e n h (λ x b. s x (bare_bound t xs x c b)) g) d.0 w.0 y.0) (all_legal t e xs n a h (λ p. s) c g w.1 y.1 d.1)
    all_legal_br (also k fs sh t bs) e xs o n a b i h s c g l m d =
        let N = n + length (sorts t) in
        let len = length-append (sorts t) (sorts_br bs) in
        let w = all_three (every range_legal fs) (ranges_legal t) (ranges_legal_br bs) l in
        let y = all_three (leb (length fs) 4) (fields_few t) (fields_few_br bs) m in
        let p = both (recs_guarded t) (recs_guarded_br bs) g in
        let q = both (names_bound t xs) (names_bound_br bs xs) c in
        join (legal_made k fs o (first_state t e n) b i (target_in t e n (omega (arith, len)) (λ x b. s x (bare_bound t xs x q.0 b)) p.0) d.0 w.0 y.0)
        (every_append (legal_branch U) (branches t e n) (branches_br bs e o N)
        (all_legal t e xs n (at_left n (sorts t) (sorts_br bs) a) (omega (arith, len)) (λ p. s) q.0 p.0 w.1 y.1 d.1.0)
        (all_legal_br bs e xs o N (at_right n (sorts t) (sorts_br bs) a) b i (omega (arith, len)) s q.1 p.1 w.2 y.2 d.1.1))

-- ---- the theorems

pub legal_sound : (p : Protocol) → Legal p → Labelled p.type → sound (table_of p) ≡ true
unfolding sound table_of sort
legal_sound p f d =
    let t = p.type in
    let n : ℕ = length (sorts t) in
    let begins = target_in (table_of p) t nothing_bound 0 (omega arith) (λ x b. absurd (false≢true (bare_bound t [] x f.bound b))) f.guarded in
    join
    (join
    (join
    (join (join (le-leb 1 n (omega arith)) (le-leb n 32 f.states)) (le-leb (length (branches t nothing_bound 0)) 128 f.branches))
    (all_legal (table_of p) t nothing_bound [] 0 (λ k h. ap (λ (i : ℕ). get_or (sorts t) i T.ends) (none_more k)) (omega arith) (λ p x h. absurd (false≢true h)) f.bound f.guarded f.ranges f.fields d))
    (owns t nothing_bound 0 (branches t nothing_bound 0) (λ g h. h)))
    (differ t nothing_bound 0 d f.labels)
  where
    none_more : (k : ℕ) → 0 + k ≡ k
    none_more k = omega arith

pub legal_kept : (p : Protocol) → Legal p → shares_kept (table_of p) ≡ true
unfolding shares_kept table_of
legal_kept p f =
    let t = p.type in
    upto_every (λ i. shares_right (of_choice i (branches t nothing_bound 0) (shares t))) (length (sorts t)) (λ i. i) (λ i l. all_right t nothing_bound 0 i f.sums)

-- the edition is 1 or 2
pub legal_edition : (p : Protocol) → Legal p → known_edition (table_of p).edition ≡ true
unfolding table_of known_edition
legal_edition p f = go p.opening f.edition
  where
    go : (o : Option Signed) → opening_legal o ≡ true → known_edition (edition_named o) ≡ true
    go none h = refl
    go (some n) h = (both (not n.minus) (known_edition n.value) h).1
