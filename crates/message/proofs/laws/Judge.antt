-- What a state allows and how a message is judged, by the branch that has its label: in a sound table there is at most one.
-- Assumes nothing.
use Rattle.std.proofs.Common.{◌≡◌, ℕ, zero, suc, ◌+◌, ◌<◌, Bool, true, false, cond, not, ◌&&◌, eqb, ◌⊎◌, ◌↔◌, List, [], ◌∷◌, length, get_or, sym, refl, ap, ◌∙◌, subst, ap₂, inl, inr, ⊎_elim, suc-le-suc, zero-le, le_of_suc-le-suc, not-suc-le-zero, add-zero, zero-add, suc-ne-zero, arith, eq-eqb, eqb-true}
use mathlib.Core.Bool.{false≢true}
use mathlib.Core.Option.{Option, none, some}
use native.Mathlib.Nat.{suc_inj}
use borrow.Author.Tests.{not-true}
use Rattle.table.specs.Lists.{every, matched, same}
use Rattle.table.specs.Table.{Field, Branch, Table, clash, labels_differ, sound}
use Rattle.table.proofs.laws.Lists.{never, both, join, left_fails, right_fails, decided, refuted}
use Rattle.table.proofs.laws.View.{same_eq, same_refl}
use Rattle.table.proofs.laws.Table.{every_get_d, sound_parts}
use Rattle.message.specs.Message.{Value, Message}
use Rattle.message.specs.Judge.{same_kind, in_range, holds, names, carries, goes, allows, Judgement, allowed, first_outside, by_range, by_fields, judge_among, judge, forbidden}
use Rattle.message.specs.Make.{branch}
use Rattle.message.specs.MessageTheorems.{Named, nth_field, nth_value, FirstOutside}

-- nothing is not something
pub none_some : {A X : Type 0} {a : A} → none ≡ some a → X
none_some e = let z : ◌≡◌ {A = ℕ} 0 1 = cc in absurd (omega arith)

pub some_eq : {A : Type 0} {a b : A} → some a ≡ some b → a ≡ b
some_eq e = cc

-- ---- the branch that has the label

pub names_parts : (i : ℕ) (label : List ℕ) (b : Branch) → names i label b ≡ true → (b.owner ≡ i) × (b.label ≡ label)
unfolding names
names_parts i label b e =
    let x = both (eqb b.owner i) (same b.label label) e in
    (eqb-true b.owner i x.0, same_eq b.label label x.1)

pub names_by : (i : ℕ) (label : List ℕ) (b : Branch) → b.owner ≡ i → b.label ≡ label → names i label b ≡ true
unfolding names
names_by i label b o l = join (eq-eqb b.owner i o) (subst (λ x. same b.label x ≡ true) l (same_refl b.label))

-- two branches that have it clash
names_clash : (i : ℕ) (label : List ℕ) (b c : Branch) → names i label b ≡ true → names i label c ≡ true → clash b c ≡ true
unfolding clash
names_clash i label b c p q =
    let x = names_parts i label b p in
    let y = names_parts i label c q in
    join (eq-eqb b.owner c.owner (x.0 ∙ sym y.0)) (subst (λ l. same b.label l ≡ true) (x.1 ∙ sym y.1) (same_refl b.label))

-- so that none after the first has it
module _ (i : ℕ) (label : List ℕ) (b : Branch) (r : List Branch) (e : labels_differ (b ∷ r) ≡ true) where
  rest_differ : labels_differ r ≡ true
  unfolding labels_differ
  rest_differ = (both (every (λ c. not (clash b c)) r) (labels_differ r) e).1

  none_after : names i label b ≡ true → (d : Branch) (k : ℕ) → k < length r → names i label (get_or r k d) ≡ false
  unfolding labels_differ
  none_after p d k l =
      refuted (names i label (get_or r k d))
      (λ q. never (names_clash i label b (get_or r k d) p q)
      (not-true (clash b (get_or r k d)) (every_get_d (λ c. not (clash b c)) r d (both (every (λ c. not (clash b c)) r) (labels_differ r) e).0 k l)))

  none_before : (d : Branch) (k : ℕ) → k < length r → names i label (get_or r k d) ≡ true → names i label b ≡ false
  none_before d k l q = refuted (names i label b) (λ p. never q (none_after p d k l))

module _ (i : ℕ) (m : Message) (d : Branch) where
  -- where no branch has the label
  none_judged : (bs : List Branch) → ((k : ℕ) → k < length bs → names i m.label (get_or bs k d) ≡ false) → judge_among bs i m ≡ (forbidden 1 none)
  unfolding judge_among
  none_judged [] h = refl
  none_judged (b ∷ r) h =
      ap (λ x. cond x (by_fields b.fields b.target m.values) (judge_among r i m)) (h zero (suc-le-suc zero-le))
      ∙ none_judged r (λ k l. h (suc k) (suc-le-suc l))

  none_goes : (bs : List Branch) → ((k : ℕ) → k < length bs → names i m.label (get_or bs k d) ≡ false) → goes bs i m ≡ none
  unfolding goes carries
  none_goes [] h = refl
  none_goes (b ∷ r) h =
      ap (λ x. cond x (some b.target) (goes r i m)) (left_fails (matched holds b.fields m.values) (h zero (suc-le-suc zero-le)))
      ∙ none_goes r (λ k l. h (suc k) (suc-le-suc l))

  -- where branch k has it
  one_judged : (bs : List Branch) → labels_differ bs ≡ true → (k : ℕ) → k < length bs → names i m.label (get_or bs k d) ≡ true
      → judge_among bs i m ≡ by_fields (get_or bs k d).fields (get_or bs k d).target m.values
  unfolding judge_among
  one_judged [] e k l q = absurd (not-suc-le-zero l)
  one_judged (b ∷ r) e zero l q = ap (λ x. cond x (by_fields b.fields b.target m.values) (judge_among r i m)) q
  one_judged (b ∷ r) e (suc k) l q =
      ap (λ x. cond x (by_fields b.fields b.target m.values) (judge_among r i m)) (none_before i m.label b r e d k (le_of_suc-le-suc l) q)
      ∙ one_judged r (rest_differ i m.label b r e) k (le_of_suc-le-suc l) q

  one_goes : (bs : List Branch) → labels_differ bs ≡ true → (k : ℕ) → k < length bs → names i m.label (get_or bs k d) ≡ true
      → goes bs i m ≡ cond (matched holds (get_or bs k d).fields m.values) (some (get_or bs k d).target) none
  unfolding goes carries
  one_goes [] e k l q = absurd (not-suc-le-zero l)
  one_goes (b ∷ r) e zero l q =
      ap (λ x. cond (x && matched holds b.fields m.values) (some b.target) (goes r i m)) q
      ∙ ap (λ x. cond (matched holds b.fields m.values) (some b.target) x) (none_goes r (none_after i m.label b r e q d))
  one_goes (b ∷ r) e (suc k) l q =
      ap (λ x. cond x (some b.target) (goes r i m)) (left_fails (matched holds b.fields m.values) (none_before i m.label b r e d k (le_of_suc-le-suc l) q))
      ∙ one_goes r (rest_differ i m.label b r e) k (le_of_suc-le-suc l) q

  -- one of the two it is
  search_names : (bs : List Branch)
      → ((k : ℕ) × (k < length bs) × (names i m.label (get_or bs k d) ≡ true)) ⊎ ((k : ℕ) → k < length bs → names i m.label (get_or bs k d) ≡ false)
  search_names [] = inr (λ k l. absurd (not-suc-le-zero l))
  search_names (b ∷ r) =
      ⊎_elim (λ (p : names i m.label b ≡ true). inl (zero, suc-le-suc zero-le, p))
      (λ (p : names i m.label b ≡ false).
      ⊎_elim (λ x. inl (suc x.0, suc-le-suc x.1, x.2)) (λ x. inr (at p x)) (search_names r)) (decided (names i m.label b))
    where
      at : names i m.label b ≡ false → ((k : ℕ) → k < length r → names i m.label (get_or r k d) ≡ false)
          → (k : ℕ) → k < suc (length r) → names i m.label (get_or (b ∷ r) k d) ≡ false
      at p q zero l = p
      at p q (suc k) l = q k (le_of_suc-le-suc l)

module _ (t : Table) (i : ℕ) (label : List ℕ) (k : ℕ) where
  named_names : Named t i label k → names i label (branch t k) ≡ true
  named_names n = names_by i label (branch t k) n.owned n.labelled

  names_named : k < length t.branches → names i label (branch t k) ≡ true → Named t i label k
  names_named l e =
      let x = names_parts i label (branch t k) e in
      record { there = l; owned = x.0; labelled = x.1 }

-- what `branch` gives past the end
abbrev past : Branch
past = record { owner = 0; label = []; fields = []; target = 0 }

-- a branch of the state has the label, or none has
pub named_or_not : (t : Table) (i : ℕ) (label : List ℕ) → ((k : ℕ) × Named t i label k) ⊎ ((k : ℕ) → Named t i label k → ⊥)
unfolding branch
named_or_not t i label =
    ⊎_elim (λ x. inl (x.0, names_named t i label x.0 x.1 x.2))
    (λ x. inr (λ k n. false≢true (sym (x k n.there) ∙ named_names t i label k n)))
    (search_names i (record { label = label; values = [] }) past t.branches)

module _ (t : Table) (i : ℕ) (m : Message) where
  none_fails : ((k : ℕ) → Named t i m.label k → ⊥) → (k : ℕ) → k < length t.branches → names i m.label (branch t k) ≡ false
  none_fails h k l = refuted (names i m.label (branch t k)) (λ e. h k (names_named t i m.label k l e))

  not_judged : ((k : ℕ) → Named t i m.label k → ⊥) → judge t i m ≡ (forbidden 1 none)
  unfolding judge branch
  not_judged h = none_judged i m past t.branches (none_fails h)

  not_allowed : ((k : ℕ) → Named t i m.label k → ⊥) → allows t i m ≡ none
  unfolding allows branch
  not_allowed h = none_goes i m past t.branches (none_fails h)

  module _ (s : sound t ≡ true) where
    -- the branch that has the label decides
    pub judge_named : (k : ℕ) → Named t i m.label k → judge t i m ≡ by_fields (branch t k).fields (branch t k).target m.values
    unfolding judge branch
    judge_named k n = one_judged i m past t.branches (sound_parts t s).differ k n.there (named_names t i m.label k n)

    pub allows_named : (k : ℕ) → Named t i m.label k
        → allows t i m ≡ cond (matched holds (branch t k).fields m.values) (some (branch t k).target) none
    unfolding allows branch
    allows_named k n = one_goes i m past t.branches (sound_parts t s).differ k n.there (named_names t i m.label k n)

-- ---- fields and values

-- as the definition counts them, from k on
outside_is : (fs : List Field) (vs : List Value) (k f : ℕ) → first_outside k fs vs ≡ some f → (g : ℕ) × (f ≡ k + g) × FirstOutside fs vs g
unfolding first_outside
outside_is [] vs k f e = none_some e
outside_is (a ∷ fs) [] k f e = none_some e
outside_is (a ∷ fs) (v ∷ vs) k f e = go (in_range a v) refl e (outside_is fs vs (suc k) f)
  where
    go : (b : Bool) → in_range a v ≡ b → cond b (first_outside (suc k) fs vs) (some k) ≡ some f
        → (first_outside (suc k) fs vs ≡ some f → (g : ℕ) × (f ≡ suc k + g) × FirstOutside fs vs g)
        → (g : ℕ) × (f ≡ k + g) × FirstOutside (a ∷ fs) (v ∷ vs) g
    go true q e h =
        let x = h e in
        (suc x.0, omega (arith, x.1), record { there = suc-le-suc x.2.there; outside = x.2.outside; before = before q x.2.before })
      where
        before : {n : ℕ} → in_range a v ≡ true → ((g : ℕ) → g < n → in_range (nth_field fs g) (nth_value vs g) ≡ true)
            → (g : ℕ) → g < suc n → in_range (nth_field (a ∷ fs) g) (nth_value (v ∷ vs) g) ≡ true
        before p h zero l = p
        before p h (suc g) l = h g (le_of_suc-le-suc l)
    go false q e h =
        let z : k ≡ f = cc in
        (zero, omega arith, record { there = suc-le-suc zero-le; outside = q; before = λ g l. absurd (not-suc-le-zero l) })

is_outside : (fs : List Field) (vs : List Value) (k g : ℕ) → length fs ≡ length vs → FirstOutside fs vs g → first_outside k fs vs ≡ some (k + g)
unfolding first_outside
is_outside [] vs k g l x = absurd (not-suc-le-zero x.there)
is_outside (a ∷ fs) [] k g l x = absurd (suc-ne-zero (length fs) l)
is_outside (a ∷ fs) (v ∷ vs) k zero l x =
    ap (λ b. cond b (first_outside (suc k) fs vs) (some k)) x.outside ∙ ap some (sym (add-zero k))
is_outside (a ∷ fs) (v ∷ vs) k (suc g) l x =
    ap (λ b. cond b (first_outside (suc k) fs vs) (some k)) (x.before zero (suc-le-suc zero-le))
    ∙ is_outside fs vs (suc k) g (suc_inj l)
    (record { there = le_of_suc-le-suc x.there; outside = x.outside; before = λ g l. x.before (suc g) (suc-le-suc l) })
    ∙ ap some (omega arith)

pub matched_length : {A B : Type 0} (f : A → B → Bool) (r : List A) (s : List B) → matched f r s ≡ true → length r ≡ length s
unfolding matched
matched_length f [] [] e = refl
matched_length f [] (b ∷ s) e = absurd (false≢true e)
matched_length f (a ∷ r) [] e = absurd (false≢true e)
matched_length f (a ∷ r) (b ∷ s) e = ap suc (matched_length f r s (both (f a b) (matched f r s) e).1)

-- fields hold values where the kinds are the same and no number is outside
no_one : Option ℕ → Bool
no_one none = true
no_one (some f) = false

holds_all : (fs : List Field) (vs : List Value) (k : ℕ) → matched holds fs vs ≡ (matched same_kind fs vs && no_one (first_outside k fs vs))
unfolding matched holds first_outside no_one
holds_all [] [] k = refl
holds_all [] (v ∷ vs) k = refl
holds_all (f ∷ fs) [] k = refl
holds_all (f ∷ fs) (v ∷ vs) k = go (same_kind f v) (in_range f v) (holds_all fs vs (suc k))
  where
    go : (a b : Bool) → matched holds fs vs ≡ (matched same_kind fs vs && no_one (first_outside (suc k) fs vs))
        → (a && b && matched holds fs vs) ≡ (a && matched same_kind fs vs && no_one (cond b (first_outside (suc k) fs vs) (some k)))
    go true true e = e
    go true false e = sym (right_fails (matched same_kind fs vs) refl)
    go false b e = refl

-- ---- a branch's judgement

module _ (b : Branch) (vs : List Value) where
  -- by whether the kinds are the same, and the first field outside
  ruled : Bool → Option ℕ → Judgement ℕ
  ruled s o = cond s (by_range b.target o) (forbidden 2 none)

  unlabelled : by_fields b.fields b.target vs ≡ forbidden 1 none → ⊥
  unfolding by_fields by_range ruled
  unlabelled e = go (matched same_kind b.fields vs) (first_outside 0 b.fields vs) e
    where
      go : (s : Bool) (o : Option ℕ) → ruled s o ≡ forbidden 1 none → ⊥
      go true none e = let z : ◌≡◌ {A = ℕ} 0 1 = cc in omega arith
      go true (some f) e = let z : ◌≡◌ {A = ℕ} 0 1 = cc in omega arith
      go false o e = let z : ◌≡◌ {A = ℕ} 0 1 = cc in omega arith

  branch_other_kinds : by_fields b.fields b.target vs ≡ forbidden 2 none ↔ (matched same_kind b.fields vs ≡ false)
  unfolding by_fields by_range ruled
  branch_other_kinds = go (matched same_kind b.fields vs) (first_outside 0 b.fields vs)
    where
      go : (s : Bool) (o : Option ℕ) → ruled s o ≡ forbidden 2 none ↔ (s ≡ false)
      go true none = (λ e. let z : ◌≡◌ {A = ℕ} 0 1 = cc in absurd (omega arith), λ e. never refl e)
      go true (some f) = (λ e. let z : ◌≡◌ {A = ℕ} 0 1 = cc in absurd (omega arith), λ e. never refl e)
      go false o = (λ e. refl, λ e. refl)

  branch_out_of_range : (f : ℕ) → by_fields b.fields b.target vs ≡ forbidden 3 (some f) ↔ ((matched same_kind b.fields vs ≡ true) × FirstOutside b.fields vs f)
  unfolding by_fields by_range ruled
  branch_out_of_range f =
      let x = go (matched same_kind b.fields vs) (first_outside 0 b.fields vs) in (
        λ e.
            let y = x.0 e in
            let z = outside_is b.fields vs 0 f y.1 in
            (y.0, subst (FirstOutside b.fields vs) (sym (z.1 ∙ zero-add z.0)) z.2),
        λ y. x.1 (y.0, is_outside b.fields vs 0 f (matched_length same_kind b.fields vs y.0) y.1 ∙ ap some (zero-add f)),
      )
    where
      go : (s : Bool) (o : Option ℕ) → ruled s o ≡ forbidden 3 (some f) ↔ ((s ≡ true) × (o ≡ some f))
      go true none = (λ e. let z : ◌≡◌ {A = ℕ} 0 1 = cc in absurd (omega arith), λ x. none_some x.1)
      go true (some g) = (λ e. let z : g ≡ f = cc in (refl, ap some z), λ x. let z : g ≡ f = some_eq x.1 in ap (λ f. forbidden 3 (some f)) z)
      go false o = (λ e. let z : ◌≡◌ {A = ℕ} 0 1 = cc in absurd (omega arith), λ x. never x.0 refl)

  pub branch_allowed : (j : ℕ) → by_fields b.fields b.target vs ≡ allowed j ↔ ((matched holds b.fields vs ≡ true) × (b.target ≡ j))
  unfolding by_fields by_range ruled no_one
  branch_allowed j = go (matched same_kind b.fields vs) (first_outside 0 b.fields vs) (holds_all b.fields vs 0)
    where
      go : (s : Bool) (o : Option ℕ) → matched holds b.fields vs ≡ (s && no_one o)
          → ruled s o ≡ allowed j ↔ ((matched holds b.fields vs ≡ true) × (b.target ≡ j))
      go true none h = (λ e. let z : b.target ≡ j = cc in (h, z), λ x. ap allowed x.1)
      go true (some f) h = (λ e. let z : ◌≡◌ {A = ℕ} 0 1 = cc in absurd (omega arith), λ x. never x.0 h)
      go false o h = (λ e. let z : ◌≡◌ {A = ℕ} 0 1 = cc in absurd (omega arith), λ x. never x.0 h)

-- ---- a table's judgement

module _ (t : Table) (s : sound t ≡ true) (i : ℕ) (m : Message) where
  -- what the branch with the label says is what the table says
  by_branch : (j : Judgement ℕ) → (j ≡ forbidden 1 none → ⊥) → (P : Branch → Type 0) → ((b : Branch) → by_fields b.fields b.target m.values ≡ j ↔ P b)
      → judge t i m ≡ j ↔ ((k : ℕ) × Named t i m.label k × P (branch t k))
  by_branch j other P h = (
    λ e. ⊎_elim (λ x. (x.0, x.1, (h (branch t x.0)).0 (sym (judge_named t i m s x.0 x.1) ∙ e)))
        (λ x. absurd (other (sym e ∙ not_judged t i m x))) (named_or_not t i m.label),
    λ x. judge_named t i m s x.0 x.1 ∙ (h (branch t x.0)).1 x.2,
  )

  -- reason 1: no branch of the state has the label
  pub judge_no_label : judge t i m ≡ forbidden 1 none ↔ ((k : ℕ) → Named t i m.label k → ⊥)
  judge_no_label = (λ e k n. unlabelled (branch t k) m.values (sym (judge_named t i m s k n) ∙ e), not_judged t i m)

  -- reason 2: the branch that has it has another count of fields, or other kinds
  pub judge_other_kinds : judge t i m ≡ forbidden 2 none
      ↔ ((k : ℕ) × Named t i m.label k × (matched same_kind (branch t k).fields m.values ≡ false))
  judge_other_kinds =
      by_branch (forbidden 2 none) (λ e. let z : ◌≡◌ {A = ℕ} 0 1 = cc in omega arith) (λ b. matched same_kind b.fields m.values ≡ false)
      (λ b. branch_other_kinds b m.values)

  -- reason 3: the kinds are the same, and f is the first field whose range does not hold its number
  pub judge_out_of_range : (f : ℕ) → judge t i m ≡ forbidden 3 (some f)
      ↔ ((k : ℕ) × Named t i m.label k × ((matched same_kind (branch t k).fields m.values ≡ true) × FirstOutside (branch t k).fields m.values f))
  judge_out_of_range f =
      by_branch (forbidden 3 (some f)) (λ e. let z : ◌≡◌ {A = ℕ} 0 1 = cc in omega arith)
      (λ b. (matched same_kind b.fields m.values ≡ true) × FirstOutside b.fields m.values f)
      (λ b. branch_out_of_range b m.values f)

  -- none of the three: the branch that has the label has the kinds, and ranges that hold the numbers
  pub judge_allowed : (j : ℕ) → judge t i m ≡ allowed j
      ↔ ((k : ℕ) × Named t i m.label k × ((matched holds (branch t k).fields m.values ≡ true) × ((branch t k).target ≡ j)))
  judge_allowed j =
      by_branch (allowed j) (λ e. let z : ◌≡◌ {A = ℕ} 0 1 = cc in omega arith)
      (λ b. (matched holds b.fields m.values ≡ true) × (b.target ≡ j))
      (λ b. branch_allowed b m.values j)

  pub allows_by : (j : ℕ) → allows t i m ≡ some j
      ↔ ((k : ℕ) × Named t i m.label k × ((matched holds (branch t k).fields m.values ≡ true) × ((branch t k).target ≡ j)))
  allows_by j = (
    λ e. ⊎_elim (λ x. (x.0, x.1, go (branch t x.0) (matched holds (branch t x.0).fields m.values) refl (sym (allows_named t i m s x.0 x.1) ∙ e)))
        (λ x. none_some (sym (not_allowed t i m x) ∙ e)) (named_or_not t i m.label),
    λ x. allows_named t i m s x.0 x.1 ∙ ap₂ (λ b n. cond b (some n) none) x.2.0 x.2.1,
  )
    where
      go : (b : Branch) (h : Bool) → matched holds b.fields m.values ≡ h → cond h (some b.target) none ≡ some j
          → (matched holds b.fields m.values ≡ true) × (b.target ≡ j)
      go b true q e = (q, some_eq e)
      go b false q e = none_some e

  -- so the monitor's judgement and the machine's rule are one
  pub judge_allows : (j : ℕ) → judge t i m ≡ allowed j ↔ allows t i m ≡ some j
  judge_allows j =
      let x = judge_allowed j in
      let y = allows_by j in
      (λ e. y.1 (x.0 e), λ e. x.1 (y.0 e))
