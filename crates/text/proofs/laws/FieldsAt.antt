-- The fields of a branch, by tokens and by the recursion of `fields_at`. Assumes nothing.
use mathlib.Core.Path.{◌≡◌, refl, sym, ap, fun_ext, ◌∙◌}
use mathlib.Core.Bool.{cond, Bool, true, false}
use mathlib.Core.List.{List, ◌∷◌}
use Prim.Native.Nat.{ℕ, zero, suc, ◌+◌, ◌≤◌, ◌<◌}
use native.Mathlib.Omega.{arith}
use lib.Dec.{eqb, leb, ltb}
use borrow.Author.Tests.{eqb-true, eqb-false, leb-false, le-ltb}
use Rattle.table.specs.Table.{Table, Branch}
use Rattle.grammar.specs.inner.Scanner.{token_at}
use Rattle.table.specs.Lists.{upto}
use Rattle.table.specs.View.{label_of}
use Rattle.grammar.specs.Number.{signed_in, offset, in_kind}
use Rattle.grammar.specs.Building.{labelled, field_added, denied, Built}
use Rattle.grammar.specs.Reading.{Item, just, fields, field, low, high, more_fields, Open, state, next_item, within_limits, kind_of, a_field}
use Rattle.text.specs.inner.Recursive.{step_answer, unexpected_at, passed, expect_at, bound_made, bounded, bound_at, range, after_step, after_bound, range_at, no_fields, with_field, placed, with_range, fielded, read_field, end_of_field, field_then, fields_from, fields_at, branch_of, then_read, with_fields}
use Rattle.grammar.specs.Token.{Token}
use Rattle.text.specs.inner.Answers.{Step, Bound, Range, Fields}
use Rattle.text.proofs.laws.Listed.{Clear, listed_length, with_listed, none_clear, placed_clear, field_clear}
use Rattle.text.proofs.laws.Moved.{at, moved, at_token}
use Rattle.text.proofs.laws.Taken.{wrong, sign_step, field_step, fields_step, more_fields_step, low_step, high_step}

-- to go on after a bound or a range, or to refuse as it does
abbrev on_bound : Bound → (ℕ → ℕ → Built) → Built
on_bound a f = cond (eqb a.question 0) (f a.at a.offset) (denied a.question a.at)

abbrev on_range : Range → (ℕ → ℕ → ℕ → Built) → Built
on_range a f = cond (eqb a.question 0) (f a.at a.low a.high) (denied a.question a.at)

step_range : (a : Step) (f : ℕ → Range) (g : ℕ → ℕ → ℕ → Built) → on_range (after_step a f) g ≡ then_read a (λ q. on_range (f q) g)
step_range a f g = go (eqb a.question 0) refl
  where
    go : (x : Bool) → eqb a.question 0 ≡ x → on_range (cond x (f a.at) (range a.question a.at 0 0)) g ≡ cond x (on_range (f a.at) g) (denied a.question a.at)
    go true e = refl
    go false e = rw e

bound_range : (a : Bound) (f : ℕ → ℕ → Range) (g : ℕ → ℕ → ℕ → Built) → on_range (after_bound a f) g ≡ on_bound a (λ q n. on_range (f q n) g)
bound_range a f g = go (eqb a.question 0) refl
  where
    go : (x : Bool) → eqb a.question 0 ≡ x
        → on_range (cond x (f a.at a.offset) (range a.question a.at 0 0)) g ≡ cond x (on_range (f a.at a.offset) g) (denied a.question a.at)
    go true e = refl
    go false e = rw e

-- no refusal by the grammar has the number 0
pub no_zero : (k : Token) → eqb (unexpected_at k).question 0 ≡ false
unfolding unexpected_at
no_zero k = go (eqb k.kind 1)
  where
    go : (c : Bool) → eqb (cond c 2 3) 0 ≡ false
    go true = refl
    go false = refl

module _ (s : List ℕ) (O : List Open) (T : Table) where
  -- a token of one kind that counts for no limit
  pub plain : (n : ℕ) (K : List Item) (b : Branch) (p : ℕ) → (n ≡ 0 → ⊥) → (n ≡ 1 → ⊥)
      → ((token_at s p).kind ≡ n → within_limits s (state (just n ∷ K) O b T) (token_at s p) ≡ true)
      → at s (state (just n ∷ K) O b T) p ≡ then_read (expect_at s p n) (λ q. at s (state K O b T) q)
  unfolding expect_at passed
  plain n K b p z y w = at_token s (state (just n ∷ K) O b T) p ∙ sign_step s K O b T k n true z y w ∙ go (eqb k.kind n)
    where
      k : Token
      k = token_at s p

      go : (x : Bool) → cond x (at s (state K O b T) k.end) (wrong k) ≡ then_read (cond x (step_answer 0 k.end) (unexpected_at k)) (λ q. at s (state K O b T) q)
      go true = refl
      go false = rw (no_zero k)

  low_law : (κ : ℕ) (K : List Item) (b : Branch) (p : ℕ) → at s (state (low κ ∷ K) O b T) p ≡ on_bound (bound_at s p κ 0) (λ q n. at s (state (just 58 ∷ high κ n ∷ K) O b T) q)
  unfolding bound_at bounded denied
  low_law κ K b p = at_token s _ p ∙ low_step s K O b T k κ ∙ rw (le-ltb n 0 (omega arith)) (go (eqb k.kind 48) (in_kind κ (signed_in s k)))
    where
      k : Token
      k = token_at s p

      n : ℕ
      n = offset (signed_in s k)

      go : (x o : Bool) → cond x (cond o (at s (state (just 58 ∷ high κ n ∷ K) O b T) k.end) (denied 6 k.start)) (wrong k)
          ≡ on_bound (cond x (cond o (bound_made 0 k.end n) (bound_made 6 k.start 0)) (bound_made (unexpected_at k).question (unexpected_at k).at 0)) (λ q n. at s (state (just 58 ∷ high κ n ∷ K) O b T) q)
      go true true = refl
      go true false = refl
      go false o = rw (no_zero k)

  high_law : (κ l : ℕ) (K : List Item) (b : Branch) (p : ℕ) → at s (state (high κ l ∷ K) O b T) p ≡ on_bound (bound_at s p κ l) (λ q n. at s (state K O (field_added b κ l n) T) q)
  unfolding bound_at bounded denied
  high_law κ l K b p = at_token s _ p ∙ high_step s K O b T k κ l ∙ go (eqb k.kind 48) (in_kind κ (signed_in s k)) (ltb n l)
    where
      k : Token
      k = token_at s p

      n : ℕ
      n = offset (signed_in s k)

      go : (x o u : Bool) → cond x (cond o (cond u (denied 6 k.start) (at s (state K O (field_added b κ l n) T) k.end)) (denied 6 k.start)) (wrong k)
          ≡ on_bound (cond x (cond o (cond u (bound_made 6 k.start 0) (bound_made 0 k.end n)) (bound_made 6 k.start 0)) (bound_made (unexpected_at k).question (unexpected_at k).at 0)) (λ q n. at s (state K O (field_added b κ l n) T) q)
      go true true true = refl
      go true true false = refl
      go true false u = refl
      go false o u = rw (no_zero k)

  -- [ low .. high ]
  range_law : (κ : ℕ) (K : List Item) (b : Branch) (p : ℕ) → at s (state (a_field κ K) O b T) p ≡ on_range (range_at s p κ) (λ q l h. at s (state (more_fields ∷ K) O (field_added b κ l h) T) q)
  unfolding range_at within_limits
  range_law κ K b p =
      plain 91 (low κ ∷ just 93 ∷ more_fields ∷ K) b p (λ x. omega arith) (λ x. omega arith) (λ h. rw h)
      ∙ ap (then_read (expect_at s p 91)) (fun_ext (λ q.
      low_law κ (just 93 ∷ more_fields ∷ K) b q
      ∙ ap (on_bound (bound_at s q κ 0)) (fun_ext (λ r. fun_ext (λ l.
      plain 58 (high κ l ∷ just 93 ∷ more_fields ∷ K) b r (λ x. omega arith) (λ x. omega arith) (λ h. rw h)
      ∙ ap (then_read (expect_at s r 58)) (fun_ext (λ t.
      high_law κ l (just 93 ∷ more_fields ∷ K) b t
      ∙ ap (on_bound (bound_at s t κ l)) (fun_ext (λ u. fun_ext (λ h.
      plain 93 (more_fields ∷ K) (field_added b κ l h) u (λ x. omega arith) (λ x. omega arith) (λ h. rw h)
      ∙ sym (step_range (expect_at s u 93) (λ v. range 0 v l h) G))))
      ∙ sym (bound_range (bound_at s t κ l) (closed l) G)))
      ∙ sym (step_range (expect_at s r 58) (λ t. after_bound (bound_at s t κ l) (closed l)) G))))
      ∙ sym (bound_range (bound_at s q κ 0) R G)))
      ∙ sym (step_range (expect_at s p 91) (λ q. after_bound (bound_at s q κ 0) R) G)
    where
      G : ℕ → ℕ → ℕ → Built
      G q l h = at s (state (more_fields ∷ K) O (field_added b κ l h) T) q

      closed : ℕ → ℕ → ℕ → Range
      closed l u h = after_step (expect_at s u 93) (λ v. range 0 v l h)

      R : ℕ → ℕ → Range
      R r l = after_step (expect_at s r 58) (λ t. after_bound (bound_at s t κ l) (closed l))

-- fields that were read, and those after them
range_fields : (r : Range) (f : Fields) (κ : ℕ) (g : Fields → Built) → f.question ≡ 0
    → with_fields (with_range r f κ) g ≡ on_range r (λ q l h. g (with_field f q κ l h))
unfolding with_range no_fields with_field
range_fields r f κ g z = go (eqb r.question 0) refl
  where
    go : (x : Bool) → eqb r.question 0 ≡ x → with_fields (cond x (with_field f r.at κ r.low r.high) (no_fields r.question r.at)) g
        ≡ cond x (g (with_field f r.at κ r.low r.high)) (denied r.question r.at)
    go true e = rw z
    go false e = rw e

fields_then : (s : List ℕ) (f : Fields) (more : Fields → Fields) (g : Fields → Built)
    → with_fields (field_then s f more) g ≡ with_fields f (λ h. with_fields (end_of_field (token_at s h.at) h more) g)
unfolding field_then
fields_then s f more g = go (eqb f.question 0) refl
  where
    go : (x : Bool) → eqb f.question 0 ≡ x → with_fields (cond x (end_of_field (token_at s f.at) f more) f) g
        ≡ cond x (with_fields (end_of_field (token_at s f.at) f more) g) (denied f.question f.at)
    go true e = refl
    go false e = rw e

pub fields_same : (f : Fields) (g h : Fields → Built) → (f.question ≡ 0 → g f ≡ h f) → with_fields f g ≡ with_fields f h
fields_same f g h same = go (eqb f.question 0) refl
  where
    go : (x : Bool) → eqb f.question 0 ≡ x → cond x (g f) (denied f.question f.at) ≡ cond x (h f) (denied f.question f.at)
    go true e = same (eqb-true _ _ e)
    go false e = refl

-- a field that was read is one more, of at most four
one_more : (s : List ℕ) (f : Fields) → (read_field s f).question ≡ 0 → ((read_field s f).count ≡ f.count + 1) × (f.count < 4)
unfolding read_field fielded with_range no_fields with_field
one_more s f h = go (eqb (kind_of k.kind) 3) (leb 4 f.count) refl (eqb r.question 0) refl h
  where
    k : Token
    k = token_at s f.at

    κ : ℕ
    κ = kind_of k.kind

    r : Range
    r = range_at s k.end κ

    answer : Bool → Bool → Bool → Fields
    answer x y z =
        cond x (no_fields (unexpected_at k).question (unexpected_at k).at) (cond y (no_fields 8 k.start) (cond z (with_field f r.at κ r.low r.high) (no_fields r.question r.at)))

    go : (x y : Bool) → leb 4 f.count ≡ y → (z : Bool) → eqb r.question 0 ≡ z → (answer x y z).question ≡ 0 → ((answer x y z).count ≡ f.count + 1) × (f.count < 4)
    go true y e z g h = absurd (eqb-false (unexpected_at k).question 0 (no_zero k) h)
    go false true e z g h = absurd (omega arith)
    go false false e true g h = (refl, leb-false _ _ e)
    go false false e false g h = absurd (eqb-false _ _ g h)

module _ (s : List ℕ) (O : List Open) (T : Table) (K : List Item) (l o : ℕ) where
  -- the branch with these fields, and how reading goes on after them
  abbrev with' : Fields → Branch
  with' f = branch_of l o 0 f

  field_law : (f : Fields) → Clear f → f.question ≡ 0
      → moved s (state (field ∷ K) O (with' f) T) (token_at s f.at) ≡ with_fields (read_field s f) (λ g. at s (state (more_fields ∷ K) O (with' g) T) g.at)
  unfolding read_field fielded with_field no_fields denied
  field_law f c z =
      field_step s K O (with' f) T k
      ∙ ap (λ n. cond (eqb κ 3) (wrong k) (cond (leb 4 n) (denied 8 k.start) (at s (state (a_field κ K) O (with' f) T) k.end))) (listed_length f)
      ∙ go (eqb κ 3) (leb 4 f.count) refl
    where
      k : Token
      k = token_at s f.at

      κ : ℕ
      κ = kind_of k.kind

      G : Fields → Built
      G g = at s (state (more_fields ∷ K) O (with' g) T) g.at

      added : f.count < 4 → (q a b : ℕ) → at s (state (more_fields ∷ K) O (field_added (with' f) κ a b) T) q ≡ G (with_field f q κ a b)
      added room q a b =
          ap (λ fs. at s (state (more_fields ∷ K) O (record { owner = o; label = label_of l; fields = fs; target = 0 }) T) q) (sym (with_listed f c room q κ a b))

      go : (x y : Bool) → leb 4 f.count ≡ y → cond x (wrong k) (cond y (denied 8 k.start) (at s (state (a_field κ K) O (with' f) T) k.end))
          ≡ with_fields (cond x (no_fields (unexpected_at k).question (unexpected_at k).at) (cond y (no_fields 8 k.start) (with_range (range_at s k.end κ) f κ))) G
      go true y e = rw (no_zero k)
      go false true e = refl
      go false false e =
          range_law s O T κ K (with' f) k.end
          ∙ ap (on_range (range_at s k.end κ)) (fun_ext (λ q. fun_ext (λ a. fun_ext (λ b. added (leb-false _ _ e) q a b))))
          ∙ sym (range_fields (range_at s k.end κ) f κ G z)

  goes : Fields → Built
  goes g = at s (state K O (with' g) T) g.at

  -- after a field
  more_law : (m : Fields → Fields) (g : Fields) → Clear g → g.question ≡ 0
      → ((h : Fields) → Clear h → h.question ≡ 0 → h.count ≡ g.count → moved s (state (field ∷ K) O (with' h) T) (token_at s h.at) ≡ with_fields (m h) goes)
      → at s (state (more_fields ∷ K) O (with' g) T) g.at ≡ with_fields (end_of_field (token_at s g.at) g m) goes
  unfolding end_of_field placed no_fields goes
  more_law m g v z next_item = at_token s _ g.at ∙ more_fields_step s K O (with' g) T k ∙ go (eqb k.kind 41) (eqb k.kind 44)
    where
      k : Token
      k = token_at s g.at

      go : (x y : Bool) → cond x (at s (state K O (with' g) T) k.end) (cond y (at s (state (field ∷ K) O (with' g) T) k.end) (wrong k))
          ≡ with_fields (cond x (placed g k.end) (cond y (m (placed g k.end)) (no_fields (unexpected_at k).question (unexpected_at k).at))) goes
      go true y = rw z
      go false true = at_token s (state (field ∷ K) O (with' g) T) k.end ∙ next_item (placed g k.end) (placed_clear g k.end v) z refl
      go false false = rw (no_zero k)

  -- at most n fields: the room is never used up
  from_law : (n : ℕ) (f : Fields) → Clear f → f.question ≡ 0 → f.count ≤ 4 → 4 < n + f.count
      → moved s (state (field ∷ K) O (with' f) T) (token_at s f.at) ≡ with_fields (fields_from s n f) goes
  unfolding fields_from
  from_law zero f v z h room = absurd (omega arith)
  from_law (suc n) f v z h room =
      field_law f v z
      ∙ fields_same (read_field s f) (λ g. at s (state (more_fields ∷ K) O (with' g) T) g.at) (λ g. with_fields (end_of_field (token_at s g.at) g (fields_from s n)) goes) (λ y.
      let c = one_more s f y in
      let c₀ = c.0 in
      let c₁ = c.1 in
      more_law (fields_from s n) (read_field s f) (field_clear s f v) y (λ g w e q. from_law n g w e (omega arith) (omega arith)))
      ∙ sym (fields_then s (read_field s f) (fields_from s n) goes)

  -- ( fields )
  pub fields_law : (p : ℕ) → at s (state (just 40 ∷ fields ∷ K) O (labelled l o) T) p ≡ with_fields (fields_at s p) (λ g. at s (state K O (with' g) T) g.at)
  unfolding fields_at no_fields within_limits goes upto
  fields_law p = plain s O T 40 (fields ∷ K) b p (λ x. omega arith) (λ x. omega arith) (λ h. rw h) ∙ go (eqb x.question 0) refl
    where
      b : Branch
      b = labelled l o

      x : Step
      x = expect_at s p 40

      j : Token
      j = token_at s x.at

      inside : (y : Bool) → cond y (at s (state K O b T) j.end) (moved s (state (field ∷ K) O b T) j)
          ≡ with_fields (cond y (no_fields 0 j.end) (fields_from s 5 (no_fields 0 x.at))) goes
      inside true = refl
      inside false = from_law 5 (no_fields 0 x.at) (none_clear 0 x.at) refl (omega arith) (omega arith)

      go : (y : Bool) → eqb x.question 0 ≡ y → cond y (at s (state (fields ∷ K) O b T) x.at) (denied x.question x.at)
          ≡ with_fields (cond y (cond (eqb j.kind 41) (no_fields 0 j.end) (fields_from s 5 (no_fields 0 x.at))) (no_fields x.question x.at)) goes
      go true e = at_token s (state (fields ∷ K) O b T) x.at ∙ fields_step s K O b T j ∙ inside (eqb j.kind 41)
      go false e = rw e
