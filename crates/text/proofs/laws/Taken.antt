-- One step of reading by tokens, for each thing that the grammar can expect. Assumes nothing.
use mathlib.Core.Path.{◌≡◌, refl, sym, ◌∙◌}
use mathlib.Core.Bool.{cond, Bool, true, false}
use mathlib.Core.Logic.{inl, inr}
use mathlib.Core.List.{List, [], ◌∷◌}
use Prim.Native.Nat.{ℕ}
use native.Mathlib.Omega.{arith}
use lib.Dec.{eqb, leb, ltb}
use lib.ListN.{length}
use borrow.Author.Tests.{ne_eqb, eqb-true, eqb-false, leb-true, leb-false, lt-ltb, le-ltb}
use Rattle.table.specs.Lists.{first_no}
use Rattle.table.specs.Table.{Table, Branch}
use Rattle.grammar.specs.Token.{Token, word_in}
use Rattle.grammar.specs.Number.{signed_in, offset, in_kind, in_share, in_edition}
use Rattle.grammar.specs.Grammar.{or_else}
use Rattle.grammar.specs.Building.{empty_branch, labelled, field_added, set_edition, add_state, add_share, label_used, choice_right, denied, Built}
use Rattle.grammar.specs.Reading.{Item, outset, edition, just, name, label, type, more, fields, field, low, high, more_fields, dot, share, Open, a_rec, a_choice, State, state, meaning, unguarded, owner_in, closed, left, token_formed, grammar_allows, admits, edition_known, is_found, name_bound, guarded, ranged, share_ranged, new_label, within_limits, shares_add, sign_of, choice_sort, kind_of, a_branch, a_field, target, stored, began, taken, questions}
use Rattle.text.specs.inner.Recursive.{unexpected_at}
use Rattle.grammar.proofs.laws.Opening.{outset_same}
use Rattle.text.proofs.laws.Moved.{at, moved, moved_at}
use types.Run.{OneOf}
use Rattle.table.specs.Table as S

-- a token that the grammar does not allow
abbrev pub wrong : Token → Built
wrong k = denied (unexpected_at k).question (unexpected_at k).at

-- what is so where a test is passed, and what where it is not
by_test : (x : Bool) {m a c : Built} → (x ≡ true → m ≡ a) → (x ≡ false → m ≡ c) → m ≡ cond x a c
by_test true f g = f refl
by_test false f g = g refl

both_ways : (x : Bool) {a : Built} → a ≡ cond x a a
both_ways true = refl
both_ways false = refl

module _ (s : List ℕ) (K : List Item) (O : List Open) (b : Branch) (T : Table) (k : Token) where
  -- what the grammar does not allow is wrong
  not_allowed : (i : Item) → admits i k.kind ≡ false → moved s (state (i ∷ K) O b T) k ≡ wrong k
  unfolding moved first_no questions token_formed grammar_allows unexpected_at
  not_allowed i e = go (eqb k.kind 1) refl
    where
      go : (c : Bool) → eqb k.kind 1 ≡ c → moved s (state (i ∷ K) O b T) k ≡ denied (cond c 2 3) k.start
      go true f = rw f
      go false f = rw (f, e)

  -- a token of one kind n; W is whether it is within the limits
  pub sign_step : (n : ℕ) (W : Bool) → (n ≡ 0 → ⊥) → (n ≡ 1 → ⊥) → (k.kind ≡ n → within_limits s (state (just n ∷ K) O b T) k ≡ W)
      → moved s (state (just n ∷ K) O b T) k ≡ cond (eqb k.kind n) (cond W (at s (state K O b T) k.end) (denied 8 k.start)) (wrong k)
  unfolding moved first_no questions token_formed grammar_allows edition_known name_bound guarded ranged share_ranged new_label shares_add taken unexpected_at
  sign_step n W z y w =
      by_test (eqb k.kind n)
      (λ e.
      let h = eqb-true _ _ e in
      let f = ne_eqb k.kind 1 (λ x. y (sym h ∙ x)) in
      by_test W (λ t. moved_at s (state (just n ∷ K) O b T) k (λ x. z (sym h ∙ x)) ∙ rw (f, e, w h ∙ t)) (λ t. rw (f, e, w h ∙ t)))
      (λ e. not_allowed (just n) e)

  pub outset_step : moved s (state (outset ∷ K) O b T) k
      ≡ cond (eqb k.kind 69) (at s (state (edition ∷ type ∷ K) O b T) k.end) (moved s (state (type ∷ K) O b T) k)
  unfolding moved first_no questions token_formed grammar_allows edition_known name_bound guarded ranged share_ranged new_label within_limits shares_add taken
  outset_step = by_test (eqb k.kind 69) (λ e. let h : k.kind ≡ 69 = eqb-true _ _ e in moved_at s (state (outset ∷ K) O b T) k (λ x. omega arith) ∙ rw h) (λ e. let a = outset_same s K O b T k (eqb-false _ _ e) in rw (a.0, a.1))

  -- the name of a rec
  pub name_step : moved s (state (name ∷ K) O b T) k ≡ cond (eqb k.kind 65) (at s (state K (a_rec (word_in s k) (length T.sorts) ∷ O) b T) k.end) (wrong k)
  unfolding moved first_no questions token_formed grammar_allows edition_known name_bound guarded ranged share_ranged new_label within_limits shares_add taken unexpected_at
  name_step = by_test (eqb k.kind 65) (λ e. let h : k.kind ≡ 65 = eqb-true _ _ e in moved_at s (state (name ∷ K) O b T) k (λ x. omega arith) ∙ rw h) (λ e. not_allowed name e)

  -- a label
  pub label_step : moved s (state (label ∷ K) O b T) k ≡ cond (eqb k.kind 65)
      (cond (label_used T (owner_in O) (word_in s k)) (denied 7 k.start) (at s (state K O (labelled (word_in s k) (owner_in O)) T) k.end)) (wrong k)
  unfolding moved first_no questions token_formed grammar_allows edition_known name_bound guarded ranged share_ranged new_label within_limits shares_add taken unexpected_at
  label_step =
      by_test (eqb k.kind 65)
      (λ e.
      let h : k.kind ≡ 65 = eqb-true _ _ e in
      by_test (label_used T (owner_in O) (word_in s k)) (λ l. rw (h, l)) (λ l. moved_at s (state (label ∷ K) O b T) k (λ x. omega arith) ∙ rw (h, l)))
      (λ e. not_allowed label e)

  -- after a branch
  pub more_step : (σ : ℕ) → moved s (state (more σ ∷ K) O b T) k
      ≡ cond (eqb k.kind 125) (cond (choice_right T (owner_in O)) (at s (state K (left O) b T) k.end) (denied 20 k.start))
      (cond (eqb k.kind 44) (at s (state (a_branch σ K) O b T) k.end) (wrong k))
  unfolding moved first_no questions token_formed grammar_allows edition_known name_bound guarded ranged share_ranged new_label within_limits shares_add taken unexpected_at
  more_step σ =
      by_test (eqb k.kind 125)
      (λ e.
      let h : k.kind ≡ 125 = eqb-true _ _ e in
      by_test (choice_right T (owner_in O)) (λ r. moved_at s (state (more σ ∷ K) O b T) k (λ x. omega arith) ∙ rw (h, r)) (λ r. rw (h, r)))
      (λ e. by_test (eqb k.kind 44) (λ g. let h : k.kind ≡ 44 = eqb-true _ _ g in moved_at s (state (more σ ∷ K) O b T) k (λ x. omega arith) ∙ rw h) (λ g. not_allowed (more σ) (rw (e, g))))

  -- a type, by its first token; W is the table with the branch that leads to it, by the next state
  pub end_step : k.kind ≡ 101 → (W : Table) → stored O b T (length T.sorts) ≡ W
      → moved s (state (type ∷ K) O b T) k ≡ cond (leb 32 (length T.sorts)) (denied 8 k.start) (at s (state K (closed O) empty_branch (add_state W S.ends)) k.end)
  unfolding moved first_no questions token_formed grammar_allows edition_known name_bound guarded ranged share_ranged new_label within_limits shares_add taken target began
  end_step h W w =
      by_test (leb 32 (length T.sorts)) (λ e. rw (h, le-ltb (length T.sorts) 32 (leb-true _ _ e)))
      (λ e. moved_at s (state (type ∷ K) O b T) k (λ x. omega arith) ∙ rw (h, lt-ltb (length T.sorts) 32 (leb-false _ _ e), w))

  -- a name: the branch leads to what it means
  pub var_step : k.kind ≡ 65 → moved s (state (type ∷ K) O b T) k
      ≡ cond (is_found (meaning O (word_in s k)))
      (cond (unguarded O (word_in s k)) (denied 5 k.start)
      (at s (state K (closed O) empty_branch (stored O b T (or_else (meaning O (word_in s k)) (length T.sorts)))) k.end)) (denied 4 k.start)
  unfolding moved first_no questions token_formed grammar_allows edition_known name_bound guarded ranged share_ranged new_label within_limits shares_add taken target began
  var_step h =
      by_test (is_found (meaning O (word_in s k)))
      (λ e.
      by_test (unguarded O (word_in s k)) (λ f. rw (h, e, f)) (λ f. moved_at s (state (type ∷ K) O b T) k (λ x. omega arith) ∙ rw (h, e, f)))
      (λ e. rw (h, e))

  -- a rec: the branch is still to be stored
  pub rec_step : k.kind ≡ 114 → moved s (state (type ∷ K) O b T) k
      ≡ cond (ltb (length O) 16) (at s (state (name ∷ just 46 ∷ type ∷ K) O b T) k.end) (denied 8 k.start)
  unfolding moved first_no questions token_formed grammar_allows edition_known name_bound guarded ranged share_ranged new_label within_limits shares_add taken
  rec_step h = by_test (ltb (length O) 16) (λ e. moved_at s (state (type ∷ K) O b T) k (λ x. omega arith) ∙ rw (h, e)) (λ e. rw (h, e))

  -- + or &
  pub choice_step : OneOf (38 ∷ 43 ∷ []) k.kind → (W : Table) → stored O b T (length T.sorts) ≡ W
      → moved s (state (type ∷ K) O b T) k
      ≡ cond (ltb (length O) 16) (cond (leb 32 (length T.sorts)) (denied 8 k.start)
      (at s (state (just 123 ∷ a_branch (sign_of k.kind) K) (a_choice (length W.sorts) ∷ O) empty_branch (add_state W (choice_sort k.kind))) k.end))
      (denied 8 k.start)
  unfolding moved first_no questions token_formed grammar_allows edition_known name_bound guarded ranged share_ranged new_label within_limits shares_add taken target began
  choice_step o W w = go o (ltb (length O) 16) refl (leb 32 (length T.sorts)) refl
    where
      opens : State
      opens = state (just 123 ∷ a_branch (sign_of k.kind) K) (a_choice (length W.sorts) ∷ O) empty_branch (add_state W (choice_sort k.kind))

      go : OneOf (38 ∷ 43 ∷ []) k.kind → (x : Bool) → ltb (length O) 16 ≡ x → (y : Bool) → leb 32 (length T.sorts) ≡ y
          → moved s (state (type ∷ K) O b T) k ≡ cond x (cond y (denied 8 k.start) (at s opens k.end)) (denied 8 k.start)
      go (inl h) x e true f = rw (h, le-ltb (length T.sorts) 32 (leb-true _ _ f)) (both_ways x)
      go (inl h) false e false f = rw (h, lt-ltb (length T.sorts) 32 (leb-false _ _ f), e)
      go (inl h) true e false f = moved_at s (state (type ∷ K) O b T) k (λ x. omega arith) ∙ rw (h, lt-ltb (length T.sorts) 32 (leb-false _ _ f), e, w)
      go (inr h) x e true f = rw (h, le-ltb (length T.sorts) 32 (leb-true _ _ f)) (both_ways x)
      go (inr h) false e false f = rw (h, lt-ltb (length T.sorts) 32 (leb-false _ _ f), e)
      go (inr h) true e false f = moved_at s (state (type ∷ K) O b T) k (λ x. omega arith) ∙ rw (h, lt-ltb (length T.sorts) 32 (leb-false _ _ f), e, w)

  -- anything else
  pub other_step : (k.kind ≡ 101 → ⊥) → (k.kind ≡ 65 → ⊥) → (k.kind ≡ 114 → ⊥) → (OneOf (38 ∷ 43 ∷ []) k.kind → ⊥)
      → moved s (state (type ∷ K) O b T) k ≡ wrong k
  unfolding moved first_no questions token_formed grammar_allows unexpected_at
  other_step h₁ h₂ h₃ h₄ =
      not_allowed type
      (rw (ne_eqb _ _ h₁, ne_eqb _ _ h₂, ne_eqb _ _ h₃, ne_eqb k.kind 38 (λ x. h₄ (inl x)), ne_eqb k.kind 43 (λ x. h₄ (inr x))))

  -- a field's word, the parenthesis that closes, and what comes after a field
  pub field_step : moved s (state (field ∷ K) O b T) k
      ≡ cond (eqb (kind_of k.kind) 3) (wrong k) (cond (leb 4 (length b.fields)) (denied 8 k.start) (at s (state (a_field (kind_of k.kind) K) O b T) k.end))
  unfolding moved first_no questions token_formed grammar_allows edition_known name_bound guarded ranged share_ranged new_label within_limits shares_add taken unexpected_at kind_of
  field_step = go (eqb k.kind 105) refl (eqb k.kind 116) refl (eqb k.kind 102) refl (eqb k.kind 1) refl (leb 4 (length b.fields)) refl
    where
      Goal : Bool → Type 0
      Goal l =
          moved s (state (field ∷ K) O b T) k
          ≡ cond (eqb (kind_of k.kind) 3) (wrong k) (cond l (denied 8 k.start) (at s (state (a_field (kind_of k.kind) K) O b T) k.end))

      word : (n : ℕ) → k.kind ≡ n → OneOf (105 ∷ 116 ∷ 102 ∷ []) n → (l : Bool) → leb 4 (length b.fields) ≡ l → Goal l
      word n h (inl e) true m = let h : k.kind ≡ 105 = h ∙ e in rw (h, le-ltb (length b.fields) 4 (leb-true _ _ m))
      word n h (inl e) false m =
          let h : k.kind ≡ 105 = h ∙ e in
          moved_at s (state (field ∷ K) O b T) k (λ x. omega arith) ∙ rw (h, lt-ltb (length b.fields) 4 (leb-false _ _ m))
      word n h (inr (inl e)) true m = let h : k.kind ≡ 116 = h ∙ e in rw (h, le-ltb (length b.fields) 4 (leb-true _ _ m))
      word n h (inr (inl e)) false m =
          let h : k.kind ≡ 116 = h ∙ e in
          moved_at s (state (field ∷ K) O b T) k (λ x. omega arith) ∙ rw (h, lt-ltb (length b.fields) 4 (leb-false _ _ m))
      word n h (inr (inr e)) true m = let h : k.kind ≡ 102 = h ∙ e in rw (h, le-ltb (length b.fields) 4 (leb-true _ _ m))
      word n h (inr (inr e)) false m =
          let h : k.kind ≡ 102 = h ∙ e in
          moved_at s (state (field ∷ K) O b T) k (λ x. omega arith) ∙ rw (h, lt-ltb (length b.fields) 4 (leb-false _ _ m))

      go : (x : Bool) → eqb k.kind 105 ≡ x → (y : Bool) → eqb k.kind 116 ≡ y → (z : Bool) → eqb k.kind 102 ≡ z → (c : Bool) → eqb k.kind 1 ≡ c
          → (l : Bool) → leb 4 (length b.fields) ≡ l → Goal l
      go true e y f z g c h l m = word 105 (eqb-true _ _ e) (inl refl) l m
      go false e true f z g c h l m = word 116 (eqb-true _ _ f) (inr (inl refl)) l m
      go false e false f true g c h l m = word 102 (eqb-true _ _ g) (inr (inr refl)) l m
      go false e false f false g true h l m = let h : k.kind ≡ 1 = eqb-true _ _ h in rw h
      go false e false f false g false h l m = rw (h, e, f, g)

  pub fields_step : moved s (state (fields ∷ K) O b T) k ≡ cond (eqb k.kind 41) (at s (state K O b T) k.end) (moved s (state (field ∷ K) O b T) k)
  unfolding moved first_no questions token_formed grammar_allows edition_known name_bound guarded ranged share_ranged new_label within_limits shares_add taken
  fields_step = by_test (eqb k.kind 41) (λ e. let h : k.kind ≡ 41 = eqb-true _ _ e in moved_at s (state (fields ∷ K) O b T) k (λ x. omega arith) ∙ rw h) (λ e. rw e)

  pub more_fields_step : moved s (state (more_fields ∷ K) O b T) k
      ≡ cond (eqb k.kind 41) (at s (state K O b T) k.end) (cond (eqb k.kind 44) (at s (state (field ∷ K) O b T) k.end) (wrong k))
  unfolding moved first_no questions token_formed grammar_allows edition_known name_bound guarded ranged share_ranged new_label within_limits shares_add taken unexpected_at
  more_fields_step =
      by_test (eqb k.kind 41) (λ e. let h : k.kind ≡ 41 = eqb-true _ _ e in moved_at s (state (more_fields ∷ K) O b T) k (λ x. omega arith) ∙ rw h)
      (λ e. by_test (eqb k.kind 44) (λ g. let h : k.kind ≡ 44 = eqb-true _ _ g in moved_at s (state (more_fields ∷ K) O b T) k (λ x. omega arith) ∙ rw h) (λ g. not_allowed more_fields (rw (e, g))))

  -- the two numbers of a range; below, a share
  number_within : (i : Item) → k.kind ≡ 48 → within_limits s (state (i ∷ K) O b T) k ≡ true
  unfolding within_limits
  number_within i h = rw h

  not_one : k.kind ≡ 48 → k.kind ≡ 1 → ⊥
  not_one h e = omega arith

  pub low_step : (κ : ℕ) → moved s (state (low κ ∷ K) O b T) k ≡ cond (eqb k.kind 48)
      (cond (in_kind κ (signed_in s k)) (at s (state (just 58 ∷ high κ (offset (signed_in s k)) ∷ K) O b T) k.end) (denied 6 k.start)) (wrong k)
  unfolding moved first_no questions token_formed grammar_allows edition_known name_bound guarded ranged share_ranged new_label shares_add taken unexpected_at
  low_step κ =
      by_test (eqb k.kind 48)
      (λ e.
      let h : k.kind ≡ 48 = eqb-true _ _ e in
      by_test (in_kind κ (signed_in s k))
      (λ o. moved_at s (state (low κ ∷ K) O b T) k (λ x. omega arith) ∙ rw (ne_eqb _ _ (not_one h), e, o, number_within (low κ) h))
      (λ o. rw (ne_eqb _ _ (not_one h), e, o)))
      (λ e. not_allowed (low κ) e)

  pub high_step : (κ l : ℕ) → moved s (state (high κ l ∷ K) O b T) k ≡ cond (eqb k.kind 48)
      (cond (in_kind κ (signed_in s k))
      (cond (ltb (offset (signed_in s k)) l) (denied 6 k.start) (at s (state K O (field_added b κ l (offset (signed_in s k))) T) k.end))
      (denied 6 k.start)) (wrong k)
  unfolding moved first_no questions token_formed grammar_allows edition_known name_bound guarded ranged share_ranged new_label shares_add taken unexpected_at
  high_step κ l =
      by_test (eqb k.kind 48)
      (λ e.
      let h : k.kind ≡ 48 = eqb-true _ _ e in
      let z = ne_eqb _ _ (not_one h) in
      by_test (in_kind κ (signed_in s k))
      (λ o.
      by_test (ltb (offset (signed_in s k)) l) (λ u. rw (z, e, o, u))
      (λ u. moved_at s (state (high κ l ∷ K) O b T) k (λ x. omega arith) ∙ rw (z, e, o, u, number_within (high κ l) h)))
      (λ o. rw (z, e, o)))
      (λ e. not_allowed (high κ l) e)

  -- after a branch's fields, and its share
  pub dot_step : moved s (state (dot ∷ K) O b T) k ≡ cond (eqb k.kind 64) (at s (state (share ∷ just 46 ∷ K) O b T) k.end)
      (cond (eqb k.kind 46) (at s (state K O b (add_share T 0)) k.end) (wrong k))
  unfolding moved first_no questions token_formed grammar_allows edition_known name_bound guarded ranged share_ranged new_label within_limits shares_add taken unexpected_at
  dot_step =
      by_test (eqb k.kind 64) (λ e. let h : k.kind ≡ 64 = eqb-true _ _ e in moved_at s (state (dot ∷ K) O b T) k (λ x. omega arith) ∙ rw h)
      (λ e. by_test (eqb k.kind 46) (λ g. let h : k.kind ≡ 46 = eqb-true _ _ g in moved_at s (state (dot ∷ K) O b T) k (λ x. omega arith) ∙ rw h) (λ g. not_allowed dot (rw (e, g))))

  pub share_step : moved s (state (share ∷ K) O b T) k ≡ cond (eqb k.kind 48)
      (cond (in_share (signed_in s k)) (at s (state K O b (add_share T (signed_in s k).value)) k.end) (denied 19 k.start)) (wrong k)
  unfolding moved first_no questions token_formed grammar_allows edition_known name_bound guarded ranged share_ranged new_label shares_add taken unexpected_at
  share_step =
      by_test (eqb k.kind 48)
      (λ e.
      let h : k.kind ≡ 48 = eqb-true _ _ e in
      by_test (in_share (signed_in s k))
      (λ o. moved_at s (state (share ∷ K) O b T) k (λ x. omega arith) ∙ rw (ne_eqb _ _ (not_one h), e, o, number_within share h))
      (λ o. rw (ne_eqb _ _ (not_one h), e, o)))
      (λ e. not_allowed share e)

  -- an edition
  pub edition_step : moved s (state (edition ∷ K) O b T) k ≡ cond (eqb k.kind 48)
      (cond (in_edition (signed_in s k)) (at s (state K O b (set_edition T (signed_in s k).value)) k.end) (denied 23 k.start)) (wrong k)
  unfolding moved first_no questions token_formed grammar_allows edition_known name_bound guarded ranged share_ranged new_label shares_add taken unexpected_at
  edition_step =
      by_test (eqb k.kind 48)
      (λ e.
      let h : k.kind ≡ 48 = eqb-true _ _ e in
      by_test (in_edition (signed_in s k))
      (λ o. moved_at s (state (edition ∷ K) O b T) k (λ x. omega arith) ∙ rw (ne_eqb _ _ (not_one h), e, o, number_within edition h))
      (λ o. rw (ne_eqb _ _ (not_one h), e, o)))
      (λ e. not_allowed edition e)
