-- Reading by tokens is reading by recursion: with a type expected, the tokens are read as the recursion reads a type, and reading goes on
-- with what was expected after it. Assumes nothing.
use mathlib.Core.Path.{◌≡◌, refl, sym, ap, fun_ext, ◌∙◌}
use mathlib.Core.Bool.{cond, Bool, true, false, ◌&&◌}
use mathlib.Core.Logic.{inl, inr}
use mathlib.Core.List.{List, [], ◌∷◌, ◌++◌}
use mathlib.Core.Option.{Option, none, some}
use Prim.Native.Nat.{ℕ, zero, suc, ◌+◌, ◌-◌, ◌≤◌, ◌<◌}
use native.Mathlib.Nat.{le_refl, pos_of_ne-zero}
use native.Mathlib.Omega.{arith}
use lib.Dec.{eqb, leb, ltb}
use lib.ListN.{length, length-append}
use borrow.Author.Tests.{eqb-true, eqb-false, leb-true, leb-false, ltb-true, ltb-false, lt-ltb, le-ltb, le-leb, lt-leb}
use Rattle.table.specs.Lists.{first_no}
use Rattle.table.specs.Table.{Table, Branch}
use Rattle.grammar.specs.Token.{Token, word_in}
use Rattle.grammar.specs.inner.Scanner.{token_at, tokens}
use Rattle.grammar.specs.Grammar.{or_else}
use Rattle.grammar.specs.Number.{signed_in, in_count}
use Rattle.grammar.specs.Building.{stateless, set_edition, empty_branch, labelled, aimed, add_state, add_branch, add_share, label_used, choice_right, came, denied, Built}
use Rattle.grammar.specs.Reading.{Item, edition, just, name, label, type, more, fields, dot, Open, a_rec, a_choice, State, state, meaning, unguarded, closed, token_formed, grammar_allows, edition_known, is_found, name_bound, guarded, ranged, share_ranged, new_label, within_limits, shares_add, sign_of, choice_sort, a_branch, stored, taken, run_tokens, start, built, questions}
use Rattle.text.specs.inner.Recursive.{count_read, count_from, edition_at, opening_from, opening_of, label_from, name_read, name_then, unexpected_at, expect_at, fields_at, shared_at, empty_env, Room, bound_in, bind_in, find_in, find, since_in, since, rec_named, open_rec, label_at, branch_of, then_read, with_fields, with_count, body_at, headed, head_at, last_aimed, aim_last, name_used, name_type, end_type, open_choice, unless, end_of_branch, branch_then, branches_read, choice_type, rec_type, read_type, end_of_text, read_text, Env}
use Rattle.text.specs.inner.Answers.{Step, Name, Counted, Fields}
use Rattle.text.proofs.laws.Env.{bind_find, bind_count, bind_since, since_now, room_empty, room_bind, room_less}
use Rattle.text.proofs.laws.Recursive.{at_end, at_name, at_rec, at_rec_full, at_choice, at_choice_full, at_other}
use Rattle.grammar.proofs.laws.GrammarAllows.{First, first, first_end, first_name, first_rec, first_choice, first_other}
use Rattle.text.proofs.laws.NumberRead.{edition_counts}
use Rattle.text.proofs.laws.FieldsAt.{plain, fields_law, fields_same, no_zero}
use Rattle.text.proofs.laws.SharedAt.{dot_law, share_law}
use Rattle.text.proofs.laws.Grows.{type_grows}
use Rattle.text.proofs.laws.Moved.{at, past, moved, at_token, from_start}
use Rattle.text.proofs.laws.Taken.{wrong, outset_step, edition_step, sign_step, name_step, label_step, more_step, end_step, var_step, rec_step, choice_step, other_step}
use types.Run.{OneOf}
use Rattle.table.specs.Table as S

-- how the parts of a reading are put together
abbrev Rest : Type 0
Rest = ℕ → Table → Built

unless_unless : (o : Built) (f g : Rest) → unless (unless o f) g ≡ unless o (λ q u. unless (f q u) g)
unless_unless o f g = go (eqb o.question 0) refl
  where
    go : (b : Bool) → eqb o.question 0 ≡ b → unless (cond b (f o.at o.table) o) g ≡ cond b (unless (f o.at o.table) g) o
    go true e = refl
    go false e = rw e

unless_then : (a : Step) (f : ℕ → Built) (g : Rest) → unless (then_read a f) g ≡ then_read a (λ q. unless (f q) g)
unfolding denied
unless_then a f g = go (eqb a.question 0) refl
  where
    go : (b : Bool) → eqb a.question 0 ≡ b → unless (cond b (f a.at) (denied a.question a.at)) g ≡ cond b (unless (f a.at) g) (denied a.question a.at)
    go true e = refl
    go false e = rw e

unless_fields : (a : Fields) (f : Fields → Built) (g : Rest) → unless (with_fields a f) g ≡ with_fields a (λ x. unless (f x) g)
unfolding denied
unless_fields a f g = go (eqb a.question 0) refl
  where
    go : (b : Bool) → eqb a.question 0 ≡ b → unless (cond b (f a) (denied a.question a.at)) g ≡ cond b (unless (f a) g) (denied a.question a.at)
    go true e = refl
    go false e = rw e

unless_share : (a : Counted) (f : Counted → Built) (g : Rest) → unless (with_count a f) g ≡ with_count a (λ x. unless (f x) g)
unfolding denied
unless_share a f g = go (eqb a.question 0) refl
  where
    go : (b : Bool) → eqb a.question 0 ≡ b → unless (cond b (f a) (denied a.question a.at)) g ≡ cond b (unless (f a) g) (denied a.question a.at)
    go true e = refl
    go false e = rw e

-- two ways to go on that agree where it is gone on
unless_same : (o : Built) (f g : Rest) → (o.question ≡ 0 → f o.at o.table ≡ g o.at o.table) → unless o f ≡ unless o g
unless_same o f g h = go (eqb o.question 0) refl
  where
    go : (b : Bool) → eqb o.question 0 ≡ b → cond b (f o.at o.table) o ≡ cond b (g o.at o.table) o
    go true e = h (eqb-true _ _ e)
    go false e = refl

then_same : (a : Step) (f g : ℕ → Built) → ((q : ℕ) → f q ≡ g q) → then_read a f ≡ then_read a g
then_same a f g h = ap (then_read a) (fun_ext h)

-- a refusal stays one
unless_wrong : (k : Token) (g : Rest) → unless (wrong k) g ≡ wrong k
unfolding denied
unless_wrong k g = rw (no_zero k)

brace : (s : List ℕ) (K : List Item) (O : List Open) (b : Branch) (T : Table) (p : ℕ)
    → at s (state (just 123 ∷ K) O b T) p ≡ then_read (expect_at s p 123) (λ q. at s (state K O b T) q)
unfolding within_limits
brace s K O b T p = plain s O T 123 K b p (λ x. omega arith) (λ x. omega arith) (λ h. rw h)

-- ! or ?: the branches are counted there
not_zero : {σ : ℕ} → OneOf (33 ∷ 63 ∷ []) σ → σ ≡ 0 → ⊥
not_zero (inl h) z = omega arith
not_zero (inr h) z = omega arith

not_one : {σ : ℕ} → OneOf (33 ∷ 63 ∷ []) σ → σ ≡ 1 → ⊥
not_one (inl h) z = omega arith
not_one (inr h) z = omega arith

kept : (x : Bool) → x && true ≡ x
kept true = refl
kept false = refl

counted : (s : List ℕ) (σ : ℕ) (K : List Item) (O : List Open) (b : Branch) (T : Table) (k : Token) → OneOf (33 ∷ 63 ∷ []) σ → k.kind ≡ σ
    → within_limits s (state K O b T) k ≡ ltb (length T.branches) 128
unfolding within_limits
counted s σ K O b T k (inl h) e = rw (e ∙ h) (kept (ltb (length T.branches) 128))
counted s σ K O b T k (inr h) e = rw (e ∙ h) (kept (ltb (length T.branches) 128))

-- a branch from its label on, up to its type, with which F goes on
module _ (s : List ℕ) (σ o : ℕ) (O : List Open) (K : List Item) (T : Table) (f : Rest)
    (F : length T.branches < 128 → (q : ℕ) (l x : ℕ) (g : Fields) → at s (state (type ∷ K) (a_choice o ∷ O) (branch_of l o 0 g) (add_share T x)) q ≡ f q (add_share (add_branch T (branch_of l o (length T.sorts) g)) x)) where
  body_law : (p : ℕ) → length T.branches < 128 → at s (state (label ∷ just 40 ∷ fields ∷ dot ∷ type ∷ K) (a_choice o ∷ O) empty_branch T) p ≡ unless (body_at s (label_at s p T o) o T) f
  unfolding body_at label_at label_from denied
  body_law p room =
      at_token s _ p ∙ label_step s (just 40 ∷ fields ∷ dot ∷ type ∷ K) (a_choice o ∷ O) empty_branch T k ∙ go (eqb k.kind 65) (label_used T o n)
    where
      k : Token
      k = token_at s p

      n : ℕ
      n = word_in s k

      added : Fields → Counted → Built
      added g w = came 0 w.at (add_share (add_branch T (branch_of n o (length T.sorts) g)) w.number)

      then : Fields → Built
      then g = with_count (shared_at s g.at) (added g)

      answer : Bool → Bool → Name
      answer x c =
          cond x (cond c (name_read 7 k.start 0) (name_read 0 k.end n))
          (name_read (unexpected_at k).question (unexpected_at k).at 0)

      go : (x c : Bool) → cond x (cond c (denied 7 k.start) (at s (state (just 40 ∷ fields ∷ dot ∷ type ∷ K) (a_choice o ∷ O) (labelled n o) T) k.end)) (wrong k)
          ≡ unless (body_at s (answer x c) o T) f
      go true true = refl
      go true false =
          fields_law s (a_choice o ∷ O) T (dot ∷ type ∷ K) n o k.end
          ∙ fields_same (fields_at s k.end) (λ g. at s (state (dot ∷ type ∷ K) (a_choice o ∷ O) (branch_of n o 0 g) T) g.at) (λ g. unless (then g) f) (λ z.
          let g = fields_at s k.end in
          share_law s (type ∷ K) (a_choice o ∷ O) (branch_of n o 0 g) T g.at
          ∙ ap (with_count (shared_at s g.at)) (fun_ext (λ w. F room w.at n w.number g))
          ∙ sym (unless_share (shared_at s g.at) (added g) f))
          ∙ sym (unless_fields (fields_at s k.end) then f)
      go false c = rw (no_zero k, no_zero k)

  head_law : (p : ℕ) → OneOf (33 ∷ 63 ∷ []) σ → at s (state (just σ ∷ label ∷ just 40 ∷ fields ∷ dot ∷ type ∷ K) (a_choice o ∷ O) empty_branch T) p ≡ unless (head_at s p σ o T) f
  unfolding head_at headed denied
  head_law p sg =
      at_token s _ p ∙ sign_step s (label ∷ just 40 ∷ fields ∷ dot ∷ type ∷ K) (a_choice o ∷ O) empty_branch T k σ (ltb (length T.branches) 128) (not_zero sg) (not_one sg) (counted s σ _ _ _ T k sg)
      ∙ go (eqb k.kind σ) (leb 128 (length T.branches)) refl
    where
      k : Token
      k = token_at s p

      B : List Item
      B = label ∷ just 40 ∷ fields ∷ dot ∷ type ∷ K

      go : (x c : Bool) → leb 128 (length T.branches) ≡ c
          → cond x (cond (ltb (length T.branches) 128) (at s (state B (a_choice o ∷ O) empty_branch T) k.end) (denied 8 k.start)) (wrong k)
          ≡ unless (cond x (cond c (denied 8 k.start) (body_at s (label_at s k.end T o) o T)) (wrong k)) f
      go true true h = rw (le-ltb (length T.branches) 128 (leb-true _ _ h))
      go true false h = rw (lt-ltb (length T.branches) 128 (leb-false _ _ h)) (body_law k.end (leb-false _ _ h))
      go false c h = sym (unless_wrong k f)

-- The names that are bound are those of the recs that are open, those from g on inside the innermost choice, and d more can be opened.
record Inside (e : Env) (g : ℕ) (O : List Open) (d : ℕ) : Type 0 where
  depth : length O + d ≡ 16
  room : Room e d
  meant : (x : ℕ) → find e x ≡ meaning O x
  outside : g ≤ bound_in e
  bare : (x : ℕ) → since e g x ≡ unguarded O x

-- one rec more, one choice more
in_rec : (e : Env) (g : ℕ) (O : List Open) (d n o : ℕ) → (d ≡ 0 → ⊥) → Inside e g O d → Inside (bind_in e n o) g (a_rec n o ∷ O) (d - 1)
unfolding meaning unguarded
in_rec e g O d n o z i =
    let h = pos_of_ne-zero z in
    let a = i.depth in
    let c = i.room.count in
    let f = i.outside in
    record {
      depth = omega arith;
      room = room_bind e n o d z i.room;
      meant = λ x. bind_find e n o (omega arith) i.room.long x ∙ ap (cond (eqb n x) (some o)) (i.meant x);
      outside = omega (arith, bind_count e n o (omega arith) i.room.long);
      bare = λ x. bind_since e n o (omega arith) i.room.long g x f ∙ ap (cond (eqb n x) true) (i.bare x);
    }

in_choice : (e : Env) (g : ℕ) (O : List Open) (d o : ℕ) → (d ≡ 0 → ⊥) → Inside e g O d → Inside e (bound_in e) (a_choice o ∷ O) (d - 1)
unfolding meaning unguarded
in_choice e g O d o z i =
    let h = pos_of_ne-zero z in
    let a = i.depth in
    record { depth = omega arith; room = room_less e d i.room; meant = i.meant; outside = le_refl _; bare = since_now e }

stored_states : (O : List Open) (b : Branch) (T : Table) (n : ℕ) → length (stored O b T n).sorts ≡ length T.sorts
unfolding stored add_branch
stored_states [] b T n = refl
stored_states (a_rec m o ∷ O) b T n = stored_states O b T n
stored_states (a_choice o ∷ O) b T n = refl

-- the branch that was stored is the last, and is aimed anew
aimed_last : (bs : List Branch) (b : Branch) (n : ℕ) → last_aimed (bs ++ (b ∷ [])) n ≡ bs ++ (aimed b n ∷ [])
aimed_last [] b n = refl
aimed_last (c ∷ []) b n = refl
aimed_last (c ∷ d ∷ bs) b n = ap (λ (l : List Branch). c ∷ l) (aimed_last (d ∷ bs) b n)

stored_anew : (O : List Open) (b : Branch) (T : Table) (x m n : ℕ) → meaning O x ≡ some n → unguarded O x ≡ false → aim_last (stored O b T m) n ≡ stored O b T n
unfolding meaning unguarded stored aim_last add_branch
stored_anew [] b T x m n e f = let z : ◌≡◌ {A = ℕ} 0 1 = cc in absurd (omega arith)
stored_anew (a_rec y o ∷ O) b T x m n e f = go (eqb y x) (stored_anew O b T x m n) e f
  where
    Goal : Type 0
    Goal = aim_last (stored O b T m) n ≡ stored O b T n

    go : (c : Bool) → (meaning O x ≡ some n → unguarded O x ≡ false → Goal) → cond c (some o) (meaning O x) ≡ some n → cond c true (unguarded O x) ≡ false → Goal
    go true h e f = let z : ◌≡◌ {A = ℕ} 0 1 = cc in absurd (omega arith)
    go false h e f = h e f
stored_anew (a_choice o ∷ O) b T x m n e f = rw (aimed_last T.branches (aimed b m) n)

-- how reading goes on after a type, with K
abbrev goes : List ℕ → List Item → List Open → Rest
goes s K O q U = at s (state K (closed O) empty_branch U) q

-- With a type expected, before K and with O open, what the recursion reads is read, and reading goes on with K. W is the table with the
-- branch whose type it is, which leads to the next state until a name aims it.
abbrev TypeLaw : ℕ → List ℕ → Type 0
TypeLaw d s =
    (p : ℕ) (K : List Item) (O : List Open) (b : Branch) (T : Table) (e : Env) (g : ℕ) → Inside e g O d → (W : Table) → stored O b T (length T.sorts) ≡ W → length W.branches ≤ 128
    → at s (state (type ∷ K) O b T) p ≡ unless (read_type d s p g e W) (goes s K O)

-- with a branch expected, and what follows it read by m
module _ (d : ℕ) (s : List ℕ) (law : TypeLaw d s) (σ o : ℕ) (sg : OneOf (33 ∷ 63 ∷ []) σ) (e : Env) (O : List Open) (i : Inside e (bound_in e) (a_choice o ∷ O) d) (K : List Item) (n : ℕ) (m : Rest)
    (follow : (q : ℕ) (v : Table) → length v.branches ≤ 128 → 128 < n + length v.branches → at s (state (a_branch σ K) (a_choice o ∷ O) empty_branch v) q ≡ unless (m q v) (goes s K O)) where
  more_law : (r : ℕ) (v : Table) → length v.branches ≤ 128 → 128 < n + length v.branches
      → at s (state (more σ ∷ K) (a_choice o ∷ O) empty_branch v) r ≡ unless (end_of_branch (token_at s r) o v m) (goes s K O)
  unfolding end_of_branch denied
  more_law r v h room = at_token s _ r ∙ more_step s K (a_choice o ∷ O) empty_branch v k σ ∙ go (eqb k.kind 125) (choice_right v o) (eqb k.kind 44)
    where
      k : Token
      k = token_at s r

      go : (x c y : Bool) → cond x (cond c (goes s K O k.end v) (denied 20 k.start)) (cond y (at s (state (a_branch σ K) (a_choice o ∷ O) empty_branch v) k.end) (wrong k))
          ≡ unless (cond x (cond c (came 0 k.end v) (denied 20 k.start)) (cond y (m k.end v) (wrong k))) (goes s K O)
      go true true y = refl
      go true false y = refl
      go false c true = follow k.end v h room
      go false c false = sym (unless_wrong k (goes s K O))

  ends : Rest
  ends r v = end_of_branch (token_at s r) o v m

  inner_law : (T : Table) → 128 < suc n + length T.branches → length T.branches < 128 → (q : ℕ) (l x : ℕ) (g : Fields)
      → at s (state (type ∷ more σ ∷ K) (a_choice o ∷ O) (branch_of l o 0 g) (add_share T x)) q
      ≡ unless (unless (read_type d s q (bound_in e) e (add_share (add_branch T (branch_of l o (length T.sorts) g)) x)) ends) (goes s K O)
  unfolding stored closed add_branch add_share ends
  inner_law T room h q l x g =
      let U = add_share (add_branch T (branch_of l o (length T.sorts) g)) x in
      let R = read_type d s q (bound_in e) e U in
      let more_one = length-append T.branches (branch_of l o (length T.sorts) g ∷ []) in
      law q (more σ ∷ K) (a_choice o ∷ O) (branch_of l o 0 g) (add_share T x) e (bound_in e) i U refl (omega arith)
      ∙ unless_same R (λ r v. at s (state (more σ ∷ K) (a_choice o ∷ O) empty_branch v) r) (λ r v. unless (ends r v) (goes s K O)) (λ z.
      let f = (type_grows d s q (bound_in e) e U (omega arith)).within z in
      let f₀ = f.0 in
      let f₁ = f.1 in
      more_law R.at R.table (omega arith) (omega arith))
      ∙ sym (unless_unless R ends (goes s K O))

  branch_law : (p : ℕ) (T : Table) → 128 < suc n + length T.branches
      → at s (state (a_branch σ K) (a_choice o ∷ O) empty_branch T) p ≡ unless (branch_then (read_type d s) s σ o e p T m) (goes s K O)
  unfolding branch_then ends
  branch_law p T room =
      head_law s σ o O (more σ ∷ K) T (λ q u. unless (unless (read_type d s q (bound_in e) e u) ends) (goes s K O)) (inner_law T room) p sg
      ∙ sym (unless_unless (head_at s p σ o T) (λ q u. unless (read_type d s q (bound_in e) e u) ends) (goes s K O))

-- The room n is never used up: a table holds 128 branches.
branches_law : (n d : ℕ) (s : List ℕ) (law : TypeLaw d s) (σ o : ℕ) → OneOf (33 ∷ 63 ∷ []) σ → (e : Env) (O : List Open) → Inside e (bound_in e) (a_choice o ∷ O) d
    → (K : List Item) (p : ℕ) (T : Table) → length T.branches ≤ 128 → 128 < n + length T.branches
    → at s (state (a_branch σ K) (a_choice o ∷ O) empty_branch T) p ≡ unless (branches_read (read_type d s) s σ o e n p T) (goes s K O)
unfolding branches_read
branches_law zero d s law σ o sg e O i K p T h room = absurd (omega arith)
branches_law (suc n) d s law σ o sg e O i K p T h room =
    branch_law d s law σ o sg e O i K n (branches_read (read_type d s) s σ o e n) (branches_law n d s law σ o sg e O i K) p T room

sign_of_is : (n : ℕ) → OneOf (38 ∷ 43 ∷ []) n → OneOf (33 ∷ 63 ∷ []) (sign_of n)
unfolding sign_of
sign_of_is n (inl h) = inr (rw h)
sign_of_is n (inr h) = inl (rw h)

-- a type, from the types one level down
module _ (d : ℕ) (s : List ℕ) (down : (d ≡ 0 → ⊥) → TypeLaw (d - 1) s) (p : ℕ) (K : List Item) (O : List Open) (b : Branch) (T : Table) (e : Env) (g : ℕ) (i : Inside e g O d)
    (W : Table) (w : stored O b T (length T.sorts) ≡ W) (r : length W.branches ≤ 128) where
  k : Token
  k = token_at s p

  same_states : length T.sorts ≡ length W.sorts
  same_states = sym (stored_states O b T (length T.sorts)) ∙ ap (λ (x : Table). length x.sorts) w

  end_law : k.kind ≡ 101 → moved s (state (type ∷ K) O b T) k ≡ unless (end_type k W) (goes s K O)
  unfolding end_type denied
  end_law h =
      end_step s K O b T k h W w
      ∙ ap (λ (n : ℕ). cond (leb 32 n) (denied 8 k.start) (goes s K O k.end (add_state W S.ends))) same_states ∙ go (leb 32 (length W.sorts))
    where
      go : (x : Bool) → cond x (denied 8 k.start) (goes s K O k.end (add_state W S.ends)) ≡ unless (cond x (denied 8 k.start) (came 0 k.end (add_state W S.ends))) (goes s K O)
      go true = refl
      go false = refl

  var_law : k.kind ≡ 65 → moved s (state (type ∷ K) O b T) k ≡ unless (name_type s k g e W) (goes s K O)
  unfolding name_type denied
  var_law h = var_step s K O b T k h ∙ rw (i.meant x, i.bare x) (go (meaning O x) refl (unguarded O x) refl)
    where
      x : ℕ
      x = word_in s k

      go : (f : Option ℕ) → meaning O x ≡ f → (a : Bool) → unguarded O x ≡ a
          → cond (is_found f) (cond a (denied 5 k.start) (goes s K O k.end (stored O b T (or_else f (length T.sorts))))) (denied 4 k.start)
          ≡ unless (name_used f k a W) (goes s K O)
      go none m a u = refl
      go (some n) m true u = refl
      go (some n) m false u = ap (goes s K O k.end) (sym (stored_anew O b T x (length T.sorts) n m u) ∙ ap (λ (u : Table). aim_last u n) w)

  rec_law : (z : d ≡ 0 → ⊥) (q : ℕ) → at s (state (name ∷ just 46 ∷ type ∷ K) O b T) q ≡ unless (rec_type (read_type (d - 1) s) (open_rec s q) g e W) (goes s K O)
  unfolding rec_type open_rec rec_named denied stored closed
  rec_law z q = at_token s _ q ∙ name_step s (just 46 ∷ type ∷ K) O b T j ∙ rw same_states (go (eqb j.kind 65) (eqb x.question 0) refl)
    where
      j : Token
      j = token_at s q

      n : ℕ
      n = word_in s j

      x : Step
      x = expect_at s j.end 46

      answer : Bool → Name
      answer y = cond y (name_then x n) (name_read (unexpected_at j).question (unexpected_at j).at 0)

      P : List Open
      P = a_rec n (length W.sorts) ∷ O

      f : Env
      f = bind_in e n (length W.sorts)

      inner : at s (state (just 46 ∷ type ∷ K) P b T) j.end ≡ then_read x (λ q. unless (read_type (d - 1) s q g f W) (goes s K O))
      inner =
          dot_law s (type ∷ K) P b T j.end
          ∙ then_same x (λ q. at s (state (type ∷ K) P b T) q) (λ q. unless (read_type (d - 1) s q g f W) (goes s K O)) (λ q.
          down z q K P b T f g (in_rec e g O d n (length W.sorts) z i) W w r)

      go : (y c : Bool) → eqb x.question 0 ≡ c → cond y (at s (state (just 46 ∷ type ∷ K) P b T) j.end) (wrong j)
          ≡ unless (rec_type (read_type (d - 1) s) (answer y) g e W) (goes s K O)
      go true true h = inner ∙ rw h
      go true false h = inner ∙ rw (h, h, h)
      go false c h = rw (no_zero j, no_zero j)

  choice_law : (z : d ≡ 0 → ⊥) → OneOf (38 ∷ 43 ∷ []) k.kind
      → cond (leb 32 (length T.sorts)) (denied 8 k.start) (at s (state (just 123 ∷ a_branch (sign_of k.kind) K) (a_choice (length W.sorts) ∷ O) empty_branch (add_state W (choice_sort k.kind))) k.end)
      ≡ unless (choice_type (read_type (d - 1) s) s k e W) (goes s K O)
  unfolding choice_type open_choice denied add_state
  choice_law z o =
      ap (λ (n : ℕ). cond (leb 32 n) (denied 8 k.start) (at s opens k.end)) same_states ∙ go (leb 32 (length W.sorts)) ∙ sym (unless_unless (open_choice s k W) within_it (goes s K O))
    where
      σ : ℕ
      σ = sign_of k.kind

      opens : State
      opens = state (just 123 ∷ a_branch σ K) (a_choice (length W.sorts) ∷ O) empty_branch (add_state W (choice_sort k.kind))

      within_it : Rest
      within_it q u = branches_read (read_type (d - 1) s) s σ (length W.sorts) e 129 q u

      brace_then : Rest
      brace_then q u = unless (within_it q u) (goes s K O)

      go : (x : Bool) → cond x (denied 8 k.start) (at s opens k.end)
          ≡ unless (cond x (denied 8 k.start) (then_read (expect_at s k.end 123) (λ q. came 0 q (add_state W (choice_sort k.kind))))) brace_then
      go true = refl
      go false =
          brace s (a_branch σ K) (a_choice (length W.sorts) ∷ O) empty_branch (add_state W (choice_sort k.kind)) k.end
          ∙ then_same (expect_at s k.end 123) _ (λ q. brace_then q (add_state W (choice_sort k.kind))) (λ q.
          branches_law 129 (d - 1) s (down z) σ (length W.sorts) (sign_of_is k.kind o) e O (in_choice e g O d (length W.sorts) z i) K q (add_state W (choice_sort k.kind)) r (omega arith))
          ∙ sym (unless_then (expect_at s k.end 123) (λ q. came 0 q (add_state W (choice_sort k.kind))) brace_then)

  type_law : at s (state (type ∷ K) O b T) p ≡ unless (read_type d s p g e W) (goes s K O)
  unfolding k denied
  type_law = at_token s (state (type ∷ K) O b T) p ∙ go (first k.kind) (eqb d 0) refl
    where
      by : (x : Built) → read_type d s p g e W ≡ x → moved s (state (type ∷ K) O b T) k ≡ unless x (goes s K O)
          → moved s (state (type ∷ K) O b T) k ≡ unless (read_type d s p g e W) (goes s K O)
      by x q h = h ∙ ap (λ (y : Built). unless y (goes s K O)) (sym q)

      full : d ≡ 0 → ltb (length O) 16 ≡ false
      full z = let a = i.depth in le-ltb (length O) 16 (omega arith)

      open_more : (d ≡ 0 → ⊥) → ltb (length O) 16 ≡ true
      open_more z = let a = i.depth in lt-ltb (length O) 16 (omega (arith, pos_of_ne-zero z))

      go : First k.kind → (x : Bool) → eqb d 0 ≡ x → moved s (state (type ∷ K) O b T) k ≡ unless (read_type d s p g e W) (goes s K O)
      go (first_end h) x f = by _ (at_end d s p g e W k refl h) (end_law h)
      go (first_name h) x f = by _ (at_name d s p g e W k refl h) (var_law h)
      go (first_rec h) true f =
          by (denied 8 k.start) (at_rec_full d s p g e W k refl h (eqb-true _ _ f)) (rec_step s K O b T k h ∙ rw (full (eqb-true _ _ f)))
      go (first_rec h) false f =
          by _ (at_rec d s p g e W k refl h (eqb-false _ _ f))
          (rec_step s K O b T k h ∙ rw (open_more (eqb-false _ _ f)) (rec_law (eqb-false _ _ f) k.end))
      go (first_choice h) true f =
          by (denied 8 k.start) (at_choice_full d s p g e W k refl h (eqb-true _ _ f)) (choice_step s K O b T k h W w ∙ rw (full (eqb-true _ _ f)))
      go (first_choice h) false f =
          by _ (at_choice d s p g e W k refl h (eqb-false _ _ f))
          (choice_step s K O b T k h W w ∙ rw (open_more (eqb-false _ _ f)) (choice_law (eqb-false _ _ f) h))
      go (first_other h₁ h₂ h₃ h₄) x f =
          by (wrong k) (at_other d s p g e W k refl h₁ h₂ h₃ h₄) (other_step s K O b T k h₁ h₂ h₃ h₄ ∙ sym (unless_wrong k (goes s K O)))

law : (d : ℕ) (s : List ℕ) → TypeLaw d s
law zero s = type_law zero s (λ z. absurd (z refl))
law (suc d) s = type_law (suc d) s (λ z. let y : suc d - 1 ≡ d = omega arith in rw y (law d s))

-- after the type: the end of the text
ending : (s : List ℕ) (b : Branch) (T : Table) (q : ℕ) → at s (state [] [] b T) q ≡ end_of_text (token_at s q) T
unfolding end_of_text moved past run_tokens first_no questions token_formed grammar_allows edition_known name_bound guarded ranged share_ranged new_label within_limits shares_add taken unexpected_at
ending s b T q = at_token s (state [] [] b T) q ∙ go (eqb k.kind 0) refl (eqb k.kind 1) refl
  where
    k : Token
    k = token_at s q

    go : (x : Bool) → eqb k.kind 0 ≡ x → (c : Bool) → eqb k.kind 1 ≡ c → moved s (state [] [] b T) k ≡ cond x (came 0 0 T) (wrong k)
    go true e c f = let h : k.kind ≡ 0 = eqb-true _ _ e in rw h
    go false e true f = rw f
    go false e false f = rw (f, e)

-- a whole text from its type on, and from its opening
module _ (s : List ℕ) where
  from_type : ℕ → Table → Built
  from_type p t = unless (read_type 16 s p 0 empty_env t) (λ q u. end_of_text (token_at s q) u)

  type_whole : (v p : ℕ) → at s (state (type ∷ []) [] empty_branch (stateless v)) p ≡ from_type p (stateless v)
  unfolding from_type stored closed empty_env meaning unguarded find_in since_in
  type_whole v p =
      let T = stateless v in
      let R = read_type 16 s p 0 empty_env T in
      law 16 s p [] [] empty_branch T empty_env 0 (record { depth = refl; room = room_empty; meant = λ x. refl; outside = le_refl _; bare = λ x. refl }) T refl (omega arith)
      ∙ unless_same R (goes s [] []) (λ q t. end_of_text (token_at s q) t) (λ z. ending s empty_branch R.table R.at)

  edition_whole : (p : ℕ) → at s (state (edition ∷ type ∷ []) [] empty_branch (stateless 1)) p ≡ unless (edition_at s p) from_type
  unfolding edition_at count_from denied set_edition
  edition_whole p = at_token s _ p ∙ edition_step s (type ∷ []) [] empty_branch (stateless 1) k ∙ rw (edition_counts (signed_in s k)) (go (eqb k.kind 48) (in_count 2 (signed_in s k)))
    where
      k : Token
      k = token_at s p

      n : ℕ
      n = (signed_in s k).value

      go : (x o : Bool) → cond x (cond o (at s (state (type ∷ []) [] empty_branch (set_edition (stateless 1) n)) k.end) (denied 23 k.start)) (wrong k)
          ≡ unless (with_count (cond x (cond o (count_read 0 k.end n) (count_read 23 k.start 0)) (count_read (unexpected_at k).question (unexpected_at k).at 0))
          (λ e. came 0 e.at (stateless e.number))) from_type
      go true true = type_whole n k.end
      go true false = refl
      go false o = rw (no_zero k, no_zero k)

  outset_whole : at s start 0 ≡ unless (opening_of s) from_type
  unfolding opening_from
  outset_whole = at_token s start 0 ∙ outset_step s [] [] empty_branch (stateless 1) k ∙ go (eqb k.kind 69)
    where
      k : Token
      k = token_at s 0

      go : (x : Bool) → cond x (at s (state (edition ∷ type ∷ []) [] empty_branch (stateless 1)) k.end) (moved s (state (type ∷ []) [] empty_branch (stateless 1)) k)
          ≡ unless (cond x (edition_at s k.end) (came 0 0 (stateless 1))) from_type
      go true = edition_whole k.end
      go false = sym (at_token s (state (type ∷ []) [] empty_branch (stateless 1)) 0) ∙ type_whole 1 0

-- reading by tokens and reading by recursion are the same, on every text
pub answered_text : (s : List ℕ) → built s ≡ read_text s
unfolding built read_text tokens from_type
answered_text s = go (ltb 8192 (length s)) refl
  where
    go : (x : Bool) → ltb 8192 (length s) ≡ x → built s ≡ cond x (denied 1 0) (unless (opening_of s) (from_type s))
    go true h = rw (lt-leb (length s) 8192 (ltb-true _ _ h))
    go false h = rw (le-leb (length s) 8192 (ltb-false _ _ h)) (from_start s start ∙ outset_whole s)
