-- A table only grows while a type is read, and has at most 128 branches. Assumes nothing.
use mathlib.Core.Path.{◌≡◌, refl, sym, subst, ◌∙◌}
use mathlib.Core.Bool.{cond, Bool, true, false}
use mathlib.Core.List.{List, [], ◌∷◌, ◌++◌}
use mathlib.Core.Option.{Option, none, some}
use Prim.Native.Nat.{ℕ, zero, suc, ◌+◌, ◌-◌, ◌≤◌, ◌<◌}
use native.Mathlib.Nat.{le_refl, le_trans}
use native.Mathlib.Omega.{arith}
use lib.ListN.{length, length-append}
use lib.Dec.{eqb, leb}
use borrow.Author.Tests.{eqb-true, eqb-false, leb-false}
use Rattle.table.specs.Table.{Branch, Table}
use Rattle.grammar.specs.Token.{Token, word_in}
use Rattle.grammar.specs.inner.Scanner.{token_at}
use Rattle.grammar.specs.Building.{add_state, add_branch, add_share, choice_right, came, denied, Built}
use Rattle.grammar.specs.Reading.{sign_of, choice_sort}
use Rattle.text.specs.inner.Recursive.{unexpected_at, expect_at, fields_at, shared_at, bound_in, bind_in, find, since, open_rec, label_at, branch_of, then_read, with_fields, with_count, body_at, headed, head_at, aim_last, name_used, name_type, end_type, open_choice, Reader, unless, end_of_branch, branch_then, branches_read, choice_type, rec_type, read_type, Env}
use Rattle.text.specs.inner.Answers.{Step, Name, Counted, Fields}
use Rattle.text.proofs.laws.Stores.{last_length}
use Rattle.text.proofs.laws.Recursive.{at_end, at_name, at_rec, at_rec_full, at_choice, at_choice_full, at_other}
use Rattle.grammar.proofs.laws.GrammarAllows.{First, first, first_end, first_name, first_rec, first_choice, first_other}

-- an answer whose table, if there is one, has from n to 128 branches
pub record Grows (n : ℕ) (R : Built) : Type 0 where
  pub within : R.question ≡ 0 → (n ≤ length R.table.branches) × (length R.table.branches ≤ 128)

-- by the parts that an answer is put together from
wrong_grows : (n : ℕ) (k : Token) → Grows n (denied (unexpected_at k).question (unexpected_at k).at)
unfolding denied unexpected_at
wrong_grows n k = go (eqb k.kind 1)
  where
    go : (c : Bool) → Grows n (denied (cond c 2 3) k.start)
    go true = record { within = λ h. absurd (omega arith) }
    go false = record { within = λ h. absurd (omega arith) }

eight_grows : (n at : ℕ) → Grows n (denied 8 at)
unfolding denied
eight_grows n at = record { within = λ h. absurd (omega arith) }

cond_grows : (n : ℕ) (x : Bool) {A B : Built} → Grows n A → Grows n B → Grows n (cond x A B)
cond_grows n true a b = a
cond_grows n false a b = b

-- where a test on the number 0 says whether it is gone on
if_grows : (n q : ℕ) (A B : Built) → (q ≡ 0 → Grows n A) → (B.question ≡ q) → Grows n (cond (eqb q 0) A B)
if_grows n q A B a b = go (eqb q 0) refl
  where
    go : (x : Bool) → eqb q 0 ≡ x → Grows n (cond x A B)
    go true e = a (eqb-true _ _ e)
    go false e = record { within = λ h. absurd (eqb-false _ _ e (sym b ∙ h)) }

unless_grows : (n : ℕ) (o : Built) (f : ℕ → Table → Built) → (o.question ≡ 0 → Grows n (f o.at o.table)) → Grows n (unless o f)
unless_grows n o f g = if_grows n o.question (f o.at o.table) o g refl

then_grows : (n : ℕ) (a : Step) (f : ℕ → Built) → ((q : ℕ) → Grows n (f q)) → Grows n (then_read a f)
unfolding denied
then_grows n a f g = if_grows n a.question (f a.at) (denied a.question a.at) (λ h. g a.at) refl

fields_grows : (n : ℕ) (a : Fields) (f : Fields → Built) → ((x : Fields) → Grows n (f x)) → Grows n (with_fields a f)
unfolding denied
fields_grows n a f g = if_grows n a.question (f a) (denied a.question a.at) (λ h. g a) refl

share_grows : (n : ℕ) (a : Counted) (f : Counted → Built) → ((x : Counted) → Grows n (f x)) → Grows n (with_count a f)
unfolding denied
share_grows n a f g = if_grows n a.question (f a) (denied a.question a.at) (λ h. g a) refl

weaken : (n m : ℕ) (R : Built) → n ≤ m → Grows m R → Grows n R
weaken n m R h g = record { within = λ z. (le_trans h (g.within z).0, (g.within z).1) }

grown : (bs : List Branch) (b : Branch) → length bs < 128 → (length bs + 1 ≤ length (bs ++ (b ∷ []))) × (length (bs ++ (b ∷ [])) ≤ 128)
grown bs b h = let e = length-append bs (b ∷ []) in (omega arith, omega arith)

-- a branch up to its type
body_grows : (s : List ℕ) (l : Name) (o : ℕ) (T : Table) → length T.branches < 128 → Grows (length T.branches + 1) (body_at s l o T)
unfolding body_at denied add_branch add_share
body_grows s l o T room =
    let ends : Fields → Counted → Built = λ f w. came 0 w.at (add_share (add_branch T (branch_of l.word o (length T.sorts) f)) w.number) in
    let dot : Fields → Built = λ f. with_count (shared_at s f.at) (ends f) in
    if_grows (length T.branches + 1) l.question (with_fields (fields_at s l.at) dot) (denied l.question l.at) (λ z.
    fields_grows (length T.branches + 1) (fields_at s l.at) dot (λ f. share_grows (length T.branches + 1) (shared_at s f.at) (ends f) (λ w. record { within = λ h. grown T.branches (branch_of l.word o (length T.sorts) f) room }))) refl

head_grows : (s : List ℕ) (p σ o : ℕ) (T : Table) → Grows (length T.branches + 1) (head_at s p σ o T)
unfolding head_at headed
head_grows s p σ o T = cond_grows (length T.branches + 1) (eqb k.kind σ) (go (leb 128 (length T.branches)) refl) (wrong_grows (length T.branches + 1) k)
  where
    k : Token
    k = token_at s p

    go : (x : Bool) → leb 128 (length T.branches) ≡ x → Grows (length T.branches + 1) (cond x (denied 8 k.start) (body_at s (label_at s k.end T o) o T))
    go true h = eight_grows (length T.branches + 1) k.start
    go false h = body_grows s (label_at s k.end T o) o T (leb-false _ _ h)

abbrev pub Growing : Reader → Type 0
Growing inner = (p g : ℕ) (e : Env) (T : Table) → length T.branches ≤ 128 → Grows (length T.branches) (inner p g e T)

-- one branch, and what follows it by `more`
branch_grows : (inner : Reader) → Growing inner → (s : List ℕ) (σ o : ℕ) (e : Env) (p : ℕ) (T : Table) (more : ℕ → Table → Built)
    → ((q : ℕ) (v : Table) → Grows (length v.branches) (more q v)) → Grows (length T.branches) (branch_then inner s σ o e p T more)
unfolding branch_then end_of_branch denied
branch_grows inner g s σ o e p T more follow =
    unless_grows (length T.branches) H (λ q u. unless (inner q (bound_in e) e u) ends) (λ z.
    let h = (head_grows s p σ o T).within z in
    let h₀ = h.0 in
    unless_grows (length T.branches) I ends (λ y.
    let i = (g H.at (bound_in e) e H.table h.1).within y in
    let i₀ = i.0 in
    let i₁ = i.1 in
    let low : length T.branches ≤ length I.table.branches = omega arith in
    let k = token_at s I.at in
    cond_grows (length T.branches) (eqb k.kind 125)
    (cond_grows (length T.branches) (choice_right I.table o) {A = came 0 k.end I.table} (record { within = λ x. (low, i₁) }) (record { within = λ h. absurd (omega arith) }))
    (cond_grows (length T.branches) (eqb k.kind 44) {A = more k.end I.table} (weaken (length T.branches) (length I.table.branches) (more k.end I.table) low (follow k.end I.table)) (wrong_grows (length T.branches) k))))
  where
    H : Built
    H = head_at s p σ o T

    I : Built
    I = inner H.at (bound_in e) e H.table

    ends : ℕ → Table → Built
    ends r v = end_of_branch (token_at s r) o v more

branches_grow : (inner : Reader) → Growing inner → (s : List ℕ) (σ o : ℕ) (e : Env) (n p : ℕ) (T : Table) → Grows (length T.branches) (branches_read inner s σ o e n p T)
unfolding branches_read
branches_grow inner g s σ o e zero p T = eight_grows (length T.branches) p
branches_grow inner g s σ o e (suc n) p T = branch_grows inner g s σ o e p T (branches_read inner s σ o e n) (branches_grow inner g s σ o e n)

module _ (d : ℕ) (s : List ℕ) (down : (d ≡ 0 → ⊥) → Growing (read_type (d - 1) s)) (p g : ℕ) (e : Env) (T : Table) (r : length T.branches ≤ 128) where
  type_grow : Grows (length T.branches) (read_type d s p g e T)
  unfolding end_type name_type aim_last rec_type choice_type open_choice denied add_state
  type_grow = go (first k.kind) (eqb d 0) refl
    where
      k : Token
      k = token_at s p

      by : (x : Built) → read_type d s p g e T ≡ x → Grows (length T.branches) x → Grows (length T.branches) (read_type d s p g e T)
      by x q y = subst (Grows (length T.branches)) (sym q) y

      named_grows : (f : Option ℕ) (b : Bool) → Grows (length T.branches) (name_used f k b T)
      named_grows none b = record { within = λ h. absurd (omega arith) }
      named_grows (some n) true = record { within = λ h. absurd (omega arith) }
      named_grows (some n) false = let e = last_length T.branches n in record { within = λ h. (omega arith, omega arith) }

      go : First k.kind → (x : Bool) → eqb d 0 ≡ x → Grows (length T.branches) (read_type d s p g e T)
      go (first_end h) x f =
          by (end_type k T) (at_end d s p g e T k refl h) (cond_grows (length T.branches) (leb 32 (length T.sorts)) (eight_grows (length T.branches) k.start) (record { within = λ z. (le_refl _, r) }))
      go (first_name h) x f = by (name_type s k g e T) (at_name d s p g e T k refl h) (named_grows (find e (word_in s k)) (since e g (word_in s k)))
      go (first_rec h) true f = by (denied 8 k.start) (at_rec_full d s p g e T k refl h (eqb-true _ _ f)) (eight_grows (length T.branches) k.start)
      go (first_rec h) false f =
          let o = open_rec s k.end in
          let i = bind_in e o.word (length T.sorts) in
          by (rec_type (read_type (d - 1) s) o g e T) (at_rec d s p g e T k refl h (eqb-false _ _ f))
          (if_grows (length T.branches) o.question (read_type (d - 1) s o.at g i T) (denied o.question o.at) (λ z. down (eqb-false _ _ f) o.at g i T r) refl)
      go (first_choice h) true f = by (denied 8 k.start) (at_choice_full d s p g e T k refl h (eqb-true _ _ f)) (eight_grows (length T.branches) k.start)
      go (first_choice h) false f =
          let O = open_choice s k T in
          by (choice_type (read_type (d - 1) s) s k e T) (at_choice d s p g e T k refl h (eqb-false _ _ f))
          (unless_grows (length T.branches) O (λ q u. branches_read (read_type (d - 1) s) s (sign_of k.kind) (length T.sorts) e 129 q u) (λ z.
          let c = (cond_grows (length T.branches) (leb 32 (length T.sorts)) (eight_grows (length T.branches) k.start) (then_grows (length T.branches) (expect_at s k.end 123) (λ q. came 0 q (add_state T (choice_sort k.kind))) (λ q. record { within = λ y. (le_refl _, r) }))).within z in
          let c₀ = c.0 in
          weaken (length T.branches) (length O.table.branches) _ c₀ (branches_grow (read_type (d - 1) s) (down (eqb-false _ _ f)) s (sign_of k.kind) (length T.sorts) e 129 O.at O.table)))
      go (first_other h₁ h₂ h₃ h₄) x f =
          by (denied (unexpected_at k).question (unexpected_at k).at) (at_other d s p g e T k refl h₁ h₂ h₃ h₄) (wrong_grows (length T.branches) k)

pub type_grows : (d : ℕ) (s : List ℕ) → Growing (read_type d s)
type_grows zero s = type_grow zero s (λ z. absurd (z refl))
type_grows (suc d) s = type_grow (suc d) s (λ z. let y : suc d - 1 ≡ d = omega arith in rw y (type_grows d s))
