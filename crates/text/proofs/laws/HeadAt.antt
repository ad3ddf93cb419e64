-- The functions under a type, over words that hold a table: what each way through them gives. Assumes nothing.
use mathlib.Core.Path.{◌≡◌, refl, sym, ap, subst, ◌∙◌}
use mathlib.Core.Bool.{Bool, true, false, cond}
use mathlib.Core.List.{List}
use mathlib.Core.Option.{none, some}
use Prim.Native.Nat.{ℕ, ◌≤◌, ◌<◌}
use native.Mathlib.Omega.{arith}
use lib.Dec.{leb, eqb}
use lib.ListN.{length}
use borrow.Author.Tests.{eq-eqb, ne_eqb, eqb-true, eqb-false, le-leb, lt-leb}
use Rattle.table.specs.Lists.{upto}
use Rattle.table.specs.Table.{Table, of_choice, shares_right}
use Rattle.table.specs.View.{states_of, branches_of, branch_at, share_at, view}
use Rattle.grammar.specs.Token.{Token, word_in}
use Rattle.grammar.specs.inner.Scanner.{token_at}
use Rattle.grammar.specs.Building.{add_state, add_branch, add_share, label_used, choice_right}
use Rattle.grammar.specs.Filled.{code_of}
use Rattle.text.specs.inner.Stores.{put_state, put_branch, put_target, any_label}
use Rattle.grammar.specs.Reading.{choice_sort}
use Rattle.grammar.specs.inner.Holds.{Holds}
use Rattle.text.specs.inner.Recursive.{Gives, step_answer, unexpected_at, expect_at, fields_at, shared_at, find, since, name_read, label_from, label_at, branch_of, raw_of, body_at, headed, head_at, aim_last, name_type, end_type, open_choice, Env}
use Rattle.text.specs.inner.Answers.{Step, Name, Counted, Fields, Raw}
use Rattle.text.proofs.laws.FieldsAt.{no_zero}
use Rattle.text.proofs.laws.ExpectAt.{expect_yes, expect_no}
use Rattle.grammar.proofs.laws.Packed.{Label}
use Rattle.grammar.proofs.laws.NameToken.{token_label}
use Rattle.text.proofs.laws.Listed.{Clear, fields_clear}
use Rattle.grammar.proofs.laws.Holds.{holds_states, holds_branches, view_holds}
use Rattle.text.proofs.laws.Stores.{holds_state, holds_branch, holds_target, holds_label}
use Rattle.text.proofs.laws.Gives.{gives_refused, gives_wrong, gives_read, head_read}
use Rattle.table.specs.Table as S

-- a name that was read as a label is legal
label_legal : (s : List ℕ) (p : ℕ) (T : Table) (o : ℕ) → (label_at s p T o).question ≡ 0 → Label (label_at s p T o).word
unfolding label_at label_from
label_legal s p T o h = go (eqb k.kind 65) refl (label_used T o (word_in s k)) h
  where
    k : Token
    k = token_at s p

    answer : Bool → Bool → Name
    answer x c =
        cond x (cond c (name_read 7 k.start 0) (name_read 0 k.end (word_in s k))) (name_read (unexpected_at k).question (unexpected_at k).at 0)

    go : (x : Bool) → eqb k.kind 65 ≡ x → (c : Bool) → (answer x c).question ≡ 0 → Label (answer x c).word
    go true e true h = absurd (omega arith)
    go true e false h = token_label s p (eqb-true _ _ e)
    go false e c h = absurd (eqb-false _ _ (no_zero k) h)

module _ (w : List ℕ) (T : Table) (H : Holds w T) where
  states_full : 32 ≤ states_of w → leb 32 (length T.sorts) ≡ true
  states_full h = le-leb _ _ (subst (λ n. 32 ≤ n) (holds_states w T H) h)

  states_room : states_of w < 32 → length T.sorts < 32
  states_room h = subst (λ n. n < 32) (holds_states w T H) h

  branches_full : 128 ≤ branches_of w → leb 128 (length T.branches) ≡ true
  branches_full h = le-leb _ _ (subst (λ n. 128 ≤ n) (holds_branches w T H) h)

  branches_room : branches_of w < 128 → length T.branches < 128
  branches_room h = subst (λ n. n < 128) (holds_branches w T H) h

  -- ---- end, and a choice up to its brace

  pub end_full : (k : Token) (r : Step) (v : List ℕ) → 32 ≤ states_of w → r ≡ step_answer 8 k.start → Gives (end_type k T) r v
  unfolding end_type
  end_full k r v h f = gives_refused _ r v 8 k.start (rw (states_full h)) f (λ z. omega arith)

  pub end_read : (k : Token) (r : Step) (v : List ℕ) → states_of w < 32 → v ≡ put_state w 0 → r ≡ step_answer 0 k.end → Gives (end_type k T) r v
  unfolding end_type
  end_read k r v h e f =
      gives_read _ r v (add_state T S.ends) k.end f (rw (lt-leb _ _ (states_room h)))
      (subst (λ x. Holds x (add_state T S.ends)) (sym e) (holds_state w T H S.ends (states_room h)))

  pub open_full : (s : List ℕ) (k : Token) (r : Step) (v : List ℕ) → 32 ≤ states_of w → r ≡ step_answer 8 k.start → Gives (open_choice s k T) r v
  unfolding open_choice
  open_full s k r v h f = gives_refused _ r v 8 k.start (rw (states_full h)) f (λ z. omega arith)

  pub open_wrong : (s : List ℕ) (k : Token) (r : Step) (v : List ℕ) → states_of w < 32 → r ≡ expect_at s k.end 123 → (r.question ≡ 0 → ⊥)
      → Gives (open_choice s k T) r v
  unfolding open_choice
  open_wrong s k r v h e z = gives_refused _ r v r.question r.at (rw (lt-leb _ _ (states_room h), ← e, ne_eqb _ _ z)) refl z

  pub open_read : (s : List ℕ) (k : Token) (r : Step) (v : List ℕ) (n : ℕ) → states_of w < 32 → r ≡ expect_at s k.end 123 → r.question ≡ 0
      → n ≡ code_of (choice_sort k.kind) → v ≡ put_state w n → Gives (open_choice s k T) r v
  unfolding open_choice
  open_read s k r v n h e z c f =
      let U = add_state T (choice_sort k.kind) in
      gives_read _ r v U r.at (ap (λ q. step_answer q r.at) z) (rw (lt-leb _ _ (states_room h), ← e, eq-eqb _ _ z))
      (subst (λ x. Holds x U) (sym (f ∙ ap (put_state w) c)) (holds_state w T H (choice_sort k.kind) (states_room h)))

  -- ---- a name as a type

  module _ (s : List ℕ) (k : Token) (g : ℕ) (e : Env) (r : Step) where
    pub name_unbound : (v : List ℕ) → find e (word_in s k) ≡ none → r ≡ step_answer 4 k.start → Gives (name_type s k g e T) r v
    unfolding name_type
    name_unbound v f q = gives_refused _ r v 4 k.start (rw f) q (λ z. omega arith)

    pub name_bare : (n : ℕ) (v : List ℕ) → find e (word_in s k) ≡ some n → since e g (word_in s k) ≡ true → r ≡ step_answer 5 k.start
        → Gives (name_type s k g e T) r v
    unfolding name_type
    name_bare n v f b q = gives_refused _ r v 5 k.start (rw (f, b)) q (λ z. omega arith)

    pub name_done : (n : ℕ) (v : List ℕ) → v ≡ put_target w n → find e (word_in s k) ≡ some n → since e g (word_in s k) ≡ false
        → r ≡ step_answer 0 k.end → Gives (name_type s k g e T) r v
    unfolding name_type
    name_done n v v_is f b q =
        gives_read _ r v (aim_last T n) k.end q (rw (f, b)) (subst (λ x. Holds x (aim_last T n)) (sym v_is) (holds_target w T H n))

  -- ---- a label

  module _ (s : List ℕ) (p o : ℕ) (k : Token) (here : k ≡ token_at s p) where
    pub label_wrong : (u : Step) → (k.kind ≡ 65 → ⊥) → u ≡ unexpected_at k → name_read u.question u.at 0 ≡ label_at s p T o
    unfolding label_at label_from
    label_wrong u z e = rw (← here, ne_eqb _ _ z, e)

    told : (n : ℕ) (c : Bool) → k.kind ≡ 65 → n ≡ length T.branches → c ≡ any_label w n o (word_in s k) → label_used T o (word_in s k) ≡ c
    told n c y e f =
        sym (holds_label w T H o (word_in s k) (subst (λ (j : Token). Label (word_in s j)) (sym here) (token_label s p (ap (λ (j : Token). j.kind) (sym here) ∙ y))))
        ∙ ap (λ n. any_label w n o (word_in s k)) (sym e) ∙ sym f

    pub label_twice : (n : ℕ) (x : ℕ) (c : Bool) → k.kind ≡ 65 → n ≡ length T.branches → x ≡ word_in s k → c ≡ any_label w n o x → c ≡ true
        → name_read 7 k.start 0 ≡ label_at s p T o
    unfolding label_at label_from
    label_twice n x c y e g f t = rw (← here, eq-eqb _ _ y, told n c y e (f ∙ ap (any_label w n o) g), t)

    pub label_new : (n : ℕ) (x : ℕ) (c : Bool) → k.kind ≡ 65 → n ≡ length T.branches → x ≡ word_in s k → c ≡ any_label w n o x → c ≡ false
        → name_read 0 k.end x ≡ label_at s p T o
    unfolding label_at label_from
    label_new n x c y e g f t = rw (← here, eq-eqb _ _ y, told n c y e (f ∙ ap (any_label w n o) g), t, g)

  -- ---- the brace of a choice

  -- what the words show of the shares of a choice
  shares_told : (o : ℕ) (c : Bool) → c ≡ shares_right (of_choice o (upto (branches_of w) (branch_at w)) (upto (branches_of w) (share_at w)))
      → choice_right T o ≡ c
  unfolding choice_right view
  shares_told o c e = ap (λ (t : Table). shares_right (of_choice o t.branches t.shares)) (sym (view_holds w T H)) ∙ sym e

  module _ (s : List ℕ) (p e o : ℕ) (r : Step) where
    pub close_right : (c : Bool) → c ≡ shares_right (of_choice o (upto (branches_of w) (branch_at w)) (upto (branches_of w) (share_at w)))
        → c ≡ true → r ≡ step_answer 0 e → r ≡ cond (choice_right T o) (step_answer 0 e) (step_answer 20 (token_at s p).start)
    close_right c f t g = rw (shares_told o c f, t) g

    pub close_wrong : (c : Bool) → c ≡ shares_right (of_choice o (upto (branches_of w) (branch_at w)) (upto (branches_of w) (share_at w)))
        → c ≡ false → (k : Token) → k ≡ token_at s p → r ≡ step_answer 20 k.start
        → r ≡ cond (choice_right T o) (step_answer 0 e) (step_answer 20 (token_at s p).start)
    close_wrong c f t k here g = rw (shares_told o c f, t) (g ∙ ap (λ (k : Token). step_answer 20 k.start) here)

  -- ---- a branch up to its type

  module _ (s : List ℕ) (p σ o : ℕ) (b : Step) (b_is : b ≡ expect_at s p σ) where
    pub head_wrong : (v : List ℕ) → (b.question ≡ 0 → ⊥) → Gives (head_at s p σ o T) b v
    unfolding head_at headed
    head_wrong v z = let x = expect_no s p σ b b_is z in gives_wrong _ b v (token_at s p) x.1 (rw (ne_eqb _ _ x.0))

    module _ (b_read : b.question ≡ 0) where
      sign : (token_at s p).kind ≡ σ
      sign = (expect_yes s p σ b b_is b_read).0

      pub head_full : (k : Token) (r : Step) (v : List ℕ) → k ≡ token_at s p → 128 ≤ branches_of w → r ≡ step_answer 8 k.start → Gives (head_at s p σ o T) r v
      unfolding head_at headed
      head_full k r v here h f =
          gives_refused _ r v 8 k.start (rw (eq-eqb _ _ sign, branches_full h, here)) f (λ z. omega arith)

      module _ (h : branches_of w < 128) (l : Name)
          (l_is : (T : Table) → Holds w T → branches_of w ≡ length T.branches → l ≡ label_at s b.at T o) where
        labelled_so : l ≡ label_at s (token_at s p).end T o
        labelled_so = l_is T H (holds_branches w T H) ∙ ap (λ q. label_at s q T o) (expect_yes s p σ b b_is b_read).1

        pub head_label : (r : Step) (v : List ℕ) → (l.question ≡ 0 → ⊥) → r ≡ step_answer l.question l.at → Gives (head_at s p σ o T) r v
        unfolding head_at headed body_at
        head_label r v z f =
            gives_refused _ r v l.question l.at (rw (eq-eqb _ _ sign, lt-leb _ _ (branches_room h), ← labelled_so, ne_eqb _ _ z)) f z

        module _ (l_read : l.question ≡ 0) (f : Fields) (f_is : f ≡ fields_at s l.at) where
          pub head_fields : (r : Step) (v : List ℕ) → (f.question ≡ 0 → ⊥) → r ≡ step_answer f.question f.at → Gives (head_at s p σ o T) r v
          unfolding head_at headed body_at
          head_fields r v z g =
              gives_refused _ r v f.question f.at
              (rw (eq-eqb _ _ sign, lt-leb _ _ (branches_room h), ← labelled_so, eq-eqb _ _ l_read, ← f_is, ne_eqb _ _ z)) g z

          module _ (f_read : f.question ≡ 0) (x : Counted) (x_is : x ≡ shared_at s f.at) where
            pub head_share : (r : Step) (v : List ℕ) → (x.question ≡ 0 → ⊥) → r ≡ step_answer x.question x.at → Gives (head_at s p σ o T) r v
            unfolding head_at headed body_at
            head_share r v z g =
                gives_refused _ r v x.question x.at
                (rw (eq-eqb _ _ sign, lt-leb _ _ (branches_room h), ← labelled_so, eq-eqb _ _ l_read, ← f_is, eq-eqb _ _ f_read, ← x_is, ne_eqb _ _ z)) g z

            pub head_done : (b : Raw) (r : Step) (v : List ℕ) → x.question ≡ 0
                → b ≡ raw_of l.word o (states_of w) x.number f → v ≡ put_branch w b → r ≡ step_answer 0 x.at → Gives (head_at s p σ o T) r v
            head_done b r v z b_is v_is g =
                let n = length T.sorts in
                let U = add_share (add_branch T (branch_of l.word o n f)) x.number in
                let legal : Label l.word = subst (λ (x : Name). Label x.word) (sym labelled_so) (label_legal s (token_at s p).end T o (ap (λ (x : Name). x.question) (sym labelled_so) ∙ l_read)) in
                let clear : Clear f = subst Clear (sym f_is) (fields_clear s l.at) in
                gives_read _ r v U x.at g
                (head_read s p σ o T (token_at s p) l f x refl sign (branches_room h) labelled_so l_read f_is f_read x_is z)
                (subst (λ x. Holds x U) (sym (v_is ∙ ap (put_branch w) (b_is ∙ ap (λ n. raw_of l.word o n x.number f) (holds_states w T H))))
                (holds_branch w T H l.word o n x.number f (branches_room h) clear legal))
