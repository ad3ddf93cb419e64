-- What a function answers over a lent table, from what is defined. Assumes nothing.
use mathlib.Core.Path.{◌≡◌, refl, sym, ◌∙◌}
use mathlib.Core.List.{List}
use Prim.Native.Nat.{ℕ, ◌<◌}
use lib.ListN.{length}
use borrow.Author.Tests.{eq-eqb, ne_eqb, eqb-false, lt-leb}
use Rattle.table.specs.Table.{Table}
use Rattle.grammar.specs.Building.{add_branch, add_share, Built, came, denied}
use Rattle.grammar.specs.inner.Holds.{Holds}
use Rattle.text.specs.inner.Recursive.{Gives, step_answer, unexpected_at, fields_at, shared_at, label_at, branch_of, body_at, headed, head_at, unless}
use Rattle.grammar.specs.Token.{Token}
use Rattle.grammar.specs.inner.Scanner.{token_at}
use Rattle.text.specs.inner.Answers.{Step, Name, Counted, Fields}
use Rattle.text.proofs.laws.FieldsAt.{no_zero}

-- a refusal; at a token that the grammar does not allow; a reading
pub gives_refused : (R : Built) (r : Step) (w : List ℕ) (q at : ℕ) → R ≡ denied q at → r ≡ step_answer q at → (q ≡ 0 → ⊥) → Gives R r w
unfolding denied
gives_refused R r w q at e f z = rw (e, f) (record { question = refl; at = refl; table = λ y. absurd (z y) })

pub gives_wrong : (R : Built) (r : Step) (w : List ℕ) (k : Token) → r ≡ unexpected_at k → R ≡ denied (unexpected_at k).question (unexpected_at k).at → Gives R r w
gives_wrong R r w k f e = gives_refused R r w (unexpected_at k).question (unexpected_at k).at e f (eqb-false _ _ (no_zero k))

pub gives_read : (R : Built) (r : Step) (w : List ℕ) (T : Table) (at : ℕ) → r ≡ step_answer 0 at → R ≡ came 0 at T → Holds w T → Gives R r w
gives_read R r w T at f e h = rw (e, f) (record { question = refl; at = refl; table = λ y. h })

-- what is defined in another way
pub gives_by : (R Q : Built) (r : Step) (w : List ℕ) → R ≡ Q → Gives Q r w → Gives R r w
gives_by R Q r w e g = rw e g

-- a part that was read, and how the whole goes on; a part that was refused
module _ (O : Built) (o : Step) (u : List ℕ) (f : ℕ → Table → Built) (g : Gives O o u) where
  pub unless_read : o.question ≡ 0 → unless O f ≡ f o.at O.table
  unless_read z = rw (eq-eqb O.question 0 (sym g.question ∙ z), ← g.at)

  pub unless_refused : (w : List ℕ) → (o.question ≡ 0 → ⊥) → Gives (unless O f) o w
  unless_refused w z =
      gives_by (unless O f) O o w (rw (ne_eqb O.question 0 (λ y. z (g.question ∙ y))))
      (record { question = g.question; at = g.at; table = λ y. absurd (z y) })

-- a branch up to its type, from its parts
pub head_read : (s : List ℕ) (p sign o : ℕ) (T : Table) (k : Token) (l : Name) (f : Fields) (x : Counted)
    → k ≡ token_at s p → k.kind ≡ sign → length T.branches < 128
    → l ≡ label_at s k.end T o → l.question ≡ 0
    → f ≡ fields_at s l.at → f.question ≡ 0 → x ≡ shared_at s f.at → x.question ≡ 0
    → head_at s p sign o T ≡ came 0 x.at (add_share (add_branch T (branch_of l.word o (length T.sorts) f)) x.number)
unfolding head_at headed body_at
head_read s p sign o T k l f x k_is k_sign room l_is l_read f_is f_read x_is x_read =
    rw (← k_is, eq-eqb _ _ k_sign, lt-leb _ _ room, ← l_is, eq-eqb _ _ l_read, ← f_is, eq-eqb _ _ f_read, ← x_is, eq-eqb _ _ x_read)
