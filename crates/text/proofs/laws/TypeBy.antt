-- Types and branches over a lent table: what each way through a type and each turn of the loop over branches gives, from what its
-- parts give. Assumes nothing.
use mathlib.Core.Path.{◌≡◌, refl, ◌∙◌}
use mathlib.Core.Bool.{Bool, true, false, cond}
use mathlib.Core.List.{List, [], ◌∷◌}
use Prim.Native.Nat.{ℕ, ◌-◌, ◌<◌}
use native.Mathlib.Omega.{arith}
use lib.Dec.{eqb}
use lib.ListN.{length}
use borrow.Author.Tests.{eq-eqb, ne_eqb}
use Rattle.table.specs.Table.{Table}
use Rattle.grammar.specs.Token.{Token, one_of}
use Rattle.grammar.specs.inner.Scanner.{signs, token_at}
use Rattle.grammar.specs.Building.{choice_right, Built}
use Rattle.grammar.specs.Reading.{sign_of}
use Rattle.grammar.specs.inner.Holds.{Holds}
use Rattle.text.specs.inner.Recursive.{Gives, step_answer, next_at, open_rec, open_choice, head_at, Reader, unless, end_of_branch, branch_then, branches_read, choice_type, rec_type, read_type, read_branches, Env, bound_in, bind_in}
use Rattle.text.specs.inner.Answers.{Step, Name, Next}
use Rattle.text.proofs.laws.Gives.{gives_refused, gives_wrong, gives_read, gives_by, unless_read, unless_refused}
use Rattle.text.proofs.laws.ExpectAt.{next_no, next_last, next_more}
use Rattle.text.proofs.laws.Recursive.{at_rec, at_choice, turn}
use types.Run.{OneOf}

-- ---- a type

module _ (d : ℕ) (s : List ℕ) (p g : ℕ) (e : Env) (T : Table) (k : Token) (here : k ≡ token_at s p) (deep : d ≡ 0 → ⊥) where
  pub rec_refused : (o : Name) (r : Step) (w : List ℕ) → k.kind ≡ 114 → o ≡ open_rec s k.end
      → (o.question ≡ 0 → ⊥) → r ≡ step_answer o.question o.at → Gives (read_type d s p g e T) r w
  unfolding rec_type
  rec_refused o r w h i z f =
      gives_refused _ r w o.question o.at (at_rec d s p g e T k here h deep ∙ rw (← i, ne_eqb _ _ z)) f z

  pub rec_read : (o : Name) (r : Step) (n : ℕ) (f : Env) (w : List ℕ) → k.kind ≡ 114 → o ≡ open_rec s k.end
      → o.question ≡ 0 → n ≡ length T.sorts → f ≡ bind_in e o.word n → Gives (read_type (d - 1) s o.at g f T) r w
      → Gives (read_type d s p g e T) r w
  unfolding rec_type
  rec_read o r n f w h i z j b c =
      gives_by _ _ r w (at_rec d s p g e T k here h deep ∙ rw (← i, eq-eqb _ _ z, ← j, ← b)) c

  pub choice_refused : (o : Step) (v w : List ℕ) → OneOf (38 ∷ 43 ∷ []) k.kind → Gives (open_choice s k T) o v
      → (o.question ≡ 0 → ⊥) → Gives (read_type d s p g e T) o w
  unfolding choice_type
  choice_refused o v w h c z =
      gives_by _ _ o w (at_choice d s p g e T k here h deep)
      (unless_refused (open_choice s k T) o v (λ q u. branches_read (read_type (d - 1) s) s (sign_of k.kind) (length T.sorts) e 129 q u) c w z)

  pub choice_read : (o r : Step) (σ n : ℕ) (v w : List ℕ) → OneOf (38 ∷ 43 ∷ []) k.kind → Gives (open_choice s k T) o v
      → o.question ≡ 0 → σ ≡ sign_of k.kind → n ≡ length T.sorts → Gives (read_branches (d - 1) s o.at σ n e (open_choice s k T).table) r w
      → Gives (read_type d s p g e T) r w
  unfolding choice_type read_branches
  choice_read o r σ n v w h b z i j c =
      gives_by _ _ r w
      (at_choice d s p g e T k here h deep
      ∙ unless_read (open_choice s k T) o v (λ q u. branches_read (read_type (d - 1) s) s (sign_of k.kind) (length T.sorts) e 129 q u) b z
      ∙ rw (← i, ← j))
      c

-- the sign of a choice's branches is one
pub sign_known : (σ n : ℕ) → σ ≡ sign_of n → one_of signs σ ≡ true
unfolding sign_of
sign_known σ n e = rw e (go (eqb n 43))
  where
    go : (t : Bool) → one_of signs (cond t 33 63) ≡ true
    go true = refl
    go false = refl

-- ---- a turn of the loop over branches

module _ (inner : Reader) (s : List ℕ) (σ o : ℕ) (e : Env) (n p : ℕ) (T : Table) (room : 0 < n) (h : Step) (u : List ℕ)
    (head : Gives (head_at s p σ o T) h u) where
  ends : ℕ → Table → Built
  ends r v = end_of_branch (token_at s r) o v (branches_read inner s σ o e (n - 1))

  U : Table
  U = (head_at s p σ o T).table

  pub head_refused : (w : List ℕ) → (h.question ≡ 0 → ⊥) → Gives (branches_read inner s σ o e n p T) h w
  unfolding branch_then ends
  head_refused w z =
      gives_by _ _ h w (turn inner s σ o e n p T room) (unless_refused (head_at s p σ o T) h u (λ q u. unless (inner q (bound_in e) e u) ends) head w z)

  module _ (z : h.question ≡ 0) (b : Step) (x : List ℕ) (body : Gives (inner h.at (bound_in e) e (head_at s p σ o T).table) b x) where
    headed_on : branches_read inner s σ o e n p T ≡ unless (inner h.at (bound_in e) e U) ends
    unfolding branch_then ends U
    headed_on = turn inner s σ o e n p T room ∙ unless_read (head_at s p σ o T) h u (λ q u. unless (inner q (bound_in e) e u) ends) head z

    pub body_refused : (w : List ℕ) → (b.question ≡ 0 → ⊥) → Gives (branches_read inner s σ o e n p T) b w
    unfolding U
    body_refused w y = gives_by _ _ b w headed_on (unless_refused (inner h.at (bound_in e) e U) b x ends body w y)

    module _ (y : b.question ≡ 0) (m : Next) (m_is : m ≡ next_at s b.at 125) where
      k : Token
      k = token_at s b.at

      body_on : branches_read inner s σ o e n p T ≡ end_of_branch k o (inner h.at (bound_in e) e U).table (branches_read inner s σ o e (n - 1))
      unfolding ends U k
      body_on = headed_on ∙ unless_read (inner h.at (bound_in e) e U) b x ends body y

      pub wrong_refused : (m.question ≡ 0 → ⊥) → (r : Step) (w : List ℕ) → r ≡ step_answer m.question m.at → Gives (branches_read inner s σ o e n p T) r w
      unfolding end_of_branch k
      wrong_refused c r w f =
          let t = next_no s b.at 125 m m_is c in
          gives_wrong _ r w k (f ∙ t.2) (body_on ∙ rw (ne_eqb _ _ t.0, ne_eqb _ _ t.1))

      module _ (g : m.question ≡ 0) where
        pub last_read : m.more ≡ false → (r : Step)
            → ((I : Table) → Holds x I → r ≡ cond (choice_right I o) (step_answer 0 m.at) (step_answer 20 (token_at s b.at).start))
            → Gives (branches_read inner s σ o e n p T) r x
        unfolding end_of_branch U k
        last_read c r f = go (choice_right I o) refl (f I (body.table y))
          where
            I : Table
            I = (inner h.at (bound_in e) e U).table

            here : (k.kind ≡ 125) × (m.at ≡ k.end)
            here = next_last s b.at 125 m m_is g c

            go : (v : Bool) → choice_right I o ≡ v → r ≡ cond v (step_answer 0 m.at) (step_answer 20 k.start) → Gives (branches_read inner s σ o e n p T) r x
            go true q f = gives_read _ r x I m.at f (body_on ∙ rw (eq-eqb _ _ here.0, q, ← here.1)) (body.table y)
            go false q f = gives_refused _ r x 20 k.start (body_on ∙ rw (eq-eqb _ _ here.0, q)) f (λ z. omega arith)

        pub more_read : m.more ≡ true
            → branches_read inner s σ o e n p T ≡ branches_read inner s σ o e (n - 1) m.at (inner h.at (bound_in e) e (head_at s p σ o T).table).table
        unfolding end_of_branch U k
        more_read c =
            let t = next_more s b.at 125 m m_is g c in
            body_on ∙ rw (ne_eqb _ _ t.0, eq-eqb _ _ t.1, ← t.2)
