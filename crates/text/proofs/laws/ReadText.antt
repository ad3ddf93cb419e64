-- A whole text: what is built, from what reading its opening and its type gives; and the table that is given back. Assumes nothing.
use mathlib.Core.Path.{◌≡◌, refl, sym, ap, ap₂, ◌∙◌}
use mathlib.Core.Bool.{Bool, true, false, cond}
use mathlib.Core.List.{List}
use Prim.Native.Nat.{ℕ, ◌≤◌, ◌<◌}
use native.Mathlib.Omega.{arith}
use lib.Dec.{leb}
use lib.ListN.{length, set}
use borrow.Author.Tests.{eq-eqb, ne_eqb, lt-leb, le-ltb}
use Rattle.table.specs.Table.{Table}
use Rattle.table.specs.View.{empty_table}
use Rattle.grammar.specs.inner.Scanner.{token_at, tokens}
use Rattle.grammar.specs.Building.{stateless, Built, denied}
use Rattle.grammar.specs.Filled.{came_out, filled, written}
use Rattle.grammar.specs.Reading.{run_tokens, start, built, reads}
use Rattle.grammar.specs.inner.Holds.{Holds}
use Rattle.text.specs.inner.Recursive.{Gives, step_answer, unexpected_at, empty_env, unless, read_type, count_from, edition_at, opening_from, opening_of, end_of_text, read_text, Env}
use Rattle.grammar.specs.Token.{Token}
use Rattle.text.specs.inner.Answers.{Step, Counted}
use Rattle.text.proofs.laws.ReadType.{answered_text}
use Rattle.grammar.proofs.laws.RunTokens.{run_refused}
use Rattle.text.proofs.laws.Gives.{gives_refused, gives_wrong, gives_read, gives_by, unless_read, unless_refused}
use Rattle.text.proofs.laws.Stores.{holds_edition}
use Rattle.grammar.proofs.laws.Refused.{place_small}

-- a refusal gives the empty table
written_denied : (q at : ℕ) → written (denied q at) ≡ came_out q at empty_table
unfolding denied empty_table filled
written_denied q at = refl

denied_all : (s : List ℕ) → ((built s).question ≡ 0 → ⊥) → built s ≡ denied (built s).question (built s).at
unfolding built denied
denied_all s = go (leb (length s) 8192)
  where
    go : (b : Bool) → ((cond b (run_tokens s start (tokens s)) (denied 1 0)).question ≡ 0 → ⊥)
        → cond b (run_tokens s start (tokens s)) (denied 1 0)
        ≡ denied (cond b (run_tokens s start (tokens s)) (denied 1 0)).question (cond b (run_tokens s start (tokens s)) (denied 1 0)).at
    go true z = run_refused s (tokens s) start z
    go false z = refl

-- what the table is given back as
module _ (s : List ℕ) (r : Step) (w : List ℕ) (g : Gives (built s) r w) where
  pub filled_read : r.question ≡ 0 → came_out r.question r.at w ≡ reads s
  unfolding reads
  filled_read z = rw (g.question, g.at, (g.table z).words)

  pub filled_refused : (r.question ≡ 0 → ⊥) → came_out r.question r.at empty_table ≡ reads s
  unfolding reads
  filled_refused z =
      sym (written_denied r.question r.at)
      ∙ ap written (ap₂ denied g.question g.at ∙ sym (denied_all s (λ y. z (g.question ∙ y))))

  pub place_fits : r.at < 4294967296
  place_fits = omega (arith, g.at, place_small s)

-- an edition that was read, in the empty table; and one that was refused
module _ (s : List ℕ) (p : ℕ) (e : Counted) (is : e ≡ count_from 2 23 s (token_at s p)) (r : Step) (r_is : r ≡ step_answer e.question e.at) where
  pub edition_read : (w : List ℕ) → e.question ≡ 0 → w ≡ set empty_table 2338 e.number → Gives (edition_at s p) r w
  unfolding edition_at
  edition_read w z w_is =
      gives_read _ r w (stateless e.number) e.at (r_is ∙ ap (λ q. step_answer q e.at) z) (rw (← is, eq-eqb _ _ z)) (rw w_is (holds_edition e.number))

  pub edition_refused : (w : List ℕ) → (e.question ≡ 0 → ⊥) → Gives (edition_at s p) r w
  unfolding edition_at
  edition_refused w z = gives_refused _ r w e.question e.at (rw (← is, ne_eqb _ _ z)) r_is z

-- an opening, and none
module _ (s : List ℕ) (k : Token) (first : k ≡ token_at s 0) where
  pub opening_read : k.kind ≡ 69 → (r : Step) (w : List ℕ) → Gives (edition_at s k.end) r w → Gives (opening_of s) r w
  unfolding opening_from
  opening_read h r w g = gives_by _ _ r w (rw (← first, eq-eqb _ _ h)) g

  pub opening_none : (k.kind ≡ 69 → ⊥) → (w : List ℕ) → w ≡ set empty_table 2338 1 → Gives (opening_of s) (step_answer 0 0) w
  unfolding opening_from
  opening_none h w w_is = gives_read _ (step_answer 0 0) w (stateless 1) 0 refl (rw (← first, ne_eqb _ _ h)) (rw w_is (holds_edition 1))

pub text_long : (s : List ℕ) (w : List ℕ) → 8192 < length s → Gives (built s) (step_answer 1 0) w
unfolding built
text_long s w h = gives_refused _ _ w 1 0 (rw (lt-leb (length s) 8192 h)) refl (λ z. omega arith)

-- after the opening, and after the type
module _ (s : List ℕ) (short : length s ≤ 8192) (o : Step) (v : List ℕ) (opened : Gives (opening_of s) o v) where
  ends : ℕ → Table → Built
  ends q t = end_of_text (token_at s q) t

  from_type : ℕ → Table → Built
  from_type p t = unless (read_type 16 s p 0 empty_env t) ends

  whole : built s ≡ unless (opening_of s) from_type
  unfolding read_text from_type ends
  whole = answered_text s ∙ rw (le-ltb 8192 (length s) short)

  pub opening_refused : (o.question ≡ 0 → ⊥) → Gives (built s) o v
  opening_refused z = gives_by _ _ o v whole (unless_refused (opening_of s) o v from_type opened v z)

  module _ (ready : o.question ≡ 0) (e : Env) (r : Step) (w : List ℕ) (e_is : e ≡ empty_env)
      (given : (T : Table) → Holds v T → Gives (read_type 16 s o.at 0 e T) r w) where
    R : Built
    R = read_type 16 s o.at 0 empty_env (opening_of s).table

    type_gives : Gives R r w
    unfolding R
    type_gives = rw (← e_is) (given (opening_of s).table (opened.table ready))

    on_type : built s ≡ unless R ends
    unfolding R from_type
    on_type = whole ∙ unless_read (opening_of s) o v from_type opened ready

    pub text_refused : (r.question ≡ 0 → ⊥) → Gives (built s) r w
    text_refused z = gives_by _ _ r w on_type (unless_refused R r w ends type_gives w z)

    module _ (z : r.question ≡ 0) (k : Token) (here : k ≡ token_at s r.at) where
      text_on : built s ≡ end_of_text k R.table
      unfolding ends
      text_on = on_type ∙ unless_read R r w ends type_gives z ∙ rw (← here)

      pub text_wrong : (u : Step) → (k.kind ≡ 0 → ⊥) → u ≡ unexpected_at k → Gives (built s) u w
      unfolding end_of_text
      text_wrong u n f = gives_wrong _ u w k f (text_on ∙ rw (ne_eqb _ _ n))

      pub text_read : k.kind ≡ 0 → Gives (built s) (step_answer 0 0) w
      unfolding end_of_text
      text_read n = gives_read _ (step_answer 0 0) w R.table 0 refl (text_on ∙ rw (eq-eqb _ _ n)) (type_gives.table z)
