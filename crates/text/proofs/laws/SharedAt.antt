-- The share of a branch and the dot before its type, by tokens and by the recursion of `shared_at`. Assumes nothing.
use mathlib.Core.Path.{◌≡◌, refl, ◌∙◌}
use mathlib.Core.Bool.{cond, Bool, true, false}
use mathlib.Core.List.{List, ◌∷◌}
use Prim.Native.Nat.{ℕ}
use native.Mathlib.Omega.{arith}
use lib.Dec.{eqb}
use Rattle.table.specs.Table.{Table, Branch}
use Rattle.grammar.specs.inner.Scanner.{token_at}
use Rattle.grammar.specs.Number.{signed_in, in_share}
use Rattle.grammar.specs.Building.{add_share, denied, Built}
use Rattle.grammar.specs.Reading.{Item, just, dot, share, Open, state, within_limits}
use Rattle.text.specs.inner.Recursive.{step_answer, unexpected_at, passed, expect_at, count_read, count_then, share_from, count_from, then_dot, dotted, shared_at, then_read, with_count}
use Rattle.grammar.specs.Token.{Token}
use Rattle.text.specs.inner.Answers.{Step, Counted}
use Rattle.text.proofs.laws.Moved.{at, at_token}
use Rattle.text.proofs.laws.Taken.{wrong, dot_step, share_step}
use Rattle.text.proofs.laws.FieldsAt.{plain, no_zero}

pub dot_law : (s : List ℕ) (K : List Item) (O : List Open) (b : Branch) (T : Table) (p : ℕ)
    → at s (state (just 46 ∷ K) O b T) p ≡ then_read (expect_at s p 46) (λ q. at s (state K O b T) q)
unfolding within_limits
dot_law s K O b T p = plain s O T 46 K b p (λ x. omega arith) (λ x. omega arith) (λ h. rw h)

count_law : (a : Step) (n : ℕ) (f : Counted → Built) → then_read a (λ q. f (count_read 0 q n)) ≡ with_count (count_then a n) f
count_law a n f = go (eqb a.question 0) refl
  where
    go : (x : Bool) → eqb a.question 0 ≡ x
        → cond x (f (count_read 0 a.at n)) (denied a.question a.at) ≡ with_count (cond x (count_read 0 a.at n) (count_read a.question a.at 0)) f
    go true e = refl
    go false e = rw e

module _ (s : List ℕ) (K : List Item) (O : List Open) (b : Branch) (T : Table) where
  goes : Counted → Built
  goes w = at s (state K O b (add_share T w.number)) w.at

  number_law : (p : ℕ) → at s (state (share ∷ just 46 ∷ K) O b T) p ≡ with_count (then_dot s (share_from s (token_at s p))) goes
  unfolding count_from then_dot denied goes
  number_law p = at_token s _ p ∙ share_step s (just 46 ∷ K) O b T k ∙ go (eqb k.kind 48) (in_share (signed_in s k))
    where
      k : Token
      k = token_at s p

      n : ℕ
      n = (signed_in s k).value

      go : (x o : Bool) → cond x (cond o (at s (state (just 46 ∷ K) O b (add_share T n)) k.end) (denied 19 k.start)) (wrong k)
          ≡ with_count (then_dot s (cond x (cond o (count_read 0 k.end n) (count_read 19 k.start 0)) (count_read (unexpected_at k).question (unexpected_at k).at 0))) goes
      go true true = dot_law s K O b (add_share T n) k.end ∙ count_law (expect_at s k.end 46) n goes
      go true false = refl
      go false o = rw (no_zero k, no_zero k)

  -- @ share ., or .
  pub share_law : (p : ℕ) → at s (state (dot ∷ K) O b T) p ≡ with_count (shared_at s p) (λ w. at s (state K O b (add_share T w.number)) w.at)
  unfolding shared_at dotted passed goes
  share_law p = at_token s _ p ∙ dot_step s K O b T k ∙ go (eqb k.kind 64) (eqb k.kind 46)
    where
      k : Token
      k = token_at s p

      go : (x y : Bool) → cond x (at s (state (share ∷ just 46 ∷ K) O b T) k.end) (cond y (at s (state K O b (add_share T 0)) k.end) (wrong k))
          ≡ with_count (cond x (then_dot s (share_from s (token_at s k.end))) (count_read (cond y (step_answer 0 k.end) (unexpected_at k)).question (cond y (step_answer 0 k.end) (unexpected_at k)).at 0)) goes
      go true y = number_law k.end
      go false true = refl
      go false false = rw (no_zero k)
