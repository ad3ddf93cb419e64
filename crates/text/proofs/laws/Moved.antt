-- Reading by tokens from a place on: the tokens from there, and one step at the first of them. Assumes nothing.
use mathlib.Core.Path.{◌≡◌, refl, ap}
use mathlib.Core.Bool.{cond, Bool, true, false}
use mathlib.Core.List.{List, [], ◌∷◌}
use Prim.Native.Nat.{ℕ, zero, suc, ◌-◌, ◌<◌}
use native.Mathlib.Omega.{arith}
use lib.Dec.{eqb}
use lib.ListN.{length}
use borrow.Author.Tests.{ne_eqb, eqb-false}
use Rattle.grammar.proofs.laws.Questions.{asked}
use Rattle.grammar.specs.inner.Scanner.{token_at, tokens_from}
use Rattle.grammar.specs.Building.{denied, Built}
use Rattle.grammar.specs.Reading.{State, taken, run_tokens}
use Rattle.grammar.specs.Token.{Token}
use Rattle.grammar.proofs.laws.TokenAt.{onward}

-- any two counts that suffice give the same tokens
same_tokens : (n m : ℕ) (s : List ℕ) (p : ℕ) → length s - p < n → length s - p < m → tokens_from n s p ≡ tokens_from m s p
unfolding tokens_from
same_tokens zero m s p h i = absurd (omega arith)
same_tokens (suc n) zero s p h i = absurd (omega arith)
same_tokens (suc n) (suc m) s p h i = go (eqb k.kind 0) refl (λ h i. same_tokens n m s (token_at s p).end h i)
  where
    k : Token
    k = token_at s p

    go : (b : Bool) → eqb k.kind 0 ≡ b → (length s - k.end < n → length s - k.end < m → tokens_from n s k.end ≡ tokens_from m s k.end)
        → ◌≡◌ {A = List Token} (k ∷ cond b [] (tokens_from n s k.end)) (k ∷ cond b [] (tokens_from m s k.end))
    go true e same = refl
    go false e same =
        let f = onward s p (eqb-false _ _ e) in
        let f₀ = f.0 in
        let f₁ = f.1 in
        ap (λ (l : List Token). k ∷ l) (same (omega arith) (omega arith))

-- the tokens from p on
pub from : List ℕ → ℕ → List Token
from s p = tokens_from (suc (length s - p)) s p

from_cons : (s : List ℕ) (p : ℕ) → from s p ≡ token_at s p ∷ cond (eqb (token_at s p).kind 0) [] (from s (token_at s p).end)
unfolding from tokens_from
from_cons s p = go (eqb k.kind 0) refl
  where
    k : Token
    k = token_at s p

    go : (b : Bool) → eqb k.kind 0 ≡ b → ◌≡◌ {A = List Token} (k ∷ cond b [] (tokens_from (length s - p) s k.end)) (k ∷ cond b [] (from s k.end))
    go true e = refl
    go false e =
        let f = onward s p (eqb-false _ _ e) in
        let f₀ = f.0 in
        let f₁ = f.1 in
        ap (λ (l : List Token). k ∷ l) (same_tokens (length s - p) (suc (length s - k.end)) s k.end (omega arith) (omega arith))

-- what reading gives from a state on, at a place
unfoldable pub at : List ℕ → State → ℕ → Built
at s st p = run_tokens s st (from s p)

-- the same past a token, and at a token
unfoldable pub past : List ℕ → State → Token → Built
past s st k = run_tokens s st (cond (eqb k.kind 0) [] (from s k.end))

unfoldable pub moved : List ℕ → State → Token → Built
moved s st k = cond (eqb (asked s st k) 0) (past s (taken s st k) k) (denied (asked s st k) k.start)

pub at_token : (s : List ℕ) (st : State) (p : ℕ) → at s st p ≡ moved s st (token_at s p)
unfolding at moved past run_tokens
at_token s st p = ap (run_tokens s st) (from_cons s p)

-- where the text does not run out
pub moved_at : (s : List ℕ) (st : State) (k : Token) → (k.kind ≡ 0 → ⊥)
    → moved s st k ≡ cond (eqb (asked s st k) 0) (at s (taken s st k) k.end) (denied (asked s st k) k.start)
unfolding moved at past
moved_at s st k z = rw (ne_eqb _ _ z)

-- the whole text's tokens are those from 0 on
pub from_start : (s : List ℕ) (st : State) → run_tokens s st (tokens_from (suc (length s)) s 0) ≡ at s st 0
unfolding at from
from_start s st = let z : length s - 0 ≡ length s = omega arith in rw z
