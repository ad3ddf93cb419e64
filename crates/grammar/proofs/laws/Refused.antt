-- A refusal's numbers: the questions', and a place that lies in a text of at most 8,192 bytes.
-- Assumes nothing.
use mathlib.Core.Path.{◌≡◌, refl}
use mathlib.Core.Bool.{Bool, true, false, cond}
use mathlib.Core.List.{List, [], ◌∷◌}
use Prim.Native.Nat.{ℕ, zero, suc, ◌≤◌, ◌<◌, zero-le}
use native.Mathlib.Omega.{arith}
use lib.ListN.{length}
use lib.Dec.{leb, eqb}
use borrow.Author.Tests.{leb-true}
use Rattle.table.specs.Lists.{first_no}
use Rattle.grammar.proofs.laws.Questions.{asked}
use Rattle.grammar.specs.Building.{denied}
use Rattle.grammar.specs.inner.Scanner.{token_at, tokens_from, tokens}
use Rattle.grammar.specs.Reading.{State, questions, taken, run_tokens, start, built, reads}
use Rattle.grammar.specs.declared.Reading.{Reading}
use Rattle.grammar.specs.Token.{Token}
use Rattle.grammar.proofs.laws.Spans.{token_spans}

place_within : (n : ℕ) (s : List ℕ) (p : ℕ) (st : State) → (run_tokens s st (tokens_from n s p)).at ≤ length s
unfolding run_tokens tokens_from denied
place_within zero s p st = zero-le
place_within (suc n) s p st = go (eqb (asked s st (token_at s p)) 0) (place_within n s (token_at s p).end (taken s st (token_at s p)))
  where
    on : (b : Bool) → (run_tokens s (taken s st (token_at s p)) (tokens_from n s (token_at s p).end)).at ≤ length s
        → (run_tokens s (taken s st (token_at s p)) (cond b [] (tokens_from n s (token_at s p).end))).at ≤ length s
    on true h = zero-le
    on false h = h

    go : (b : Bool) → (run_tokens s (taken s st (token_at s p)) (tokens_from n s (token_at s p).end)).at ≤ length s
        → (cond b (run_tokens s (taken s st (token_at s p)) (cond (eqb (token_at s p).kind 0) [] (tokens_from n s (token_at s p).end))) (denied (asked s st (token_at s p)) (token_at s p).start)).at
        ≤ length s
    go true h = on (eqb (token_at s p).kind 0) h
    go false h = let w = token_spans s p in omega (arith, w.forward, w.inside)

-- what holds of 0 and of the number of every question at a token holds of the number that reading comes to
abbrev pub OfNumbers : (ℕ → Type 0) → Type 0
OfNumbers P = P 0 × P 2 × P 3 × P 23 × P 4 × P 5 × P 6 × P 19 × P 7 × P 8 × P 20

module _ (P : ℕ → Type 0) where
  abbrev Each : List (ℕ × Bool) → Type 0
  Each [] = Unit {0}
  Each (q ∷ qs) = P q.0 × Each qs

  first_of : P 0 → (qs : List (ℕ × Bool)) → Each qs → P (first_no qs)
  unfolding first_no
  first_of z [] h = z
  first_of z (q ∷ qs) h = go q.1 (first_of z qs h.1)
    where
      go : (b : Bool) → P (first_no qs) → P (cond b (first_no qs) q.0)
      go true l = l
      go false l = h.0

  module _ (n : OfNumbers P) where
    pub run_number : (s : List ℕ) (st : State) (ks : List Token) → P (run_tokens s st ks).question
    unfolding run_tokens denied first_no questions
    run_number s st [] = n.0
    run_number s st (k ∷ ks) = go (eqb (asked s st k) 0) (run_number s (taken s st k) ks)
      where
        go : (b : Bool) → P (run_tokens s (taken s st k) ks).question → P (cond b (run_tokens s (taken s st k) ks) (denied (asked s st k) k.start)).question
        go true l = l
        go false l = first_of n.0 (questions s st k) (n.1, (n.2, (n.3, (n.4, (n.5, (n.6, (n.7, (n.8, (n.9, (n.10, tt))))))))))

    pub question_of : P 1 → (s : List ℕ) → P (reads s).question
    unfolding reads built denied
    question_of i s = go (leb (length s) 8192)
      where
        go : (b : Bool) → P (cond b (run_tokens s start (tokens s)) (denied 1 0)).question
        go true = run_number s start (tokens s)
        go false = i

pub place_small : (s : List ℕ) → (built s).at ≤ 8192
unfolding built tokens denied
place_small s = go (leb (length s) 8192) refl
  where
    go : (b : Bool) → leb (length s) 8192 ≡ b → (cond b (run_tokens s start (tokens s)) (denied 1 0)).at ≤ 8192
    go true e = omega (arith, place_within (suc (length s)) s 0 start, leb-true (length s) 8192 e)
    go false e = zero-le

-- so 16 bits hold either
pub small : (s : List ℕ) (r : Reading) → r ≡ reads s → (r.question < 65536) × (r.at < 65536)
unfolding reads
small s r e = rw e (question_of (λ q. q < 65536) numbers (omega arith) s, omega (arith, place_small s))
  where
    numbers : OfNumbers (λ q. q < 65536)
    numbers = (omega arith, omega arith, omega arith, omega arith, omega arith, omega arith, omega arith, omega arith, omega arith, omega arith, omega arith)
