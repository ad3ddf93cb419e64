-- A token lies within the text. Assumes nothing.
use mathlib.Core.Path.{◌≡◌, refl, sym, subst}
use mathlib.Core.Bool.{cond, Bool, true, false}
use mathlib.Core.List.{List}
use Prim.Native.Nat.{ℕ, ◌+◌, ◌<◌}
use native.Mathlib.Omega.{arith}
use lib.Dec.{leb}
use lib.ListN.{length, get_or}
use borrow.Author.Tests.{leb-false}
use Rattle.table.specs.Table.{letter_or_digit}
use Rattle.grammar.specs.Token.{Token, token}
use Rattle.grammar.specs.inner.Scanner.{Class, Space, Lower, Upper, Digit, Dot, Minus, Sign, Other, is_space, is_digit, is_dot, class_of, run_end, word_token, name_token, number_token, dots_token, begin_at, token_at, Spans}
use Rattle.grammar.proofs.laws.RunOf.{run_from, run_within}

begin_spans : (s : List ℕ) (a : ℕ) (x : Class) → a < length s → Spans s (begin_at s a x)
unfolding begin_at word_token name_token number_token dots_token
begin_spans s a Space h = record { forward = omega arith; inside = omega arith }
begin_spans s a Lower h = record { forward = run_from letter_or_digit s a; inside = run_within letter_or_digit s a (omega arith) }
begin_spans s a Upper h = record { forward = run_from letter_or_digit s a; inside = run_within letter_or_digit s a (omega arith) }
begin_spans s a Digit h = record { forward = run_from is_digit s a; inside = run_within is_digit s a (omega arith) }
begin_spans s a Dot h = record { forward = run_from is_dot s a; inside = run_within is_dot s a (omega arith) }
begin_spans s a Minus h =
    record { forward = omega (arith, run_from is_digit s (a + 1)); inside = run_within is_digit s (a + 1) (omega arith) }
begin_spans s a Sign h = record { forward = omega arith; inside = omega arith }
begin_spans s a Other h = record { forward = omega arith; inside = omega arith }

pub token_spans : (s : List ℕ) (p : ℕ) → Spans s (token_at s p)
unfolding token_at
token_spans s p = go (leb (length s) (run_end is_space s p)) refl
  where
    go : (b : Bool) → leb (length s) (run_end is_space s p) ≡ b
        → Spans s (cond b (token 0 (length s) (length s)) (begin_at s (run_end is_space s p) (class_of (get_or s (run_end is_space s p) 0))))
    go true e = record { forward = omega arith; inside = omega arith }
    go false e = begin_spans s (run_end is_space s p) _ (leb-false _ _ e)

-- an answer of `token_at`
pub spanned : (s : List ℕ) (p : ℕ) (r : Token) → r ≡ token_at s p → (r ≡ token_at s p) × Spans s r
spanned s p r e = (e, subst (Spans s) (sym e) (token_spans s p))
