-- A token that is there begins and ends further on: reading goes on towards the end of the text. Assumes nothing.
use mathlib.Core.Path.{◌≡◌, refl}
use mathlib.Core.Bool.{cond, Bool, true, false}
use mathlib.Core.List.{List}
use Prim.Native.Nat.{ℕ, ◌+◌, ◌<◌}
use native.Mathlib.Omega.{arith}
use lib.Dec.{leb}
use lib.ListN.{length, get_or}
use borrow.Author.Tests.{leb-false}
use Rattle.table.specs.Table.{letter_or_digit}
use Rattle.grammar.specs.Token.{Token, token}
use Rattle.grammar.specs.inner.Scanner.{Class, Space, Lower, Upper, Digit, Dot, Minus, Sign, Other, is_space, is_digit, is_dot, class_of, run_end, word_token, name_token, number_token, dots_token, begin_at, token_at}
use Rattle.grammar.proofs.laws.ClassOf.{class_test, lower_word, upper_word}
use Rattle.grammar.proofs.laws.RunOf.{run_from, run_on}

-- a run that its first byte goes on
run_some : (f : ℕ → Bool) (s : List ℕ) (a : ℕ) → a < length s → f (get_or s a 0) ≡ true → a < run_end f s a
run_some f s a h e = omega (arith, run_on f s a h e, run_from f s (a + 1))

begin_onward : (s : List ℕ) (a : ℕ) (x : Class) → a < length s → class_of (get_or s a 0) ≡ x → a < (begin_at s a x).end
unfolding begin_at word_token name_token number_token dots_token
begin_onward s a Space h e = omega arith
begin_onward s a Lower h e = run_some letter_or_digit s a h (lower_word _ (class_test _ _ e))
begin_onward s a Upper h e = run_some letter_or_digit s a h (upper_word _ (class_test _ _ e))
begin_onward s a Digit h e = run_some is_digit s a h (class_test _ _ e)
begin_onward s a Dot h e = run_some is_dot s a h (class_test _ _ e)
begin_onward s a Minus h e = omega (arith, run_from is_digit s (a + 1))
begin_onward s a Sign h e = omega arith
begin_onward s a Other h e = omega arith

pub onward : (s : List ℕ) (p : ℕ) → ((token_at s p).kind ≡ 0 → ⊥) → (p < length s) × (p < (token_at s p).end)
unfolding token_at
onward s p z = go (leb (length s) (run_end is_space s p)) refl z
  where
    a : ℕ
    a = run_end is_space s p

    answer : Bool → Token
    answer b = cond b (token 0 (length s) (length s)) (begin_at s a (class_of (get_or s a 0)))

    go : (b : Bool) → leb (length s) a ≡ b → ((answer b).kind ≡ 0 → ⊥) → (p < length s) × (p < (answer b).end)
    go true e z = absurd (z refl)
    go false e z =
        let h : a < length s = leb-false _ _ e in
        (omega (arith, run_from is_space s p), omega (arith, run_from is_space s p, begin_onward s a _ h refl))
