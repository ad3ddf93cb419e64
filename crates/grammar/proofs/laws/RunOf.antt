-- A run taken a byte at a time, and two lists compared an element at a time: where each loop stands. Assumes nothing.
use mathlib.Core.Path.{◌≡◌, refl, sym, ap, ◌∙◌}
use mathlib.Core.Bool.{cond, not, Bool, true, false}
use mathlib.Core.List.{List, [], ◌∷◌}
use Prim.Native.Nat.{ℕ, suc, ◌+◌, ◌≤◌, ◌<◌}
use native.Mathlib.Numerals.{add-one}
use native.Mathlib.Omega.{arith}
use lib.Dec.{eqb}
use lib.ListN.{length, drop, get_or, drop_of_length-le, length-drop}
use lib.Seq.{drop-cons}
use borrow.Author.Tests.{eq-eqb, ne_eqb, not-true, not-false}
use Rattle.grammar.specs.inner.Scanner.{run_of, run_end}
use Rattle.table.specs.Lists.{same, matched}
use Rattle.table.proofs.laws.Lists.{right_fails}

-- the byte at i goes on the run
pub run_on : (f : ℕ → Bool) (s : List ℕ) (i : ℕ) → i < length s → f (get_or s i 0) ≡ true → run_end f s i ≡ run_end f s (i + 1)
unfolding run_of run_end
run_on f s i h e = rw (drop-cons s i 0 h, e, add-one i) (omega arith)

-- the byte at i ends it
pub run_off : (f : ℕ → Bool) (s : List ℕ) (i : ℕ) → i < length s → f (get_or s i 0) ≡ false → run_end f s i ≡ i
unfolding run_of run_end
run_off f s i h e = rw (drop-cons s i 0 h, e) (omega arith)

-- the list ends it
pub run_out : (f : ℕ → Bool) (s : List ℕ) (i : ℕ) → length s ≤ i → run_end f s i ≡ i
unfolding run_of run_end
run_out f s i h = rw (drop_of_length-le s h) (omega arith)

-- a loop that started at p has come to i, within the run, and a test of the byte there says r: it goes on, or stops; or the list has ended
module _ (f : ℕ → Bool) (s : List ℕ) (p i : ℕ) (v : run_end f s p ≡ run_end f s i) where
  pub loop_on : (r : Bool) → i < length s → r ≡ f (get_or s i 0) → not r ≡ false → run_end f s p ≡ run_end f s (i + 1)
  loop_on r h e t = v ∙ run_on f s i h (sym e ∙ not-false r t)

  pub loop_off : (r : Bool) → i < length s → r ≡ f (get_or s i 0) → not r ≡ true → i ≡ run_end f s p
  loop_off r h e t = sym (v ∙ run_off f s i h (sym e ∙ not-true r t))

  pub loop_out : length s ≤ i → i ≡ run_end f s p
  loop_out h = sym (v ∙ run_out f s i h)

-- a run ends at or after its start, and within the list
pub run_from : (f : ℕ → Bool) (s : List ℕ) (p : ℕ) → p ≤ run_end f s p
unfolding run_end
run_from f s p = omega arith

run_length : (f : ℕ → Bool) (l : List ℕ) → run_of f l ≤ length l
unfolding run_of
run_length f [] = omega arith
run_length f (x ∷ l) = go (f x) (run_length f l)
  where
    go : (t : Bool) → run_of f l ≤ length l → cond t (1 + run_of f l) 0 ≤ suc (length l)
    go true h = omega arith
    go false h = omega arith

pub run_within : (f : ℕ → Bool) (s : List ℕ) (p : ℕ) → p ≤ length s → run_end f s p ≤ length s
unfolding run_end
run_within f s p h = omega (arith, run_length f (drop p s), length-drop p s)

-- two lists agree at i, or differ there, or have both ended
pub same_on : (a b : List ℕ) (i : ℕ) → i < length a → i < length b → get_or a i 0 ≡ get_or b i 0 → same (drop i a) (drop i b) ≡ same (drop (i + 1) a) (drop (i + 1) b)
unfolding same matched
same_on a b i h l e = rw (drop-cons a i 0 h, drop-cons b i 0 l, eq-eqb _ _ e, add-one i)

pub same_off : (a b : List ℕ) (i : ℕ) → i < length a → i < length b → (get_or a i 0 ≡ get_or b i 0 → ⊥) → same (drop i a) (drop i b) ≡ false
unfolding same matched
same_off a b i h l e = rw (drop-cons a i 0 h, drop-cons b i 0 l, ne_eqb _ _ e)

pub same_out : (a b : List ℕ) (i : ℕ) → length a ≤ i → length b ≤ i → same (drop i a) (drop i b) ≡ true
unfolding same matched
same_out a b i h l = rw (drop_of_length-le a h, drop_of_length-le b l)

pub same_length : (a b : List ℕ) → (length a ≡ length b → ⊥) → same a b ≡ false
unfolding same matched
same_length [] [] h = absurd (h refl)
same_length [] (y ∷ b) h = refl
same_length (x ∷ a) [] h = refl
same_length (x ∷ a) (y ∷ b) h = rw (same_length a b (λ e. h (ap suc e))) (right_fails (eqb x y) refl)
