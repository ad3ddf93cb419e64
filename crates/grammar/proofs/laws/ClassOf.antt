-- What a `match` over bytes knows, carried to `class_of` by computing: `keyed` for an arm of single bytes, and `ranged` for an arm
-- that is a range, less the bytes that the single arms take; and what a class says of its bytes.
-- Assumes nothing.
use mathlib.Core.Path.{◌≡◌, refl, sym, subst, ap, ◌∙◌}
use mathlib.Core.Bool.{cond, Bool, true, false, not, ◌||◌, false≢true}
use mathlib.Core.Logic.{inl, inr, ⊎_elim}
use mathlib.Core.List.{List, [], ◌∷◌}
use Prim.Native.Nat.{ℕ, zero, suc, ◌+◌, ◌≤◌, ◌<◌}
use native.Mathlib.Nat.{eq-or-lt_of_le}
use native.Mathlib.Omega.{arith}
use lib.Dec.{T, eqb, leb, eqb→eq}
use borrow.Author.Tests.{ne_eqb, eqb-true, le-leb, lt-leb}
use Rattle.table.specs.Table.{upper, letter_or_digit}
use Rattle.grammar.specs.Token.{one_of}
use Rattle.grammar.specs.inner.Scanner.{Class, Space, Lower, Upper, Digit, Dot, Minus, Sign, Other, between, signs, is_space, is_digit, is_dot, class_of}
use types.Run.{OneOf}

-- computing compares classes by their numbers
abbrev pub code : Class → ℕ
code Space = 0
code Lower = 1
code Upper = 2
code Digit = 3
code Dot = 4
code Minus = 5
code Sign = 6
code Other = 7

class_at : ℕ → Class
class_at n =
    cond (eqb n 0) Space
    (cond (eqb n 1) Lower
    (cond (eqb n 2) Upper
    (cond (eqb n 3) Digit
    (cond (eqb n 4) Dot (cond (eqb n 5) Minus (cond (eqb n 6) Sign Other))))))

at_code : (x : Class) → class_at (code x) ≡ x
unfolding class_at
at_code Space = refl
at_code Lower = refl
at_code Upper = refl
at_code Digit = refl
at_code Dot = refl
at_code Minus = refl
at_code Sign = refl
at_code Other = refl

abbrev pub is : Class → ℕ → Bool
is x b = eqb (code (class_of b)) (code x)

from_is : (x : Class) (b : ℕ) → T (is x b) → x ≡ class_of b
from_is x b t = sym (at_code x) ∙ ap class_at (sym (eqb→eq _ _ t)) ∙ at_code (class_of b)

-- the test holds of each of a list, and of each of the n numbers from lo on
abbrev pub all : (ℕ → Bool) → List ℕ → Bool
all f [] = true
all f (k ∷ ks) = cond (f k) (all f ks) false

abbrev pub every : (ℕ → Bool) → ℕ → ℕ → Bool
every f lo zero = true
every f lo (suc n) = cond (f lo) (every f (suc lo) n) false

both : (a b : Bool) → T (cond a b false) → T a × T b
both true b t = (tt, t)
both false b t = absurd t

every_at : (f : ℕ → Bool) (n lo b : ℕ) → T (every f lo n) → lo ≤ b → b < lo + n → T (f b)
every_at f zero lo b t h l = absurd (omega arith)
every_at f (suc n) lo b t h l =
    ⊎_elim
    (λ e. subst (λ (k : ℕ). T (f k)) e (both (f lo) _ t).0)
    (λ g. every_at f n (suc lo) b (both (f lo) _ t).1 g (omega arith))
    (eq-or-lt_of_le h)

all_at : (f : ℕ → Bool) (ks : List ℕ) (b : ℕ) → T (all f ks) → OneOf ks b → T (f b)
all_at f [] b t o = absurd o
all_at f (k ∷ []) b t o = subst (λ (j : ℕ). T (f j)) (sym o) (both (f k) true t).0
all_at f (k ∷ (j ∷ ks)) b t (inl e) = subst (λ (j : ℕ). T (f j)) (sym e) (both (f k) _ t).0
all_at f (k ∷ (j ∷ ks)) b t (inr o) = all_at f (j ∷ ks) b (both (f k) _ t).1 o

pub no_key : (ks : List ℕ) (b : ℕ) → (OneOf ks b → ⊥) → one_of ks b ≡ false
no_key [] b h = refl
no_key (k ∷ []) b h = rw (ne_eqb b k h)
no_key (k ∷ (j ∷ ks)) b h = rw (ne_eqb b k (λ e. h (inl e))) (no_key (j ∷ ks) b (λ o. h (inr o)))

-- an arm of single bytes
pub keyed : (x : Class) (ks : List ℕ) (b : ℕ) → T (all (is x) ks) → OneOf ks b → x ≡ class_of b
keyed x ks b t o = from_is x b (all_at (is x) ks b t o)

-- the n bytes from lo on, less those that a test takes out
pub ranged : (x : Class) (out : ℕ → Bool) (lo n b : ℕ)
    → T (every (λ k. cond (out k) true (is x k)) lo n) → out b ≡ false → lo ≤ b → b < lo + n → x ≡ class_of b
ranged x out lo n b t e h l = from_is x b (rw e at (every_at (λ k. cond (out k) true (is x k)) n lo b t h l))

-- ---- what a class says of its bytes

-- the test that a class is given by
abbrev pub test : Class → ℕ → Bool
test Space b = is_space b
test Lower b = between 97 122 b
test Upper b = upper b
test Digit b = is_digit b
test Dot b = is_dot b
test Minus b = eqb b 45
test Sign b = one_of signs b
test Other b = true

own_test : (b : ℕ) → test (class_of b) b ≡ true
unfolding class_of upper
own_test b =
    pick (between 97 122 b) Lower _ (λ e. e)
    (pick (between 65 90 b) Upper _ (λ e. e)
    (pick (is_digit b) Digit _ (λ e. e)
    (pick (is_space b) Space _ (λ e. e)
    (pick (is_dot b) Dot _ (λ e. e) (pick (eqb b 45) Minus _ (λ e. e) (pick (one_of signs b) Sign Other (λ e. e) refl))))))
  where
    pick : (t : Bool) (x y : Class) → (t ≡ true → test x b ≡ true) → test y b ≡ true → test (cond t x y) b ≡ true
    pick true x y h k = h refl
    pick false x y h k = k

pub class_test : (b : ℕ) (x : Class) → class_of b ≡ x → test x b ≡ true
class_test b x e = subst (λ (x : Class). test x b ≡ true) e (own_test b)

-- the first byte of a word goes on it
pub upper_word : (b : ℕ) → upper b ≡ true → letter_or_digit b ≡ true
unfolding upper letter_or_digit
upper_word b e = rw e

pub lower_word : (b : ℕ) → between 97 122 b ≡ true → letter_or_digit b ≡ true
unfolding letter_or_digit
lower_word b e = rw e (either (between 65 90 b))
  where
    either : (t : Bool) → (t || true || between 48 57 b) ≡ true
    either true = refl
    either false = refl

-- a byte of a word by its range, from the highest down
pub in_lower : (b : ℕ) → 97 ≤ b → leb b 122 ≡ letter_or_digit b
unfolding letter_or_digit
in_lower b h =
    rw (le-leb 65 b (omega arith), lt-leb b 90 (omega arith), le-leb 97 b h, le-leb 48 b (omega arith), lt-leb b 57 (omega arith))
    (or_false (leb b 122))
  where
    or_false : (t : Bool) → t ≡ (t || false)
    or_false true = refl
    or_false false = refl

pub in_upper : (b : ℕ) → 65 ≤ b → b < 97 → leb b 90 ≡ letter_or_digit b
unfolding letter_or_digit
in_upper b h l =
    rw (le-leb 65 b h, lt-leb 97 b l, le-leb 48 b (omega arith), lt-leb b 57 (omega arith)) (or_false (leb b 90))
  where
    or_false : (t : Bool) → t ≡ (t || false || false)
    or_false true = refl
    or_false false = refl

pub in_digit : (b : ℕ) → b < 65 → is_digit b ≡ letter_or_digit b
unfolding letter_or_digit
in_digit b l = rw (lt-leb 65 b l, lt-leb 97 b (omega arith))

-- ---- signs

one_of_is : (f : ℕ → Bool) (ks : List ℕ) (b : ℕ) → T (all f ks) → one_of ks b ≡ true → T (f b)
one_of_is f [] b t e = absurd (false≢true e)
one_of_is f (k ∷ ks) b t e = go (eqb b k) refl (one_of_is f ks b (both (f k) _ t).1) e
  where
    go : (c : Bool) → eqb b k ≡ c → (one_of ks b ≡ true → T (f b)) → cond c true (one_of ks b) ≡ true → T (f b)
    go true q h e = subst (λ (j : ℕ). T (f j)) (sym (eqb-true b k q)) (both (f k) _ t).0
    go false q h e = h e

-- a sign begins a token by itself, and is no space
pub sign_class : (b : ℕ) → one_of signs b ≡ true → (class_of b ≡ Sign) × (is_space b ≡ false)
unfolding class_of
sign_class b e = (sym (from_is Sign b (one_of_is (is Sign) signs b tt e)), no_space (is_space b) (one_of_is (λ b. not (is_space b)) signs b tt e))
  where
    no_space : (t : Bool) → T (not t) → t ≡ false
    no_space true h = absurd h
    no_space false h = refl
