-- The bytes of document 01 against the classes of bytes that the scanner goes by. Assumes nothing.
use mathlib.Core.Path.{◌≡◌, refl, sym, ap, ◌∙◌}
use mathlib.Core.Bool.{cond, Bool, true, false, ◌&&◌, ◌||◌}
use mathlib.Core.Logic.{inl, inr}
use mathlib.Core.List.{List, [], ◌∷◌, map}
use Prim.Native.Nat.{ℕ, ◌≤◌}
use Prim.Native.String.{String}
use native.Mathlib.Omega.{arith}
use lib.Dec.{eqb, leb}
use borrow.Author.Tests.{eqb-true, leb-true}
use Rattle.table.specs.Ascii.{ascii}
use Rattle.table.specs.Lists.{every, same, matched}
use Rattle.table.specs.Table.{upper, letter_or_digit}
use Rattle.table.proofs.laws.Lists.{both, never}
use Rattle.table.proofs.laws.View.{same_eq}
use Rattle.grammar.specs.Token.{one_of}
use Rattle.grammar.specs.inner.Scanner.{Class, Space, Lower, Upper, Digit, Dot, Minus, Sign, Other, is_space, class_of}
use Rattle.grammar.proofs.laws.ClassOf.{code, is, ranged, class_test, upper_word, lower_word}
use Rattle.spelling.specs.Spelling.{a_digit, blank, sign_tokens, Listed}
use Rattle.spelling.specs.Speller.{beside}
use Rattle.grammar.specs.inner.Scanner as S

-- ---- from a byte to its class

in_range : (lo hi b : ℕ) → ((leb lo b && leb b hi) ≡ true) → (lo ≤ b) × (b ≤ hi)
in_range lo hi b e = let p = both (leb lo b) (leb b hi) e in (leb-true lo b p.0, leb-true b hi p.1)

pub class_upper : (b : ℕ) → upper b ≡ true → class_of b ≡ Upper
unfolding class_of upper
class_upper b e = let p = in_range 65 90 b e in sym (ranged Upper (λ k. false) 65 26 b tt refl p.0 (omega arith))

pub class_digit : (b : ℕ) → a_digit b ≡ true → class_of b ≡ Digit
unfolding class_of
class_digit b e = let p = in_range 48 57 b e in sym (ranged Digit (λ k. false) 48 10 b tt refl p.0 (omega arith))

-- the scanner's spaces are the blanks
pub space_blank : (b : ℕ) → is_space b ≡ blank b
space_blank b = go (eqb b 0x20) (eqb b 0x0A)
  where
    go : (x y : Bool) → cond x true (cond y true false) ≡ (x || y)
    go true y = refl
    go false true = refl
    go false false = refl

-- ---- what stands beside a kind

abbrev pub kinds : List (ℕ × String) → List ℕ
kinds es = map (λ (e : ℕ × String). e.0) es

pub beside_listed : (es : List (ℕ × String)) (k : ℕ) → one_of (kinds es) k ≡ true → Listed es k (beside es k)
unfolding beside
beside_listed [] k h = never h refl
beside_listed (e ∷ es) k h = go (eqb k e.0) refl h (beside_listed es k)
  where
    go : (c : Bool) → eqb k e.0 ≡ c → cond c true (one_of (kinds es) k) ≡ true → (one_of (kinds es) k ≡ true → Listed es k (beside es k))
        → Listed (e ∷ es) k (cond c (ascii e.1) (beside es k))
    go true f h rest = inl (eqb-true _ _ f, refl)
    go false f h rest = inr (rest h)

-- a test that each of a list passes
pub each_one : (f : ℕ → Bool) (ks : List ℕ) (b : ℕ) → every f ks ≡ true → one_of ks b ≡ true → f b ≡ true
unfolding every
each_one f [] b a e = never e refl
each_one f (k ∷ ks) b a e = go (eqb b k) refl e (each_one f ks b (both (f k) (every f ks) a).1)
  where
    go : (c : Bool) → eqb b k ≡ c → cond c true (one_of ks b) ≡ true → (one_of ks b ≡ true → f b ≡ true) → f b ≡ true
    go true q e rest = ap f (eqb-true b k q) ∙ (both (f k) (every f ks) a).0
    go false q e rest = rest e

-- a sign of the scanner's is one of document 01's, and its kind is its byte
is_listed : (b : ℕ) → one_of S.signs b ≡ true → Listed sign_tokens b (b ∷ [])
unfolding every same matched beside
is_listed b e =
    let p = both (one_of (kinds sign_tokens) b) (same (beside sign_tokens b) (b ∷ [])) (each_one (λ k. one_of (kinds sign_tokens) k && same (beside sign_tokens k) (k ∷ [])) S.signs b refl e) in
    rw (same_eq (beside sign_tokens b) (b ∷ []) p.1) at (beside_listed sign_tokens b p.0)

-- ---- from a class to its bytes

pub space_code : (b : ℕ) → is_space b ≡ true → code (class_of b) ≡ 0
unfolding every class_of
space_code b e = eqb-true _ _ (each_one (is Space) (0x20 ∷ 0x0A ∷ []) b refl e)

abbrev pub Seen : ℕ → Class → Type 0
Seen b Space = Unit {0}
Seen b Lower = letter_or_digit b ≡ true
Seen b Upper = (upper b ≡ true) × (letter_or_digit b ≡ true)
Seen b Digit = a_digit b ≡ true
Seen b Dot = b ≡ 46
Seen b Minus = b ≡ 45
Seen b Sign = Listed sign_tokens b (b ∷ [])
Seen b Other = Unit {0}

pub seen : (b : ℕ) → Seen b (class_of b)
seen b = go (class_of b) refl
  where
    go : (x : Class) → class_of b ≡ x → Seen b x
    go Space e = tt
    go Lower e = lower_word b (class_test b Lower e)
    go Upper e = (class_test b Upper e, upper_word b (class_test b Upper e))
    go Digit e = class_test b Digit e
    go Dot e = eqb-true b 46 (class_test b Dot e)
    go Minus e = eqb-true b 45 (class_test b Minus e)
    go Sign e = is_listed b (class_test b Sign e)
    go Other e = tt
