-- The library's tests of a byte and of two slices are those that the scanner is defined by. Assumes nothing.
use Rattle.std.proofs.Common.{◌≡◌, ℕ, zero, suc, Bool, cond, eqb, true, false, ◌&&◌, ◌||◌, List, [], ◌∷◌, refl, sym, ap, nat_le, ◌+◌, ◌-◌, ◌<◌, ◌≤◌, ◌++◌, min, length, length-take, take, drop, replicate, get_or, arith, ltb, leb, ◌∙◌}
use Rattle.std.proofs.lemmas.List.{get_or-take, get_or-drop, get_or-replicate, get_or_past, get_or-append_right, get_or_append_left}
use Rattle.std.specs.Char.{is_ascii_alphanumeric}
use Rattle.std.specs.List.{list_any}
use Rattle.std.specs.Int.{from_be_bytes}
use mir.Syntax.{w64}
use Rattle.table.specs.Ascii.{ascii}
use Rattle.table.specs.Lists.{same}
use Rattle.table.specs.Table.{upper, letter_or_digit}
use Rattle.table.proofs.laws.View.{same_eq}
use Rattle.table.proofs.laws.Lists.{refuted, both, alike}
use Rattle.grammar.specs.Token.{word_of, token, one_of}
use Rattle.grammar.specs.inner.Scanner.{Class, Space, Lower, Upper, Digit, Dot, Minus, Sign, Other, word_kind, word_token, name_token, number_token, dots_token, is_space, signs, run_end, class_of, begin_at, token_at}
use Rattle.grammar.proofs.laws.WordOf.{word_bytes}
use Rattle.grammar.proofs.laws.ClassOf.{ranged, sign_class, test, class_test}
use borrow.Author.Tests.{le-leb, lt-leb, leb-true, eq-eqb, eqb-true, ltb-true, ltb-false}

pub letter_or_digit_is : (b : ℕ) → is_ascii_alphanumeric b ≡ letter_or_digit b
unfolding letter_or_digit
letter_or_digit_is b = turned (nat_le 48 b && nat_le b 57) (nat_le 65 b && nat_le b 90) (nat_le 97 b && nat_le b 122)
  where
    turned : (d u l : Bool) → ((d || u) || l) ≡ (u || l || d)
    turned true true l = refl
    turned true false true = refl
    turned true false false = refl
    turned false true l = refl
    turned false false true = refl
    turned false false false = refl

not_same : (w p : List ℕ) → (w ≡ p → ⊥) → same w p ≡ false
not_same w p n = refuted (same w p) (λ e. n (same_eq w p e))

pub no_word : (w : List ℕ)
    → (length w ≡ 3 → get_or w 0 0 ≡ 101 → get_or w 1 0 ≡ 110 → get_or w 2 0 ≡ 100 → ⊥)
    → (length w ≡ 3 → get_or w 0 0 ≡ 114 → get_or w 1 0 ≡ 101 → get_or w 2 0 ≡ 99 → ⊥)
    → (length w ≡ 3 → get_or w 0 0 ≡ 105 → get_or w 1 0 ≡ 110 → get_or w 2 0 ≡ 116 → ⊥)
    → (length w ≡ 4 → get_or w 0 0 ≡ 116 → get_or w 1 0 ≡ 101 → get_or w 2 0 ≡ 120 → get_or w 3 0 ≡ 116 → ⊥)
    → (length w ≡ 4 → get_or w 0 0 ≡ 102 → get_or w 1 0 ≡ 108 → get_or w 2 0 ≡ 97 → get_or w 3 0 ≡ 103 → ⊥)
    → (length w ≡ 7 → get_or w 0 0 ≡ 101 → get_or w 1 0 ≡ 100 → get_or w 2 0 ≡ 105 → get_or w 3 0 ≡ 116 → get_or w 4 0 ≡ 105 → get_or w 5 0 ≡ 111 → get_or w 6 0 ≡ 110 → ⊥)
    → word_kind w ≡ 1
unfolding word_kind
no_word w a b c d e f =
    rw (
      not_same w (ascii "end") (λ q. a (ap length q) (ap (λ x. get_or x 0 0) q) (ap (λ x. get_or x 1 0) q) (ap (λ x. get_or x 2 0) q)),
      not_same w (ascii "rec") (λ q. b (ap length q) (ap (λ x. get_or x 0 0) q) (ap (λ x. get_or x 1 0) q) (ap (λ x. get_or x 2 0) q)),
      not_same w (ascii "int") (λ q. c (ap length q) (ap (λ x. get_or x 0 0) q) (ap (λ x. get_or x 1 0) q) (ap (λ x. get_or x 2 0) q)),
      not_same w (ascii "text") (λ q. d (ap length q) (ap (λ x. get_or x 0 0) q) (ap (λ x. get_or x 1 0) q) (ap (λ x. get_or x 2 0) q) (ap (λ x. get_or x 3 0) q)),
      not_same w (ascii "flag") (λ q. e (ap length q) (ap (λ x. get_or x 0 0) q) (ap (λ x. get_or x 1 0) q) (ap (λ x. get_or x 2 0) q) (ap (λ x. get_or x 3 0) q)),
      not_same w (ascii "edition") (λ q. f (ap length q) (ap (λ x. get_or x 0 0) q) (ap (λ x. get_or x 1 0) q) (ap (λ x. get_or x 2 0) q) (ap (λ x. get_or x 3 0) q) (ap (λ x. get_or x 4 0) q) (ap (λ x. get_or x 5 0) q) (ap (λ x. get_or x 6 0) q)),
    )

-- eight bytes as one number, high byte first
be_word : (bs w : List ℕ) → ((i : ℕ) → i < 8 → get_or bs i 0 ≡ get_or w i 0) → from_be_bytes w64 bs ≡ word_of w
be_word bs w h =
    rw (h 0 (omega arith), h 1 (omega arith), h 2 (omega arith), h 3 (omega arith), h 4 (omega arith), h 5 (omega arith), h 6 (omega arith), h 7 (omega arith))
    (omega (arith, word_bytes w))

-- the first bytes of a name, filled up with zeros
pub filled_word : (w : List ℕ) (n : ℕ) → n ≡ min (length w) 8 → from_be_bytes w64 (take n w ++ drop n (replicate 8 0)) ≡ word_of w
filled_word w n e =
    be_word (take n w ++ drop n (replicate 8 0)) w (λ i h. at i h (ltb i n) refl)
  where
    at : (i : ℕ) → i < 8 → (t : Bool) → ltb i n ≡ t → get_or (take n w ++ drop n (replicate 8 0)) i 0 ≡ get_or w i 0
    at i h true t =
        let l : i < n = ltb-true _ _ t in
        get_or_append_left (take n w) (drop n (replicate 8 0)) 0 i (omega (arith, length-take n w)) ∙ get_or-take n w i 0 l
    at i h false t =
        let g : n ≤ i = ltb-false _ _ t in
        get_or-append_right (take n w) (drop n (replicate 8 0)) n i 0 (omega (arith, length-take n w)) g
        ∙ get_or-drop n (replicate 8 0) (i - n) 0
        ∙ get_or-replicate 8 (n + (i - n)) 0 0 (omega arith)
        ∙ sym (get_or_past w i 0 (omega arith))

-- the first eight bytes of a name, 0 past its end
pub read_word : (w : List ℕ)
    → from_be_bytes w64 (get_or w 0 0 ∷ get_or w 1 0 ∷ get_or w 2 0 ∷ get_or w 3 0 ∷ get_or w 4 0 ∷ get_or w 5 0 ∷ get_or w 6 0 ∷ get_or w 7 0 ∷ []) ≡ word_of w
read_word w = be_word (get_or w 0 0 ∷ get_or w 1 0 ∷ get_or w 2 0 ∷ get_or w 3 0 ∷ get_or w 4 0 ∷ get_or w 5 0 ∷ get_or w 6 0 ∷ get_or w 7 0 ∷ []) w at
  where
    at : (i : ℕ) → i < 8 → get_or (get_or w 0 0 ∷ get_or w 1 0 ∷ get_or w 2 0 ∷ get_or w 3 0 ∷ get_or w 4 0 ∷ get_or w 5 0 ∷ get_or w 6 0 ∷ get_or w 7 0 ∷ []) i 0 ≡ get_or w i 0
    at zero h = refl
    at (suc zero) h = refl
    at (suc (suc zero)) h = refl
    at (suc (suc (suc zero))) h = refl
    at (suc (suc (suc (suc zero)))) h = refl
    at (suc (suc (suc (suc (suc zero))))) h = refl
    at (suc (suc (suc (suc (suc (suc zero)))))) h = refl
    at (suc (suc (suc (suc (suc (suc (suc zero))))))) h = refl
    at (suc (suc (suc (suc (suc (suc (suc (suc i)))))))) h = absurd (omega arith)

pub is_one_of : (ks : List ℕ) (b : ℕ) → list_any (λ k. eqb k b) ks ≡ one_of ks b
is_one_of [] b = refl
is_one_of (k ∷ ks) b = rw (is_one_of ks b, alike (eqb k b) (eqb b k) (λ e. eq-eqb b k (sym (eqb-true k b e))) (λ e. eq-eqb k b (sym (eqb-true b k e)))) (either (eqb b k) (one_of ks b))
  where
    either : (t u : Bool) → (t || u) ≡ cond t true u
    either true u = refl
    either false u = refl

-- ---- what begins past the spaces

-- the text ends there
pub token_out : (s : List ℕ) (p : ℕ) → length s ≤ run_end is_space s p → token_at s p ≡ token 0 (length s) (length s)
unfolding token_at
token_out s p h = rw (le-leb _ _ h)

module _ (s : List ℕ) (p : ℕ) (h : run_end is_space s p < length s) where
  a : ℕ
  a = run_end is_space s p

  b : ℕ
  b = get_or s a 0

  -- what begins with a byte of the class
  begins : (x : Class) → x ≡ class_of b → token_at s p ≡ begin_at s a x
  unfolding token_at a b
  begins x e = rw (lt-leb _ _ h) (ap (begin_at s a) (sym e))

  pub lower_at : 97 ≤ get_or s (run_end is_space s p) 0 → get_or s (run_end is_space s p) 0 ≤ 122 → token_at s p ≡ word_token s (run_end is_space s p)
  unfolding begin_at class_of a b
  lower_at l m = begins Lower (ranged Lower (λ _. false) 97 26 b tt refl l (omega arith))

  pub upper_at : 65 ≤ get_or s (run_end is_space s p) 0 → get_or s (run_end is_space s p) 0 ≤ 90 → token_at s p ≡ name_token s (run_end is_space s p)
  unfolding begin_at class_of a b
  upper_at l m = begins Upper (ranged Upper (λ _. false) 65 26 b tt refl l (omega arith))

  pub digit_at : 48 ≤ get_or s (run_end is_space s p) 0 → get_or s (run_end is_space s p) 0 ≤ 57 → token_at s p ≡ number_token s (run_end is_space s p) (run_end is_space s p)
  unfolding begin_at class_of a b
  digit_at l m = begins Digit (ranged Digit (λ _. false) 48 10 b tt refl l (omega arith))

  pub minus_at : get_or s (run_end is_space s p) 0 ≡ 45 → token_at s p ≡ number_token s (run_end is_space s p) (run_end is_space s p + 1)
  unfolding begin_at class_of a b
  minus_at e = begins Minus (ranged Minus (λ _. false) 45 1 b tt refl (omega arith) (omega arith))

  pub dot_at : get_or s (run_end is_space s p) 0 ≡ 46 → token_at s p ≡ dots_token s (run_end is_space s p)
  unfolding begin_at class_of a b
  dot_at e = begins Dot (ranged Dot (λ _. false) 46 1 b tt refl (omega arith) (omega arith))

  pub sign_at : one_of signs (get_or s (run_end is_space s p) 0) ≡ true → token_at s p ≡ token (get_or s (run_end is_space s p) 0) (run_end is_space s p) (run_end is_space s p + 1)
  unfolding begin_at a b
  sign_at e = begins Sign (sym (sign_class b e).0)

  -- a byte that begins no token
  pub other_at : (97 ≤ get_or s (run_end is_space s p) 0 → get_or s (run_end is_space s p) 0 ≤ 122 → ⊥)
      → (65 ≤ get_or s (run_end is_space s p) 0 → get_or s (run_end is_space s p) 0 ≤ 90 → ⊥)
      → (48 ≤ get_or s (run_end is_space s p) 0 → get_or s (run_end is_space s p) 0 ≤ 57 → ⊥)
      → (get_or s (run_end is_space s p) 0 ≡ 46 → ⊥)
      → (get_or s (run_end is_space s p) 0 ≡ 45 → ⊥)
      → (one_of signs (get_or s (run_end is_space s p) 0) ≡ true → ⊥)
      → token_at s p ≡ token 1 (run_end is_space s p) (run_end is_space s p + 1)
  unfolding begin_at a b upper
  other_at l u d o m g = begins (class_of b) refl ∙ go (class_of b) (class_test b (class_of b) refl)
    where
      go : (x : Class) → test x b ≡ true → begin_at s a x ≡ token 1 a (a + 1)
      go Space e = refl
      go Lower e = let w = both (leb 97 b) (leb b 122) e in absurd (l (leb-true _ _ w.0) (leb-true _ _ w.1))
      go Upper e = let w = both (leb 65 b) (leb b 90) e in absurd (u (leb-true _ _ w.0) (leb-true _ _ w.1))
      go Digit e = let w = both (leb 48 b) (leb b 57) e in absurd (d (leb-true _ _ w.0) (leb-true _ _ w.1))
      go Dot e = absurd (o (eqb-true b 46 e))
      go Minus e = absurd (m (eqb-true b 45 e))
      go Sign e = absurd (g e)
      go Other e = refl

pub ruleset beginnings = (token_out, lower_at, upper_at, digit_at, minus_at, dot_at, sign_at, other_at)
