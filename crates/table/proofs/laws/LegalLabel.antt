-- A label's eight bytes tested at once, in one word: the high bit of byte i is digit `hi i` of the word.
-- Assumes nothing.
use Rattle.std.proofs.Common.{◌≡◌, ℕ, zero, suc, ◌+◌, ◌-◌, ◌*◌, ◌/◌, ◌%◌, ◌^◌, ◌<◌, ◌≤◌, min, max, Bool, true, false, not, ◌&&◌, ◌||◌, eqb, ltb, leb, ◌⊎◌, List, [], ◌∷◌, sym, refl, ap, ◌∙◌, ap₂, inl, inr, ⊎_elim, suc-le-suc, zero-le, arith, lit<, lit≤, pow-add, ltb-true, eq-eqb, eqb-true, le-leb, leb-false, leb-true}
use native.Mathlib.Nat.{div-div-eq-div-mul, zero-max, zero-min}
use lib.Dec.{eqb-suc-zero}
use lib.Bits.{bit_and, bit_or, bit_xor, differ, and_le_r, or_lt, xor_lt, or_mod, or_shr}
use Rattle.bits.specs.Digits.{digit}
use Rattle.bits.proofs.laws.Digits.{digit_le, digit_or, digit_and, digit_xor, digit_not, digit_high, digit_none, none_of_digits, lt_or_ge, same_or}
use Rattle.table.specs.Lists.{every}
use Rattle.table.specs.Table.{upper, letter_or_digit, label_rest, legal_label}
use Rattle.table.specs.View.{label_of}
use Rattle.table.specs.inner.Scans.{all, clear}
use Rattle.table.proofs.laws.Lists.{both, join, either, implies, left_fails, alike, decided, never, all_more, all_at}

-- ---- a test as a number

abbrev flag : Bool → ℕ
flag true = 1
flag false = 0

flag_le : (a : Bool) → flag a ≤ 1
flag_le true = lit≤ tt
flag_le false = lit≤ tt

flag_yes : (a : Bool) → flag a ≡ 1 → a ≡ true
flag_yes true e = refl
flag_yes false e = absurd (omega arith)

-- ---- bytes of a word, lowest first

unfoldable pub byte : ℕ → ℕ → ℕ
byte w zero = w % 256
byte w (suc i) = byte (w / 256) i

-- where byte i's high bit stands
unfoldable hi : ℕ → ℕ
hi zero = 7
hi (suc i) = 8 + hi i

hi_is : (i : ℕ) → hi i ≡ 8 * i + 7
unfolding hi
hi_is zero = refl
hi_is (suc i) = omega (arith, hi_is i)

digit_byte : (s k : ℕ) → digit s (8 + k) ≡ digit (s / 256) k
unfolding digit
digit_byte s k = ap (λ (x : ℕ). x % 2) (ap (λ (x : ℕ). s / x) (pow-add 2 8 k) ∙ sym (div-div-eq-div-mul s 256 (2 ^ k)))

-- a byte's high bit
high_bit : (w i : ℕ) → digit w (hi i) ≡ byte w i / 128
unfolding hi byte digit
high_bit w zero = omega arith
high_bit w (suc i) = digit_byte w (hi i) ∙ high_bit (w / 256) i

byte_below : (w i : ℕ) → byte w i < 256
unfolding byte
byte_below w zero = omega arith
byte_below w (suc i) = byte_below (w / 256) i

abbrev Low : ℕ → ℕ → Type 0
Low n w = (i : ℕ) → i < n → byte w i < 128

-- bytes that do not carry
byte_sum : (w c i : ℕ) → ((j : ℕ) → j ≤ i → byte w j + byte c j < 256) → byte (w + c) i ≡ byte w i + byte c i
unfolding byte
byte_sum w c zero h = let l = h zero zero-le in omega arith
byte_sum w c (suc i) h =
    let l = h zero zero-le in
    let e : (w + c) / 256 ≡ w / 256 + c / 256 = omega arith in
    ap (λ (x : ℕ). byte x i) e ∙ byte_sum (w / 256) (c / 256) i (λ j m. h (suc j) (suc-le-suc m))

-- a word's bytes are those of the sum that it wrapped
byte_word : (x i : ℕ) → i < 8 → byte (x % 18446744073709551616) i ≡ byte x i
unfolding byte
byte_word x zero l = omega arith
byte_word x (suc zero) l = omega arith
byte_word x (suc (suc zero)) l = omega arith
byte_word x (suc (suc (suc zero))) l = omega arith
byte_word x (suc (suc (suc (suc zero)))) l = omega arith
byte_word x (suc (suc (suc (suc (suc zero))))) l = omega arith
byte_word x (suc (suc (suc (suc (suc (suc zero)))))) l = omega arith
byte_word x (suc (suc (suc (suc (suc (suc (suc zero))))))) l = omega arith
byte_word x (suc (suc (suc (suc (suc (suc (suc (suc i)))))))) l = absurd (omega arith)

byte_or : (a b i : ℕ) → byte (bit_or a b) i ≡ bit_or (byte a i) (byte b i)
unfolding byte
byte_or a b zero = or_mod a b 8
byte_or a b (suc i) = ap (λ (x : ℕ). byte x i) (or_shr a b 8) ∙ byte_or (a / 256) (b / 256) i

-- ---- one byte after another: what may follow the byte p

unfoldable step : ℕ → ℕ → Bool
step p c = not (leb 1 c) || (letter_or_digit c && leb 1 p)

unfoldable steps : ℕ → List ℕ → Bool
steps p [] = true
steps p (c ∷ r) = step p c && steps c r

zero_steps : (r : List ℕ) → every (λ x. eqb x 0) r ≡ steps 0 r
unfolding every steps step letter_or_digit
zero_steps [] = refl
zero_steps (zero ∷ r) = zero_steps r
zero_steps (suc c ∷ r) =
    left_fails (every (λ x. eqb x 0) r) (eqb-suc-zero c)
    ∙ sym (left_fails (steps (suc c) r) (shape (leb 1 (suc c)) (letter_or_digit (suc c)) (le-leb 1 (suc c) (suc-le-suc zero-le))))
  where
    shape : (n l : Bool) → n ≡ true → (not n || (l && false)) ≡ false
    shape true true e = refl
    shape true false e = refl
    shape false l e = absurd (never e refl)

rest_steps : (p : ℕ) (r : List ℕ) → leb 1 p ≡ true → label_rest r ≡ steps p r
unfolding every steps step label_rest letter_or_digit
rest_steps p [] h = refl
rest_steps p (zero ∷ r) h = zero_steps r
rest_steps p (suc c ∷ r) h =
    let n = le-leb 1 (suc c) (suc-le-suc zero-le) in
    shape (letter_or_digit (suc c)) (eqb (suc c) 0) (every (λ x. eqb x 0) r) (leb 1 (suc c)) (leb 1 p) n h (eqb-suc-zero c) (rest_steps (suc c) r n)
  where
    shape : (l z e n q : Bool) {a b : Bool} → n ≡ true → q ≡ true → z ≡ false → a ≡ b → ((l && a) || (z && e)) ≡ ((not n || (l && q)) && b)
    shape l true e n q x y v s = absurd (never refl v)
    shape l false e false q x y v s = absurd (never x refl)
    shape l false e true false x y v s = absurd (never y refl)
    shape true false e true true {a} x y v s = or_false a ∙ s
      where
        or_false : (a : Bool) → (a || false) ≡ a
        or_false true = refl
        or_false false = refl
    shape false false e true true x y v s = refl

letter_some : (c : ℕ) → letter_or_digit c ≡ true → leb 1 c ≡ true
unfolding letter_or_digit
letter_some zero e = e
letter_some (suc c) e = le-leb 1 (suc c) (suc-le-suc zero-le)

upper_some : (c : ℕ) → upper c ≡ true → leb 1 c ≡ true
unfolding upper
upper_some c e = let h = leb-true 65 c (both (leb 65 c) (leb c 90) e).0 in le-leb 1 c (omega arith)

-- a label by its steps
legal_eight : (a b c d e f g h : ℕ) → legal_label (a ∷ b ∷ c ∷ d ∷ e ∷ f ∷ g ∷ h ∷ []) ≡ (upper a && steps a (b ∷ c ∷ d ∷ e ∷ f ∷ g ∷ h ∷ []))
unfolding legal_label
legal_eight a b c d e f g h = ⊎_elim yes no (decided (upper a))
  where
    r : List ℕ
    r = b ∷ c ∷ d ∷ e ∷ f ∷ g ∷ h ∷ []

    and_true : (x : Bool) → (x && true) ≡ x
    and_true true = refl
    and_true false = refl

    yes : upper a ≡ true → (upper a && label_rest r && true) ≡ (upper a && steps a r)
    yes q = and_true (upper a && label_rest r) ∙ ap (λ x. upper a && x) (rest_steps a r (upper_some a q))

    no : upper a ≡ false → (upper a && label_rest r && true) ≡ (upper a && steps a r)
    no q = left_fails true (left_fails (label_rest r) q) ∙ sym (left_fails (steps a r) q)

pub label_bytes : (w : ℕ) → label_of w ≡ byte w 7 ∷ byte w 6 ∷ byte w 5 ∷ byte w 4 ∷ byte w 3 ∷ byte w 2 ∷ byte w 1 ∷ byte w 0 ∷ []
unfolding label_of byte
label_bytes w =
    ap₂ ◌∷◌ (omega arith) (ap₂ ◌∷◌ (omega arith) (ap₂ ◌∷◌ (omega arith) (ap₂ ◌∷◌ (omega arith)
    (ap₂ ◌∷◌ (omega arith) (ap₂ ◌∷◌ (omega arith) (ap₂ ◌∷◌ refl refl))))))

-- what a legal label's bytes are
record Spelt (w : ℕ) : Type 0 where
  first : upper (byte w 7) ≡ true
  next : (i : ℕ) → i < 7 → step (byte w (suc i)) (byte w i) ≡ true

legal_spelt : (w : ℕ) → legal_label (label_of w) ≡ true → Spelt w
unfolding steps
legal_spelt w e =
    let q = sym (ap legal_label (label_bytes w) ∙ legal_eight (byte w 7) (byte w 6) (byte w 5) (byte w 4) (byte w 3) (byte w 2) (byte w 1) (byte w 0)) ∙ e in
    let p = both (upper (byte w 7)) (steps (byte w 7) (byte w 6 ∷ byte w 5 ∷ byte w 4 ∷ byte w 3 ∷ byte w 2 ∷ byte w 1 ∷ byte w 0 ∷ [])) q in
    let p6 = both (step (byte w 7) (byte w 6)) (steps (byte w 6) (byte w 5 ∷ byte w 4 ∷ byte w 3 ∷ byte w 2 ∷ byte w 1 ∷ byte w 0 ∷ [])) p.1 in
    let p5 = both (step (byte w 6) (byte w 5)) (steps (byte w 5) (byte w 4 ∷ byte w 3 ∷ byte w 2 ∷ byte w 1 ∷ byte w 0 ∷ [])) p6.1 in
    let p4 = both (step (byte w 5) (byte w 4)) (steps (byte w 4) (byte w 3 ∷ byte w 2 ∷ byte w 1 ∷ byte w 0 ∷ [])) p5.1 in
    let p3 = both (step (byte w 4) (byte w 3)) (steps (byte w 3) (byte w 2 ∷ byte w 1 ∷ byte w 0 ∷ [])) p4.1 in
    let p2 = both (step (byte w 3) (byte w 2)) (steps (byte w 2) (byte w 1 ∷ byte w 0 ∷ [])) p3.1 in
    let p1 = both (step (byte w 2) (byte w 1)) (steps (byte w 1) (byte w 0 ∷ [])) p2.1 in
    let p0 = both (step (byte w 1) (byte w 0)) true p1.1 in
    record { first = p.0; next = pick p0.0 p1.0 p2.0 p3.0 p4.0 p5.0 p6.0 }
  where
    pick : step (byte w 1) (byte w 0) ≡ true → step (byte w 2) (byte w 1) ≡ true → step (byte w 3) (byte w 2) ≡ true
        → step (byte w 4) (byte w 3) ≡ true → step (byte w 5) (byte w 4) ≡ true → step (byte w 6) (byte w 5) ≡ true
        → step (byte w 7) (byte w 6) ≡ true → (i : ℕ) → i < 7 → step (byte w (suc i)) (byte w i) ≡ true
    pick a b c d e f g zero l = a
    pick a b c d e f g (suc zero) l = b
    pick a b c d e f g (suc (suc zero)) l = c
    pick a b c d e f g (suc (suc (suc zero))) l = d
    pick a b c d e f g (suc (suc (suc (suc zero)))) l = e
    pick a b c d e f g (suc (suc (suc (suc (suc zero))))) l = f
    pick a b c d e f g (suc (suc (suc (suc (suc (suc zero)))))) l = g
    pick a b c d e f g (suc (suc (suc (suc (suc (suc (suc i))))))) l = absurd (omega arith)

spelt_legal : (w : ℕ) → Spelt w → legal_label (label_of w) ≡ true
unfolding steps
spelt_legal w s =
    ap legal_label (label_bytes w) ∙ legal_eight (byte w 7) (byte w 6) (byte w 5) (byte w 4) (byte w 3) (byte w 2) (byte w 1) (byte w 0)
    ∙ join s.first (join (s.next 6 (lit< tt)) (join (s.next 5 (lit< tt)) (join (s.next 4 (lit< tt)) (join (s.next 3 (lit< tt))
    (join (s.next 2 (lit< tt)) (join (s.next 1 (lit< tt)) (join (s.next 0 (lit< tt)) refl)))))))

-- what a step says of a byte that is not 0
stepped : (p c : ℕ) → step p c ≡ true → leb 1 c ≡ true → (letter_or_digit c ≡ true) × (leb 1 p ≡ true)
unfolding step
stepped p c e z = both (letter_or_digit c) (leb 1 p) (go (leb 1 c) (letter_or_digit c && leb 1 p) z e)
  where
    go : (n x : Bool) → n ≡ true → (not n || x) ≡ true → x ≡ true
    go true x z e = e
    go false x z e = absurd (never z refl)

may_step : (p c : ℕ) → (leb 1 c ≡ true → (letter_or_digit c ≡ true) × (leb 1 p ≡ true)) → step p c ≡ true
unfolding step
may_step p c h = implies (leb 1 c) (letter_or_digit c && leb 1 p) (λ n. join (h n).0 (h n).1)

-- legal bytes are below 128
letter_low : (c : ℕ) → letter_or_digit c ≡ true → c < 128
unfolding letter_or_digit
letter_low c e =
    ⊎_elim
    (λ x. ⊎_elim (λ y. let h = leb-true c 90 (both (leb 65 c) (leb c 90) y).1 in omega arith)
    (λ y. let h = leb-true c 122 (both (leb 97 c) (leb c 122) y).1 in omega arith)
    (either (leb 65 c && leb c 90) (leb 97 c && leb c 122) x))
    (λ x. let h = leb-true c 57 (both (leb 48 c) (leb c 57) x).1 in omega arith)
    (either (leb 65 c && leb c 90 || (leb 97 c && leb c 122)) (leb 48 c && leb c 57) e)

step_low : (p c : ℕ) → step p c ≡ true → c < 128
step_low p c e =
    ⊎_elim (λ z. letter_low c (stepped p c e z).0) (λ (z : leb 1 c ≡ false). let h = leb-false 1 c z in omega arith) (decided (leb 1 c))

spelt_low : (w : ℕ) → Spelt w → Low 8 w
unfolding upper
spelt_low w s i l =
    ⊎_elim (λ (m : i < 7). step_low (byte w (suc i)) (byte w i) (s.next i m))
    (λ (m : 7 ≤ i).
    let q : i ≡ 7 = omega arith in
    let h = leb-true (byte w 7) 90 (both (leb 65 (byte w 7)) (leb (byte w 7) 90) s.first).1 in
    let z : byte w 7 < 128 = omega arith in
    rw q z) (lt_or_ge i 7)

-- ---- the word of bad bytes

abbrev ones : ℕ
ones = 18446744073709551615

-- the high bits of each byte
mask_bits : (i : ℕ) → i < 8 → digit 9259542123273814144 (hi i) ≡ 1
unfolding all digit hi
mask_bits i l = eqb-true (digit 9259542123273814144 (hi i)) 1 (all_at (λ i. eqb (digit 9259542123273814144 (hi i)) 1) 8 refl i l)

mask_rest : (j : ℕ) → j < 64 → (j % 8 ≡ 7 → ⊥) → digit 9259542123273814144 j ≡ 0
unfolding all digit
mask_rest j l n = go (eqb (j % 8) 7) refl (all_at (λ j. eqb (j % 8) 7 || eqb (digit 9259542123273814144 j) 0) 64 refl j l)
  where
    go : (b : Bool) → eqb (j % 8) 7 ≡ b → (b || eqb (digit 9259542123273814144 j) 0) ≡ true → digit 9259542123273814144 j ≡ 0
    go true e h = absurd (n (eqb-true (j % 8) 7 e))
    go false e h = eqb-true (digit 9259542123273814144 j) 0 h

hi_below : (i : ℕ) → i < 8 → hi i < 64
hi_below i l = omega (arith, hi_is i)

-- a sum's high bits, byte by byte
sum_bit : (w C r : ℕ) → Low 8 w → all 8 (λ i. leb (byte C i) 128) ≡ true → r ≡ (w + C) % 18446744073709551616
    → (i : ℕ) → i < 8 → digit r (hi i) ≡ (byte w i + byte C i) / 128
sum_bit w C r low few e i l =
    ap (λ (x : ℕ). digit x (hi i)) e ∙ high_bit ((w + C) % 18446744073709551616) i
    ∙ ap (λ (x : ℕ). x / 128) (byte_word (w + C) i l ∙ byte_sum w C i (λ j m. under j (omega arith)))
  where
    under : (j : ℕ) → j < 8 → byte w j + byte C j < 256
    under j m = omega (arith, low j m, leb-true (byte C j) 128 (all_at (λ i. leb (byte C i) 128) 8 few j m))

-- the seven lower bytes of a word are alike
lower : (C v : ℕ) → all 7 (λ i. eqb (byte C i) v) ≡ true → (i : ℕ) → i < 7 → byte C i ≡ v
lower C v e i l = eqb-true (byte C i) v (all_at (λ i. eqb (byte C i) v) 7 e i l)

-- the tests of a byte below 128, by the sums that the code makes
abbrev letter_test : ℕ → ℕ
letter_test c = differ (differ ((bit_or c 32 + 31) / 128) ((bit_or c 32 + 5) / 128)) (differ ((c + 80) / 128) ((c + 70) / 128))

letter_is : (c : ℕ) → c < 128 → letter_test c ≡ flag (letter_or_digit c)
unfolding all letter_or_digit
letter_is c l =
    eqb-true (letter_test c) (flag (letter_or_digit c)) (all_at (λ c. eqb (letter_test c) (flag (letter_or_digit c))) 128 refl c l)

abbrev upper_test : ℕ → ℕ
upper_test c = differ (differ ((bit_or c 0 + 63) / 128) ((bit_or c 0 + 37) / 128)) (differ ((c + 0) / 128) ((c + 0) / 128))

upper_is : (c : ℕ) → c < 128 → upper_test c ≡ flag (upper c)
unfolding all upper
upper_is c l = eqb-true (upper_test c) (flag (upper c)) (all_at (λ c. eqb (upper_test c) (flag (upper c))) 128 refl c l)

some_is : (c : ℕ) → c < 128 → (c + 127) / 128 ≡ flag (leb 1 c)
unfolding all
some_is c l = eqb-true ((c + 127) / 128) (flag (leb 1 c)) (all_at (λ c. eqb ((c + 127) / 128) (flag (leb 1 c))) 128 refl c l)

-- the sums of a word: a and b of it in small letters, for letters; d and e for digits; s for bytes that are not 0
pub record Added (w a b d e s : ℕ) : Type 0 where
  pub a_is : a ≡ (bit_or w 9042521604759584 + 4548388367194070815) % 18446744073709551616
  pub b_is : b ≡ (bit_or w 9042521604759584 + 2667543873404077317) % 18446744073709551616
  pub d_is : d ≡ (w + 22606304011898960) % 18446744073709551616
  pub e_is : e ≡ (w + 19780516010411590) % 18446744073709551616
  pub s_is : s ≡ (w + 9259259544473665407) % 18446744073709551616

abbrev kinds : ℕ → ℕ → ℕ → ℕ → ℕ
kinds a b d e = bit_xor (bit_xor a b) (bit_xor d e)

abbrev bad : ℕ → ℕ → ℕ → ℕ
bad w s x = bit_or w (bit_and s (bit_or (ones - x) ((ones - x) / 256)))

module _ (w a b d e s : ℕ) (added : Added w a b d e s) where
  abbrev x : ℕ
  x = kinds a b d e

  x_fits : x ≤ ones
  x_fits =
      let h = xor_lt 64 (bit_xor a b) (bit_xor d e) (xor_lt 64 a b (omega (arith, added.a_is)) (omega (arith, added.b_is)))
      (xor_lt 64 d e (omega (arith, added.d_is)) (omega (arith, added.e_is))) in
      omega arith

  other_bit : (i : ℕ) → i < 8 → digit (ones - x) (hi i) ≡ 1 - digit x (hi i)
  other_bit i l = digit_not 64 x (hi i) (omega (arith, x_fits)) (hi_below i l)

  module _ (low : Low 8 w) where
    small_byte : (i : ℕ) → byte (bit_or w 9042521604759584) i ≡ bit_or (byte w i) (byte 9042521604759584 i)
    small_byte i = byte_or w 9042521604759584 i

    small_low : Low 8 (bit_or w 9042521604759584)
    unfolding all byte
    small_low i l =
        let h = or_lt 7 (byte w i) (byte 9042521604759584 i) (low i l)
        (ltb-true (byte 9042521604759584 i) 128 (all_at (λ i. ltb (byte 9042521604759584 i) 128) 8 refl i l)) in
        omega (arith, h, small_byte i)

    x_bit : (i : ℕ) → i < 8 → digit x (hi i)
        ≡ differ (differ ((bit_or (byte w i) (byte 9042521604759584 i) + byte 4548388367194070815 i) / 128) ((bit_or (byte w i) (byte 9042521604759584 i) + byte 2667543873404077317 i) / 128))
        (differ ((byte w i + byte 22606304011898960 i) / 128) ((byte w i + byte 19780516010411590 i) / 128))
    unfolding all byte
    x_bit i l =
        digit_xor (bit_xor a b) (bit_xor d e) (hi i)
        ∙ ap₂ differ
        (digit_xor a b (hi i) ∙ ap₂ differ
        (sum_bit (bit_or w 9042521604759584) 4548388367194070815 a small_low refl added.a_is i l ∙ ap (λ (y : ℕ). (y + byte 4548388367194070815 i) / 128) (small_byte i))
        (sum_bit (bit_or w 9042521604759584) 2667543873404077317 b small_low refl added.b_is i l ∙ ap (λ (y : ℕ). (y + byte 2667543873404077317 i) / 128) (small_byte i)))
        (digit_xor d e (hi i) ∙ ap₂ differ (sum_bit w 22606304011898960 d low refl added.d_is i l) (sum_bit w 19780516010411590 e low refl added.e_is i l))

    -- letters and digits among the lower bytes; A-Z at the first
    x_lower : (i : ℕ) → i < 7 → digit x (hi i) ≡ flag (letter_or_digit (byte w i))
    unfolding all byte
    x_lower i l =
        x_bit i (omega arith)
        ∙ rw (lower 9042521604759584 32 refl i l, lower 4548388367194070815 31 refl i l, lower 2667543873404077317 5 refl i l, lower 22606304011898960 80 refl i l, lower 19780516010411590 70 refl i l)
        (letter_is (byte w i) (low i (omega arith)))

    x_first : digit x (hi 7) ≡ flag (upper (byte w 7))
    unfolding byte
    x_first = x_bit 7 (lit< tt) ∙ upper_is (byte w 7) (low 7 (lit< tt))

    s_lower : (i : ℕ) → i < 7 → digit s (hi i) ≡ flag (leb 1 (byte w i))
    unfolding all byte
    s_lower i l =
        sum_bit w 9259259544473665407 s low refl added.s_is i (omega arith)
        ∙ rw (lower 9259259544473665407 127 refl i l) (some_is (byte w i) (low i (omega arith)))

    s_first : digit s (hi 7) ≡ 1
    unfolding all byte
    s_first = sum_bit w 9259259544473665407 s low refl added.s_is 7 (lit< tt) ∙ top (byte w 7) (low 7 (lit< tt))
      where
        top : (c : ℕ) → c < 128 → (c + 128) / 128 ≡ 1
        top c l = omega arith

    bad_bit : (i : ℕ) → i < 8 → digit (bad w s x) (hi i) ≡ min (digit s (hi i)) (max (1 - digit x (hi i)) (digit ((ones - x) / 256) (hi i)))
    bad_bit i l =
        let j = hi i in
        let o : digit w j ≡ 0 = omega (arith, high_bit w i, low i l) in
        digit_or w (bit_and s (bit_or (ones - x) ((ones - x) / 256))) j
        ∙ ap₂ max o
        (digit_and s (bit_or (ones - x) ((ones - x) / 256)) j
        ∙ ap (min (digit s j)) (digit_or (ones - x) ((ones - x) / 256) j ∙ ap (λ (y : ℕ). max y (digit ((ones - x) / 256) j)) (other_bit i l)))
        ∙ zero-max (min (digit s j) (max (1 - digit x j) (digit ((ones - x) / 256) j)))

    -- a byte below the first
    lower_bad : (i : ℕ) → i < 7 → digit (bad w s x) (hi i)
        ≡ min (flag (leb 1 (byte w i))) (max (1 - flag (letter_or_digit (byte w i))) (1 - digit x (hi (suc i))))
    unfolding hi
    lower_bad i l =
        bad_bit i (omega arith)
        ∙ ap₂ min (s_lower i l)
        (ap₂ max (ap (λ (y : ℕ). 1 - y) (x_lower i l)) (sym (digit_byte (ones - x) (hi i)) ∙ other_bit (suc i) (omega arith)))

    first_bad : digit (bad w s x) (hi 7) ≡ 1 - flag (upper (byte w 7))
    unfolding hi
    first_bad =
        bad_bit 7 (lit< tt)
        ∙ ap₂ min s_first (ap₂ max (ap (λ (y : ℕ). 1 - y) x_first) (sym (digit_byte (ones - x) (hi 7)) ∙ digit_high 64 (ones - x) 71 (omega arith) (lit≤ tt)))
        ∙ omega (arith, flag_le (upper (byte w 7)))

    -- a byte whose bit is set is not 0
    set_some : (i : ℕ) → i < 8 → digit x (hi i) ≡ 1 → leb 1 (byte w i) ≡ true
    set_some i l e =
        ⊎_elim (λ (m : i < 7). letter_some (byte w i) (flag_yes (letter_or_digit (byte w i)) (sym (x_lower i m) ∙ e)))
        (λ (m : 7 ≤ i).
        let q : i ≡ 7 = omega arith in
        rw q (upper_some (byte w 7) (flag_yes (upper (byte w 7)) (sym x_first ∙ ap (λ i. digit x (hi i)) (sym q) ∙ e)))) (lt_or_ge i 7)

    -- of a legal label a byte that is not 0 has its bit set
    some_set : Spelt w → (i : ℕ) → i < 8 → leb 1 (byte w i) ≡ true → digit x (hi i) ≡ 1
    some_set p i l e =
        ⊎_elim (λ (m : i < 7). x_lower i m ∙ ap flag (stepped (byte w (suc i)) (byte w i) (p.next i m) e).0)
        (λ (m : 7 ≤ i).
        let q : i ≡ 7 = omega arith in
        ap (λ i. digit x (hi i)) q ∙ x_first ∙ ap flag p.first) (lt_or_ge i 7)

-- the code's test
none_of : (n k : Bool) (d : ℕ) → d ≤ 1 → min (flag n) (max (1 - flag k) (1 - d)) ≡ 0 → n ≡ true → (k ≡ true) × (d ≡ 1)
none_of true true d l e q = (refl, omega arith)
none_of true false d l e q = absurd (omega arith)
none_of false k d l e q = absurd (never q refl)

module _ (w a b d e s : ℕ) (added : Added w a b d e s) where
  none_legal : bit_and (bad w s (kinds a b d e)) 9259542123273814144 ≡ 0 → legal_label (label_of w) ≡ true
  none_legal z = spelt_legal w (record {
    first = flag_yes (upper (byte w 7)) (omega (arith, unset 7 (lit< tt), first_bad w a b d e s added low, flag_le (upper (byte w 7))));
    next = λ i l. may_step (byte w (suc i)) (byte w i) (λ n.
        let r = none_of (leb 1 (byte w i)) (letter_or_digit (byte w i)) (digit (kinds a b d e) (hi (suc i))) (digit_le (kinds a b d e) (hi (suc i)))
        (sym (lower_bad w a b d e s added low i l) ∙ unset i (omega arith)) n in
        (r.0, set_some w a b d e s added low (suc i) (omega arith) r.1));
  })
    where
      unset : (i : ℕ) → i < 8 → digit (bad w s (kinds a b d e)) (hi i) ≡ 0
      unset i l =
          omega (arith, digit_and (bad w s (kinds a b d e)) 9259542123273814144 (hi i), mask_bits i l, digit_none (hi i), ap (λ (y : ℕ). digit y (hi i)) z, digit_le (bad w s (kinds a b d e)) (hi i))

      low : Low 8 w
      low i l =
          omega (arith, high_bit w i, byte_below w i, unset i l, digit_or w (bit_and s (bit_or (ones - kinds a b d e) ((ones - kinds a b d e) / 256))) (hi i))

  legal_none : legal_label (label_of w) ≡ true → bit_and (bad w s (kinds a b d e)) 9259542123273814144 ≡ 0
  legal_none e₀ =
      none_of_digits 64 (bit_and (bad w s (kinds a b d e)) 9259542123273814144)
      (omega (arith, and_le_r (bad w s (kinds a b d e)) 9259542123273814144))
      (λ j l. ⊎_elim (λ (q : j % 8 ≡ 7). at_high j l q)
      (λ n. omega (arith, digit_and (bad w s (kinds a b d e)) 9259542123273814144 j, mask_rest j l n)) (same_or (j % 8) 7))
    where
      spelt : Spelt w
      spelt = legal_spelt w e₀

      low : Low 8 w
      low = spelt_low w spelt

      unset : (i : ℕ) → i < 8 → digit (bad w s (kinds a b d e)) (hi i) ≡ 0
      unset i l =
          ⊎_elim (λ (m : i < 7). lower_bad w a b d e s added low i m ∙ fine i m (decided (leb 1 (byte w i))))
          (λ (m : 7 ≤ i).
          let q : i ≡ 7 = omega arith in
          ap (λ i. digit (bad w s (kinds a b d e)) (hi i)) q ∙ first_bad w a b d e s added low ∙ ap (λ t. 1 - flag t) spelt.first) (lt_or_ge i 7)
        where
          fine : (i : ℕ) → i < 7 → (leb 1 (byte w i) ≡ true) ⊎ (leb 1 (byte w i) ≡ false)
              → min (flag (leb 1 (byte w i))) (max (1 - flag (letter_or_digit (byte w i))) (1 - digit (kinds a b d e) (hi (suc i)))) ≡ 0
          fine i m (inr n) = rw n (zero-min _)
          fine i m (inl n) =
              let r = stepped (byte w (suc i)) (byte w i) (spelt.next i m) n in
              rw (n, r.0, some_set w a b d e s added low spelt (suc i) (omega arith) r.1) refl

      at_high : (j : ℕ) → j < 64 → j % 8 ≡ 7 → digit (bit_and (bad w s (kinds a b d e)) 9259542123273814144) j ≡ 0
      at_high j l q =
          let i : j ≡ hi (j / 8) = omega (arith, hi_is (j / 8)) in
          ap (digit (bit_and (bad w s (kinds a b d e)) 9259542123273814144)) i
          ∙ omega (arith, digit_and (bad w s (kinds a b d e)) 9259542123273814144 (hi (j / 8)), unset (j / 8) (omega arith))

  pub label_word : clear (bad w s (kinds a b d e)) ≡ legal_label (label_of w)
  label_word =
      alike (clear (bad w s (kinds a b d e))) (legal_label (label_of w))
      (λ q. none_legal (eqb-true (bit_and (bad w s (kinds a b d e)) 9259542123273814144) 0 q))
      (λ q. eq-eqb (bit_and (bad w s (kinds a b d e)) 9259542123273814144) 0 (legal_none q))

-- ---- several words at once

clear_or : (a b : ℕ) → clear (bit_or a b) ≡ (clear a && clear b)
clear_or a b =
    alike (clear (bit_or a b)) (clear a && clear b)
    (λ e.
    let z = eqb-true (bit_and (bit_or a b) 9259542123273814144) 0 e in
    join (eq-eqb (bit_and a 9259542123273814144) 0 (part a z (λ k. omega (arith, digit_or a b k)))) (eq-eqb (bit_and b 9259542123273814144) 0 (part b z (λ k. omega (arith, digit_or a b k)))))
    (λ e.
    let h = both (clear a) (clear b) e in
    eq-eqb (bit_and (bit_or a b) 9259542123273814144) 0 (whole (eqb-true (bit_and a 9259542123273814144) 0 h.0) (eqb-true (bit_and b 9259542123273814144) 0 h.1)))
  where
    part : (x : ℕ) → bit_and (bit_or a b) 9259542123273814144 ≡ 0 → ((k : ℕ) → digit x k ≤ digit (bit_or a b) k) → bit_and x 9259542123273814144 ≡ 0
    part x z h =
        none_of_digits 64 (bit_and x 9259542123273814144) (omega (arith, and_le_r x 9259542123273814144))
        (λ j l. omega (arith, digit_and x 9259542123273814144 j, digit_and (bit_or a b) 9259542123273814144 j, h j, ap (λ (y : ℕ). digit y j) z, digit_none j))

    whole : bit_and a 9259542123273814144 ≡ 0 → bit_and b 9259542123273814144 ≡ 0 → bit_and (bit_or a b) 9259542123273814144 ≡ 0
    whole p q =
        none_of_digits 64 (bit_and (bit_or a b) 9259542123273814144) (omega (arith, and_le_r (bit_or a b) 9259542123273814144))
        (λ j l.
        omega (arith, digit_and (bit_or a b) 9259542123273814144 j, digit_or a b j, digit_and a 9259542123273814144 j, digit_and b 9259542123273814144 j, ap (λ (y : ℕ). digit y j) p, ap (λ (y : ℕ). digit y j) q, digit_none j))

-- one word more
pub clear_more : (f : ℕ → Bool) (k a b : ℕ) → clear a ≡ all k f → clear b ≡ f k → clear (bit_or a b) ≡ all (k + 1) f
clear_more f k a b p q = clear_or a b ∙ ap₂ ◌&&◌ p q ∙ sym (all_more f k)
