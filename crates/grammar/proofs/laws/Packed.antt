-- A name's bytes as one number and back: the bytes of the number are the name, filled up with 0x00.
-- Assumes nothing.
use mathlib.Core.Path.{◌≡◌, refl, sym, ap, ap₂, ◌∙◌}
use mathlib.Core.Bool.{Bool, true, false, ◌&&◌, ◌||◌}
use mathlib.Core.List.{List, [], ◌∷◌}
use Prim.Native.Nat.{ℕ, zero, suc, ◌+◌, ◌*◌, ◌/◌, ◌^◌, ◌≤◌, ◌<◌}
use native.Mathlib.Nat.{pow-suc, le_of_suc-le-suc, zero-mul, mul_assoc, mul_comm, mul-le-mul_right}
use native.Mathlib.Omega.{arith}
use lib.Dec.{eqb, leb, ltb}
use lib.ListN.{length}
use borrow.Author.Tests.{lt-leb, ltb-true, ltb-false, eq-eqb}
use Rattle.table.specs.Lists.{every}
use Rattle.table.specs.Table.{upper, letter_or_digit, label_rest, legal_label}
use Rattle.table.specs.View.{label_of}
use Rattle.table.proofs.laws.Lists.{both, join, never, right_fails}
use Rattle.table.proofs.laws.LegalLabel.{byte, label_bytes}
use Rattle.grammar.specs.Token.{packed, word_of}
use Rattle.grammar.specs.Filled.{padded}
use Rattle.grammar.proofs.laws.Padded.{padded_length}

-- ---- bytes of a sum

scaled : (b n : ℕ) → b * 256 ^ suc n ≡ 256 * (b * 256 ^ n)
scaled b n = ap (λ (x : ℕ). b * x) (pow-suc 256 n) ∙ sym (mul_assoc b (256 ^ n) 256) ∙ mul_comm (b * 256 ^ n) 256

shifted : (b n r : ℕ) → (b * 256 ^ suc n + r) / 256 ≡ b * 256 ^ n + r / 256
shifted b n r = omega (arith, scaled b n)

high_byte : (n b r : ℕ) → b < 256 → r < 256 ^ n → byte (b * 256 ^ n + r) n ≡ b
unfolding byte
high_byte zero b r h l = omega arith
high_byte (suc n) b r h l = ap (λ (x : ℕ). byte x n) (shifted b n r) ∙ high_byte n b (r / 256) h (omega (arith, pow-suc 256 n))

low_byte : (n b r i : ℕ) → i < n → byte (b * 256 ^ n + r) i ≡ byte r i
unfolding byte
low_byte zero b r i h = absurd (omega arith)
low_byte (suc n) b r zero h = omega (arith, scaled b n)
low_byte (suc n) b r (suc i) h = ap (λ (x : ℕ). byte x i) (shifted b n r) ∙ low_byte n b (r / 256) i (le_of_suc-le-suc h)

-- ---- a word and its bytes

-- the n lowest bytes, the highest first
abbrev pub bytes : ℕ → ℕ → List ℕ
bytes zero x = []
bytes (suc n) x = byte x n ∷ bytes n x

bytes_same : (n x y : ℕ) → ((i : ℕ) → i < n → byte x i ≡ byte y i) → bytes n x ≡ bytes n y
bytes_same zero x y h = refl
bytes_same (suc n) x y h = ap₂ ◌∷◌ (h n (omega arith)) (bytes_same n x y (λ i l. h i (omega arith)))

abbrev pub Small : List ℕ → Type 0
Small [] = Unit {0}
Small (b ∷ w) = (b < 256) × Small w

packed_below : (n : ℕ) (w : List ℕ) → Small w → packed n w < 256 ^ n
unfolding packed
packed_below zero w h = omega arith
packed_below (suc n) [] h = omega (arith, pow-suc 256 n, packed_below n [] tt)
packed_below (suc n) (b ∷ w) h = let l = h.0 in omega (arith, pow-suc 256 n, packed_below n w h.1, mul-le-mul_right (256 ^ n) (at_most b l))
  where
    at_most : (b : ℕ) → b < 256 → b ≤ 255
    at_most b l = omega arith

zero_byte : (i : ℕ) → byte 0 i ≡ 0
unfolding byte
zero_byte zero = refl
zero_byte (suc i) = zero_byte i

zero_bytes : (n : ℕ) → bytes n 0 ≡ padded n []
zero_bytes zero = refl
zero_bytes (suc n) = ap₂ ◌∷◌ (zero_byte n) (zero_bytes n)

pub packed_bytes : (n : ℕ) (w : List ℕ) → Small w → length w ≤ n → bytes n (packed n w) ≡ padded n w
unfolding packed
packed_bytes zero [] h l = refl
packed_bytes zero (b ∷ w) h l = absurd (omega arith)
packed_bytes (suc n) [] h l = zero_bytes (suc n)
packed_bytes (suc n) (b ∷ w) h l =
    ap₂ ◌∷◌ (high_byte n b (packed n w) h.0 (packed_below n w h.1))
    (bytes_same n (b * 256 ^ n + packed n w) (packed n w) (λ i m. low_byte n b (packed n w) i m) ∙ packed_bytes n w h.1 (le_of_suc-le-suc l))

zeros_packed : (n : ℕ) → packed n (padded n []) ≡ 0
unfolding packed
zeros_packed zero = refl
zeros_packed (suc n) = omega (arith, zero-mul (256 ^ n), zeros_packed n)

packed_padded : (n : ℕ) (w : List ℕ) → packed n (padded n w) ≡ packed n w
unfolding packed
packed_padded zero w = refl
packed_padded (suc n) [] = zeros_packed (suc n)
packed_padded (suc n) (b ∷ w) = ap (λ (x : ℕ). b * 256 ^ n + x) (packed_padded n w)

-- ---- labels

pub record Label (l : ℕ) : Type 0 where
  pub small : l < 18446744073709551616
  pub legal : legal_label (label_of l) ≡ true
  pub back : word_of (label_of l) ≡ l

zeros : (n : ℕ) → every (λ x. eqb x 0) (padded n []) ≡ true
unfolding every
zeros zero = refl
zeros (suc n) = zeros n

rest_legal : (n : ℕ) (w : List ℕ) → every letter_or_digit w ≡ true → length w ≤ n → label_rest (padded n w) ≡ true
unfolding every label_rest letter_or_digit
rest_legal zero [] e h = refl
rest_legal zero (b ∷ w) e h = absurd (omega arith)
rest_legal (suc n) [] e h = zeros n
rest_legal (suc n) (b ∷ w) e h =
    let p = both (letter_or_digit b) (every letter_or_digit w) e in
    ap (λ (x : Bool). x || every (λ x. eqb x 0) (b ∷ padded n w)) (join p.0 (rest_legal n w p.1 (le_of_suc-le-suc h)))

-- letters and digits are bytes
letter_small : (b : ℕ) → letter_or_digit b ≡ true → b < 256
unfolding letter_or_digit
letter_small b e = go (ltb b 256) refl
  where
    over : (l n : ℕ) → 256 ≤ b → n < 256 → (leb l b && leb b n) ≡ false
    over l n h k = right_fails (leb l b) (lt-leb b n (omega arith))

    go : (c : Bool) → ltb b 256 ≡ c → b < 256
    go true f = ltb-true b 256 f
    go false f =
        let h = ltb-false b 256 f in
        never e (ap₂ ◌||◌ (ap₂ ◌||◌ (over 65 90 h (omega arith)) (over 97 122 h (omega arith))) (over 48 57 h (omega arith)))

pub letters_small : (w : List ℕ) → every letter_or_digit w ≡ true → Small w
unfolding every
letters_small [] e = tt
letters_small (b ∷ w) e =
    let p = both (letter_or_digit b) (every letter_or_digit w) e in
    (letter_small b p.0, letters_small w p.1)

-- a word of one to eight letters and digits, the first a capital, is a label
pub label_word : (b : ℕ) (w : List ℕ) → upper b ≡ true → every letter_or_digit (b ∷ w) ≡ true → length (b ∷ w) ≤ 8 → Label (word_of (b ∷ w))
unfolding word_of legal_label every
label_word b w u e h = record {
  small = packed_below 8 (b ∷ w) small;
  legal =
      ap legal_label eight
      ∙ join (join u (rest_legal 7 w (both (letter_or_digit b) (every letter_or_digit w) e).1 (le_of_suc-le-suc h))) (eq-eqb _ _ (padded_length 7 w (le_of_suc-le-suc h)));
  back = ap (packed 8) eight ∙ packed_padded 8 (b ∷ w);
}
  where
    small : Small (b ∷ w)
    small = letters_small (b ∷ w) e

    eight : label_of (packed 8 (b ∷ w)) ≡ padded 8 (b ∷ w)
    eight = label_bytes (packed 8 (b ∷ w)) ∙ packed_bytes 8 (b ∷ w) small h
