-- Numbers and their encodings: the ranges of section 3's table, and what each writes. Assumes nothing.
use mathlib.Core.Path.{◌≡◌, refl, sym, ap, ap₂, subst}
use mathlib.Core.Logic.{◌⊎◌, inl, inr, ⊎_elim}
use mathlib.Core.Bool.{Bool, true, false, ◌&&◌, not, false≢true}
use mathlib.Core.List.{List, [], ◌∷◌}
use Prim.Native.Nat.{ℕ, ◌+◌, ◌*◌, ◌/◌, ◌%◌, ◌≤◌, ◌<◌}
use native.Mathlib.Nat.{div-div-eq-div-mul}
use native.Mathlib.Omega.{arith}
use lib.Dec.{leb}
use borrow.Author.Tests.{leb-true, leb-false, le-leb, lt-leb}
use Rattle.utf8.specs.Scalars.{last_point, scalar, encode}
use Rattle.utf8.proofs.laws.Utf8.{lt_or_ge, both}

abbrev pub two : ℕ → List ℕ
two n = (0xC0 + n / 64) ∷ (0x80 + n % 64) ∷ []

abbrev pub three : ℕ → List ℕ
three n = (0xE0 + n / 4096) ∷ (0x80 + n / 64 % 64) ∷ (0x80 + n % 64) ∷ []

abbrev pub four : ℕ → List ℕ
four n = (0xF0 + n / 262144) ∷ (0x80 + n / 4096 % 64) ∷ (0x80 + n / 64 % 64) ∷ (0x80 + n % 64) ∷ []

module _ (n : ℕ) where
  pub encode_one : n < 0x80 → encode n ≡ n ∷ []
  unfolding encode
  encode_one h = simp (le-leb n 0x7F (omega arith))

  pub encode_two : 0x80 ≤ n → n < 0x800 → encode n ≡ two n
  unfolding encode
  encode_two l h = simp (lt-leb n 0x7F (omega arith), le-leb n 0x7FF (omega arith))

  pub encode_three : 0x800 ≤ n → n < 0x10000 → encode n ≡ three n
  unfolding encode
  encode_three l h = simp (lt-leb n 0x7F (omega arith), lt-leb n 0x7FF (omega arith), le-leb n 0xFFFF (omega arith))

  pub encode_four : 0x10000 ≤ n → encode n ≡ four n
  unfolding encode
  encode_four l = simp (lt-leb n 0x7F (omega arith), lt-leb n 0x7FF (omega arith), lt-leb n 0xFFFF (omega arith))

  -- what holds of an encoding by the number's range
  pub by_range : (P : List ℕ → Type 0) → (n < 0x80 → P (n ∷ [])) → (0x80 ≤ n → n < 0x800 → P (two n)) → (0x800 ≤ n → n < 0x10000 → P (three n))
      → (0x10000 ≤ n → P (four n)) → P (encode n)
  by_range P f g h k =
      ⊎_elim (λ a. subst P (sym (encode_one a)) (f a)) (λ l.
      ⊎_elim (λ a. subst P (sym (encode_two l a)) (g l a)) (λ m.
      ⊎_elim (λ a. subst P (sym (encode_three m a)) (h m a)) (λ o. subst P (sym (encode_four o)) (k o))
      (lt_or_ge n 0x10000)) (lt_or_ge n 0x800)) (lt_or_ge n 0x80)

  -- a number is its digits to the base 64
  pub digits_two : n ≡ n / 64 * 64 + n % 64
  digits_two = omega arith

  pub digits_three : n ≡ n / 4096 * 4096 + n / 64 % 64 * 64 + n % 64
  digits_three = omega (arith, div-div-eq-div-mul n 64 64)

  pub digits_four : n ≡ n / 262144 * 262144 + n / 4096 % 64 * 4096 + n / 64 % 64 * 64 + n % 64
  digits_four = omega (arith, div-div-eq-div-mul n 64 64, div-div-eq-div-mul n 4096 64)

-- digits to the base 64 are a number's
module _ (x y : ℕ) (hy : y < 64) where
  pub from_two : two (x * 64 + y) ≡ (0xC0 + x) ∷ (0x80 + y) ∷ []
  from_two =
      let p : (x * 64 + y) / 64 ≡ x = omega arith in
      let q : (x * 64 + y) % 64 ≡ y = omega arith in
      rw (p, q)

module _ (x y z : ℕ) (hy : y < 64) (hz : z < 64) where
  pub from_three : three (x * 4096 + y * 64 + z) ≡ (0xE0 + x) ∷ (0x80 + y) ∷ (0x80 + z) ∷ []
  from_three =
      let n = x * 4096 + y * 64 + z in
      let p : n / 4096 ≡ x = omega arith in
      let s : n / 64 ≡ x * 64 + y = omega arith in
      let q : n / 64 % 64 ≡ y = omega arith in
      let r : n % 64 ≡ z = omega arith in
      ap₂ ◌∷◌ (ap (0xE0 +◌) p) (ap₂ ◌∷◌ (ap (0x80 +◌) q) (ap₂ ◌∷◌ (ap (0x80 +◌) r) refl))

module _ (w x y z : ℕ) (hx : x < 64) (hy : y < 64) (hz : z < 64) where
  pub from_four : four (w * 262144 + x * 4096 + y * 64 + z) ≡ (0xF0 + w) ∷ (0x80 + x) ∷ (0x80 + y) ∷ (0x80 + z) ∷ []
  from_four =
      let n = w * 262144 + x * 4096 + y * 64 + z in
      let p : n / 262144 ≡ w = omega arith in
      let t : n / 4096 ≡ w * 64 + x = omega arith in
      let u : n / 4096 % 64 ≡ x = omega arith in
      let s : n / 64 ≡ w * 4096 + x * 64 + y = omega arith in
      let q : n / 64 % 64 ≡ y = omega arith in
      let r : n % 64 ≡ z = omega arith in
      ap₂ ◌∷◌ (ap (0xF0 +◌) p) (ap₂ ◌∷◌ (ap (0x80 +◌) u) (ap₂ ◌∷◌ (ap (0x80 +◌) q) (ap₂ ◌∷◌ (ap (0x80 +◌) r) refl)))

-- ---- scalar values

pub scalar_low : (n : ℕ) → n < 0xD800 → scalar n ≡ true
unfolding scalar
scalar_low n h = simp (le-leb n last_point (omega arith), lt-leb 0xD800 n h)

pub scalar_high : (n : ℕ) → 0xE000 ≤ n → n < 0x110000 → scalar n ≡ true
unfolding scalar
scalar_high n l h = simp (le-leb n last_point (omega arith), le-leb 0xD800 n (omega arith), lt-leb n 0xDFFF l)

pub scalar_says : (n : ℕ) → scalar n ≡ true → ((n < 0xD800) ⊎ (0xE000 ≤ n)) × (n < 0x110000)
unfolding scalar
scalar_says n e =
    let p = both (leb n last_point) (not (leb 0xD800 n && leb n 0xDFFF)) e in
    (go (leb 0xD800 n) refl (leb n 0xDFFF) refl p.1, omega (arith, leb-true n last_point p.0))
  where
    go : (a : Bool) → leb 0xD800 n ≡ a → (b : Bool) → leb n 0xDFFF ≡ b → not (a && b) ≡ true → (n < 0xD800) ⊎ (0xE000 ≤ n)
    go false p b q h = inl (leb-false 0xD800 n p)
    go true p false q h = inr (leb-false n 0xDFFF q)
    go true p true q h = absurd (false≢true h)
