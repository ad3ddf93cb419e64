-- Numbers and labels as they are written, and how long a move's line is.
-- Assumes nothing.
use mathlib.Core.Path.{◌≡◌, refl, sym, ap, ◌∙◌}
use mathlib.Core.Bool.{Bool, true, false, cond}
use mathlib.Core.List.{List, [], ◌∷◌, ◌++◌}
use mathlib.Core.Option.{Option, none}
use Prim.Native.Nat.{ℕ, zero, suc, ◌+◌, ◌/◌, ◌%◌, ◌^◌, ◌≤◌, ◌<◌, zero-le}
use native.Mathlib.Nat.{pow-suc}
use native.Mathlib.Omega.{arith}
use lib.ListN.{length, take, length-append}
use lib.Seq.{take_all}
use lib.Dec.{ltb, eqb}
use borrow.Author.Tests.{ltb-true, ltb-false, lt-ltb, le-ltb}
use Rattle.std.specs.Prelude as Std
use Rattle.std.specs.Prelude.{Some, None, position, not}
use Rattle.std.specs.Int.{to_be_bytes}
use mir.Syntax.{w64}
use Rattle.std.specs.Option.{unwrap_or}
use Rattle.std.specs.List.{position_or_len}
use Rattle.message.proofs.laws.Layout.{label_bytes_high_first}
use Rattle.table.specs.View.{label_of}
use Rattle.report.specs.Report.{line, direction, high_part}
use Rattle.table.specs.declared.Party.{Party}
use Rattle.table.specs.declared.Party.TheVariants as P
use Rattle.table.specs.Ascii.{letters, digits, decimal}

-- ---- numbers

digits_last : (p n : ℕ) → n < 10 → digits (suc p) n ≡ (48 + n) ∷ []
unfolding digits
digits_last p n l = rw (lt-ltb n 10 l)

digits_tens : (p n : ℕ) → 10 ≤ n → digits (suc p) n ≡ digits p (n / 10) ++ ((48 + n % 10) ∷ [])
unfolding digits
digits_tens p n l = rw (le-ltb n 10 l)

-- one place more adds no digit
digits_same : (p n : ℕ) → n < 10 ^ suc p → digits (suc p) n ≡ digits (suc (suc p)) n
digits_same zero n l = digits_last 0 n (omega arith) ∙ sym (digits_last 1 n (omega arith))
digits_same (suc p) n l = go (ltb n 10) refl (λ h. digits_same p (n / 10) h)
  where
    go : (t : Bool) → ltb n 10 ≡ t → (n / 10 < 10 ^ suc p → digits (suc p) (n / 10) ≡ digits (suc (suc p)) (n / 10))
        → digits (suc (suc p)) n ≡ digits (suc (suc (suc p))) n
    go true e i =
        let h = ltb-true n 10 e in
        digits_last (suc p) n h ∙ sym (digits_last (suc (suc p)) n h)
    go false e i =
        let h = ltb-false n 10 e in
        digits_tens (suc p) n h
        ∙ ap (λ l. l ++ ((48 + n % 10) ∷ [])) (i (omega (arith, pow-suc 10 (suc p))))
        ∙ sym (digits_tens (suc (suc p)) n h)

digits_few : (p q n : ℕ) → n < 10 ^ suc q → length (digits p n) ≤ suc q
unfolding digits
digits_few zero q n l = zero-le
digits_few (suc p) q n l = go (ltb n 10) refl q l (λ q h. digits_few p q (n / 10) h)
  where
    go : (t : Bool) → ltb n 10 ≡ t → (q : ℕ) → n < 10 ^ suc q → ((q : ℕ) → n / 10 < 10 ^ suc q → length (digits p (n / 10)) ≤ suc q)
        → length (digits (suc p) n) ≤ suc q
    go true e q l i = omega (arith, ap length (digits_last p n (ltb-true n 10 e)))
    go false e zero l i = let h = ltb-false n 10 e in absurd (omega arith)
    go false e (suc q) l i =
        let h = ltb-false n 10 e in
        omega (
          arith,
          ap length (digits_tens p n h),
          length-append (digits p (n / 10)) ((48 + n % 10) ∷ []),
          i q (omega (arith, pow-suc 10 (suc q))),
        )

pub decimal_last : (n : ℕ) → n < 10 → decimal n ≡ (48 + n) ∷ []
unfolding decimal
decimal_last n l = digits_last 19 n l

pub decimal_tens : (n : ℕ) → 10 ≤ n → n < 65536 → decimal n ≡ decimal (n / 10) ++ ((48 + n % 10) ∷ [])
unfolding decimal
decimal_tens n l m = digits_tens 19 n l ∙ ap (λ l. l ++ ((48 + n % 10) ∷ [])) (digits_same 18 (n / 10) (omega arith))

pub decimal_few : (q n : ℕ) → n < 10 ^ suc q → length (decimal n) ≤ suc q
unfolding decimal
decimal_few q n l = digits_few 20 q n l

pub number_few : (n : ℕ) → n < 65536 → length (decimal n) ≤ 5
number_few n l = decimal_few 4 n (omega arith)

-- ---- labels

letters_few : (l : List ℕ) → length (letters l) ≤ length l
unfolding letters
letters_few [] = zero-le
letters_few (b ∷ r) = go (eqb b 0) (letters_few r)
  where
    go : (t : Bool) → length (letters r) ≤ length r → length (cond t [] (b ∷ letters r)) ≤ suc (length r)
    go true i = zero-le
    go false i = omega arith

pub label_few : (w : ℕ) → length (letters (label_of w)) ≤ 8
unfolding label_of
label_few w = letters_few (label_of w)

-- the letters are what comes before the first 0x00
letters_first : (l : List ℕ) → take (position_or_len (λ b. eqb b 0) l) l ≡ letters l
unfolding letters
letters_first [] = refl
letters_first (b ∷ r) = go (eqb b 0) (position_or_len (λ b. eqb b 0) r) (letters_first r)
  where
    go : (t : Bool) (n : ℕ) → take n r ≡ letters r → take (cond (not t) (1 + n) 0) (b ∷ r) ≡ cond t [] (b ∷ letters r)
    go true n e = refl
    go false n e = let q : 1 + n ≡ suc n = omega arith in ap (λ n. take n (b ∷ r)) q ∙ ap (λ l. b ∷ l) e

letters_found : (l : List ℕ) → length l ≡ 8 → take (unwrap_or (position (λ b. eqb b 0) l) 8) l ≡ letters l
letters_found l e = go (position_or_len (λ b. eqb b 0) l) (ltb (position_or_len (λ b. eqb b 0) l) (length l)) refl (letters_first l)
  where
    go : (n : ℕ) (t : Bool) → ltb n (length l) ≡ t → take n l ≡ letters l → take (unwrap_or (cond t (Some n) None) 8) l ≡ letters l
    go n true f q = q
    go n false f q = take_all 8 l (omega (arith, e)) ∙ sym (take_all n l (ltb-false n (length l) f)) ∙ q

pub letters_taken : (w n : ℕ) (bytes : List ℕ) (o : Std.Option ℕ) → bytes ≡ to_be_bytes w64 w → o ≡ position (λ b. eqb b 0) bytes
    → n ≡ unwrap_or o 8 → take n bytes ≡ letters (label_of w)
letters_taken w n bytes o e f g =
    ap (λ n. take n bytes) (g ∙ ap (λ o. unwrap_or o 8) f) ∙ letters_found bytes (ap length e) ∙ ap letters (e ∙ label_bytes_high_first w)

-- ---- a move's line

pub high_none : (h : Option ℕ) → h ≡ none → length (high_part h) ≡ 0
unfolding high_part
high_none h e = ap (λ h. length (high_part h)) e

pub direction_few : (s : Party) → length (direction s) ≤ 4
unfolding direction
direction_few P.Device = omega arith
direction_few P.Host = omega arith

pub line_low : (side : Party) (w : ℕ) (h : Option ℕ) → h ≡ none
    → length (line (direction side ++ (letters (label_of w) ++ high_part h))) ≤ 13
unfolding line
line_low side w h e =
    let d = direction side in
    let l = letters (label_of w) in
    omega (
      arith,
      length-append (d ++ (l ++ high_part h)) (10 ∷ []),
      length-append d (l ++ high_part h),
      length-append l (high_part h),
      high_none h e,
      direction_few side,
      label_few w,
    )
