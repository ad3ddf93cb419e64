-- Numbers: the value of digits, a digit at a time, where it is cut at 2^33, and numbers of a kind; and fields, one at a time.
-- Assumes nothing.
use mathlib.Core.Path.{◌≡◌, refl, sym, ap, ◌∙◌}
use mathlib.Core.Bool.{cond, Bool, true, false, not, ◌&&◌, ◌||◌}
use mathlib.Core.List.{List, [], ◌∷◌}
use Prim.Native.Nat.{ℕ, zero, suc, ◌+◌, ◌-◌, ◌*◌, ◌≤◌, ◌<◌, min}
use native.Mathlib.Nat.{le_refl, le_trans}
use native.Mathlib.Numerals.{add-one}
use native.Mathlib.Omega.{arith}
use lib.Dec.{leb, ltb, eqb}
use lib.ListN.{length, drop, take, get_or, drop_of_length-le}
use lib.Pointwise.{pointwise}
use Rattle.std.specs.Prelude.{nat_eq}
use lib.Seq.{drop-cons}
use borrow.Author.Tests.{ne_eqb, ltb-false, le-leb, lt-leb, le-ltb, leb-true, leb-false}
use Rattle.table.specs.Table.{legal_field, within_kind, known_edition}
use Rattle.table.proofs.laws.Lists.{join, never, left_fails, right_fails}
use Rattle.grammar.specs.Number.{Signed, signed_of, value_of, offset, in_kind, in_count, in_edition}
use Rattle.text.specs.inner.Recursive.{number_answer, number_read, no_fields, read_field, field_then, fields_from}
use Rattle.text.specs.inner.Answers.{Fields, Number}

value_ge : (l : List ℕ) (v : ℕ) → v ≤ value_of v l
unfolding value_of
value_ge [] v = le_refl v
value_ge (b ∷ l) v = le_trans (omega arith) (value_ge l (v * 10 + (b - 48)))

-- from 2^33 on further digits do not count
cut : (l k : List ℕ) (u v : ℕ) → 8589934592 ≤ u → 8589934592 ≤ v → min (value_of u l) 8589934592 ≡ min (value_of v k) 8589934592
cut l k u v g h = omega (arith, value_ge l u, value_ge k v)

pub value_on : (w : List ℕ) (v i : ℕ) → i < length w
    → min (value_of v (drop i w)) 8589934592 ≡ min (value_of (min (v * 10 + (get_or w i 0 - 48)) 8589934592) (drop (i + 1) w)) 8589934592
unfolding value_of
value_on w v i h = rw (drop-cons w i 0 h, add-one i) (go (leb u 8589934592) refl)
  where
    u : ℕ
    u = v * 10 + (get_or w i 0 - 48)

    go : (t : Bool) → leb u 8589934592 ≡ t
        → min (value_of u (drop (suc i) w)) 8589934592 ≡ min (value_of (min u 8589934592) (drop (suc i) w)) 8589934592
    go true e = let l : u ≤ 8589934592 = leb-true _ _ e in let z : min u 8589934592 ≡ u = omega arith in rw z
    go false e =
        let g : 8589934592 < u = leb-false _ _ e in
        cut (drop (suc i) w) (drop (suc i) w) u (min u 8589934592) (omega arith) (omega arith)

pub value_out : (w : List ℕ) (v i : ℕ) → length w ≤ i → value_of v (drop i w) ≡ v
unfolding value_of
value_out w v i h = rw (drop_of_length-le w h)

-- a field, with one less to come
pub turn : (s : List ℕ) (n : ℕ) (f : Fields) → 0 < n → fields_from s n f ≡ field_then s (read_field s f) (fields_from s (n - 1))
unfolding fields_from
turn s zero f h = absurd (omega arith)
turn s (suc n) f h = let z : suc n - 1 ≡ n = omega arith in rw z

pub no_turn : (s : List ℕ) (n : ℕ) (f : Fields) → n ≤ 0 → fields_from s n f ≡ no_fields 8 f.at
unfolding fields_from
no_turn s zero f h = refl
no_turn s (suc n) f h = absurd (omega arith)

-- ---- numbers of a kind

-- a number is within its kind where the range of it alone is legal
pub range_alone : (κ n : ℕ) {r v : Bool} → r ≡ legal_field (record { kind = κ; low = n; high = n }) → r ≡ v → within_kind κ n ≡ v
unfolding legal_field
range_alone κ n e f = sym (go (within_kind κ n)) ∙ sym e ∙ f
  where
    go : (b : Bool) → (b && b && leb n n) ≡ b
    go true = le-leb n n (le_refl n)
    go false = refl

-- from 2^32 on a number is within no kind
pub too_large : (κ n : ℕ) → 4294967296 ≤ n → within_kind κ n ≡ false
unfolding within_kind
too_large zero n h = le-ltb n 4294967296 h
too_large (suc zero) n h = right_fails (leb 2147483648 n) (lt-leb n 2147483712 (omega arith))
too_large (suc (suc zero)) n h = right_fails (leb 2147483648 n) (lt-leb n 2147483649 (omega arith))
too_large (suc (suc (suc κ))) n h = refl

-- a value that is cut at 2^33 is within no kind, nor is the value
pub cut_same : (κ : ℕ) (m : Bool) (v : ℕ)
    → number_read κ (record { minus = m; value = min v 8589934592 }) ≡ number_read κ (record { minus = m; value = v })
unfolding number_read in_kind offset
cut_same κ m v = go m (leb v 8589934592) refl
  where
    go : (m b : Bool) → leb v 8589934592 ≡ b
        → number_read κ (record { minus = m; value = min v 8589934592 }) ≡ number_read κ (record { minus = m; value = v })
    go m true e = let h : v ≤ 8589934592 = leb-true _ _ e in let z : min v 8589934592 ≡ v = omega arith in rw z
    go true false e =
        let h : 8589934592 < v = leb-false _ _ e in
        let z : min v 8589934592 ≡ 8589934592 = omega arith in
        rw (z, lt-leb v 2147483648 (omega arith))
    go false false e =
        let h : 8589934592 < v = leb-false _ _ e in
        let z : min v 8589934592 ≡ 8589934592 = omega arith in
        rw (z, too_large κ (2147483648 + v) (omega arith), too_large κ 10737418240 (omega arith))

-- what was kept of a number
pub kept_in : (κ : ℕ) (n : Signed) {r : Number} → r ≡ number_read κ n → r.ok ≡ true → (in_kind κ n ≡ true) × (r.offset ≡ offset n)
unfolding number_read
kept_in κ n {r} e o = go (in_kind κ n) e
  where
    go : (b : Bool) → r ≡ cond b (number_answer true (offset n)) (number_answer false 0) → (b ≡ true) × (r.offset ≡ offset n)
    go true e = (refl, ap (λ (x : Number). x.offset) e)
    go false e = never o (ap (λ (x : Number). x.ok) e)

pub kept_out : (κ : ℕ) (n : Signed) {r : Number} → r ≡ number_read κ n → r.ok ≡ false → in_kind κ n ≡ false
unfolding number_read
kept_out κ n {r} e o = go (in_kind κ n) e
  where
    go : (b : Bool) → r ≡ cond b (number_answer true (offset n)) (number_answer false 0) → b ≡ false
    go true e = never (ap (λ (x : Number). x.ok) e) o
    go false e = refl

-- A count is read as an int. It is 1 to m exactly where its offset form is 2^31 + 1 to 2^31 + m.
module _ (m : ℕ) (n : Signed) (o : ℕ) (e : o ≡ offset n) where
  pub count_is : 2147483648 < o → o - 2147483648 ≤ m → (in_count m n ≡ true) × (o - 2147483648 ≡ n.value)
  unfolding in_count offset
  count_is l h = go n.minus e
    where
      go : (b : Bool) → o ≡ cond b (2147483648 - n.value) (2147483648 + n.value)
          → ((not b && leb 1 n.value && leb n.value m) ≡ true) × (o - 2147483648 ≡ n.value)
      go true e = absurd (omega arith)
      go false e = (join (le-leb 1 n.value (omega arith)) (le-leb n.value m (omega arith)), omega arith)

  pub count_low : o ≤ 2147483648 → in_count m n ≡ false
  unfolding in_count offset
  count_low l = go n.minus e
    where
      go : (b : Bool) → o ≡ cond b (2147483648 - n.value) (2147483648 + n.value) → (not b && leb 1 n.value && leb n.value m) ≡ false
      go true e = refl
      go false e = left_fails (leb n.value m) (lt-leb 1 n.value (omega arith))

  pub count_high : 2147483648 < o → m < o - 2147483648 → in_count m n ≡ false
  unfolding in_count offset
  count_high l h = go n.minus e
    where
      go : (b : Bool) → o ≡ cond b (2147483648 - n.value) (2147483648 + n.value) → (not b && leb 1 n.value && leb n.value m) ≡ false
      go true e = refl
      go false e = right_fails (leb 1 n.value) (lt-leb n.value m (omega arith))

-- and no number that is no int is a count
pub count_int : (m : ℕ) (n : Signed) → m ≤ 2147483647 → in_kind 0 n ≡ false → in_count m n ≡ false
unfolding in_count in_kind within_kind offset
count_int m n l e = go n.minus e
  where
    go : (b : Bool) → ((not b || leb n.value 2147483648) && ltb (cond b (2147483648 - n.value) (2147483648 + n.value)) 4294967296) ≡ false
        → (not b && leb 1 n.value && leb n.value m) ≡ false
    go true e = refl
    go false e =
        let h : 4294967296 ≤ 2147483648 + n.value = ltb-false _ _ e in
        right_fails (leb 1 n.value) (lt-leb n.value m (omega arith))

-- an edition is a count up to 2
pub edition_counts : (n : Signed) → in_edition n ≡ in_count 2 n
unfolding known_edition in_count
edition_counts n = go n.minus n.value
  where
    go : (b : Bool) (v : ℕ) → (not b && (eqb v 1 || eqb v 2)) ≡ (not b && leb 1 v && leb v 2)
    go true v = refl
    go false zero = refl
    go false (suc zero) = refl
    go false (suc (suc zero)) = refl
    go false (suc (suc (suc v))) =
        let k = suc (suc (suc v)) in
        rw (ne_eqb k 1 (λ e. omega arith), ne_eqb k 2 (λ e. omega arith)) (sym (right_fails (leb 1 k) (lt-leb k 2 (omega arith))))

-- a minus before the digits, or none
abbrev signed : Bool → ℕ → Signed
signed m v = record { minus = m; value = v }

pub signed_stripped : (w : List ℕ) → pointwise nat_eq (take 1 w) (45 ∷ []) ≡ true → signed_of w ≡ record { minus = true; value = value_of 0 (drop 1 w) }
unfolding signed_of
signed_stripped [] e = cc
signed_stripped (b ∷ bs) e = go (eqb b 45) refl
  where
    go : (t : Bool) → eqb b 45 ≡ t → cond t (signed true (value_of 0 bs)) (signed false (value_of 0 (b ∷ bs))) ≡ signed true (value_of 0 bs)
    go true f = refl
    go false f = let x = rw f at e in cc

pub signed_whole : (w : List ℕ) → pointwise nat_eq (take 1 w) (45 ∷ []) ≡ false → signed_of w ≡ record { minus = false; value = value_of 0 w }
unfolding signed_of value_of
signed_whole [] e = refl
signed_whole (b ∷ bs) e = go (eqb b 45) refl
  where
    go : (t : Bool) → eqb b 45 ≡ t → cond t (signed true (value_of 0 bs)) (signed false (value_of 0 (b ∷ bs))) ≡ signed false (value_of 0 (b ∷ bs))
    go true f = let x = rw f at e in cc
    go false f = refl
