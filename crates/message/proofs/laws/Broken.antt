-- Bytes that none after them mend: what is broken stays so, and of 29 bytes or more the rest announce their length. So a receiver
-- that asks both waits for no more than the longest message.
-- Assumes nothing.
use Rattle.std.proofs.Common.{◌≡◌, ℕ, ◌+◌, ◌*◌, ◌<◌, ◌≤◌, true, false, cond, ◌&&◌, eqb, leb, List, length, take, sym, ap, ◌∙◌, ap₂, ⊎_elim, arith, length-take-le, get_or-take, take-take, le-leb, leb-false, leb-true}
use borrow.Author.Tests.{lt-leb}
use Rattle.table.specs.Lists.{first_no}
use Rattle.table.specs.Table.{legal_label}
use Rattle.table.proofs.laws.Lists.{decided}
use Rattle.message.specs.Message.{count_of, legal_values, front, opens, broken}
use Rattle.message.proofs.laws.Message.{not_whole, whole_last, whole_opens, opens_parts, front_parts, cut_front}

-- ---- as the program asks

module _ (bytes : List ℕ) where
  pub broken_short : length bytes < 9 → false ≡ broken bytes
  unfolding broken front first_no
  broken_short l = simp (lt-leb 9 (length bytes) l, sym (not_whole bytes (λ w. absurd (omega (arith, w.nine)))))

  pub broken_closed : 9 ≤ length bytes → opens bytes ≡ false → true ≡ broken bytes
  unfolding broken
  broken_closed l o = simp (le-leb 9 (length bytes) l, o)

  pub broken_fields : 9 ≤ length bytes → opens bytes ≡ true → eqb (front bytes) 14 ≡ broken bytes
  unfolding broken
  broken_fields l o = simp (le-leb 9 (length bytes) l, o)

-- ---- what it means

-- the front of bytes that open a message is not broken
module _ (bytes : List ℕ) (n : ℕ) (m : n ≤ length bytes) (e : front bytes ≡ 0) where
  cut_count : 9 ≤ n → count_of (take n bytes) ≡ count_of bytes
  unfolding count_of
  cut_count l = get_or-take n bytes 8 0 l

  cut_opens : 9 ≤ n → opens (take n bytes) ≡ true
  unfolding opens
  cut_opens l =
      ap₂ (λ a c. legal_label a && leb c 4) (take-take 8 n bytes (omega arith)) (cut_count l) ∙ whole_opens bytes (front_parts bytes e).0

  fields_cut : 9 ≤ n → n < 9 + 5 * count_of bytes → front (take n bytes) ≡ 13
  unfolding front first_no
  fields_cut l s =
      ap (λ w. cond w (cond (legal_values (take n bytes)) 0 14) 13)
      (sym (not_whole (take n bytes) (λ w. absurd (omega (arith, w.arrays, cut_count l, length-take-le n bytes m)))))

  pub front_unbroken : broken (take n bytes) ≡ false
  front_unbroken = ⊎_elim (λ t. long (leb-true 9 n t)) (λ t. short (leb-false 9 n t)) (decided (leb 9 n))
    where
      short : n < 9 → broken (take n bytes) ≡ false
      short l = sym (broken_short (take n bytes) (omega (arith, length-take-le n bytes m)))

      fields : 9 ≤ n → eqb (front (take n bytes)) 14 ≡ false
      fields l =
          let p = front_parts bytes e in
          ⊎_elim (λ t. ap (λ q. eqb q 14) (cut_front bytes n p.0 (leb-true (9 + 5 * count_of bytes) n t) m p.1))
          (λ t. ap (λ q. eqb q 14) (fields_cut l (leb-false (9 + 5 * count_of bytes) n t)))
          (decided (leb (9 + 5 * count_of bytes) n))

      long : 9 ≤ n → broken (take n bytes) ≡ false
      long l = sym (broken_fields (take n bytes) (omega (arith, length-take-le n bytes m)) (cut_opens l)) ∙ fields l

-- of 29 bytes, which hold the arrays of any message, 13 asks nothing more than what opens one
pub opened_front : (bytes : List ℕ) → 29 ≤ length bytes → opens bytes ≡ true → front bytes ≡ cond (legal_values bytes) 0 14
unfolding front first_no
opened_front bytes l o =
    ap (λ w. cond w (cond (legal_values bytes) 0 14) 13)
    (sym (whole_last bytes (omega arith) o) ∙ le-leb (9 + 5 * count_of bytes) (length bytes) (omega (arith, (opens_parts bytes o).1)))
