-- Texts and messages have the same numbers.
-- Assumes nothing.
use mathlib.Core.Path.{◌≡◌, ap, ◌∙◌}
use mathlib.Core.Bool.{Bool, true, false, not, ◌||◌, cond, false≢true}
use Prim.Native.Nat.{ℕ, zero, suc, ◌+◌, ◌-◌, ◌*◌, ◌/◌, ◌%◌, ◌<◌}
use native.Mathlib.Omega.{arith}
use lib.Dec.{leb}
use borrow.Author.Tests.{leb-true, ltb-true}
use Rattle.table.specs.Table.{within_kind}
use Rattle.table.proofs.laws.Lists.{both}
use Rattle.message.specs.Message.{number_of, first_number}
use Rattle.message.specs.Make.{four_bytes}
use Rattle.grammar.specs.Number.{offset, in_kind}
use Rattle.types.specs.SameNumbers.{complement, high_first, SameNumbers}

-- the bytes of a number make it again
back : (w : ℕ) → ((w / 16777216 * 256 + w / 65536 % 256) * 256 + w / 256 % 256) * 256 + w % 256 ≡ w
back w =
    let a : w ≡ w / 256 * 256 + w % 256 = omega arith in
    let b : w / 256 ≡ w / 65536 * 256 + w / 256 % 256 = omega arith in
    let c : w / 65536 ≡ w / 16777216 * 256 + w / 65536 % 256 = omega arith in
    omega arith

-- every kind's numbers are of 32 bits
within_word : (k m : ℕ) → within_kind k m ≡ true → m < 4294967296
unfolding within_kind
within_word zero m e = ltb-true m 4294967296 e
within_word (suc zero) m e = let l = leb-true m 2147483712 (both (leb 2147483648 m) (leb m 2147483712) e).1 in omega arith
within_word (suc (suc zero)) m e = let l = leb-true m 2147483649 (both (leb 2147483648 m) (leb m 2147483649) e).1 in omega arith
within_word (suc (suc (suc k))) m e = absurd (false≢true e)

-- v, with a minus or not, in its two forms
module _ (v : ℕ) where
  abbrev shifted : Bool → ℕ
  shifted b = cond b (2147483648 - v) (2147483648 + v)

  abbrev wrapped : Bool → ℕ
  wrapped b = cond b ((4294967296 - v) % 4294967296) v

  to : (b : Bool) → (not b || leb v 2147483648) ≡ true → shifted b < 4294967296 → (wrapped b + 2147483648) % 4294967296 ≡ shifted b
  to true h k = let l = leb-true v 2147483648 h in omega arith
  to false h k = omega arith

  from : (b : Bool) → (not b || leb v 2147483648) ≡ true → shifted b < 4294967296 → (shifted b + 2147483648) % 4294967296 ≡ wrapped b
  from true h k = let l = leb-true v 2147483648 h in omega arith
  from false h k = omega arith

pub same_numbers : SameNumbers
unfolding number_of first_number four_bytes offset in_kind
same_numbers kind n e =
    let p = both (not n.minus || leb n.value 2147483648) (within_kind kind (offset n)) e in
    let l = within_word kind (offset n) p.1 in (
      ap (λ w. (w + 2147483648) % 4294967296) (back (complement n)) ∙ to n.value n.minus p.0 l,
      ap high_first (from n.value n.minus p.0 l),
    )
