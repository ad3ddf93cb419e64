-- The word of a name, byte by byte. Assumes nothing.
use mathlib.Core.Path.{◌≡◌, refl}
use mathlib.Core.List.{List, [], ◌∷◌}
use Prim.Native.Nat.{ℕ, zero, suc, ◌+◌, ◌*◌, ◌^◌}
use native.Mathlib.Omega.{arith}
use lib.ListN.{get_or, drop}
use Rattle.grammar.specs.Token.{packed, word_of}

packed_none : (n : ℕ) → packed n [] ≡ 0
unfolding packed
packed_none zero = refl
packed_none (suc n) = refl

-- the byte at i, then those after it
packed_at : (n i : ℕ) (w : List ℕ) → packed (suc n) (drop i w) ≡ get_or w i 0 * 256 ^ n + packed n (drop (suc i) w)
unfolding packed
packed_at n zero [] = omega (arith, packed_none n)
packed_at n zero (b ∷ w) = refl
packed_at n (suc i) [] = omega (arith, packed_none n)
packed_at n (suc i) (b ∷ w) = packed_at n i w

packed_end : (w : List ℕ) → packed 0 w ≡ 0
unfolding packed
packed_end w = refl

pub word_bytes : (w : List ℕ) → ((((((get_or w 0 0 * 256 + get_or w 1 0) * 256 + get_or w 2 0) * 256 + get_or w 3 0) * 256 + get_or w 4 0) * 256 + get_or w 5 0) * 256 + get_or w 6 0) * 256 + get_or w 7 0 ≡ word_of w
unfolding word_of
word_bytes w =
    omega
    (arith, packed_at 7 0 w, packed_at 6 1 w, packed_at 5 2 w, packed_at 4 3 w, packed_at 3 4 w, packed_at 2 5 w, packed_at 1 6 w, packed_at 0 7 w, packed_end (drop 8 w))
