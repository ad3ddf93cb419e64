-- The label where it stands: the law of the one compare, and the first eight bytes as a label of a table.
-- Assumes nothing.
use Rattle.std.proofs.Common.{◌≡◌, ℕ, ltb, ltb-true, ltb-false, true, false, ⊎_elim, length-take-le, get_or-take, ◌+◌, ◌*◌, ◌<◌, ◌≤◌, eqb, List, length, get_or, take, sym, ap, ◌∙◌, arith, eq-eqb, eqb-true}
use Rattle.std.proofs.lemmas.Nat.{be_bytes_8}
use Rattle.std.proofs.lemmas.List.{get_or_past}
use Rattle.table.specs.View.{label_of}
use Rattle.table.specs.inner.Scans.{Word}
use Rattle.table.proofs.laws.Lists.{alike, decided}
use Rattle.table.proofs.laws.View.{label_eq}
use Rattle.message.specs.Message.{has_label}
use Rattle.message.specs.inner.Layout.{word_here}
use Rattle.message.proofs.claims.LabelInPlace.{label_in_place}

-- the compare of the code: a word whose label the first eight bytes are, with the branch's
pub words_compared : (bytes : List ℕ) → 8 ≤ length bytes → (w label : ℕ) → Word w → Word label → label_of w ≡ take 8 bytes
    → eqb w label ≡ has_label bytes label
words_compared bytes long w label a b e =
    alike (eqb w label) (has_label bytes label) (λ q. (label_in_place bytes label).1 (long, sym e ∙ ap label_of (eqb-true w label q)))
    (λ q. eq-eqb w label (label_eq w label a b (e ∙ ((label_in_place bytes label).0 q).1)))

-- ---- the first eight bytes as such a word

-- its two halves are the words of four bytes
pub label_of_halves : (bytes : List ℕ) → 8 ≤ length bytes → ((k : ℕ) → get_or bytes k 0 < 256)
    → label_of (word_here bytes 0 * 4294967296 + word_here bytes 4) ≡ take 8 bytes
unfolding label_of
label_of_halves bytes long small =
    be_bytes_8 (take 8 bytes) (word_here bytes 0 * 4294967296 + word_here bytes 4) (length-take-le 8 bytes long)
    (λ i. ⊎_elim (λ (t : ltb i 8 ≡ true). omega (arith, small i, get_or-take 8 bytes i 0 (ltb-true i 8 t)))
    (λ (t : ltb i 8 ≡ false). omega (arith, get_or_past (take 8 bytes) i 0 (omega (arith, length-take-le 8 bytes long, ltb-false i 8 t)))) (decided (ltb i 8)))
    (omega (arith, at 0 (omega arith), at 1 (omega arith), at 2 (omega arith), at 3 (omega arith), at 4 (omega arith), at 5 (omega arith), at 6 (omega arith), at 7 (omega arith)))
  where
    at : (i : ℕ) → i < 8 → get_or (take 8 bytes) i 0 ≡ get_or bytes i 0
    at i l = get_or-take 8 bytes i 0 l
