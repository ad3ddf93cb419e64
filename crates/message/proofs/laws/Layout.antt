-- Pieces written into a buffer one after the other are one piece.
-- Assumes nothing.
use Rattle.std.proofs.Common.{◌≡◌, ℕ, zero, suc, ◌+◌, ◌*◌, ◌/◌, ◌%◌, ◌<◌, ◌≤◌, List, [], ◌∷◌, ◌++◌, length, take, drop, set, sym, refl, ap, ◌∙◌, ap₂, append_assoc, add-zero, add_assoc, mul-zero, mul-suc, add-one, arith, length-append, length-drop, take-append-drop, length-take-le, drop-drop, take_at, drop_at}
use lib.Seq.{set_split}
use Rattle.std.specs.Int.{to_be_bytes, w32, w64}
use borrow.Rule.Slice.PartMut.{put_mid}
use Rattle.table.specs.View.{label_of}
use Rattle.message.specs.Make.{four_bytes}
use Rattle.message.specs.inner.Layout.{put_at, in_a_row, total}

-- ---- a piece

module _ (at : ℕ) (p b : List ℕ) (fits : at + length p ≤ length b) where
  front_length : length (take at b ++ p) ≡ at + length p
  front_length = length-append (take at b) p ∙ ap (λ n. n + length p) (length-take-le at b (omega arith))

  regroup : put_at at p b ≡ (take at b ++ p) ++ drop (at + length p) b
  unfolding put_at
  regroup = sym (append_assoc (take at b) p (drop (at + length p) b))

  pub put_length : length (put_at at p b) ≡ length b
  put_length =
      ap length regroup ∙ length-append (take at b ++ p) (drop (at + length p) b)
      ∙ omega (arith, front_length, length-drop (at + length p) b)

  pub put_put : (q : List ℕ) → put_at (at + length p) q (put_at at p b) ≡ put_at at (p ++ q) b
  unfolding put_at
  put_put q =
      ap₂ (λ x y. x ++ (q ++ y))
      (ap (take (at + length p)) regroup ∙ take_at (take at b ++ p) (drop (at + length p) b) (at + length p) front_length)
      (sym (drop-drop (length q) (at + length p) (put_at at p b))
      ∙ ap (λ l. drop (length q) (drop (at + length p) l)) regroup
      ∙ ap (drop (length q)) (drop_at (take at b ++ p) (drop (at + length p) b) (at + length p) front_length)
      ∙ drop-drop (length q) (at + length p) b
      ∙ ap (λ n. drop n b) (add_assoc at (length p) (length q) ∙ ap (λ n. at + n) (sym (length-append p q))))
      ∙ append_assoc (take at b) p (q ++ drop (at + length (p ++ q)) b)
      ∙ ap (λ l. take at b ++ l) (sym (append_assoc p q (drop (at + length (p ++ q)) b)))

-- four pieces, each where the one before it ends
pub put_all : (b p q r s : List ℕ) (i j k : ℕ) → length p ≡ i → i + length q ≡ j → j + length r ≡ k → k + length s ≤ length b
    → put_at k s (put_at j r (put_at i q (put_at 0 p b))) ≡ put_at 0 (p ++ q ++ r ++ s) b
put_all b p q r s i j k e f g fits =
    ap (λ x. put_at k s (put_at j r x)) (two p q i e (omega arith))
    ∙ ap (put_at k s) (two (p ++ q) r j (omega (arith, length-append p q)) (omega (arith, length-append p q)))
    ∙ two (p ++ q ++ r) s k (omega (arith, length-append p q, length-append (p ++ q) r)) (omega (arith, length-append p q, length-append (p ++ q) r))
  where
    two : (p q : List ℕ) (n : ℕ) → length p ≡ n → n ≤ length b → put_at n q (put_at 0 p b) ≡ put_at 0 (p ++ q) b
    two p q n e l = ap (λ m. put_at m q (put_at 0 p b)) (omega arith) ∙ put_put 0 p b (omega arith) q

pub put_none : (at : ℕ) (b : List ℕ) → b ≡ put_at at [] b
unfolding put_at
put_none at b = sym (ap (λ n. take at b ++ drop n b) (add-zero at) ∙ take-append-drop at b)

pub put_one : (b : List ℕ) (i a : ℕ) → i < length b → set b i a ≡ put_at i (a ∷ []) b
unfolding put_at
put_one b i a l = set_split b i a l ∙ ap (λ n. take i b ++ (a ∷ drop n b)) (sym (add-one i))

-- ---- as the code writes them

-- a part of the buffer that is written as a whole
pub put_part : (at k : ℕ) (b p : List ℕ) → length p ≡ k → put_mid at k b p ≡ put_at at p b
unfolding put_at
put_part at k b p e = ap (λ r. take at b ++ (p ++ r)) (drop-drop k at b ∙ ap (λ n. drop (at + n) b) (sym e))

-- the buffer's first bytes, and one more
pub put_head : (b p : List ℕ) (n a : ℕ) → length p ≡ n → n < length b → set (p ++ drop n b) n a ≡ put_at 0 (p ++ (a ∷ [])) b
unfolding put_at
put_head b p n a e l =
    let q : n ≡ 0 + length p = omega arith in
    ap (λ m. set (p ++ drop m b) n a) q ∙ put_one (put_at 0 p b) n a (omega (arith, put_length 0 p b (omega arith)))
    ∙ ap (λ m. put_at m (a ∷ []) (put_at 0 p b)) q ∙ put_put 0 p b (omega arith) (a ∷ [])

pub label_bytes_high_first : (w : ℕ) → to_be_bytes w64 w ≡ label_of w
unfolding label_of
label_bytes_high_first w = refl

pub number_bytes_high_first : (n : ℕ) → to_be_bytes w32 ((n + 2147483648) % 4294967296) ≡ four_bytes n
unfolding four_bytes
number_bytes_high_first n = ap (λ b. b ∷ w / 65536 % 256 ∷ w / 256 % 256 ∷ w % 256 ∷ []) (omega arith)
  where
    w : ℕ
    w = (n + 2147483648) % 4294967296

-- ---- pieces in a row

module _ (p : ℕ → List ℕ) where
  pub run_more : (i : ℕ) → in_a_row (i + 1) p ≡ in_a_row i p ++ p i
  unfolding in_a_row
  run_more i = ap (λ n. in_a_row n p) (add-one i)

  pub run_length : (w : ℕ) → ((f : ℕ) → length (p f) ≡ w) → (n : ℕ) → length (in_a_row n p) ≡ w * n
  unfolding in_a_row
  run_length w h zero = sym (mul-zero w)
  run_length w h (suc n) =
      length-append (in_a_row n p) (p n) ∙ ap₂ ◌+◌ (run_length w h n) (h n) ∙ sym (mul-suc w n)

  -- a turn of a loop: the buffer holds i pieces, and gets one more
  module _ (at i : ℕ) (b₀ : List ℕ) (fits : at + length (in_a_row i p) ≤ length b₀) where
    pub put_more : (b : List ℕ) (n : ℕ) → at + length (in_a_row i p) ≡ n → b ≡ put_at at (in_a_row i p) b₀ → put_at n (p i) b ≡ put_at at (in_a_row (i + 1) p) b₀
    put_more b n l e = ap₂ (λ n b. put_at n (p i) b) (sym l) e ∙ put_put at (in_a_row i p) b₀ fits (p i) ∙ ap (λ l. put_at at l b₀) (sym (run_more i))

    pub set_more : (b : List ℕ) (n a : ℕ) → at + length (in_a_row i p) ≡ n → n < length b₀ → p i ≡ a ∷ [] → b ≡ put_at at (in_a_row i p) b₀
        → set b n a ≡ put_at at (in_a_row (i + 1) p) b₀
    set_more b n a l m q e =
        put_one b n a (omega (arith, ap length e, put_length at (in_a_row i p) b₀ fits)) ∙ ap (λ x. put_at n x b) (sym q) ∙ put_more b n l e

pub sum_more : (f : ℕ → ℕ) (i : ℕ) → total (i + 1) f ≡ total i f + f i
unfolding total
sum_more f i = ap (λ n. total n f) (add-one i)
