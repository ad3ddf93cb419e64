-- The texts behind the arrays, one by one: what a text leaves decides the rest. Those of a well-formed message are encodings.
-- Assumes nothing.
use Rattle.std.proofs.Common.{◌≡◌, ℕ, zero, suc, ◌+◌, ◌-◌, ◌*◌, ◌<◌, ◌≤◌, Bool, true, ◌&&◌, List, [], ◌∷◌, ◌++◌, map, length, get_or, take, drop, sym, refl, ap, ◌∙◌, ap₂, ⊎_elim, le_of_suc-le-suc, not-suc-le-zero, arith, length-drop, take-append-drop, drop_of_length-le, length-take-le, take_all, drop-cons, get_or-take, take-add, drop_at, min, leb, leb-true, leb-false, false}
use mathlib.Core.List.{flatten}
use Rattle.table.specs.Lists.{every}
use Rattle.table.proofs.laws.Lists.{both, join, decided}
use Rattle.utf8.specs.Utf8.{is_utf8}
use Rattle.utf8.specs.inner.Characters.{is_ascii}
use Rattle.utf8.proofs.laws.Characters.{ascii_utf8, ascii_take, ascii_drop}
use Rattle.message.specs.Message.{Value, count_of, values_of, text_length, text_bytes, cut_up, texts_of, legal_texts, number_at}
use Rattle.message.specs.inner.Layout.{text_at}
use Rattle.message.proofs.laws.Message.{value_at, values_length, value_by_place}

-- from field f on, of which the bytes of text are left
abbrev pub left_legal : List ℕ → ℕ → List ℕ → Bool
left_legal bytes f rest = every is_utf8 (cut_up (drop f (values_of bytes)) rest)

pub texts_begin : (bytes : List ℕ) → legal_texts bytes ≡ left_legal bytes 0 (drop (9 + 5 * count_of bytes) bytes)
unfolding legal_texts texts_of
texts_begin bytes = refl

-- ASCII is UTF-8, however it is cut
pub ascii_texts : (vs : List Value) (bs : List ℕ) → is_ascii bs ≡ true → every is_utf8 (cut_up vs bs) ≡ true
unfolding cut_up every
ascii_texts [] bs e = refl
ascii_texts (v ∷ vs) bs e =
    join (ascii_utf8 (take (text_length v) bs) (ascii_take (text_length v) bs e))
    (ascii_texts vs (drop (text_length v) bs) (ascii_drop (text_length v) bs e))

all_ascii : (bytes : List ℕ) → is_ascii (drop (9 + 5 * count_of bytes) bytes) ≡ true → legal_texts bytes ≡ true
all_ascii bytes e = texts_begin bytes ∙ ascii_texts (values_of bytes) (drop (9 + 5 * count_of bytes) bytes) e

-- of n bytes, those behind the arrays
pub ascii_behind : (bytes : List ℕ) (n start : ℕ) → start ≡ 9 + 5 * count_of bytes → start ≤ n → n ≤ length bytes
    → is_ascii (take (n - start) (drop start bytes)) ≡ true → legal_texts (take n bytes) ≡ true
unfolding count_of
ascii_behind bytes n start q l m e =
    let c : 9 + 5 * count_of (take n bytes) ≡ start = omega (arith, get_or-take n bytes 8 0 (omega arith)) in
    let p : n ≡ start + (n - start) = omega arith in
    all_ascii (take n bytes)
    (ap is_ascii
    (ap (λ k. drop k (take n bytes)) c
    ∙ ap (λ k. drop start (take k bytes)) p
    ∙ ap (drop start) (take-add start (n - start) bytes)
    ∙ drop_at (take start bytes) (take (n - start) (drop start bytes)) start (length-take-le start bytes (omega arith)))
    ∙ e)

-- no bytes are
pub no_texts : (bytes : List ℕ) → length bytes ≤ 9 + 5 * count_of bytes → legal_texts bytes ≡ true
unfolding is_ascii
no_texts bytes l = all_ascii bytes (ap is_ascii (drop_of_length-le bytes l))

module _ (bytes : List ℕ) (arrays : 9 + 5 * count_of bytes ≤ length bytes) (f : ℕ) (rest : List ℕ) where
  -- one text more, which stops where no byte is left
  pub texts_next : f < count_of bytes → (n : ℕ) → n ≡ min (text_length (value_at bytes f)) (length rest)
      → left_legal bytes f rest ≡ (is_utf8 (take n rest) && left_legal bytes (f + 1) (drop n rest))
  unfolding cut_up every
  texts_next l n e =
      let v = value_at bytes f in
      let s : suc f ≡ f + 1 = omega arith in
      ap (λ vs. every is_utf8 (cut_up vs rest))
      (drop-cons (values_of bytes) f v (omega (arith, values_length bytes arrays))
      ∙ ap₂ (λ w k. w ∷ drop k (values_of bytes)) (value_by_place bytes arrays f v l) s)
      ∙ ap₂ (λ x y. is_utf8 x && every is_utf8 (cut_up (drop (f + 1) (values_of bytes)) y)) (stop (text_length v) e).0 (stop (text_length v) e).1
    where
      stop : (m : ℕ) → n ≡ min m (length rest) → (take m rest ≡ take n rest) × (drop m rest ≡ drop n rest)
      stop m q =
          ⊎_elim (λ (t : leb m (length rest) ≡ true). let z : m ≡ n = omega (arith, leb-true m (length rest) t) in (ap (λ k. take k rest) z, ap (λ k. drop k rest) z))
          (λ (t : leb m (length rest) ≡ false).
          let z = leb-false m (length rest) t in
          (take_all m rest (omega arith) ∙ sym (take_all n rest (omega arith)), drop_of_length-le rest {i = m} (omega arith) ∙ sym (drop_of_length-le rest {i = n} (omega arith))))
          (decided (leb m (length rest)))

  pub texts_end : count_of bytes ≤ f → left_legal bytes f rest ≡ true
  unfolding cut_up every
  texts_end l = ap (λ vs. every is_utf8 (cut_up vs rest)) (drop_of_length-le (values_of bytes) {i = f} (omega (arith, values_length bytes arrays)))

-- as the loop asks: a text of m bytes from its kind and number, of which n are there
pub texts_step : (bytes : List ℕ) (count f : ℕ) (rest text behind : List ℕ) (m n : ℕ) → (count ≡ count_of bytes) × (9 + 5 * count ≤ length bytes) → f < count
    → m ≡ text_at (get_or bytes (9 + f) 0) (number_at bytes (9 + count + 4 * f)) → n ≡ min m (length rest) → text ≡ take n rest → behind ≡ drop n rest
    → legal_texts bytes ≡ left_legal bytes f rest → legal_texts bytes ≡ (is_utf8 text && left_legal bytes (f + 1) behind)
unfolding text_at
texts_step bytes count f rest text behind m n q l a b e g h =
    let z : m ≡ text_length (value_at bytes f) = a ∙ ap (λ k. text_at (get_or bytes (9 + f) 0) (number_at bytes (9 + k + 4 * f))) q.0 in
    h ∙ texts_next bytes (omega arith) f rest (omega arith) n (b ∙ ap (λ k. min k (length rest)) z)
    ∙ ap₂ (λ x y. is_utf8 x && left_legal bytes (f + 1) y) (sym e) (sym g)

-- ---- the texts of a well-formed message

-- where the fields announce all that is there
pub cut_lengths : (vs : List Value) (bs : List ℕ) → text_bytes vs ≡ length bs → map length (cut_up vs bs) ≡ map text_length vs
unfolding cut_up text_bytes
cut_lengths [] bs e = refl
cut_lengths (v ∷ vs) bs e =
    ap₂ ◌∷◌ (length-take-le (text_length v) bs (omega arith))
    (cut_lengths vs (drop (text_length v) bs) (omega (arith, length-drop (text_length v) bs)))

pub cut_joined : (vs : List Value) (bs : List ℕ) → text_bytes vs ≡ length bs → flatten (cut_up vs bs) ≡ bs
unfolding cut_up text_bytes flatten
cut_joined [] [] e = refl
cut_joined [] (b ∷ bs) e = absurd (omega arith)
cut_joined (v ∷ vs) bs e =
    ap (λ r. take (text_length v) bs ++ r) (cut_joined vs (drop (text_length v) bs) (omega (arith, length-drop (text_length v) bs)))
    ∙ take-append-drop (text_length v) bs

pub every_one : (ts : List (List ℕ)) → every is_utf8 ts ≡ true → (f : ℕ) → f < length ts → is_utf8 (get_or ts f []) ≡ true
unfolding every
every_one [] e f l = absurd (not-suc-le-zero l)
every_one (t ∷ ts) e zero l = (both (is_utf8 t) (every is_utf8 ts) e).0
every_one (t ∷ ts) e (suc f) l = every_one ts (both (is_utf8 t) (every is_utf8 ts) e).1 f (le_of_suc-le-suc l)

pub each_every : (ts : List (List ℕ)) → ((f : ℕ) → f < length ts → is_utf8 (get_or ts f []) ≡ true) → every is_utf8 ts ≡ true
unfolding every
each_every [] h = refl
each_every (t ∷ ts) h = join (h 0 (omega arith)) (each_every ts (λ f l. h (suc f) (omega arith)))
