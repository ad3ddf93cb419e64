-- Laws of reading: a message by places of its bytes, the questions, and a message cut off its front.
-- Assumes nothing.
use Rattle.std.proofs.Common.{◌≡◌, ℕ, zero, suc, ◌+◌, ◌-◌, ◌*◌, ◌%◌, ◌<◌, ◌≤◌, Bool, true, false, cond, ◌&&◌, eqb, leb, ◌↔◌, List, [], ◌∷◌, length, get_or, take, drop, sym, refl, ap, ◌∙◌, ap₂, le_of_suc-le-suc, not-suc-le-zero, add-zero, add-one, arith, length-drop, length-take-le, get_or-drop, get_or-take, take-take, drop-drop, ext_get_or, eq-eqb, ne_eqb, le-leb, leb-true}
use mathlib.Core.Bool.{false≢true}
use borrow.Author.Tests.{lt-leb}
use Rattle.table.specs.Lists.{every, upto, first_no}
use Rattle.table.specs.Table.{origin, within_kind, legal_label}
use Rattle.table.specs.inner.Scans.{all}
use Rattle.table.proofs.laws.Lists.{both, join, alike, refuted, upto_length, every_upto, upto_every, all_at, all_by}
use Rattle.table.proofs.laws.Question.{number_no_zero}
use Rattle.table.proofs.laws.View.{upto_at}
use Rattle.message.specs.Message.{Value, number_of, first_number, number_at, pair_up, count_of, values_of, text_bytes, announced, whole, legal_value, legal_values, exact, legal_texts, front, opens, refusal, well_formed, front_of}
use Rattle.message.specs.inner.Layout.{word_here, Framed}

-- ---- bytes by their places

-- the number in offset form, from the four bytes as one number
pub number_word : (bytes : List ℕ) (at : ℕ) → at + 4 ≤ length bytes → number_at bytes at ≡ (word_here bytes at + origin) % 4294967296
unfolding number_at first_number number_of
number_word bytes at h =
    ap (λ t. cond t (first_number (drop at bytes)) 0) (le-leb (at + 4) (length bytes) h)
    ∙ ap (λ x. (x + origin) % 4294967296)
    (omega (
      arith,
      ap (λ k. get_or bytes k 0) (add-zero at),
      get_or-drop at bytes 0 0,
      get_or-drop at bytes 1 0,
      get_or-drop at bytes 2 0,
      get_or-drop at bytes 3 0,
    ))

-- no four bytes, no number
pub number_none : (bytes : List ℕ) (at : ℕ) → length bytes < at + 4 → number_at bytes at ≡ 0
unfolding number_at
number_none bytes at h = ap (λ t. cond t (first_number (drop at bytes)) 0) (lt-leb (at + 4) (length bytes) h)

-- ---- the fields by their places

pair_length : (ks ws : List ℕ) → length (pair_up ks ws) ≡ length ks
unfolding pair_up
pair_length [] ws = refl
pair_length (k ∷ ks) ws = ap suc (pair_length ks (drop 4 ws))

pair_at : (ks ws : List ℕ) (f : ℕ) (v : Value) → f < length ks
    → get_or (pair_up ks ws) f v ≡ record { kind = get_or ks f 0; number = first_number (drop (4 * f) ws) }
unfolding pair_up
pair_at [] ws f v l = absurd (not-suc-le-zero l)
pair_at (k ∷ ks) ws zero v l = refl
pair_at (k ∷ ks) ws (suc f) v l =
    let e : 4 + 4 * f ≡ 4 * suc f = omega arith in
    pair_at ks (drop 4 ws) f v (le_of_suc-le-suc l)
    ∙ ap (λ r. record { kind = get_or ks f 0; number = first_number r }) (drop-drop (4 * f) 4 ws ∙ ap (λ n. drop n ws) e)

-- the field at a place of bytes that begin with two arrays of n
abbrev pub value_at : List ℕ → ℕ → Value
value_at bytes f = record { kind = get_or bytes (9 + f) 0; number = number_at bytes (9 + count_of bytes + 4 * f) }

module _ (bytes : List ℕ) (arrays : 9 + 5 * count_of bytes ≤ length bytes) where
  kinds_length : length (take (count_of bytes) (drop 9 bytes)) ≡ count_of bytes
  kinds_length = length-take-le (count_of bytes) (drop 9 bytes) (simp length-drop (omega arith))

  pub values_length : length (values_of bytes) ≡ count_of bytes
  unfolding values_of
  values_length = pair_length (take (count_of bytes) (drop 9 bytes)) (drop (count_of bytes) (drop 9 bytes)) ∙ kinds_length

  pub value_by_place : (f : ℕ) (v : Value) → f < count_of bytes → get_or (values_of bytes) f v ≡ value_at bytes f
  unfolding values_of number_at
  value_by_place f v l =
      let n = count_of bytes in
      let e : 9 + (n + 4 * f) ≡ 9 + n + 4 * f = omega arith in
      pair_at (take n (drop 9 bytes)) (drop n (drop 9 bytes)) f v (omega (arith, kinds_length))
      ∙ ap₂ (λ k w. record { kind = k; number = w }) (get_or-take n (drop 9 bytes) f 0 l ∙ get_or-drop 9 bytes f 0)
      (ap first_number (drop-drop (4 * f) n (drop 9 bytes) ∙ drop-drop (n + 4 * f) 9 bytes ∙ ap (λ k. drop k bytes) e)
      ∙ ap (λ t. cond t (first_number (drop (9 + n + 4 * f) bytes)) 0) (sym (le-leb (9 + n + 4 * f + 4) (length bytes) (omega arith))))

  -- the fields as a list of places
  pub values_places : values_of bytes ≡ upto (count_of bytes) (value_at bytes)
  values_places =
      ext_get_or (value_at bytes 0) (values_of bytes) (upto (count_of bytes) (value_at bytes)) (values_length ∙ sym (upto_length (count_of bytes) (value_at bytes)))
      (λ f l. here f (omega (arith, values_length)))
    where
      here : (f : ℕ) → f < count_of bytes → get_or (values_of bytes) f (value_at bytes 0) ≡ get_or (upto (count_of bytes) (value_at bytes)) f (value_at bytes 0)
      here f l = value_by_place f (value_at bytes 0) l ∙ sym (upto_at (count_of bytes) (value_at bytes) (value_at bytes 0) f l)

-- ---- kinds, and the texts' bytes

-- v is n without the origin, wrapped: small exactly where n lies just above the origin
above_origin : (m n v : ℕ) → (v + origin) % 4294967296 ≡ n → v < 4294967296 → m < origin → leb v m ≡ (leb origin n && leb n (origin + m))
above_origin m n v e l s =
    alike (leb v m) (leb origin n && leb n (origin + m))
    (λ t. let u = leb-true v m t in join (le-leb origin n (omega arith)) (le-leb n (origin + m) (omega arith)))
    (λ t.
    let u = both (leb origin n) (leb n (origin + m)) t in
    let a = leb-true origin n u.0 in
    let b = leb-true n (origin + m) u.1 in
    le-leb v m (omega arith))

module _ (k n v : ℕ) (e : (v + origin) % 4294967296 ≡ n) (l : v < 4294967296) where
  pub within_text : k ≡ 1 → leb v 64 ≡ within_kind k n
  unfolding within_kind
  within_text q = rw q (above_origin 64 n v e l (omega arith))

  pub within_flag : k ≡ 2 → leb v 1 ≡ within_kind k n
  unfolding within_kind
  within_flag q = rw q (above_origin 1 n v e l (omega arith))

-- a text's length
pub text_within : (k n : ℕ) → k ≡ 1 → within_kind k n ≡ true → (origin ≤ n) × (n ≤ origin + 64)
unfolding within_kind
text_within k n e t =
    let u = both (leb origin n) (leb n (origin + 64)) (rw e at t) in
    (leb-true origin n u.0, leb-true n (origin + 64) u.1)

pub text_more : (f : ℕ) (g : ℕ → Value) → text_bytes (upto (suc f) g) ≡ text_bytes (upto f g) + cond (eqb (g f).kind 1) ((g f).number - origin) 0
unfolding text_bytes upto
text_more zero g = omega arith
text_more (suc f) g = omega (arith, text_more f (λ k. g (suc k)))

-- one field more, as the loop takes it: a text, or another
module _ (f t : ℕ) (g : ℕ → Value) (e : t ≡ text_bytes (upto f g)) where
  pub texts_text : (n : ℕ) → (g f).kind ≡ 1 → n ≡ (g f).number → t + (n - origin) ≡ text_bytes (upto (f + 1) g)
  texts_text n k q = rw (add-one, text_more, eq-eqb (g f).kind 1 k) (omega arith)

  pub texts_other : ((g f).kind ≡ 1 → ⊥) → t ≡ text_bytes (upto (f + 1) g)
  texts_other k = rw (add-one, text_more, ne_eqb (g f).kind 1 k) (omega arith)

-- 14 by places
pub legal_places : (bytes : List ℕ) → 9 + 5 * count_of bytes ≤ length bytes → legal_values bytes ≡ all (count_of bytes) (λ k. legal_value (value_at bytes k))
unfolding legal_values
legal_places bytes arrays =
    ap (every legal_value) (values_places bytes arrays)
    ∙ alike (every legal_value (upto n g)) (all n (λ k. legal_value (g k)))
    (λ t. all_by (λ k. legal_value (g k)) n (every_upto legal_value n g t)) (λ t. upto_every legal_value n g (all_at (λ k. legal_value (g k)) n t))
  where
    n : ℕ
    n = count_of bytes

    g : ℕ → Value
    g = value_at bytes

-- ---- the questions

-- 13, part by part
pub record Whole (bytes : List ℕ) : Type 0 where
  pub nine : 9 ≤ length bytes
  pub label : legal_label (take 8 bytes) ≡ true
  pub few : count_of bytes ≤ 4
  pub arrays : 9 + 5 * count_of bytes ≤ length bytes

module _ (bytes : List ℕ) where
  pub whole_parts : whole bytes ≡ true → Whole bytes
  unfolding whole
  whole_parts e =
      let a = leb 9 (length bytes) in
      let b = legal_label (take 8 bytes) in
      let c = leb (count_of bytes) 4 in
      let d = leb (9 + 5 * count_of bytes) (length bytes) in
      let x = both (a && b && c) d e in
      let y = both (a && b) c x.0 in
      let z = both a b y.0 in
      record {
        nine = leb-true 9 (length bytes) z.0;
        label = z.1;
        few = leb-true (count_of bytes) 4 y.1;
        arrays = leb-true (9 + 5 * count_of bytes) (length bytes) x.1;
      }

  pub parts_whole : Whole bytes → whole bytes ≡ true
  unfolding whole
  parts_whole w =
      join (join (join (le-leb 9 (length bytes) w.nine) w.label) (le-leb (count_of bytes) 4 w.few))
      (le-leb (9 + 5 * count_of bytes) (length bytes) w.arrays)

  pub not_whole : (Whole bytes → ⊥) → false ≡ whole bytes
  not_whole n = sym (refuted (whole bytes) (λ e. n (whole_parts e)))

  pub opens_parts : opens bytes ≡ true → (legal_label (take 8 bytes) ≡ true) × (count_of bytes ≤ 4)
  unfolding opens
  opens_parts e =
      let x = both (legal_label (take 8 bytes)) (leb (count_of bytes) 4) e in
      (x.0, leb-true (count_of bytes) 4 x.1)

  pub whole_opens : Whole bytes → opens bytes ≡ true
  unfolding opens
  whole_opens w = join w.label (le-leb (count_of bytes) 4 w.few)

  -- only the arrays are left to ask
  pub whole_last : 9 ≤ length bytes → opens bytes ≡ true → leb (9 + 5 * count_of bytes) (length bytes) ≡ whole bytes
  unfolding whole
  whole_last n o =
      let p = opens_parts o in
      sym (ap (λ t. t && leb (9 + 5 * count_of bytes) (length bytes)) (join (join (le-leb 9 (length bytes) n) p.0) (le-leb (count_of bytes) 4 p.1)))

  -- the three answers of the front
  pub front_13 : whole bytes ≡ false → front_of bytes ≡ record { question = 13; length = 0 }
  unfolding front_of front first_no
  front_13 w = simp w

  pub front_14 : whole bytes ≡ true → legal_values bytes ≡ false → front_of bytes ≡ record { question = 14; length = 0 }
  unfolding front_of front first_no
  front_14 w e = simp (w, e)

  pub front_yes : whole bytes ≡ true → legal_values bytes ≡ true → front_of bytes ≡ record { question = 0; length = announced bytes }
  unfolding front_of front first_no
  front_yes w e = simp (w, e)

  pub front_parts : front bytes ≡ 0 → Whole bytes × (legal_values bytes ≡ true)
  unfolding front first_no
  front_parts e = let p = go (whole bytes) (legal_values bytes) e in (whole_parts p.0, p.1)
    where
      go : (a b : Bool) → ◌≡◌ {A = ℕ} (cond a (cond b 0 14) 13) 0 → (a ≡ true) × (b ≡ true)
      go true true e = (refl, refl)
      go true false e = absurd (omega arith)
      go false b e = absurd (omega arith)

  refusal_front : refusal bytes ≡ cond (eqb (front bytes) 0) (cond (exact bytes) (cond (legal_texts bytes) 0 22) 15) (front bytes)
  unfolding refusal front first_no
  refusal_front = go (whole bytes) (legal_values bytes) (cond (exact bytes) (cond (legal_texts bytes) 0 22) 15)
    where
      go : (a b : Bool) (n : ℕ) → ◌≡◌ {A = ℕ} (cond a (cond b n 14) 13) (cond (eqb (cond a (cond b 0 14) 13) 0) n (cond a (cond b 0 14) 13))
      go true true n = refl
      go true false n = refl
      go false b n = refl

  pub well_formed_exactly : (well_formed bytes ≡ true) ↔ (refusal bytes ≡ 0)
  unfolding refusal well_formed first_no
  well_formed_exactly = go (whole bytes) (legal_values bytes) (exact bytes) (legal_texts bytes)
    where
      go : (a b c d : Bool) → ((a && b && c && d) ≡ true) ↔ (◌≡◌ {A = ℕ} (cond a (cond b (cond c (cond d 0 22) 15) 14) 13) 0)
      go true true true true = ((λ e. refl), (λ e. refl))
      go true true true false = ((λ e. absurd (false≢true e)), (λ e. absurd (omega arith)))
      go true true false d = ((λ e. absurd (false≢true e)), (λ e. absurd (omega arith)))
      go true false c d = ((λ e. absurd (false≢true e)), (λ e. absurd (omega arith)))
      go false b c d = ((λ e. absurd (false≢true e)), (λ e. absurd (omega arith)))

  -- the same with 22 left to ask
  pub framed_parts : Framed bytes → (whole bytes ≡ true) × (legal_values bytes ≡ true) × (exact bytes ≡ true)
  unfolding refusal first_no
  framed_parts = go (whole bytes) (legal_values bytes) (exact bytes) (legal_texts bytes)
    where
      go : (a b c d : Bool) → ◌≡◌ {A = ℕ} (cond a (cond b (cond c (cond d 0 22) 15) 14) 13) (cond d 0 22) → (a ≡ true) × (b ≡ true) × (c ≡ true)
      go true true true d e = (refl, refl, refl)
      go true true false true e = absurd (omega arith)
      go true true false false e = absurd (omega arith)
      go true false c true e = absurd (omega arith)
      go true false c false e = absurd (omega arith)
      go false b c true e = absurd (omega arith)
      go false b c false e = absurd (omega arith)

  pub formed_legal : refusal bytes ≡ 0 → legal_texts bytes ≡ true
  unfolding well_formed
  formed_legal e = (both (whole bytes && legal_values bytes && exact bytes) (legal_texts bytes) (well_formed_exactly.1 e)).1

  pub formed_framed : refusal bytes ≡ 0 → Framed bytes
  formed_framed e = e ∙ sym (ap (λ t. cond t 0 22) (formed_legal e))

  pub stopped_framed : refusal bytes ≡ 22 → Framed bytes × (legal_texts bytes ≡ false)
  unfolding refusal first_no
  stopped_framed = go (whole bytes) (legal_values bytes) (exact bytes) (legal_texts bytes)
    where
      go : (a b c d : Bool) → ◌≡◌ {A = ℕ} (cond a (cond b (cond c (cond d 0 22) 15) 14) 13) 22
          → (◌≡◌ {A = ℕ} (cond a (cond b (cond c (cond d 0 22) 15) 14) 13) (cond d 0 22)) × (d ≡ false)
      go true true true true e = absurd (omega arith)
      go true true true false e = (refl, refl)
      go true true false d e = absurd (omega arith)
      go true false c d e = absurd (omega arith)
      go false b c d e = absurd (omega arith)

  pub formed_whole : well_formed bytes ≡ true → Whole bytes
  formed_whole e = whole_parts (framed_parts (formed_framed (well_formed_exactly.0 e))).0

  pub framed_formed : Framed bytes → legal_texts bytes ≡ true → refusal bytes ≡ 0
  framed_formed e d = e ∙ ap (λ t. cond t 0 22) d

  -- the answers of all the questions, where the front's are known
  pub refusal_early : (front bytes ≡ 0 → ⊥) → front bytes ≡ refusal bytes
  refusal_early n =
      sym (refusal_front ∙ ap (λ t. cond t (cond (exact bytes) (cond (legal_texts bytes) 0 22) 15) (front bytes)) (ne_eqb (front bytes) 0 n))

  module _ (e : front bytes ≡ 0) where
    pub front_length : (front_of bytes).length ≡ announced bytes
    unfolding front_of
    front_length = ap (λ t. cond t (announced bytes) 0) (eq-eqb (front bytes) 0 e)

    refusal_late : refusal bytes ≡ cond (exact bytes) (cond (legal_texts bytes) 0 22) 15
    refusal_late =
        refusal_front ∙ ap (λ t. cond t (cond (exact bytes) (cond (legal_texts bytes) 0 22) 15) (front bytes)) (eq-eqb (front bytes) 0 e)

    pub refusal_length : (length bytes ≡ announced bytes → ⊥) → refusal bytes ≡ 15
    unfolding exact
    refusal_length n = refusal_late ∙ ap (λ t. cond t (cond (legal_texts bytes) 0 22) 15) (ne_eqb (length bytes) (announced bytes) n)

    pub refusal_texts : length bytes ≡ announced bytes → Framed bytes
    unfolding exact
    refusal_texts l = refusal_late ∙ ap (λ t. cond t (cond (legal_texts bytes) 0 22) 15) (eq-eqb (length bytes) (announced bytes) l)

-- what `front` and `refusal` ask in turn
pub ruleset front_cases = (front_13, front_14, front_yes, whole_parts)

pub ruleset refusal_cases = (refusal_early, refusal_length, refusal_texts, front_length, number_no_zero)

-- ---- a message cut off the front of longer bytes

number_cut : (bytes : List ℕ) (n at : ℕ) → at + 4 ≤ n → n ≤ length bytes → number_at (take n bytes) at ≡ number_at bytes at
number_cut bytes n at l m =
    number_word (take n bytes) at (omega (arith, length-take-le n bytes m))
    ∙ ap (λ x. (x + origin) % 4294967296)
    (omega (
      arith,
      get_or-take n bytes at 0 (omega arith),
      get_or-take n bytes (at + 1) 0 (omega arith),
      get_or-take n bytes (at + 2) 0 (omega arith),
      get_or-take n bytes (at + 3) 0 (omega arith),
    ))
    ∙ sym (number_word bytes at (omega arith))

-- what 13 and 14 look at is not cut
module _ (bytes : List ℕ) (n : ℕ) (w : Whole bytes) (room : 9 + 5 * count_of bytes ≤ n) (m : n ≤ length bytes) where
  cut_length : length (take n bytes) ≡ n
  cut_length = length-take-le n bytes m

  cut_count : count_of (take n bytes) ≡ count_of bytes
  unfolding count_of
  cut_count = get_or-take n bytes 8 0 (omega arith)

  cut_arrays : 9 + 5 * count_of (take n bytes) ≤ length (take n bytes)
  cut_arrays = omega (arith, cut_length, cut_count)

  cut_label : take 8 (take n bytes) ≡ take 8 bytes
  cut_label = take-take 8 n bytes (omega arith)

  pub cut_values : values_of (take n bytes) ≡ values_of bytes
  cut_values =
      ext_get_or v (values_of (take n bytes)) (values_of bytes) (values_length (take n bytes) cut_arrays ∙ cut_count ∙ sym (values_length bytes w.arrays))
      (λ f l. here f (omega (arith, values_length (take n bytes) cut_arrays, cut_count)))
    where
      v : Value
      v = value_at bytes 0

      here : (f : ℕ) → f < count_of bytes → get_or (values_of (take n bytes)) f v ≡ get_or (values_of bytes) f v
      here f l =
          value_by_place (take n bytes) cut_arrays f v (omega (arith, cut_count))
          ∙ ap₂ (λ a b. record { kind = a; number = b }) (get_or-take n bytes (9 + f) 0 (omega arith))
          (ap (λ c. number_at (take n bytes) (9 + c + 4 * f)) cut_count ∙ number_cut bytes n (9 + count_of bytes + 4 * f) (omega arith) m)
          ∙ sym (value_by_place bytes w.arrays f v l)

  pub cut_whole : Whole (take n bytes)
  cut_whole = record {
    nine = omega (arith, cut_length);
    label = ap legal_label cut_label ∙ w.label;
    few = omega (arith, cut_count, w.few);
    arrays = cut_arrays;
  }

  pub cut_announced : announced (take n bytes) ≡ announced bytes
  unfolding announced
  cut_announced = ap₂ (λ c vs. 9 + 5 * c + text_bytes vs) cut_count cut_values

  pub cut_front : legal_values bytes ≡ true → front (take n bytes) ≡ 0
  unfolding front legal_values first_no
  cut_front e = simp (parts_whole (take n bytes) cut_whole, cut_values, e)

-- cut where it ends, a message announces its length, and only 22 is left to ask
module _ (bytes : List ℕ) (n : ℕ) (e : front bytes ≡ 0) (q : n ≡ announced bytes) (m : n ≤ length bytes) where
  arrays_within : 9 + 5 * count_of bytes ≤ n
  unfolding announced
  arrays_within = omega arith

  pub message_announced : announced (take n bytes) ≡ n
  message_announced = cut_announced bytes n (front_parts bytes e).0 arrays_within m ∙ sym q

  pub message_framed : Framed (take n bytes)
  message_framed =
      let p = front_parts bytes e in
      refusal_texts (take n bytes) (cut_front bytes n p.0 arrays_within m p.1) (length-take-le n bytes m ∙ sym message_announced)
