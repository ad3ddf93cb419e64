-- A message made from a legal branch is well formed and says what the branch says; of a sound table's branch, its state allows it.
-- The idea: the four bytes of a number read back as the number, so label, kinds and numbers laid out in a row are read back whole.
-- Assumes nothing.
use Rattle.std.proofs.Common.{◌≡◌, ℕ, zero, suc, ◌+◌, ◌*◌, ◌/◌, ◌%◌, ◌<◌, ◌≤◌, true, false, ◌&&◌, eqb, ltb, leb, List, [], ◌∷◌, ◌++◌, map, length, get_or, take, drop, replicate, sym, refl, ap, ◌∙◌, subst, ap₂, ⊎_elim, append_assoc, arith, length-append, drop-drop, take_at, get_or-append-add, drop_at, ltb-true, eq-eqb, eqb-true, le-leb, leb-false, leb-true}
use mathlib.Core.Bool.{false≢true}
use mathlib.Core.Option.{Option, none, some}
use lib.ListN.{length-map, length-replicate}
use lib.Seq.{take-append_seam}
use Rattle.table.specs.Lists.{every, matched}
use Rattle.table.specs.Table.{Field, Branch, Table, within_kind, upper, label_rest, legal_label, legal_field, sound}
use Rattle.table.specs.View.{view, sound_of}
use Rattle.table.proofs.laws.Lists.{both, join, decided}
use Rattle.table.proofs.laws.View.{view_sound}
use Rattle.table.proofs.laws.Table.{Legal, sound_parts}
use Rattle.utf8.specs.Utf8.{within, is_utf8}
use Rattle.utf8.specs.inner.Characters.{is_ascii}
use Rattle.message.specs.Message.{Value, number_of, first_number, pair_up, count_of, values_of, read, text_bytes, announced, cut_up, texts_of, whole, legal_value, legal_values, exact, legal_texts, well_formed}
use Rattle.message.specs.Judge.{same_kind, in_range, holds, allows}
use Rattle.message.specs.Make.{four_bytes, numbers_of, write, chosen, branch_message, made, branch, names_field, exists, opening, making}
use Rattle.message.specs.MessageTheorems.{OpensWith}
use Rattle.message.proofs.laws.Judge.{allows_by}
use Rattle.message.proofs.laws.Making.{says_9, says_18, says_16, says_length}
use Rattle.message.proofs.laws.LegalTexts.{ascii_texts}

-- ---- four bytes

back : (w : ℕ) → ((w / 16777216 * 256 + w / 65536 % 256) * 256 + w / 256 % 256) * 256 + w % 256 ≡ w
back w = omega arith

turned : (n : ℕ) → n < 4294967296 → ((n + 2147483648) % 4294967296 + 2147483648) % 4294967296 ≡ n
turned n h = omega arith

in_32_bits : (k n : ℕ) → within_kind k n ≡ true → n < 4294967296
unfolding within_kind
in_32_bits zero n e = ltb-true n 4294967296 e
in_32_bits (suc zero) n e = omega (arith, leb-true n 2147483712 (both (leb 2147483648 n) (leb n 2147483712) e).1)
in_32_bits (suc (suc zero)) n e = omega (arith, leb-true n 2147483649 (both (leb 2147483648 n) (leb n 2147483649) e).1)
in_32_bits (suc (suc (suc k))) n e = absurd (false≢true e)

word_back : (n : ℕ) (r : List ℕ) → n < 4294967296 → first_number (four_bytes n ++ r) ≡ n
unfolding four_bytes number_of first_number
word_back n r h = ap (λ (w : ℕ). (w + 2147483648) % 4294967296) (back ((n + 2147483648) % 4294967296)) ∙ turned n h

-- ---- the arrays

kinds : List Value → List ℕ
kinds vs = map (λ (v : Value). v.kind) vs

pair_up_back : (vs : List Value) (t : List ℕ) → every legal_value vs ≡ true → pair_up (kinds vs) (numbers_of vs ++ t) ≡ vs
unfolding kinds pair_up four_bytes numbers_of every legal_value
pair_up_back [] t e = refl
pair_up_back (v ∷ r) t e =
    let x = both (legal_value v) (every legal_value r) e in
    ap₂ ◌∷◌
    (ap (λ (n : ℕ). record { kind = v.kind; number = n }) (word_back v.number (numbers_of r ++ t) (in_32_bits v.kind v.number x.0)))
    (pair_up_back r t x.1)

length_words : (vs : List Value) → length (numbers_of vs) ≡ 4 * length vs
unfolding numbers_of four_bytes
length_words [] = refl
length_words (v ∷ r) = omega (arith, length_words r)

-- a label and values in a row, with the bytes t at the end
row : List ℕ → List Value → List ℕ → List ℕ
row l vs t = l ++ (length vs ∷ (kinds vs ++ (numbers_of vs ++ t)))

module _ (l : List ℕ) (vs : List Value) (t : List ℕ) (h : length l ≡ 8) (e : every legal_value vs ≡ true) where
  label_back : take 8 (row l vs t) ≡ l
  unfolding row
  label_back = take_at l (length vs ∷ (kinds vs ++ (numbers_of vs ++ t))) 8 h

  count_back : count_of (row l vs t) ≡ length vs
  unfolding count_of row
  count_back =
      subst (λ (k : ℕ). get_or (row l vs t) k 0 ≡ length vs) (ap (λ (k : ℕ). k + 0) h)
      (get_or-append-add l (length vs ∷ (kinds vs ++ (numbers_of vs ++ t))) 0 0)

  rest_back : drop 9 (row l vs t) ≡ kinds vs ++ (numbers_of vs ++ t)
  unfolding row
  rest_back = sym (drop-drop 1 8 (row l vs t)) ∙ ap (drop 1) (drop_at l (length vs ∷ (kinds vs ++ (numbers_of vs ++ t))) 8 h)

  kinds_length : length (kinds vs) ≡ length vs
  unfolding kinds
  kinds_length = length-map vs (λ (v : Value). v.kind)

  values_back : values_of (row l vs t) ≡ vs
  unfolding values_of
  values_back =
      rw
      (rest_back, count_back, take_at (kinds vs) (numbers_of vs ++ t) (length vs) kinds_length, drop_at (kinds vs) (numbers_of vs ++ t) (length vs) kinds_length)
      (pair_up_back vs t e)

  row_length : length (row l vs t) ≡ 9 + 5 * length vs + length t
  unfolding row
  row_length = simp (length-append, h, kinds_length, length_words) (omega arith)

  texts_back : texts_of (row l vs t) ≡ cut_up vs t
  unfolding texts_of
  texts_back =
      rw (values_back, count_back)
      (ap (cut_up vs)
      (sym (drop-drop (5 * length vs) 9 (row l vs t))
      ∙ ap (drop (5 * length vs)) (rest_back ∙ sym (append_assoc (kinds vs) (numbers_of vs) t))
      ∙ drop_at (kinds vs ++ numbers_of vs) t (5 * length vs) (simp (length-append, kinds_length, length_words) (omega arith))))

  row_formed : legal_label l ≡ true → length vs ≤ 4 → length t ≡ text_bytes vs → every is_utf8 (cut_up vs t) ≡ true → well_formed (row l vs t) ≡ true
  unfolding well_formed whole legal_values exact announced legal_texts
  row_formed a b c d =
      rw (values_back, label_back, count_back, row_length, texts_back)
      (let n = 9 + 5 * length vs in
      let fits = join (join (join (le-leb 9 (n + length t) (omega arith)) a) (le-leb (length vs) 4 b)) (le-leb n (n + length t) (omega arith)) in
      join (join (join fits e) (eq-eqb (n + length t) (n + text_bytes vs) (omega arith))) d)

  row_read : read (row l vs t) ≡ record { label = l; values = vs }
  unfolding read
  row_read = rw (label_back, values_back)

-- ---- texts of 0x20 are ASCII

blank : (n : ℕ) → is_ascii (replicate n 32) ≡ true
unfolding is_ascii within
blank zero = refl
blank (suc n) = blank n

-- ---- a branch's message

label_eight : (l : List ℕ) → legal_label l ≡ true → length l ≡ 8
unfolding legal_label
label_eight [] e = absurd (false≢true e)
label_eight (c ∷ r) e = ap suc (eqb-true (length r) 7 (both (upper c && label_rest r) (eqb (length r) 7) e).1)

pub chosen_length : (fs : List Field) (h : Option ℕ) → length (chosen fs h) ≡ length fs
unfolding chosen
chosen_length [] h = refl
chosen_length (f ∷ r) none = ap suc (chosen_length r none)
chosen_length (f ∷ r) (some zero) = ap suc (chosen_length r none)
chosen_length (f ∷ r) (some (suc h)) = ap suc (chosen_length r (some h))

-- a field's low and high are numbers of its kind, and within its range
record Ends (f : Field) : Type 0 where
  low_legal : within_kind f.kind f.low ≡ true
  high_legal : within_kind f.kind f.high ≡ true
  low_held : holds f (record { kind = f.kind; number = f.low }) ≡ true
  high_held : holds f (record { kind = f.kind; number = f.high }) ≡ true

ends : (f : Field) → legal_field f ≡ true → Ends f
unfolding legal_field holds same_kind in_range
ends f e =
    let x = both (within_kind f.kind f.low && within_kind f.kind f.high) (leb f.low f.high) e in
    let y = both (within_kind f.kind f.low) (within_kind f.kind f.high) x.0 in
    let same = eq-eqb f.kind f.kind refl in
    let low = le-leb f.low f.low (omega arith) in
    let high = le-leb f.high f.high (omega arith) in
    record { low_legal = y.0; high_legal = y.1; low_held = join same (join low x.1); high_held = join same (join x.1 high) }

-- what is made from legal fields is legal, and within their ranges
pub chosen_legal : (fs : List Field) (h : Option ℕ) → every legal_field fs ≡ true → (every legal_value (chosen fs h) ≡ true) × (matched holds fs (chosen fs h) ≡ true)
unfolding chosen every legal_value matched
chosen_legal [] h e = (refl, refl)
chosen_legal (f ∷ r) none e =
    let x = both (legal_field f) (every legal_field r) e in
    let y = ends f x.0 in
    let z = chosen_legal r none x.1 in
    (join y.low_legal z.0, join y.low_held z.1)
chosen_legal (f ∷ r) (some zero) e =
    let x = both (legal_field f) (every legal_field r) e in
    let y = ends f x.0 in
    let z = chosen_legal r none x.1 in
    (join y.high_legal z.0, join y.high_held z.1)
chosen_legal (f ∷ r) (some (suc h)) e =
    let x = both (legal_field f) (every legal_field r) e in
    let y = ends f x.0 in
    let z = chosen_legal r (some h) x.1 in
    (join y.low_legal z.0, join y.low_held z.1)

module _ (b : Branch) (g : Legal b) (h : Option ℕ) where
  abbrev vs : List Value
  vs = chosen b.fields h

  abbrev blanks : List ℕ
  blanks = replicate (text_bytes vs) 32

  made_row : made b h ≡ row b.label vs blanks
  unfolding made write branch_message row kinds
  made_row = refl

  eight : length b.label ≡ 8
  eight = label_eight b.label g.spelt

  legal : every legal_value vs ≡ true
  legal = (chosen_legal b.fields h g.ranges).0

  pub made_well_formed : well_formed (made b h) ≡ true
  made_well_formed =
      rw made_row (row_formed b.label vs blanks eight legal g.spelt (rw chosen_length g.few) (length-replicate (text_bytes vs) 32)
      (ascii_texts vs blanks (blank (text_bytes vs))))

  pub made_read : read (made b h) ≡ branch_message b h
  unfolding branch_message
  made_read = rw made_row (row_read b.label vs blanks eight legal)

  pub made_count : count_of (made b h) ≡ length b.fields
  made_count = rw made_row (count_back b.label vs blanks eight legal ∙ chosen_length b.fields h)

-- ---- the state that owns the branch allows it

module _ (t : Table) (s : sound t ≡ true) (k : ℕ) (l : k < length t.branches) (h : Option ℕ) where
  pub branch_legal : Legal (branch t k)
  unfolding branch
  branch_legal = (sound_parts t s).legal (record { owner = 0; label = []; fields = []; target = 0 }) k l

  pub made_allowed : allows t (branch t k).owner (read (made (branch t k) h)) ≡ some (branch t k).target
  unfolding branch_message
  made_allowed =
      rw (made_read (branch t k) branch_legal h)
      ((allows_by t s (branch t k).owner (branch_message (branch t k) h) (branch t k).target).1
      (k, record { there = l; owned = refl; labelled = refl }, ((chosen_legal (branch t k).fields h branch_legal.ranges).1, refl)))

-- ---- the call: a length n means that the buffer's first n bytes are a message which the owner allows

module _ (t : List ℕ) (k : ℕ) (h : Option ℕ) (b : List ℕ) (n : ℕ) (e : (making t k h b).numbers ≡ (0, n)) where
  -- no question got a no
  no_refusal : {q : ℕ} → making t k h b ≡ record { numbers = (suc q, 0); buffer = b } → ⊥
  no_refusal {q} r = let z : suc q ≡ 0 = ap (λ p. p.0) (sym (ap (λ m. m.numbers) r) ∙ e) in omega arith

  pub sound_then : sound_of t ≡ true
  sound_then = ⊎_elim (λ p. p) (λ p. absurd (no_refusal (says_9 t k h b p))) (decided (sound_of t))

  pub exists_then : exists (view t) k h ≡ true
  exists_then = ⊎_elim (λ p. p) (λ p. absurd (no_refusal (says_18 t k h b sound_then p))) (decided (exists (view t) k h))

  pub fits_then : length (made (branch (view t) k) h) ≤ length b
  fits_then =
      ⊎_elim (λ (p : leb (length (made (branch (view t) k) h)) (length b) ≡ true). leb-true _ _ p)
      (λ (p : leb (length (made (branch (view t) k) h)) (length b) ≡ false). absurd (no_refusal (says_16 t k h b sound_then exists_then (leb-false _ _ p))))
      (decided (leb (length (made (branch (view t) k) h)) (length b)))

  pub making_opens : take n (making t k h b).buffer ≡ made (branch (view t) k) h
  unfolding opening
  making_opens =
      let r = says_length t k h b sound_then exists_then fits_then in
      let z : n ≡ length (made (branch (view t) k) h) = ap (λ p. p.1) (sym e ∙ ap (λ m. m.numbers) r) in
      ap₂ take z (ap (λ m. m.buffer) r) ∙ take-append_seam (made (branch (view t) k) h) (drop (length (made (branch (view t) k) h)) b)

  pub opens_with : OpensWith t k h (take n (making t k h b).buffer)
  unfolding exists
  opens_with =
      let s = view_sound t sound_then in
      let l = ltb-true k (length (view t).branches) (both (ltb k (length (view t).branches)) (names_field h (branch (view t) k)) exists_then).0 in
      let g = branch_legal (view t) s k l h in
      rw making_opens
      (record {
        formed = made_well_formed (branch (view t) k) g h;
        says = made_read (branch (view t) k) g h;
        allowed_there = made_allowed (view t) s k l h;
      })
