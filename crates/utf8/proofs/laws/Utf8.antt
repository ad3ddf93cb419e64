-- What a lead leaves due: the grammar's rows do not overlap, so one decides. Assumes nothing.
use mathlib.Core.Path.{◌≡◌, refl, sym, ap, ap₂, ◌∙◌}
use mathlib.Core.Logic.{◌⊎◌, inl, inr, ⊎_elim}
use mathlib.Core.Bool.{Bool, true, false, not, ◌&&◌, ◌||◌, or-false, false≢true}
use mathlib.Core.List.{List, [], ◌∷◌, ◌++◌}
use Prim.Native.Nat.{ℕ, zero, suc, ◌≤◌, ◌<◌}
use native.Mathlib.Omega.{arith}
use lib.ListN.{length, get_or, take, drop}
use lib.Seq.{split_at}
use lib.Dec.{T, leb, ltb, ltb→lt, nltb→le}
use borrow.Author.Tests.{leb-true, ltb-true, lt-ltb, le-ltb, le-leb, lt-leb, ne_eqb}
use Rattle.utf8.specs.Utf8.{Range, Row, ◌to◌, ◌then◌, utf8_tail, within, utf8_char, some_row, octets}
use Rattle.utf8.specs.inner.Characters.{char_size, second}

pub both : (a b : Bool) → (a && b) ≡ true → (a ≡ true) × (b ≡ true)
both true b e = (refl, e)
both false b e = absurd (false≢true e)

-- ---- ranges

pub within_says : (q : Range) (b : ℕ) → within q b ≡ true → (q.low ≤ b) × (b ≤ q.high)
unfolding within
within_says q b e = let p = both (leb q.low b) (leb b q.high) e in (leb-true q.low b p.0, leb-true b q.high p.1)

pub inside : (r : Range) (b : ℕ) → r.low ≤ b → b ≤ r.high → within r b ≡ true
unfolding within
inside r b l h = ap₂ ◌&&◌ (le-leb r.low b l) (le-leb b r.high h)

pub below : (r : Range) (b : ℕ) → b < r.low → within r b ≡ false
unfolding within
below r b l = ap (λ t. t && leb b r.high) (lt-leb r.low b l)

pub above : (r : Range) (b : ℕ) → r.high < b → within r b ≡ false
unfolding within
above r b h = go (leb r.low b) (lt-leb b r.high h)
  where
    go : (t : Bool) {u : Bool} → u ≡ false → (t && u) ≡ false
    go true e = e
    go false e = refl

-- ---- the row of a lead: the rows before it end below the byte, and those behind it begin above

starts : ℕ → List ℕ → Row → Bool
starts a bs row = within row.lead a && octets row.after bs

earlier : ℕ → List Row → Bool
earlier l [] = true
earlier l (r ∷ rs) = ltb r.lead.high l && earlier l rs

later : ℕ → List Row → Bool
later h [] = true
later h (r ∷ rs) = ltb h r.lead.low && later h rs

nth : ℕ → Row
nth k = get_or utf8_char k (utf8_tail then [])

alone : ℕ → Bool
alone k = ltb k (length utf8_char) && (earlier (nth k).lead.low (take k utf8_char) && later (nth k).lead.high (drop (suc k) utf8_char))

module _ (a : ℕ) (bs : List ℕ) where
  past : (l : ℕ) (before rs : List Row) → earlier l before ≡ true → l ≤ a → some_row (starts a bs) (before ++ rs) ≡ some_row (starts a bs) rs
  unfolding some_row starts earlier
  past l [] rs e h = refl
  past l (r ∷ before) rs e h =
      let p = both (ltb r.lead.high l) (earlier l before) e in
      let q = ltb-true r.lead.high l p.0 in
      ap (λ t. t && octets r.after bs || some_row (starts a bs) (before ++ rs)) (above r.lead a (omega arith)) ∙ past l before rs p.1 h

  none : (h : ℕ) (rs : List Row) → later h rs ≡ true → a ≤ h → some_row (starts a bs) rs ≡ false
  unfolding some_row starts later
  none h [] e l = refl
  none h (r ∷ rs) e l =
      let p = both (ltb h r.lead.low) (later h rs) e in
      let q = ltb-true h r.lead.low p.0 in
      ap₂ (λ t u. t && octets r.after bs || u) (below r.lead a (omega arith)) (none h rs p.1 l)

  -- row k decides where its first range holds the byte
  row : (k : ℕ) → alone k ≡ true → (nth k).lead.low ≤ a → a ≤ (nth k).lead.high → octets [] (a ∷ bs) ≡ octets (nth k).after bs
  unfolding octets some_row starts alone nth
  row k e l h =
      let p = both (ltb k (length utf8_char)) (earlier (nth k).lead.low (take k utf8_char) && later (nth k).lead.high (drop (suc k) utf8_char)) e in
      let q = both (earlier (nth k).lead.low (take k utf8_char)) (later (nth k).lead.high (drop (suc k) utf8_char)) p.1 in
      ap (some_row (starts a bs)) (split_at utf8_char k (utf8_tail then []) (ltb-true k (length utf8_char) p.0))
      ∙ past (nth k).lead.low (take k utf8_char) (nth k ∷ drop (suc k) utf8_char) q.0 l
      ∙ ap₂ (λ t u. t && octets (nth k).after bs || u) (inside (nth k).lead a l h) (none (nth k).lead.high (drop (suc k) utf8_char) q.1 h)
      ∙ or-false (octets (nth k).after bs)

  -- no row begins with a byte from 0x80 to 0xC1, nor above 0xF4
  pub row_low : 0x80 ≤ a → a < 0xC2 → octets [] (a ∷ bs) ≡ false
  unfolding octets starts utf8_char earlier later
  row_low l h = past 0x80 (take 1 utf8_char) (drop 1 utf8_char) refl l ∙ none 0xC1 (drop 1 utf8_char) refl (omega arith)

  pub row_high : 0xF5 ≤ a → octets [] (a ∷ bs) ≡ false
  unfolding octets starts utf8_char earlier some_row
  row_high l = past 0xF5 utf8_char [] refl l

-- ---- the second byte's range

pub second_E0 : (a : ℕ) → a ≡ 0xE0 → second a ≡ 0xA0 to 0xBF
unfolding second
second_E0 a e = ap second e

pub second_ED : (a : ℕ) → a ≡ 0xED → second a ≡ 0x80 to 0x9F
unfolding second
second_ED a e = ap second e

pub second_F0 : (a : ℕ) → a ≡ 0xF0 → second a ≡ 0x90 to 0xBF
unfolding second
second_F0 a e = ap second e

pub second_F4 : (a : ℕ) → a ≡ 0xF4 → second a ≡ 0x80 to 0x8F
unfolding second
second_F4 a e = ap second e

pub second_tail : (a : ℕ) → (a ≡ 0xE0 → ⊥) → (a ≡ 0xED → ⊥) → (a ≡ 0xF0 → ⊥) → (a ≡ 0xF4 → ⊥) → second a ≡ utf8_tail
unfolding second
second_tail a p q r s = simp (ne_eqb a 0xE0 p, ne_eqb a 0xED q, ne_eqb a 0xF0 r, ne_eqb a 0xF4 s)

-- ---- a first byte by its size

pub lt_or_ge : (a b : ℕ) → (a < b) ⊎ (b ≤ a)
lt_or_ge a b = go (ltb a b) (ltb→lt a b) (nltb→le a b)
  where
    go : (t : Bool) → (T t → a < b) → (T (not t) → b ≤ a) → (a < b) ⊎ (b ≤ a)
    go true y n = inl (y tt)
    go false y n = inr (n tt)

module _ (a : ℕ) where
  pub size_one : a < 0x80 → char_size a ≡ 1
  unfolding char_size
  size_one h = simp (lt-ltb a 0x80 h)

  pub size_low : 0x80 ≤ a → a < 0xC2 → char_size a ≡ 0
  unfolding char_size
  size_low l h = simp (le-ltb a 0x80 l, lt-ltb a 0xC2 h)

  pub size_two : 0xC2 ≤ a → a < 0xE0 → char_size a ≡ 2
  unfolding char_size
  size_two l h = simp (le-ltb a 0x80 (omega arith), le-ltb a 0xC2 l, lt-ltb a 0xE0 h)

  pub size_three : 0xE0 ≤ a → a < 0xF0 → char_size a ≡ 3
  unfolding char_size
  size_three l h = simp (le-ltb a 0x80 (omega arith), le-ltb a 0xC2 (omega arith), le-ltb a 0xE0 l, lt-ltb a 0xF0 h)

  pub size_four : 0xF0 ≤ a → a < 0xF5 → char_size a ≡ 4
  unfolding char_size
  size_four l h =
      simp (le-ltb a 0x80 (omega arith), le-ltb a 0xC2 (omega arith), le-ltb a 0xE0 (omega arith), le-ltb a 0xF0 l, lt-ltb a 0xF5 h)

  pub size_high : 0xF5 ≤ a → char_size a ≡ 0
  unfolding char_size
  size_high l =
      simp (le-ltb a 0x80 (omega arith), le-ltb a 0xC2 (omega arith), le-ltb a 0xE0 (omega arith), le-ltb a 0xF0 (omega arith), le-ltb a 0xF5 l)

module _ {X : Type 0} (a : ℕ) where
  pub by_size : (a < 0x80 → char_size a ≡ 1 → X) → (0x80 ≤ a → a < 0xC2 → char_size a ≡ 0 → X) → (0xC2 ≤ a → a < 0xE0 → char_size a ≡ 2 → X)
      → (0xE0 ≤ a → a < 0xF0 → char_size a ≡ 3 → X) → (0xF0 ≤ a → a < 0xF5 → char_size a ≡ 4 → X) → (0xF5 ≤ a → char_size a ≡ 0 → X) → X
  by_size one low two three four high =
      ⊎_elim (λ h. one h (size_one a h)) (λ l.
      ⊎_elim (λ h. low l h (size_low a l h)) (λ m.
      ⊎_elim (λ h. two m h (size_two a m h)) (λ n.
      ⊎_elim (λ h. three n h (size_three a n h)) (λ o.
      ⊎_elim (λ h. four o h (size_four a o h)) (λ p. high p (size_high a p))
      (lt_or_ge a 0xF5)) (lt_or_ge a 0xF0)) (lt_or_ge a 0xE0)) (lt_or_ge a 0xC2)) (lt_or_ge a 0x80)

-- what is due behind a first byte: nothing, or the second byte and n tails
unfoldable pub tails : ℕ → List Range
tails zero = []
tails (suc n) = utf8_tail ∷ tails n

unfoldable pub due : ℕ → ℕ → List Range
due a zero = []
due a (suc n) = second a ∷ tails n

module _ (a : ℕ) (bs : List ℕ) where
  pub lead_one : a < 0x80 → octets [] (a ∷ bs) ≡ octets [] bs
  unfolding utf8_char nth alone earlier later
  lead_one h = row a bs 0 refl (omega arith) (omega arith)

  pub lead_two : 0xC2 ≤ a → a < 0xE0 → octets [] (a ∷ bs) ≡ octets (second a ∷ []) bs
  unfolding utf8_char nth alone earlier later
  lead_two l h =
      row a bs 1 refl l (omega arith)
      ∙ ap (λ r. octets (r ∷ []) bs) (sym (second_tail a (omega arith) (omega arith) (omega arith) (omega arith)))

  pub lead_three : 0xE0 ≤ a → a < 0xF0 → octets [] (a ∷ bs) ≡ octets (second a ∷ utf8_tail ∷ []) bs
  unfolding utf8_char nth alone earlier later
  lead_three l h =
      ⊎_elim (λ p. row a bs 2 refl (omega arith) (omega arith) ∙ back (second_E0 a (omega arith))) (λ p.
      ⊎_elim (λ q. row a bs 3 refl (omega arith) (omega arith) ∙ back (plain (omega arith) (omega arith))) (λ q.
      ⊎_elim (λ r. row a bs 4 refl (omega arith) (omega arith) ∙ back (second_ED a (omega arith)))
      (λ r. row a bs 5 refl (omega arith) (omega arith) ∙ back (plain (omega arith) (omega arith)))
      (lt_or_ge a 0xEE)) (lt_or_ge a 0xED)) (lt_or_ge a 0xE1)
    where
      back : {r : Range} → second a ≡ r → octets (r ∷ utf8_tail ∷ []) bs ≡ octets (second a ∷ utf8_tail ∷ []) bs
      back e = ap (λ r. octets (r ∷ utf8_tail ∷ []) bs) (sym e)

      plain : (a ≡ 0xE0 → ⊥) → (a ≡ 0xED → ⊥) → second a ≡ utf8_tail
      plain p q = second_tail a p q (omega arith) (omega arith)

  pub lead_four : 0xF0 ≤ a → a < 0xF5 → octets [] (a ∷ bs) ≡ octets (second a ∷ utf8_tail ∷ utf8_tail ∷ []) bs
  unfolding utf8_char nth alone earlier later
  lead_four l h =
      ⊎_elim (λ p. row a bs 6 refl (omega arith) (omega arith) ∙ back (second_F0 a (omega arith))) (λ p.
      ⊎_elim (λ q. row a bs 7 refl (omega arith) (omega arith) ∙ back (second_tail a (omega arith) (omega arith) (omega arith) (omega arith)))
      (λ q. row a bs 8 refl (omega arith) (omega arith) ∙ back (second_F4 a (omega arith)))
      (lt_or_ge a 0xF4)) (lt_or_ge a 0xF1)
    where
      back : {r : Range} → second a ≡ r → octets (r ∷ utf8_tail ∷ utf8_tail ∷ []) bs ≡ octets (second a ∷ utf8_tail ∷ utf8_tail ∷ []) bs
      back e = ap (λ r. octets (r ∷ utf8_tail ∷ utf8_tail ∷ []) bs) (sym e)

  -- a byte that announces n more leaves them due
  pub lead : (n : ℕ) → char_size a ≡ suc n → octets [] (a ∷ bs) ≡ octets (due a n) bs
  unfolding due tails
  lead n e =
      by_size a (λ h q. lead_one h ∙ at 0 (omega arith)) (λ l h q. absurd (omega arith))
      (λ l h q. lead_two l h ∙ at 1 (omega arith)) (λ l h q. lead_three l h ∙ at 2 (omega arith))
      (λ l h q. lead_four l h ∙ at 3 (omega arith)) (λ l q. absurd (omega arith))
    where
      at : (m : ℕ) → m ≡ n → octets (due a m) bs ≡ octets (due a n) bs
      at m q = ap (λ k. octets (due a k) bs) q

  -- a byte that announces none begins nothing
  pub no_lead : char_size a ≡ 0 → octets [] (a ∷ bs) ≡ false
  no_lead e =
      by_size a (λ h q. absurd (omega arith)) (λ l h q. row_low a bs l h) (λ l h q. absurd (omega arith))
      (λ l h q. absurd (omega arith)) (λ l h q. absurd (omega arith)) (λ l q. row_high a bs l)

pub size_most : (a : ℕ) → char_size a ≤ 4
size_most a = by_size a (λ h q. omega arith) (λ l h q. omega arith) (λ l h q. omega arith) (λ l h q. omega arith) (λ l h q. omega arith) (λ l q. omega arith)
