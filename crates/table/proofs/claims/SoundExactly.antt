-- Question 9 gets a yes exactly for the tables that are sound by places.
-- Assumes nothing.
use Rattle.std.proofs.Common.{◌≡◌, ℕ, zero, suc, ◌+◌, ◌*◌, ◌%◌, ◌<◌, ◌≤◌, true, ◌&&◌, ◌||◌, eqb, ltb, leb, ◌⊎◌, List, [], ◌∷◌, length, get_or, sym, refl, ap, ◌∙◌, subst, ap₂, inl, inr, ⊎_elim, suc-le-suc, zero-le, le_of_suc-le-suc, not-suc-le-zero, arith, ltb-true, lt-ltb, eq-eqb, eqb-true, le-leb, leb-true}
use mathlib.Core.Bool.{false≢true}
use Rattle.table.specs.Lists.{every, sum_of}
use Rattle.table.specs.Table.{Field, within_kind, upper, letter_or_digit, label_rest, legal_label, legal_field, shares_right, known_edition}
use Rattle.table.specs.View.{Words, states_of, branches_of, sort_at, owner_at, word_at, field_at, share_at, edition_of, label_of, regular_of, sound_of, sound_at}
use Rattle.table.specs.Sound.{label_byte, Capital, LetterOrDigit, LabelBytes, Bounds, added, OfState, Sound, SoundExactly, SoundAtExactly}
use Rattle.table.proofs.laws.Lists.{both, join, either, or_left, or_right, every_upto, upto_every}
use Rattle.table.proofs.laws.View.{Facts, edition_sound, shares_sound, sound_facts, labels_apart, facts_apart}
use Rattle.table.proofs.laws.SharesRight.{choice_sum, choice_at, choice_by, shares_of, kept_is}

-- ---- labels

between : (low high c : ℕ) → (leb low c && leb c high) ≡ true → (low ≤ c) × (c ≤ high)
between low high c e = let p = both (leb low c) (leb c high) e in (leb-true low c p.0, leb-true c high p.1)

inside : (low high c : ℕ) → (low ≤ c) × (c ≤ high) → (leb low c && leb c high) ≡ true
inside low high c p = join (le-leb low c p.0) (le-leb c high p.1)

letter_is : (c : ℕ) → letter_or_digit c ≡ true → LetterOrDigit c
unfolding letter_or_digit
letter_is c e =
    ⊎_elim (λ h. ⊎_elim (λ u. inl (between 65 90 c u)) (λ l. inr (inl (between 97 122 c l))) (either (leb 65 c && leb c 90) (leb 97 c && leb c 122) h))
    (λ d. inr (inr (between 48 57 c d))) (either ((leb 65 c && leb c 90) || (leb 97 c && leb c 122)) (leb 48 c && leb c 57) e)

is_letter : (c : ℕ) → LetterOrDigit c → letter_or_digit c ≡ true
unfolding letter_or_digit
is_letter c (inl u) = or_left _ (or_left _ (inside 65 90 c u))
is_letter c (inr (inl l)) = or_left _ (or_right (leb 65 c && leb c 90) (inside 97 122 c l))
is_letter c (inr (inr d)) = or_right ((leb 65 c && leb c 90) || (leb 97 c && leb c 122)) (inside 48 57 c d)

-- 0x00 to the end
zeros_at : (r : List ℕ) → every (λ x. eqb x 0) r ≡ true → (j : ℕ) → j < length r → get_or r j 0 ≡ 0
unfolding every
zeros_at [] e j l = absurd (not-suc-le-zero l)
zeros_at (c ∷ r) e zero l = eqb-true c 0 (both (eqb c 0) (every (λ x. eqb x 0) r) e).0
zeros_at (c ∷ r) e (suc j) l = zeros_at r (both (eqb c 0) (every (λ x. eqb x 0) r) e).1 j (le_of_suc-le-suc l)

zeros_by : (r : List ℕ) → ((j : ℕ) → j < length r → get_or r j 0 ≡ 0) → every (λ x. eqb x 0) r ≡ true
unfolding every
zeros_by [] h = refl
zeros_by (c ∷ r) h = join (eq-eqb c 0 (h zero (suc-le-suc zero-le))) (zeros_by r (λ j l. h (suc j) (suc-le-suc l)))

-- letters and digits up to a place, from there on 0x00
record Rest (r : List ℕ) : Type 0 where
  size : ℕ
  most : size ≤ length r
  letters : (j : ℕ) → j < size → LetterOrDigit (get_or r j 0)
  filling : (j : ℕ) → size ≤ j → j < length r → get_or r j 0 ≡ 0

rest_is : (r : List ℕ) → label_rest r ≡ true → Rest r
unfolding label_rest
rest_is [] e = record { size = 0; most = zero-le; letters = λ j l. absurd (not-suc-le-zero l); filling = λ j a l. absurd (not-suc-le-zero l) }
rest_is (c ∷ r) e = go (either (letter_or_digit c && label_rest r) (every (λ x. eqb x 0) (c ∷ r)) e) (λ h. rest_is r h)
  where
    go : ((letter_or_digit c && label_rest r) ≡ true) ⊎ (every (λ x. eqb x 0) (c ∷ r) ≡ true) → (label_rest r ≡ true → Rest r) → Rest (c ∷ r)
    go (inr z) i =
        record { size = 0; most = zero-le; letters = λ j l. absurd (not-suc-le-zero l); filling = λ j a l. zeros_at (c ∷ r) z j l }
    go (inl p) i =
        let h = both (letter_or_digit c) (label_rest r) p in
        let x = i h.1 in
        record { size = suc x.size; most = suc-le-suc x.most; letters = letter x h.0; filling = zero_from x }
      where
        letter : (x : Rest r) → letter_or_digit c ≡ true → (j : ℕ) → j < suc x.size → LetterOrDigit (get_or (c ∷ r) j 0)
        letter x h zero l = letter_is c h
        letter x h (suc j) l = x.letters j (le_of_suc-le-suc l)

        zero_from : (x : Rest r) (j : ℕ) → suc x.size ≤ j → j < length (c ∷ r) → get_or (c ∷ r) j 0 ≡ 0
        zero_from x zero a l = absurd (not-suc-le-zero a)
        zero_from x (suc j) a l = x.filling j (le_of_suc-le-suc a) (le_of_suc-le-suc l)

is_rest : (r : List ℕ) (n : ℕ) → n ≤ length r → ((j : ℕ) → j < n → LetterOrDigit (get_or r j 0))
    → ((j : ℕ) → n ≤ j → j < length r → get_or r j 0 ≡ 0) → label_rest r ≡ true
unfolding label_rest
is_rest [] n m a b = refl
is_rest (c ∷ r) zero m a b = or_right (letter_or_digit c && label_rest r) (zeros_by (c ∷ r) (λ j l. b j zero-le l))
is_rest (c ∷ r) (suc n) m a b =
    or_left _ (join (is_letter c (a zero (suc-le-suc zero-le)))
    (is_rest r n (le_of_suc-le-suc m) (λ j l. a (suc j) (suc-le-suc l)) (λ j h l. b (suc j) (suc-le-suc h) (suc-le-suc l))))

-- the eight bytes of a word
byte_is : (w j : ℕ) → j < 8 → get_or (label_of w) j 0 ≡ label_byte w j
unfolding label_of
byte_is w zero l = refl
byte_is w (suc zero) l = refl
byte_is w (suc (suc zero)) l = refl
byte_is w (suc (suc (suc zero))) l = refl
byte_is w (suc (suc (suc (suc zero)))) l = refl
byte_is w (suc (suc (suc (suc (suc zero))))) l = refl
byte_is w (suc (suc (suc (suc (suc (suc zero)))))) l = refl
byte_is w (suc (suc (suc (suc (suc (suc (suc zero))))))) l = omega arith
byte_is w (suc (suc (suc (suc (suc (suc (suc (suc j)))))))) l = absurd (omega arith)

label_is : (w : ℕ) → legal_label (label_of w) ≡ true → LabelBytes w
unfolding legal_label upper
label_is w e = go (label_of w) (byte_is w) e
  where
    go : (r : List ℕ) → ((j : ℕ) → j < 8 → get_or r j 0 ≡ label_byte w j) → legal_label r ≡ true → LabelBytes w
    go [] f e = absurd (false≢true e)
    go (c ∷ r) f e =
        let p = both (upper c && label_rest r) (eqb (length r) 7) e in
        let q = both (upper c) (label_rest r) p.0 in
        let n : length r ≡ 7 = eqb-true (length r) 7 p.1 in
        let u = between 65 90 c q.0 in
        let x = rest_is r q.1 in
        record {
          size = suc x.size;
          some = suc-le-suc zero-le;
          most = omega (arith, x.most);
          first = subst Capital (f 0 (omega arith)) u;
          letters = λ j l. letter x u n j l;
          filling = λ j a l. zero_from x n j a l;
        }
      where
        letter : (x : Rest r) → Capital c → length r ≡ 7 → (j : ℕ) → j < suc x.size → LetterOrDigit (label_byte w j)
        letter x u n zero l = subst LetterOrDigit (f 0 (omega arith)) (inl u)
        letter x u n (suc j) l = subst LetterOrDigit (f (suc j) (omega (arith, x.most))) (x.letters j (le_of_suc-le-suc l))

        zero_from : (x : Rest r) → length r ≡ 7 → (j : ℕ) → suc x.size ≤ j → j < 8 → label_byte w j ≡ 0
        zero_from x n zero a l = absurd (not-suc-le-zero a)
        zero_from x n (suc j) a l = sym (f (suc j) l) ∙ x.filling j (le_of_suc-le-suc a) (omega arith)

is_label : (w : ℕ) → LabelBytes w → legal_label (label_of w) ≡ true
unfolding legal_label label_of upper
is_label w x = go x.size x.some x.most x.letters x.filling
  where
    r : List ℕ
    r = label_byte w 1 ∷ label_byte w 2 ∷ label_byte w 3 ∷ label_byte w 4 ∷ label_byte w 5 ∷ label_byte w 6 ∷ w % 256 ∷ []

    at : (j : ℕ) → j < 7 → get_or r j 0 ≡ label_byte w (suc j)
    at j l = byte_is w (suc j) (suc-le-suc l)

    go : (n : ℕ) → 1 ≤ n → n ≤ 8 → ((j : ℕ) → j < n → LetterOrDigit (label_byte w j)) → ((j : ℕ) → n ≤ j → j < 8 → label_byte w j ≡ 0)
        → legal_label (label_of w) ≡ true
    go zero l m a b = absurd (not-suc-le-zero l)
    go (suc n) l m a b =
        join (join (inside 65 90 (label_byte w 0) x.first)
        (is_rest r n (le_of_suc-le-suc m) (λ j h. subst LetterOrDigit (sym (at j (omega arith))) (a (suc j) (suc-le-suc h)))
        (λ j h k. at j k ∙ b (suc j) (suc-le-suc h) (suc-le-suc k))))
        refl

-- ---- ranges

range_is : (f : Field) → legal_field f ≡ true → Bounds f.kind f.low f.high
unfolding legal_field within_kind
range_is f e =
    let p = both (within_kind f.kind f.low && within_kind f.kind f.high) (leb f.low f.high) e in
    let q = both (within_kind f.kind f.low) (within_kind f.kind f.high) p.0 in
    (leb-true f.low f.high p.1, go f.kind q.0 q.1)
  where
    go : (k : ℕ) → within_kind k f.low ≡ true → within_kind k f.high ≡ true
        → ((k ≡ 0) × (f.high < 4294967296))
        ⊎ (((k ≡ 1) × (2147483648 ≤ f.low) × (f.high ≤ 2147483712)) ⊎ ((k ≡ 2) × (2147483648 ≤ f.low) × (f.high ≤ 2147483649)))
    go zero a b = inl (refl, ltb-true f.high 4294967296 b)
    go (suc zero) a b = inr (inl (refl, (between 2147483648 2147483712 f.low a).0, (between 2147483648 2147483712 f.high b).1))
    go (suc (suc zero)) a b = inr (inr (refl, (between 2147483648 2147483649 f.low a).0, (between 2147483648 2147483649 f.high b).1))
    go (suc (suc (suc k))) a b = absurd (false≢true a)

is_range : (f : Field) → Bounds f.kind f.low f.high → legal_field f ≡ true
unfolding legal_field within_kind
is_range f (o, inl (e, h)) =
    rw e (join (join (lt-ltb f.low 4294967296 (omega arith)) (lt-ltb f.high 4294967296 h)) (le-leb f.low f.high o))
is_range f (o, inr (inl (e, l, h))) =
    rw e (join (join (inside 2147483648 2147483712 f.low (l, omega arith)) (inside 2147483648 2147483712 f.high (omega arith, h))) (le-leb f.low f.high o))
is_range f (o, inr (inr (e, l, h))) =
    rw e (join (join (inside 2147483648 2147483649 f.low (l, omega arith)) (inside 2147483648 2147483649 f.high (omega arith, h))) (le-leb f.low f.high o))

-- ---- shares

module _ (t : Words) where
  abbrev SharesOf : ℕ → Type 0
  SharesOf i =
      OfState t i (λ k. share_at t k ≡ 0)
      ⊎ (OfState t i (λ k. (1 ≤ share_at t k) × (share_at t k ≤ 1000)) × (added t (share_at t) i (branches_of t) ≡ 1000))

  shares_are : (i : ℕ) → shares_right (shares_of t (branches_of t) i) ≡ true → SharesOf i
  unfolding shares_right
  shares_are i e =
      let n = branches_of t in
      let ws = shares_of t n i in
      ⊎_elim (λ z. inl (λ k l o. eqb-true (share_at t k) 0 (choice_at t (λ w. eqb w 0) (share_at t) i n z k l o)))
      (λ h.
      let p = both (every (λ w. leb 1 w && leb w 1000) ws) (eqb (sum_of ws) 1000) h in
      inr (
        λ k l o. between 1 1000 (share_at t k) (choice_at t (λ w. leb 1 w && leb w 1000) (share_at t) i n p.0 k l o),
        sym (choice_sum t (share_at t) i n) ∙ eqb-true (sum_of ws) 1000 p.1,
      ))
      (either (every (λ w. eqb w 0) ws) (every (λ w. leb 1 w && leb w 1000) ws && eqb (sum_of ws) 1000) e)

  are_shares : (i : ℕ) → SharesOf i → shares_right (shares_of t (branches_of t) i) ≡ true
  unfolding shares_right
  are_shares i (inl z) = or_left _ (choice_by t (λ w. eqb w 0) (share_at t) i (branches_of t) (λ k l o. eq-eqb (share_at t k) 0 (z k l o)))
  are_shares i (inr (h, s)) =
      let n = branches_of t in
      or_right (every (λ w. eqb w 0) (shares_of t n i))
      (join (choice_by t (λ w. leb 1 w && leb w 1000) (share_at t) i n (λ k l o. inside 1 1000 (share_at t k) (h k l o)))
      (eq-eqb (sum_of (shares_of t n i)) 1000 (choice_sum t (share_at t) i n ∙ s)))

-- ---- the whole

edition_is : (e : ℕ) → known_edition e ≡ true → (e ≡ 1) ⊎ (e ≡ 2)
unfolding known_edition
edition_is e h = ⊎_elim (λ a. inl (eqb-true e 1 a)) (λ b. inr (eqb-true e 2 b)) (either (eqb e 1) (eqb e 2) h)

is_edition : (e : ℕ) → (e ≡ 1) ⊎ (e ≡ 2) → known_edition e ≡ true
unfolding known_edition
is_edition e (inl h) = or_left _ (eq-eqb e 1 h)
is_edition e (inr h) = or_right (eqb e 1) (eq-eqb e 2 h)

-- equal bytes make equal labels
bytes_same : (v w : ℕ) → ((i : ℕ) → i < 8 → label_byte v i ≡ label_byte w i) → label_of v ≡ label_of w
unfolding label_of
bytes_same v w h =
    let last : v % 256 ≡ w % 256 = omega (arith, h 7 (omega arith)) in
    ap₂ ◌∷◌ (h 0 (omega arith)) (ap₂ ◌∷◌ (h 1 (omega arith)) (ap₂ ◌∷◌ (h 2 (omega arith)) (ap₂ ◌∷◌ (h 3 (omega arith))
    (ap₂ ◌∷◌ (h 4 (omega arith)) (ap₂ ◌∷◌ (h 5 (omega arith)) (ap₂ ◌∷◌ (h 6 (omega arith)) (ap₂ ◌∷◌ last refl)))))))

same_bytes : (v w : ℕ) → label_of v ≡ label_of w → (i : ℕ) → i < 8 → label_byte v i ≡ label_byte w i
same_bytes v w e i l = sym (byte_is v i l) ∙ ap (λ r. get_or r i 0) e ∙ byte_is w i l

sound_is : (t : Words) → sound_of t ≡ true → Sound t
sound_is t e =
    let f = sound_facts t e in
    record {
      some = f.some;
      few = f.few;
      sorts = f.codes;
      room = f.room;
      ends = λ i l z k m o. f.no_end k m (ap (sort_at t) o ∙ z);
      choices = f.own;
      labels = λ k l. label_is (word_at t k) (f.labels k l);
      differ = λ j k l m o h. labels_apart t e j k l m o (bytes_same (word_at t j) (word_at t k) h);
      counts = f.counts;
      ranges = λ k l i m. range_is (field_at t (4 * k + i)) (f.ranges k l i m);
      owners = f.owners;
      targets = f.targets;
      shares = λ i l.
          shares_are t i (every_upto (λ i. shares_right (shares_of t (branches_of t) i)) (states_of t) (λ i. i) (sym (kept_is t (branches_of t) refl) ∙ shares_sound t e) i l);
      edition = edition_is (edition_of t) (edition_sound t e);
    }

is_sound : (t : Words) → Sound t → sound_of t ≡ true
unfolding sound_of regular_of
is_sound t s =
    join (is_edition (edition_of t) s.edition)
    (join (facts_apart t (λ j k l m o h. s.differ j k l m o (same_bytes (word_at t j) (word_at t k) h)) f)
    (kept_is t (branches_of t) refl
    ∙ upto_every (λ i. shares_right (shares_of t (branches_of t) i)) (states_of t) (λ i. i) (λ i l. are_shares t i (s.shares i l))))
  where
    f : Facts t
    f =
        record {
          some = s.some;
          few = s.few;
          room = s.room;
          codes = s.sorts;
          owners = s.owners;
          targets = s.targets;
          counts = s.counts;
          labels = λ k l. is_label (word_at t k) (s.labels k l);
          ranges = λ k l i m. is_range (field_at t (4 * k + i)) (s.ranges k l i m);
          no_end = λ k l z. s.ends (owner_at t k) (s.owners k l) z k l refl;
          own = s.choices;
          differ = λ i j l m o w. s.differ i j l m o (λ b h. ap (λ w. label_byte w b) w);
        }

pub sound_exactly : SoundExactly
sound_exactly t = (sound_is t, is_sound t)

pub sound_at_exactly : SoundAtExactly
unfolding sound_at
sound_at_exactly t p = (
  λ e. let h = both (sound_of t) (ltb p (states_of t)) e in (sound_is t h.0, ltb-true p (states_of t) h.1),
  λ x. join (is_sound t x.0) (lt-ltb p (states_of t) x.1),
)
