-- Characters by their places in the bytes, and eight ASCII bytes in one word. Assumes nothing.
use mathlib.Core.Path.{◌≡◌, refl, sym, ap, ap₂, subst, ◌∙◌}
use mathlib.Core.Logic.{⊎_elim}
use mathlib.Core.Bool.{Bool, true, false, ◌&&◌, ◌||◌}
use mathlib.Core.List.{List, [], ◌∷◌, ◌++◌}
use Prim.Native.Nat.{ℕ, zero, suc, ◌+◌, ◌-◌, ◌*◌, ◌/◌, ◌%◌, ◌≤◌, ◌<◌}
use native.Mathlib.Nat.{not-suc-le-zero, le_of_suc-le-suc, add-zero, mod-eq_of_lt}
use native.Mathlib.Numerals.{add-one}
use native.Mathlib.Omega.{arith}
use lib.ListN.{length, get_or, take, drop, length-drop, length-append, get_or-append, drop_of_length-le}
use lib.Seq.{drop-cons, get_or-take, get_or-drop, drop-append_seam, drop-drop}
use lib.Dec.{lit<, eqb, ltb}
use borrow.Author.Tests.{eq-eqb, ne_eqb, lt-ltb, le-ltb}
use lib.Bits.{bit_and, bit_or, and_block, and_high, and_le_l, and_le_r, or_add_and}
use Rattle.std.specs.Prelude.{Some, None}
use Rattle.std.specs.Bool.{then_some}
use Rattle.std.specs.Int.{w64, from_le_bytes}
use Rattle.utf8.specs.Utf8.{Range, ◌to◌, utf8_tail, within, octets, is_utf8}
use Rattle.utf8.specs.inner.Characters.{char_size, second, is_ascii, WholeChars, Ascii, AsciiTo, Width}
use Rattle.utf8.proofs.laws.Utf8.{inside, above, both, within_says, tails, due, lead, no_lead, lead_one, lt_or_ge, size_most}

fails : (t : Bool) {u : Bool} → u ≡ false → (t && u) ≡ false
fails true e = e
fails false e = refl

and_all : (a b c x t : Bool) → t ≡ (a && b && c) → (a && (b && (c && x))) ≡ (t && x)
and_all true true c x t e = ap (λ u. u && x) (sym e)
and_all true false c x t e = ap (λ u. u && x) (sym e)
and_all false b c x t e = ap (λ u. u && x) (sym e)

-- too few bytes for what is due
cut : (rs : List Range) (bs : List ℕ) → length bs < length rs → octets rs bs ≡ false
unfolding octets
cut [] [] l = absurd (not-suc-le-zero l)
cut [] (b ∷ bs) l = absurd (not-suc-le-zero l)
cut (r ∷ rs) [] l = refl
cut (r ∷ rs) (b ∷ bs) l = fails (within r b) (cut rs bs (le_of_suc-le-suc l))

tails_length : (n : ℕ) → length (tails n) ≡ n
unfolding tails
tails_length zero = refl
tails_length (suc n) = ap suc (tails_length n)

due_length : (a n : ℕ) → length (due a n) ≡ n
unfolding due
due_length a zero = refl
due_length a (suc n) = ap suc (tails_length n)

-- ---- a word of bytes, one byte after another, and the high bit of each

unfoldable horner : (ℕ → ℕ) → ℕ → ℕ
horner f zero = 0
horner f (suc n) = horner f n * 256 + f n

unfoldable mask : ℕ → ℕ
mask zero = 0
mask (suc n) = mask n * 256 + 128

high_bits : (x m b : ℕ) → b < 256 → bit_and (x * 256 + b) (m * 256 + 128) ≡ 0 → (bit_and x m ≡ 0) × (b < 128)
high_bits x m b h e =
    let s : bit_and x m * 256 + bit_and b 128 ≡ 0 = sym (and_block 8 x m b 128 h (lit< tt)) ∙ e in
    let t : bit_and b 128 ≡ b / 128 % 2 * 128 = and_high b 1 7 in
    go (bit_and x m) (bit_and b 128) s t
  where
    go : (u v : ℕ) → u * 256 + v ≡ 0 → v ≡ b / 128 % 2 * 128 → (u ≡ 0) × (b < 128)
    go u v s t =
        let m : b / 128 % 2 ≡ b / 128 = mod-eq_of_lt (omega arith) in
        let q : b / 128 ≡ 0 = omega arith in
        (omega arith, omega arith)

-- two numbers that have no bit together have none
pub neither_bits : (a b : ℕ) → bit_or a b ≡ 0 → (a ≡ 0) × (b ≡ 0)
neither_bits a b e =
    let s = or_add_and a b in
    (omega (arith, s, e, and_le_r a b), omega (arith, s, e, and_le_l a b))

all_low : (f : ℕ → ℕ) → ((i : ℕ) → f i < 256) → (n : ℕ) → bit_and (horner f n) (mask n) ≡ 0 → (i : ℕ) → i < n → f i < 128
unfolding horner mask
all_low f small zero e i l = absurd (not-suc-le-zero l)
all_low f small (suc n) e i l =
    let p = high_bits (horner f n) (mask n) (f n) (small n) e in
    ⊎_elim (λ (m : i < n). all_low f small n p.0 i m) (λ (m : n ≤ i). let q : i ≡ n = omega arith in rw q p.1) (lt_or_ge i n)

-- eight bytes, the last of them highest
word : (s : List ℕ) → from_le_bytes w64 s ≡ horner (λ i. get_or s (7 - i) 0) 8
unfolding horner
word s = omega arith

module _ (bs : List ℕ) where
  abbrev at : ℕ → ℕ
  at k = get_or bs k 0

  from : (k : ℕ) → k < length bs → drop k bs ≡ at k ∷ drop (k + 1) bs
  from k l = drop-cons bs k 0 l ∙ ap (λ j. at k ∷ drop j bs) (sym (add-one k))

  -- one byte that was due
  taken : (r : Range) (rs : List Range) (k j : ℕ) {t : Bool} → k < length bs → k + 1 ≡ j → within r (at k) ≡ t
      → octets (r ∷ rs) (drop k bs) ≡ (t && octets rs (drop j bs))
  unfolding octets
  taken r rs k j l q e = ap (octets (r ∷ rs)) (from k l) ∙ ap₂ (λ t i. t && octets rs (drop i bs)) e q

  -- a character's first byte
  begun : (k n : ℕ) → k < length bs → char_size (at k) ≡ suc n → is_utf8 (drop k bs) ≡ octets (due (at k) n) (drop (k + 1) bs)
  unfolding is_utf8
  begun k n l e = ap (octets []) (from k l) ∙ lead (at k) (drop (k + 1) bs) n e

  yes : (k n : ℕ) → 0 < n → k + n ≤ length bs → is_utf8 (drop k bs) ≡ is_utf8 (drop (k + n) bs) → Width bs k (Some n)
  yes k n p l e = (p, record { onward = omega arith; inside = l; same = e })

  -- ---- the ways out of `width`, at a place k

  module _ (k : ℕ) (l : k < length bs) where
    pub width_cut : length bs - k < char_size (at k) → Width bs k None
    width_cut h =
        let m = char_size (at k) - 1 in
        let e : char_size (at k) ≡ suc m = omega arith in
        begun k m l e ∙ cut (due (at k) m) (drop (k + 1) bs) (omega (arith, due_length (at k) m, length-drop (k + 1) bs))

    pub width_none : char_size (at k) ≡ 0 → Width bs k None
    unfolding is_utf8
    width_none e = ap (octets []) (from k l) ∙ no_lead (at k) (drop (k + 1) bs) e

    pub width_one : char_size (at k) ≡ 1 → Width bs k (Some 1)
    unfolding is_utf8 due
    width_one e = yes k 1 (omega arith) (omega arith) (begun k 0 l e)

    module _ (n : ℕ) (e : char_size (at k) ≡ n) (room : n ≤ length bs - k) where
      -- the second byte, with m tails due behind it
      and_second : (m : ℕ) {t : Bool} → n ≡ suc (suc m) → within (second (at k)) (at (k + 1)) ≡ t
          → is_utf8 (drop k bs) ≡ (t && octets (tails m) (drop (k + 2) bs))
      unfolding due
      and_second m f q = begun k (suc m) l (e ∙ f) ∙ taken (second (at k)) (tails m) (k + 1) (k + 2) (omega arith) (omega arith) q

      -- a tail at k + i, with m more behind it
      and_tail : (i j m : ℕ) {t : Bool} → i < n → i + 1 ≡ j → within utf8_tail (at (k + i)) ≡ t
          → octets (tails (suc m)) (drop (k + i) bs) ≡ (t && octets (tails m) (drop (k + j) bs))
      unfolding tails
      and_tail i j m h f q = taken utf8_tail (tails m) (k + i) (k + j) (omega arith) (omega arith) q

      ending : 2 ≤ n → (t : Bool) → is_utf8 (drop k bs) ≡ (t && is_utf8 (drop (k + n) bs)) → Width bs k (then_some t n)
      ending h true q = yes k n (omega arith) (omega arith) q
      ending h false q = q

      -- the bytes that are due decide
      pub width_longer : 2 ≤ n → (t : Bool) → t ≡ (within (second (at k)) (at (k + 1)) && (ltb n 3 || within utf8_tail (at (k + 2)))
          && (ltb n 4 || within utf8_tail (at (k + 3)))) → Width bs k (then_some t n)
      unfolding tails is_utf8
      width_longer h t q =
          let s = within (second (at k)) (at (k + 1)) in
          let u = within utf8_tail (at (k + 2)) in
          let v = within utf8_tail (at (k + 3)) in
          let end = octets [] (drop (k + n) bs) in
          ⊎_elim (λ (l : n < 3).
          let f : n ≡ 2 = omega arith in
          ending h t (and_second 0 f refl ∙ ap (λ j. s && octets [] (drop (k + j) bs)) (sym f)
          ∙ and_all s true true end t (q ∙ ap₂ (λ x y. s && (x || u) && (y || v)) (lt-ltb n 3 l) (lt-ltb n 4 (omega arith))))) (λ l.
          ⊎_elim (λ (m : n < 4).
          let f : n ≡ 3 = omega arith in
          ending h t (and_second 1 f refl ∙ ap (λ x. s && x) (and_tail 2 3 0 (omega arith) refl refl)
          ∙ ap (λ j. s && (u && octets [] (drop (k + j) bs))) (sym f)
          ∙ and_all s u true end t (q ∙ ap₂ (λ x y. s && (x || u) && (y || v)) (le-ltb n 3 l) (lt-ltb n 4 m)))) (λ m.
          let f : n ≡ 4 = omega (arith, size_most (at k)) in
          ending h t (and_second 2 f refl ∙ ap (λ x. s && x) (and_tail 2 3 1 (omega arith) refl refl)
          ∙ ap (λ x. s && (u && x)) (and_tail 3 4 0 (omega arith) refl refl)
          ∙ ap (λ j. s && (u && (v && octets [] (drop (k + j) bs)))) (sym f)
          ∙ and_all s u v end t (q ∙ ap₂ (λ x y. s && (x || u) && (y || v)) (le-ltb n 3 l) (le-ltb n 4 m))))
          (lt_or_ge n 4)) (lt_or_ge n 3)

  -- ---- ASCII

  ascii_run : (k n : ℕ) → k + n ≤ length bs → ((i : ℕ) → i < n → at (k + i) < 128) → is_utf8 (drop k bs) ≡ is_utf8 (drop (k + n) bs)
  unfolding is_utf8
  ascii_run k zero l h = ap (λ j. octets [] (drop j bs)) (sym (add-zero k))
  ascii_run k (suc n) l h =
      let q : k + n + 1 ≡ k + suc n = omega arith in
      ascii_run k n (omega arith) (λ i m. h i (omega arith)) ∙ ap (octets []) (from (k + n) (omega arith))
      ∙ lead_one (at (k + n)) (drop (k + n + 1) bs) (h n (omega arith)) ∙ ap (λ j. octets [] (drop j bs)) q

  -- a word of the eight bytes at k has no high bit only where they have none
  pub ascii_word : (k : ℕ) (s : List ℕ) → k + 8 ≤ length bs → s ≡ take (k + 8 - k) (drop k bs) → ((i : ℕ) → at i < 256)
      → bit_and (from_le_bytes w64 s) 0x8080_8080_8080_8080 ≡ 0 → Ascii bs k (k + 8)
  unfolding mask
  ascii_word k s l q small e = record { onward = omega arith; inside = l; low = here }
    where
      its : (i : ℕ) → i < 8 → get_or s i 0 ≡ at (k + i)
      its i h = ap (λ t. get_or t i 0) q ∙ get_or-take (k + 8 - k) (drop k bs) i 0 (omega arith) ∙ get_or-drop k bs i 0

      lows : (i : ℕ) → i < 8 → get_or s (7 - i) 0 < 128
      lows = all_low (λ i. get_or s (7 - i) 0) (λ i. rw (its (7 - i) (omega arith)) (small (k + (7 - i)))) 8
          (ap (λ w. bit_and w 0x8080_8080_8080_8080) (sym (word s)) ∙ e)

      here : (j : ℕ) → k ≤ j → j < k + 8 → at j < 128
      here j f g =
          let i = j - k in
          let q : 7 - (7 - i) ≡ i = omega arith in
          let r : k + i ≡ j = omega arith in
          subst (λ n. n < 128) (its i (omega arith) ∙ ap at r) (subst (λ n. get_or s n 0 < 128) q (lows (7 - i) (omega arith)))

  -- ASCII is whole characters
  pub ascii_spans : {i j : ℕ} → Ascii bs i j → WholeChars bs i j
  ascii_spans {i} {j} a = record {
    onward = a.onward;
    inside = a.inside;
    same =
        let n = j - i in
        let q : i + n ≡ j = omega (arith, a.onward) in
        ascii_run i n (omega (arith, a.inside)) (λ k l. a.low (i + k) (omega arith) (omega arith)) ∙ ap (λ k. is_utf8 (drop k bs)) q;
  }

pub ascii_on : {bs : List ℕ} {i j k : ℕ} → Ascii bs i j → Ascii bs j k → Ascii bs i k
ascii_on {bs} {i} {j} {k} a b = record {
  onward = omega (arith, a.onward, b.onward);
  inside = b.inside;
  low = λ n f g. ⊎_elim (λ (l : n < j). a.low n f l) (λ (l : j ≤ n). b.low n l g) (lt_or_ge n j);
}

-- the part at i is ASCII, with the rest behind it
pub ascii_part : (bs : List ℕ) (i n : ℕ) (part rest : List ℕ) → drop i bs ≡ part ++ rest → length part ≡ n → i ≤ length bs
    → Ascii bs 0 i → Ascii part 0 n → Ascii bs 0 (i + n)
ascii_part bs i n part rest q e h a b = record {
  onward = omega arith;
  inside = let s = ap length q in omega (arith, s, e, length-drop i bs, length-append part rest);
  low = λ k f g.
      ⊎_elim (λ (l : k < i). a.low k f l)
      (λ (l : i ≤ k).
      let j : i + (k - i) ≡ k = omega arith in
      let s : get_or bs k 0 ≡ get_or part (k - i) 0 =
      ap (λ n. get_or bs n 0) (sym j) ∙ sym (get_or-drop i bs (k - i) 0) ∙ ap (λ l. get_or l (k - i) 0) q
      ∙ get_or-append part rest 0 (k - i) (omega (arith, e)) in
      subst (λ x. x < 0x80) (sym s) (b.low (k - i) (omega arith) (omega arith)))
      (lt_or_ge k i);
}

pub ascii_behind : (bs : List ℕ) (i n : ℕ) (part rest : List ℕ) → drop i bs ≡ part ++ rest → length part ≡ n → rest ≡ drop (i + n) bs
ascii_behind bs i n part rest q e = sym (drop-append_seam part rest) ∙ ap₂ drop e (sym q) ∙ drop-drop n i bs

pub ascii_to : {bs : List ℕ} {i j k : ℕ} → Ascii bs i j → AsciiTo bs j k → AsciiTo bs i k
ascii_to a b = record { run = ascii_on a b.run; stops = b.stops }

-- all of it
low_all : (bs : List ℕ) → ((k : ℕ) → k < length bs → get_or bs k 0 < 128) → is_ascii bs ≡ true
unfolding is_ascii
low_all [] h = refl
low_all (b ∷ bs) h =
    ap₂ ◌&&◌ (inside (0x00 to 0x7F) b (omega arith) (omega (arith, h 0 (omega arith)))) (low_all bs (λ k l. h (suc k) (omega arith)))

high_one : (bs : List ℕ) (k : ℕ) → k < length bs → 128 ≤ get_or bs k 0 → is_ascii bs ≡ false
unfolding is_ascii
high_one [] k l h = absurd (not-suc-le-zero l)
high_one (b ∷ bs) zero l h = ap (λ t. t && is_ascii bs) (above (0x00 to 0x7F) b (omega arith))
high_one (b ∷ bs) (suc k) l h = fails (within (0x00 to 0x7F) b) (high_one bs k (le_of_suc-le-suc l) h)

pub all_ascii : (bs : List ℕ) (n : ℕ) → AsciiTo bs 0 n → eqb n (length bs) ≡ is_ascii bs
all_ascii bs n a =
    ⊎_elim (λ (l : n < length bs). ne_eqb n (length bs) (omega arith) ∙ sym (high_one bs n l (a.stops l)))
    (λ (l : length bs ≤ n). eq-eqb n (length bs) (omega (arith, a.run.inside)) ∙ sym (low_all bs (λ k m. a.run.low k (omega arith) (omega arith))))
    (lt_or_ge n (length bs))

-- however it is cut
pub ascii_utf8 : (bs : List ℕ) → is_ascii bs ≡ true → is_utf8 bs ≡ true
unfolding is_ascii is_utf8 octets
ascii_utf8 [] e = refl
ascii_utf8 (b ∷ bs) e =
    let p = both (within (0x00 to 0x7F) b) (is_ascii bs) e in
    lead_one b bs (omega (arith, (within_says (0x00 to 0x7F) b p.0).1)) ∙ ascii_utf8 bs p.1

pub ascii_take : (n : ℕ) (bs : List ℕ) → is_ascii bs ≡ true → is_ascii (take n bs) ≡ true
unfolding is_ascii
ascii_take zero bs e = refl
ascii_take (suc n) [] e = refl
ascii_take (suc n) (b ∷ bs) e = let p = both (within (0x00 to 0x7F) b) (is_ascii bs) e in ap₂ ◌&&◌ p.0 (ascii_take n bs p.1)

pub ascii_drop : (n : ℕ) (bs : List ℕ) → is_ascii bs ≡ true → is_ascii (drop n bs) ≡ true
unfolding is_ascii
ascii_drop zero bs e = e
ascii_drop (suc n) [] e = refl
ascii_drop (suc n) (b ∷ bs) e = ascii_drop n bs (both (within (0x00 to 0x7F) b) (is_ascii bs) e).1

-- ---- passing

pub span_on : {bs : List ℕ} {i j k : ℕ} → WholeChars bs i j → WholeChars bs j k → WholeChars bs i k
span_on p q = let a = p.onward in let b = q.onward in record { onward = omega arith; inside = q.inside; same = p.same ∙ q.same }

pub span_all : (bs : List ℕ) (k : ℕ) → WholeChars bs 0 k → length bs ≤ k → true ≡ is_utf8 bs
unfolding is_utf8 octets
span_all bs k p l = sym (p.same ∙ ap (octets []) (drop_of_length-le bs l))
