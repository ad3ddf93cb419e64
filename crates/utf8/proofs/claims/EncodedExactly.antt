-- Bytes are well formed exactly where they encode scalar values, and then one list of them only.
-- Assumes nothing.
use mathlib.Core.Path.{◌≡◌, refl, sym, ap, ap₂, subst, ◌∙◌}
use mathlib.Core.Logic.{◌⊎◌, inl, inr, ⊎_elim}
use mathlib.Core.Bool.{Bool, true, false, ◌&&◌, cond, false≢true}
use mathlib.Core.List.{List, [], ◌∷◌, ◌++◌}
use Prim.Native.Nat.{ℕ, zero, suc, ◌+◌, ◌-◌, ◌*◌, ◌/◌, ◌%◌, ◌≤◌, ◌<◌}
use native.Mathlib.Nat.{not-suc-le-zero}
use native.Mathlib.Omega.{arith}
use lib.ListN.{length, get_or, drop}
use lib.Dec.{ltb, eqb}
use borrow.Author.Tests.{lt-ltb, le-ltb, eqb-true, eqb-false}
use Rattle.utf8.specs.Utf8.{Range, ◌to◌, utf8_tail, within, octets, is_utf8}
use Rattle.utf8.specs.inner.Characters.{second}
use Rattle.utf8.specs.Scalars.{scalar, scalars, encode, encode_all, Encoded, EncodedExactly, EncodedOnce}
use Rattle.utf8.proofs.laws.Utf8.{inside, both, within_says, lt_or_ge, by_size, lead_one, row_low, row_high, lead_two, lead_three, lead_four, second_E0, second_ED, second_F0, second_F4, second_tail}
use Rattle.utf8.proofs.laws.Scalars.{two, three, four, by_range, encode_one, encode_two, encode_three, encode_four, digits_two, digits_three, digits_four, from_two, from_three, from_four, scalar_low, scalar_high, scalar_says}

-- ---- encodings are well formed

same_or : (a b : ℕ) → (a ≡ b) ⊎ (a ≡ b → ⊥)
same_or a b = go (eqb a b) refl
  where
    go : (t : Bool) → eqb a b ≡ t → (a ≡ b) ⊎ (a ≡ b → ⊥)
    go true e = inl (eqb-true a b e)
    go false e = inr (eqb-false a b e)

second_holds : (a b : ℕ) → 0x80 ≤ b → b ≤ 0xBF → (a ≡ 0xE0 → 0xA0 ≤ b) → (a ≡ 0xED → b ≤ 0x9F) → (a ≡ 0xF0 → 0x90 ≤ b) → (a ≡ 0xF4 → b ≤ 0x8F)
    → within (second a) b ≡ true
second_holds a b l h p q r s =
    ⊎_elim (λ e. at (second_E0 a e) (inside (0xA0 to 0xBF) b (p e) h)) (λ e0.
    ⊎_elim (λ e. at (second_ED a e) (inside (0x80 to 0x9F) b l (q e))) (λ ed.
    ⊎_elim (λ e. at (second_F0 a e) (inside (0x90 to 0xBF) b (r e) h)) (λ f0.
    ⊎_elim (λ e. at (second_F4 a e) (inside (0x80 to 0x8F) b l (s e)))
    (λ f4. at (second_tail a e0 ed f0 f4) (inside utf8_tail b l h))
    (same_or a 0xF4)) (same_or a 0xF0)) (same_or a 0xED)) (same_or a 0xE0)
  where
    at : {x : Range} → second a ≡ x → within x b ≡ true → within (second a) b ≡ true
    at e w = ap (λ x. within x b) e ∙ w

-- a byte that is in the range due
next : (q : Range) (qs : List Range) (b : ℕ) (r : List ℕ) → within q b ≡ true → octets (q ∷ qs) (b ∷ r) ≡ octets qs r
unfolding octets
next q qs b r e = ap (λ t. t && octets qs r) e

-- the low digits are tails
next_tail : (qs : List Range) (d : ℕ) (r : List ℕ) → d < 64 → octets (utf8_tail ∷ qs) ((0x80 + d) ∷ r) ≡ octets qs r
next_tail qs d r h = next utf8_tail qs (0x80 + d) r (inside utf8_tail (0x80 + d) (omega arith) (omega arith))

encoded : (n : ℕ) (r : List ℕ) → scalar n ≡ true → octets [] (encode n ++ r) ≡ octets [] r
encoded n r e = by_range n (λ l. octets [] (l ++ r) ≡ octets [] r) (λ h. lead_one n r h) two_bytes three_bytes four_bytes
  where
    says : ((n < 0xD800) ⊎ (0xE000 ≤ n)) × (n < 0x110000)
    says = scalar_says n e

    two_bytes : 0x80 ≤ n → n < 0x800 → octets [] (two n ++ r) ≡ octets [] r
    two_bytes l h =
        lead_two (0xC0 + n / 64) _ (omega arith) (omega arith)
        ∙ next _ [] _ _ (second_holds _ _ (omega arith) (omega arith) (omega arith) (omega arith) (omega arith) (omega arith))

    three_bytes : 0x800 ≤ n → n < 0x10000 → octets [] (three n ++ r) ≡ octets [] r
    three_bytes l h =
        let d = digits_three n in
        lead_three (0xE0 + n / 4096) _ (omega arith) (omega arith)
        ∙ next _ (utf8_tail ∷ []) _ _
        (second_holds _ (0x80 + n / 64 % 64) (omega arith) (omega arith) (λ q. omega arith)
        (λ q. ⊎_elim (λ (z : n < 0xD800). omega arith) (λ (z : 0xE000 ≤ n). omega arith) says.0) (λ q. omega arith) (λ q. omega arith))
        ∙ next_tail [] (n % 64) r (omega arith)

    four_bytes : 0x10000 ≤ n → octets [] (four n ++ r) ≡ octets [] r
    four_bytes l =
        let d = digits_four n in
        let z = says.1 in
        lead_four (0xF0 + n / 262144) _ (omega arith) (omega arith)
        ∙ next _ (utf8_tail ∷ utf8_tail ∷ []) _ _
        (second_holds _ (0x80 + n / 4096 % 64) (omega arith) (omega arith) (λ q. omega arith) (λ q. omega arith) (λ q. omega arith) (λ q. omega arith))
        ∙ next_tail (utf8_tail ∷ []) (n / 64 % 64) _ (omega arith) ∙ next_tail [] (n % 64) r (omega arith)

all_encoded : (ns : List ℕ) → scalars ns ≡ true → octets [] (encode_all ns) ≡ true
unfolding scalars encode_all octets
all_encoded [] e = refl
all_encoded (n ∷ ns) e =
    let p = both (scalar n) (scalars ns) e in
    encoded n (encode_all ns) p.0 ∙ all_encoded ns p.1

-- ---- well-formed bytes begin with an encoding

-- a character, and what is behind it
record Char (bs : List ℕ) : Type 0 where
  value : ℕ
  rest : List ℕ
  legal : scalar value ≡ true
  encoding : encode value ++ rest ≡ bs
  goes : octets [] rest ≡ true
  less : length rest < length bs

module _ (r : List ℕ) (goes : octets [] r ≡ true) where
  make_one : (a : ℕ) → a < 0x80 → Char (a ∷ r)
  make_one a h = record { value = a; rest = r; legal = scalar_low a (omega arith); encoding = ap (λ l. l ++ r) (encode_one a h); goes = goes; less = omega arith }

  make_two : (x y : ℕ) → 2 ≤ x → x < 32 → y < 64 → Char ((0xC0 + x) ∷ (0x80 + y) ∷ r)
  make_two x y l h hy =
      let n = x * 64 + y in
      record {
        value = n;
        rest = r;
        legal = scalar_low n (omega arith);
        encoding = ap (λ l. l ++ r) (encode_two n (omega arith) (omega arith) ∙ from_two x y hy);
        goes = goes;
        less = omega arith;
      }

  make_three : (x y z : ℕ) → x < 16 → y < 64 → z < 64 → 0x800 ≤ x * 4096 + y * 64 + z → scalar (x * 4096 + y * 64 + z) ≡ true
      → Char ((0xE0 + x) ∷ (0x80 + y) ∷ (0x80 + z) ∷ r)
  make_three x y z hx hy hz l e =
      let n = x * 4096 + y * 64 + z in
      record {
        value = n;
        rest = r;
        legal = e;
        encoding = ap (λ l. l ++ r) (encode_three n l (omega arith) ∙ from_three x y z hy hz);
        goes = goes;
        less = omega arith;
      }

  make_four : (w x y z : ℕ) → x < 64 → y < 64 → z < 64 → 0x10000 ≤ w * 262144 + x * 4096 + y * 64 + z → w * 262144 + x * 4096 + y * 64 + z < 0x110000
      → Char ((0xF0 + w) ∷ (0x80 + x) ∷ (0x80 + y) ∷ (0x80 + z) ∷ r)
  make_four w x y z hx hy hz l h =
      let n = w * 262144 + x * 4096 + y * 64 + z in
      record {
        value = n;
        rest = r;
        legal = scalar_high n (omega arith) h;
        encoding = ap (λ l. l ++ r) (encode_four n l ∙ from_four w x y z hx hy hz);
        goes = goes;
        less = omega arith;
      }

second_says : (a b : ℕ) {q : Range} → second a ≡ q → within (second a) b ≡ true → (q.low ≤ b) × (b ≤ q.high)
second_says a b {q} e w = within_says q b (ap (λ x. within x b) (sym e) ∙ w)

less : (k a : ℕ) → k ≤ a → k + (a - k) ≡ a
less k a l = omega arith

char_two : (a : ℕ) → 0xC2 ≤ a → a < 0xE0 → (r : List ℕ) → octets (second a ∷ []) r ≡ true → Char (a ∷ r)
unfolding octets
char_two a l h [] e = absurd (false≢true e)
char_two a l h (b ∷ r) e =
    let p = both (within (second a) b) (octets [] r) e in
    let w = second_says a b (second_tail a (omega arith) (omega arith) (omega arith) (omega arith)) p.0 in
    subst (λ (s : List ℕ). Char s) (ap₂ (λ u v. u ∷ v ∷ r) (less 0xC0 a (omega arith)) (less 0x80 b w.0))
    (make_two r p.1 (a - 0xC0) (b - 0x80) (omega arith) (omega arith) (omega arith))

-- three bytes whose number is in the range of three and no surrogate
read_three : (a b c : ℕ) (r : List ℕ) → octets [] r ≡ true → 0xE0 ≤ a → a < 0xF0 → 0x80 ≤ b → b ≤ 0xBF → 0x80 ≤ c → c ≤ 0xBF
    → 0x800 ≤ (a - 0xE0) * 4096 + (b - 0x80) * 64 + (c - 0x80) → scalar ((a - 0xE0) * 4096 + (b - 0x80) * 64 + (c - 0x80)) ≡ true
    → Char (a ∷ b ∷ c ∷ r)
read_three a b c r g la ha lb hb lc hc l e =
    subst (λ (s : List ℕ). Char s)
    (ap₂ (λ u (v : List ℕ). u ∷ v) (less 0xE0 a la) (ap₂ (λ u v. u ∷ v ∷ r) (less 0x80 b lb) (less 0x80 c lc)))
    (make_three r g (a - 0xE0) (b - 0x80) (c - 0x80) (omega arith) (omega arith) (omega arith) l e)

char_three : (a : ℕ) → 0xE0 ≤ a → a < 0xF0 → (r : List ℕ) → octets (second a ∷ utf8_tail ∷ []) r ≡ true → Char (a ∷ r)
unfolding octets
char_three a l h [] e = absurd (false≢true e)
char_three a l h (b ∷ []) e = absurd (false≢true (both (within (second a) b) false e).1)
char_three a l h (b ∷ c ∷ r) e =
    let p = both (within (second a) b) (within utf8_tail c && octets [] r) e in
    let q = both (within utf8_tail c) (octets [] r) p.1 in
    go p.0 (within_says utf8_tail c q.0) q.1
  where
    n : ℕ
    n = (a - 0xE0) * 4096 + (b - 0x80) * 64 + (c - 0x80)

    go : within (second a) b ≡ true → (0x80 ≤ c) × (c ≤ 0xBF) → octets [] r ≡ true → Char (a ∷ b ∷ c ∷ r)
    go w t g =
        ⊎_elim (λ (x : a < 0xE1).
        let i = second_says a b (second_E0 a (omega arith)) w in
        read_three a b c r g l h (omega arith) (omega arith) t.0 t.1 (omega arith) (scalar_low n (omega arith))) (λ (x : 0xE1 ≤ a).
        ⊎_elim (λ (y : a < 0xED).
        let i = second_says a b (second_tail a (omega arith) (omega arith) (omega arith) (omega arith)) w in
        read_three a b c r g l h (omega arith) (omega arith) t.0 t.1 (omega arith) (scalar_low n (omega arith))) (λ (y : 0xED ≤ a).
        ⊎_elim (λ (z : a < 0xEE).
        let i = second_says a b (second_ED a (omega arith)) w in
        read_three a b c r g l h (omega arith) (omega arith) t.0 t.1 (omega arith) (scalar_low n (omega arith))) (λ (z : 0xEE ≤ a).
        let i = second_says a b (second_tail a (omega arith) (omega arith) (omega arith) (omega arith)) w in
        read_three a b c r g l h (omega arith) (omega arith) t.0 t.1 (omega arith) (scalar_high n (omega arith) (omega arith)))
        (lt_or_ge a 0xEE)) (lt_or_ge a 0xED)) (lt_or_ge a 0xE1)

read_four : (a b c d : ℕ) (r : List ℕ) → octets [] r ≡ true → 0xF0 ≤ a → 0x80 ≤ b → b ≤ 0xBF → 0x80 ≤ c → c ≤ 0xBF → 0x80 ≤ d → d ≤ 0xBF
    → 0x10000 ≤ (a - 0xF0) * 262144 + (b - 0x80) * 4096 + (c - 0x80) * 64 + (d - 0x80)
    → (a - 0xF0) * 262144 + (b - 0x80) * 4096 + (c - 0x80) * 64 + (d - 0x80) < 0x110000
    → Char (a ∷ b ∷ c ∷ d ∷ r)
read_four a b c d r g la lb hb lc hc ld hd l h =
    subst (λ (s : List ℕ). Char s)
    (ap₂ (λ u (v : List ℕ). u ∷ v) (less 0xF0 a la)
    (ap₂ (λ u (v : List ℕ). u ∷ v) (less 0x80 b lb) (ap₂ (λ u v. u ∷ v ∷ r) (less 0x80 c lc) (less 0x80 d ld))))
    (make_four r g (a - 0xF0) (b - 0x80) (c - 0x80) (d - 0x80) (omega arith) (omega arith) (omega arith) l h)

char_four : (a : ℕ) → 0xF0 ≤ a → a < 0xF5 → (r : List ℕ) → octets (second a ∷ utf8_tail ∷ utf8_tail ∷ []) r ≡ true → Char (a ∷ r)
unfolding octets
char_four a l h [] e = absurd (false≢true e)
char_four a l h (b ∷ []) e = absurd (false≢true (both (within (second a) b) false e).1)
char_four a l h (b ∷ c ∷ []) e =
    absurd (false≢true (both (within utf8_tail c) false (both (within (second a) b) (within utf8_tail c && false) e).1).1)
char_four a l h (b ∷ c ∷ d ∷ r) e =
    let p = both (within (second a) b) (within utf8_tail c && (within utf8_tail d && octets [] r)) e in
    let q = both (within utf8_tail c) (within utf8_tail d && octets [] r) p.1 in
    let s = both (within utf8_tail d) (octets [] r) q.1 in
    go p.0 (within_says utf8_tail c q.0) (within_says utf8_tail d s.0) s.1
  where
    go : within (second a) b ≡ true → (0x80 ≤ c) × (c ≤ 0xBF) → (0x80 ≤ d) × (d ≤ 0xBF) → octets [] r ≡ true → Char (a ∷ b ∷ c ∷ d ∷ r)
    go w t u g =
        ⊎_elim (λ (x : a < 0xF1).
        let i = second_says a b (second_F0 a (omega arith)) w in
        read_four a b c d r g l (omega arith) (omega arith) t.0 t.1 u.0 u.1 (omega arith) (omega arith)) (λ (x : 0xF1 ≤ a).
        ⊎_elim (λ (y : a < 0xF4).
        let i = second_says a b (second_tail a (omega arith) (omega arith) (omega arith) (omega arith)) w in
        read_four a b c d r g l (omega arith) (omega arith) t.0 t.1 u.0 u.1 (omega arith) (omega arith)) (λ (y : 0xF4 ≤ a).
        let i = second_says a b (second_F4 a (omega arith)) w in
        read_four a b c d r g l (omega arith) (omega arith) t.0 t.1 u.0 u.1 (omega arith) (omega arith))
        (lt_or_ge a 0xF4)) (lt_or_ge a 0xF1)

char : (a : ℕ) (r : List ℕ) → octets [] (a ∷ r) ≡ true → Char (a ∷ r)
char a r e =
    by_size a (λ h q. make_one r (sym (lead_one a r h) ∙ e) a h) (λ l h q. never (row_low a r l h))
    (λ l h q. char_two a l h r (sym (lead_two a r l h) ∙ e)) (λ l h q. char_three a l h r (sym (lead_three a r l h) ∙ e))
    (λ l h q. char_four a l h r (sym (lead_four a r l h) ∙ e)) (λ l q. never (row_high a r l))
  where
    never : octets [] (a ∷ r) ≡ false → Char (a ∷ r)
    never f = absurd (false≢true (sym f ∙ e))

encoded_step : (m : ℕ) → ((bs : List ℕ) → length bs < m → octets [] bs ≡ true → Encoded bs)
    → (bs : List ℕ) → length bs < suc m → octets [] bs ≡ true → Encoded bs
unfolding scalars encode_all
encoded_step m f [] l e = record { values = []; are_scalars = refl; encoding = refl }
encoded_step m f (a ∷ r) l e =
    let c = char a r e in
    let s = f c.rest (omega (arith, c.less)) c.goes in
    record {
      values = c.value ∷ s.values;
      are_scalars = ap₂ ◌&&◌ c.legal s.are_scalars;
      encoding = ap (λ t. encode c.value ++ t) s.encoding ∙ c.encoding;
    }

encoded_from : (m : ℕ) (bs : List ℕ) → length bs < m → octets [] bs ≡ true → Encoded bs
encoded_from zero bs l e = absurd (not-suc-le-zero l)
encoded_from (suc m) bs l e = encoded_step m (encoded_from m) bs l e

pub encoded_exactly : EncodedExactly
unfolding is_utf8
encoded_exactly bs = (λ e. encoded_from (suc (length bs)) bs (omega arith) e, λ s. sym (ap (octets []) s.encoding) ∙ all_encoded s.values s.are_scalars)

-- ---- no two lists have the same encodings

-- the first number, and what is behind it
unfoldable value : List ℕ → ℕ
value l =
    cond (ltb (get_or l 0 0) 0x80) (get_or l 0 0)
    (cond (ltb (get_or l 0 0) 0xE0) ((get_or l 0 0 - 0xC0) * 64 + (get_or l 1 0 - 0x80))
    (cond (ltb (get_or l 0 0) 0xF0) ((get_or l 0 0 - 0xE0) * 4096 + (get_or l 1 0 - 0x80) * 64 + (get_or l 2 0 - 0x80))
    ((get_or l 0 0 - 0xF0) * 262144 + (get_or l 1 0 - 0x80) * 4096 + (get_or l 2 0 - 0x80) * 64 + (get_or l 3 0 - 0x80))))

unfoldable behind : List ℕ → List ℕ
behind l =
    cond (ltb (get_or l 0 0) 0x80) (drop 1 l) (cond (ltb (get_or l 0 0) 0xE0) (drop 2 l) (cond (ltb (get_or l 0 0) 0xF0) (drop 3 l) (drop 4 l)))

unfoldable some : List ℕ → ℕ
some [] = 0
some (a ∷ l) = 1

some_encoded : (n : ℕ) (r : List ℕ) → some (encode n ++ r) ≡ 1
unfolding some
some_encoded n r = by_range n (λ l. some (l ++ r) ≡ 1) (λ h. refl) (λ l h. refl) (λ l h. refl) (λ l. refl)

read_back : (n : ℕ) (r : List ℕ) → (value (encode n ++ r) ≡ n) × (behind (encode n ++ r) ≡ r)
unfolding value behind
read_back n r =
    by_range n (λ l. (value (l ++ r) ≡ n) × (behind (l ++ r) ≡ r)) (λ h. let s = lt-ltb n 0x80 h in (simp s, simp s))
    (λ l h.
    let a = 0xC0 + n / 64 in
    let s = le-ltb a 0x80 (omega arith) in
    let t = lt-ltb a 0xE0 (omega arith) in
    (simp (s, t) (omega (arith, digits_two n)), simp (s, t)))
    (λ l h.
    let a = 0xE0 + n / 4096 in
    let s = le-ltb a 0x80 (omega arith) in
    let t = le-ltb a 0xE0 (omega arith) in
    let u = lt-ltb a 0xF0 (omega arith) in
    (simp (s, t, u) (omega (arith, digits_three n)), simp (s, t, u)))
    (λ l.
    let a = 0xF0 + n / 262144 in
    let s = le-ltb a 0x80 (omega arith) in
    let t = le-ltb a 0xE0 (omega arith) in
    let u = le-ltb a 0xF0 (omega arith) in
    (simp (s, t, u) (omega (arith, digits_four n)), simp (s, t, u)))

one_list : (ns ms : List ℕ) → encode_all ns ≡ encode_all ms → ns ≡ ms
unfolding encode_all some
one_list [] [] e = refl
one_list [] (m ∷ ms) e = let z : ◌≡◌ {A = ℕ} 0 1 = ap some e ∙ some_encoded m (encode_all ms) in absurd (omega arith)
one_list (n ∷ ns) [] e = let z : ◌≡◌ {A = ℕ} 0 1 = sym (ap some e) ∙ some_encoded n (encode_all ns) in absurd (omega arith)
one_list (n ∷ ns) (m ∷ ms) e =
    let p = read_back n (encode_all ns) in
    let q = read_back m (encode_all ms) in
    ap₂ ◌∷◌ (sym p.0 ∙ ap value e ∙ q.0) (one_list ns ms (sym p.1 ∙ ap behind e ∙ q.1))

pub encoded_once : EncodedOnce
encoded_once bs s t = one_list s.values t.values (s.encoding ∙ sym t.encoding)
