-- Every type whose names, labels and numbers can be written has a text: the speller's. Assumes nothing.
use mathlib.Core.Path.{◌≡◌, refl, sym, subst, ap, ◌∙◌}
use mathlib.Core.Bool.{cond, Bool, true, false, ◌&&◌, ◌||◌}
use mathlib.Core.Logic.{◌⊎◌, inl, inr}
use mathlib.Core.List.{List, [], ◌∷◌, ◌++◌}
use Prim.Native.Nat.{ℕ, zero, suc, ◌+◌, ◌-◌, ◌*◌, ◌/◌, ◌%◌, ◌^◌, ◌≤◌, ◌<◌}
use Prim.Native.String.{String}
use native.Mathlib.Omega.{arith}
use lib.Dec.{eqb, leb, ltb}
use lib.ListN.{length, get_or}
use borrow.Author.Tests.{ne_eqb, eqb-true, le-leb, ltb-true, ltb-false}
use Rattle.table.specs.Lists.{every}
use Rattle.table.specs.Table.{upper, letter_or_digit, label_rest, legal_label}
use Rattle.table.specs.View.{label_of}
use Rattle.table.proofs.laws.Lists.{both, join, never, every_append}
use Rattle.grammar.specs.Token.{one_of, packed, word_of}
use Rattle.grammar.specs.Number.{Signed, value_of}
use Rattle.grammar.specs.Grammar.{Protocol, Tok, word, number, sign, print_text}
use Rattle.table.specs.Ascii.{ascii, letters, digits}
use Rattle.spelling.specs.Spelling.{a_digit, dot_byte, sign_tokens, dot_tokens, word_tokens, Listed, Digits, Spells, a_sign, a_dot, a_word, a_name, a_zero, a_number, a_negative, Spelt, ran_out, a_blank, a_token}
use Rattle.spelling.specs.Speller.{beside, bytes, spelling, spell, Writable, Spellable}
use Rattle.spelling.proofs.laws.Classes.{kinds, beside_listed}
use Rattle.spelling.proofs.laws.Prints.{fixed, text_holds}

-- ---- names

pub letter_not_zero : (c : ℕ) → letter_or_digit c ≡ true → eqb c 0 ≡ false
unfolding letter_or_digit
letter_not_zero c e = ne_eqb c 0 (λ q. never e (ap (λ (c : ℕ). (leb 65 c && leb c 90) || (leb 97 c && leb c 122) || (leb 48 c && leb c 57)) q))

upper_not_zero : (c : ℕ) → upper c ≡ true → eqb c 0 ≡ false
unfolding upper
upper_not_zero c e = ne_eqb c 0 (λ q. never e (ap (λ (c : ℕ). leb 65 c && leb c 90) q))

abbrev Zeros : List ℕ → Type 0
Zeros w = every (λ x. eqb x 0) w ≡ true

zeros_packed : (n : ℕ) (w : List ℕ) → Zeros w → packed n w ≡ 0
unfolding packed every
zeros_packed zero w e = refl
zeros_packed (suc n) [] e = refl
zeros_packed (suc n) (b ∷ w) e =
    let p = both (eqb b 0) (every (λ x. eqb x 0) w) e in
    rw (eqb-true b 0 p.0, zeros_packed n w p.1) (omega arith)

-- the rest of a legal label: a letter or digit and a rest, or zeros
abbrev Rest : ℕ → List ℕ → Type 0
Rest c r = ((eqb c 0 ≡ false) × (letter_or_digit c ≡ true) × (label_rest r ≡ true)) ⊎ ((eqb c 0 ≡ true) × Zeros (c ∷ r))

rest_ways : (c : ℕ) (r : List ℕ) → label_rest (c ∷ r) ≡ true → Rest c r
unfolding label_rest every
rest_ways c r e = go (letter_or_digit c && label_rest r) refl e
  where
    go : (b : Bool) → (letter_or_digit c && label_rest r) ≡ b → (b || (eqb c 0 && every (λ x. eqb x 0) r)) ≡ true → Rest c r
    go true f e = let p = both (letter_or_digit c) (label_rest r) f in inl (letter_not_zero c p.0, p.0, p.1)
    go false f e = let p = both (eqb c 0) (every (λ x. eqb x 0) r) e in inr (p.0, e)

record Trimmed (r : List ℕ) : Type 0 where
  all_letters : every letter_or_digit (letters r) ≡ true
  fits : length (letters r) ≤ length r
  same : (n : ℕ) → packed n (letters r) ≡ packed n r

nil_packed : (n : ℕ) → packed n [] ≡ 0
unfolding packed
nil_packed zero = refl
nil_packed (suc n) = refl

trimmed : (r : List ℕ) → label_rest r ≡ true → Trimmed r
unfolding letters every packed
trimmed [] e = record { all_letters = refl; fits = omega arith; same = λ n. refl }
trimmed (c ∷ r) e = go (rest_ways c r e) (trimmed r)
  where
    more : (n : ℕ) → Trimmed r → packed n (c ∷ letters r) ≡ packed n (c ∷ r)
    more zero t = refl
    more (suc n) t = ap (λ (x : ℕ). c * 256 ^ n + x) (t.same n)

    go : Rest c r → (label_rest r ≡ true → Trimmed r) → Trimmed (c ∷ r)
    go (inl p) ih =
        let t = ih p.2 in
        let l = t.fits in
        record { all_letters = rw p.0 (join p.1 t.all_letters); fits = rw p.0 (omega arith); same = λ n. rw p.0 (more n t) }
    go (inr p) ih =
        record {
          all_letters = rw p.0;
          fits = rw p.0 (omega arith);
          same = λ n. ap (λ (b : Bool). packed n (cond b [] (c ∷ letters r))) p.0 ∙ nil_packed n ∙ sym (zeros_packed n (c ∷ r) p.1);
        }

label_spells : (w : List ℕ) → legal_label w ≡ true → Spells (word (word_of w)) (letters w) letter_or_digit
unfolding legal_label letters word_of packed
label_spells [] e = never e refl
label_spells (c ∷ r) e =
    let p = both (upper c && label_rest r) (eqb (length r) 7) e in
    let q = both (upper c) (label_rest r) p.0 in
    let t = trimmed r q.1 in
    let l = t.fits in
    let n : length r ≡ 7 = eqb-true (length r) 7 p.1 in
    rw (upper_not_zero c q.0, ← (t.same 7)) (a_name {w = c ∷ letters r} (q.0, t.all_letters, omega arith))

-- ---- numbers

value_last : (u : List ℕ) (v c : ℕ) → value_of v (u ++ (c ∷ [])) ≡ value_of v u * 10 + (c - 48)
unfolding value_of
value_last [] v c = refl
value_last (b ∷ u) v c = value_last u (v * 10 + (b - 48)) c

first_last : (u : List ℕ) (c : ℕ) → (get_or u 0 48 ≡ 48 → ⊥) → get_or (u ++ (c ∷ [])) 0 48 ≡ 48 → ⊥
first_last [] c h e = h refl
first_last (b ∷ u) c h e = h e

small_digit : (n : ℕ) → n < 10 → a_digit (48 + n) ≡ true
small_digit n h = join (le-leb 48 (48 + n) (omega arith)) (le-leb (48 + n) 57 (omega arith))

pub record Decimal (n : ℕ) (w : List ℕ) : Type 0 where
  pub all : every a_digit w ≡ true
  pub value : value_of 0 w ≡ n
  pub first : 0 < n → get_or w 0 48 ≡ 48 → ⊥

pub decimal_is : (fuel n : ℕ) → n < fuel → Decimal n (digits fuel n)
unfolding digits every value_of
decimal_is zero n h = absurd (omega arith)
decimal_is (suc fuel) n h = go (ltb n 10) refl (decimal_is fuel (n / 10))
  where
    go : (b : Bool) → ltb n 10 ≡ b → (n / 10 < fuel → Decimal (n / 10) (digits fuel (n / 10)))
        → Decimal n (cond b ((48 + n) ∷ []) (digits fuel (n / 10) ++ ((48 + n % 10) ∷ [])))
    go true e ih = one (ltb-true n 10 e)
      where
        one : n < 10 → Decimal n ((48 + n) ∷ [])
        one l = record { all = join (small_digit n l) refl; value = omega arith; first = λ p q. omega arith }
    go false e ih =
        let l : 10 ≤ n = ltb-false n 10 e in
        let d = ih (omega arith) in
        let w = digits fuel (n / 10) in
        record {
          all = every_append a_digit w ((48 + n % 10) ∷ []) d.all (join (small_digit (n % 10) (omega arith)) refl);
          value = value_last w 0 (48 + n % 10) ∙ rw d.value (omega arith);
          first = λ p. first_last w (48 + n % 10) (d.first (omega arith));
        }

as_number : (w : List ℕ) (n : ℕ) → Decimal n w → 0 < n → Digits w
as_number [] n d h = absurd (d.first h refl)
as_number (b ∷ w) n d h = (d.all, d.first h)

number_spells : (m : Bool) (v : ℕ) → (m ≡ true → v ≡ 0 → ⊥)
    → Spells (number (record { minus = m; value = v })) (cond m (ascii "-") [] ++ digits (suc v) v) a_digit
unfolding digits
number_spells true zero h = absurd (h refl refl)
number_spells true (suc v) h =
    let d = decimal_is (suc (suc v)) (suc v) (omega arith) in
    subst (λ (n : ℕ). Spells (number (record { minus = true; value = n })) (ascii "-" ++ digits (suc (suc v)) (suc v)) a_digit) d.value
    (a_negative {w = digits (suc (suc v)) (suc v)} (as_number (digits (suc (suc v)) (suc v)) (suc v) d (omega arith)))
number_spells false zero h = nought
  where
    nought : Spells (number (record { minus = false; value = 0 })) (digits 1 0) a_digit
    nought = a_zero
number_spells false (suc v) h =
    let d = decimal_is (suc (suc v)) (suc v) (omega arith) in
    subst (λ (n : ℕ). Spells (number (record { minus = false; value = n })) (digits (suc (suc v)) (suc v)) a_digit) d.value
    (a_number {w = digits (suc (suc v)) (suc v)} (as_number (digits (suc (suc v)) (suc v)) (suc v) d (omega arith)))

-- ---- tokens and texts

-- the speller's bytes are the token's, and a blank does not go on with them
abbrev Spelled : Tok → Type 0
Spelled t = (more : ℕ → Bool) × Spells t (bytes t) more × (more 32 ≡ false)

-- a kind of two lists, one after the other, stands in the first or in the second
either_list : (es fs : List (ℕ × String)) (k : ℕ) (P : List ℕ → Type 0) → one_of (kinds (es ++ fs)) k ≡ true
    → ((w : List ℕ) → Listed es k w → P w) → (one_of (kinds fs) k ≡ true → P (beside fs k)) → P (beside (es ++ fs) k)
unfolding beside
either_list [] fs k P e f g = g e
either_list (x ∷ es) fs k P e f g = go (eqb k x.0) refl e (λ e. either_list es fs k P e (λ w l. f w (inr l)) g)
  where
    go : (c : Bool) → eqb k x.0 ≡ c → cond c true (one_of (kinds (es ++ fs)) k) ≡ true
        → (one_of (kinds (es ++ fs)) k ≡ true → P (beside (es ++ fs) k)) → P (cond c (ascii x.1) (beside (es ++ fs) k))
    go true q e rest = f (ascii x.1) (inl (eqb-true _ _ q, refl))
    go false q e rest = rest e

fixed_spelled : (k : ℕ) → one_of fixed k ≡ true → Spelled (sign k)
unfolding letter_or_digit
fixed_spelled k e =
    either_list sign_tokens (dot_tokens ++ word_tokens) k P e (λ w l. ((λ b. false), a_sign l, refl))
    (λ e. either_list dot_tokens word_tokens k P e (λ w l. (dot_byte, a_dot l, refl)) (λ e. (letter_or_digit, a_word (beside_listed word_tokens k e), refl)))
  where
    P : List ℕ → Type 0
    P w = (more : ℕ → Bool) × Spells (sign k) w more × (more 32 ≡ false)

word_spelled : (x : ℕ) → Writable (word x) → Spelled (word x)
unfolding letter_or_digit
word_spelled x h = (letter_or_digit, subst (λ (x' : ℕ). Spells (word x') (letters (label_of x)) letter_or_digit) h.1 (label_spells (label_of x) h.0), refl)

number_spelled : (n : Signed) → Writable (number n) → Spelled (number n)
number_spelled n h = (a_digit, number_spells n.minus n.value h, refl)

spelling_on : (t : Tok) (ts : List Tok) → Spelled t → Spelt (spelling ts) ts → Spelt (spelling (t ∷ ts)) (t ∷ ts)
unfolding spelling
spelling_on t ts p q = a_token p.1 p.2 (a_blank refl q)

last_spelt : Spelt (spelling (sign 0 ∷ [])) (sign 0 ∷ [])
unfolding spelling beside
last_spelt = a_blank refl ran_out

-- A protocol whose names, labels and numbers can be written has a text that spells it.
pub spell_spelt : (p : Protocol) → Spellable p → Spelt (spell p) (print_text p)
unfolding spell
spell_spelt p h =
    text_holds Writable (λ ts. Spelt (spelling ts) ts) (λ x ts w. spelling_on (word x) ts (word_spelled x w)) (λ n ts w. spelling_on (number n) ts (number_spelled n w))
    (λ k ts e. spelling_on (sign k) ts (fixed_spelled k e)) p h.0 h.1 last_spelt
