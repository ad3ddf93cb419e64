-- A token that stands at a place of a text: what the scanner finds there. Assumes nothing.
use mathlib.Core.Path.{◌≡◌, refl, sym, ap, ◌∙◌}
use mathlib.Core.Bool.{cond, Bool, true, false}
use mathlib.Core.Logic.{inl, inr}
use mathlib.Core.List.{List, [], ◌∷◌, ◌++◌}
use Prim.Native.Nat.{ℕ, suc, ◌+◌, ◌-◌, ◌≤◌, ◌<◌}
use Prim.Native.String.{String}
use native.Mathlib.Omega.{arith}
use lib.Dec.{eqb, leb}
use lib.ListN.{length, drop, get_or, length-drop}
use lib.Seq.{drop-cons, drop-drop, take-append_seam, drop-append_seam}
use borrow.Author.Tests.{ne_eqb, le-leb, lt-leb, leb-true}
use Rattle.table.specs.Lists.{every, same, matched}
use Rattle.table.specs.Table.{upper, letter_or_digit}
use Rattle.table.proofs.laws.Lists.{both, join, never}
use Rattle.grammar.specs.Token.{Token, one_of, part, token, word_of}
use Rattle.grammar.specs.inner.Scanner.{Class, Lower, Upper, Digit, Dot, Minus, Sign, is_space, class_of, run_of, run_end, word_kind, word_token, name_token, number_kind, number_token, dots_token, begin_at, token_at}
use Rattle.grammar.specs.Number.{value_of, signed_of}
use Rattle.grammar.specs.Grammar.{Tok, word, number, sign}
use Rattle.grammar.specs.TokOf.{tok_of}
use Rattle.grammar.proofs.laws.ClassOf.{code, upper_word}
use Rattle.grammar.proofs.laws.RunOf.{run_off}
use Rattle.grammar.proofs.laws.TokOf.{kind_sign, kind_word, kind_number}
use Rattle.table.specs.Ascii.{ascii}
use Rattle.spelling.specs.Spelling.{a_digit, dot_byte, sign_tokens, dot_tokens, word_tokens, Listed, Spells, a_sign, a_dot, a_word, a_name, a_zero, a_number, a_negative, EndsRun}
use Rattle.spelling.specs.Places.{kind_in}
use Rattle.spelling.proofs.laws.Classes.{class_upper, class_digit, space_code}

-- ---- runs

-- the longest run is what was meant
pub run_is : (f : ℕ → Bool) (w r : List ℕ) → every f w ≡ true → EndsRun f r → run_of f (w ++ r) ≡ length w
unfolding run_of every
run_is f [] [] e h = refl
run_is f [] (b ∷ r) e h = rw h
run_is f (b ∷ w) r e h =
    let p = both (f b) (every f w) e in
    let n = run_is f w r p.1 h in
    rw p.0 (omega arith)

module _ (s : List ℕ) (p : ℕ) where
  pub inside : (b : ℕ) (v : List ℕ) → drop p s ≡ b ∷ v → p < length s
  inside b v e = omega (arith, length-drop p s, ap length e)

  pub byte_here : (b : ℕ) (v : List ℕ) → drop p s ≡ b ∷ v → get_or s p 0 ≡ b
  byte_here b v e = let c = sym (drop-cons s p 0 (inside b v e)) ∙ e in cc

  pub next_here : (b : ℕ) (v : List ℕ) → drop p s ≡ b ∷ v → drop (p + 1) s ≡ v
  next_here b v e =
      let c = sym (drop-cons s p 0 (inside b v e)) ∙ e in
      let z : p + 1 ≡ suc p = omega arith in
      rw z (cc)

  module _ (w r : List ℕ) (e : drop p s ≡ w ++ r) where
    pub part_here : part s p (p + length w) ≡ w
    part_here =
        let z : p + length w - p ≡ length w = omega arith in
        rw (z, e) (take-append_seam w r)

    pub past_here : drop (p + length w) s ≡ r
    past_here = sym (drop-drop (length w) p s) ∙ ap (drop (length w)) e ∙ drop-append_seam w r

    pub run_here : (f : ℕ → Bool) → every f w ≡ true → EndsRun f r → run_end f s p ≡ p + length w
    unfolding run_end
    run_here f a h = rw e (ap (λ n. p + n) (run_is f w r a h))

    -- the first byte decides how the token begins
    pub starts : (x : Class) → class_of (get_or w 0 0) ≡ x → one_of (0 ∷ 7 ∷ []) (code x) ≡ false → token_at s p ≡ begin_at s p x
    unfolding token_at class_of
    starts x c h = go w e c
      where
        no_space : (b : ℕ) → class_of b ≡ x → is_space b ≡ false
        no_space b c = decide (is_space b) refl
          where
            decide : (y : Bool) → is_space b ≡ y → y ≡ false
            decide false f = refl
            decide true f = never (ap (λ (n : ℕ). one_of (0 ∷ 7 ∷ []) n) (sym (ap code c) ∙ space_code b f)) h

        go : (w : List ℕ) → drop p s ≡ w ++ r → class_of (get_or w 0 0) ≡ x → token_at s p ≡ begin_at s p x
        go [] e c = never (sym (ap (λ c. one_of (0 ∷ 7 ∷ []) (code c)) c)) h
        go (b ∷ v) e c =
            let l : p < length s = inside b (v ++ r) e in
            let at : get_or s p 0 ≡ b = byte_here b (v ++ r) e in
            rw (run_off is_space s p l (ap is_space at ∙ no_space b c), lt-leb (length s) p l, at, c)

-- ---- what is found

pub record Found (s : List ℕ) (p : ℕ) (t : Tok) (n : ℕ) : Type 0 where
  pub is : token_at s p ≡ token (kind_in t) p (p + n)
  pub tok : tok_of s (token_at s p) ≡ t
  pub end : (token_at s p).end ≡ p + n
  pub on : (token_at s p).kind ≡ 0 → ⊥

-- what holds of each of a list holds of one of them
abbrev pub Each : (ℕ → List ℕ → Type 0) → List (ℕ × String) → Type 0
Each P [] = Unit {0}
Each P (e ∷ es) = P e.0 (ascii e.1) × Each P es

pub each_listed : (P : ℕ → List ℕ → Type 0) (es : List (ℕ × String)) (k : ℕ) (w : List ℕ) → Each P es → Listed es k w → P k w
each_listed P [] k w a l = absurd l
each_listed P (e ∷ es) k w a (inl l) = rw (l.0, l.1) a.0
each_listed P (e ∷ es) k w a (inr l) = each_listed P es k w a.1 l

-- none of the kinds that stand for something else: the text ran out, malformed, a number, a name
abbrev Plain : ℕ → Type 0
Plain k = one_of (0 ∷ 1 ∷ 48 ∷ 65 ∷ []) k ≡ false

plain_not : (k : ℕ) → Plain k → (n : ℕ) → one_of (0 ∷ 1 ∷ 48 ∷ 65 ∷ []) n ≡ true → k ≡ n → ⊥
plain_not k h n f e = never (ap (one_of (0 ∷ 1 ∷ 48 ∷ 65 ∷ [])) e ∙ f) h

-- a sign, a dot, a word: what the scanner makes of each
abbrev IsSign : ℕ → List ℕ → Type 0
IsSign k w = (w ≡ k ∷ []) × (class_of k ≡ Sign) × Plain k

abbrev IsDot : ℕ → List ℕ → Type 0
IsDot k w = (every dot_byte w ≡ true) × (class_of (get_or w 0 0) ≡ Dot) × (cond (eqb (length w) 1) 46 (cond (eqb (length w) 2) 58 1) ≡ k) × Plain k

abbrev IsWord : ℕ → List ℕ → Type 0
IsWord k w = (every letter_or_digit w ≡ true) × (class_of (get_or w 0 0) ≡ Lower) × (word_kind w ≡ k) × Plain k

all_signs : Each IsSign sign_tokens
unfolding class_of
all_signs = ((refl, refl, refl), ((refl, refl, refl), ((refl, refl, refl), ((refl, refl, refl), ((refl, refl, refl), ((refl, refl, refl), ((refl, refl, refl), ((refl, refl, refl), ((refl, refl, refl), ((refl, refl, refl), ((refl, refl, refl), ((refl, refl, refl), tt))))))))))))

all_dots : Each IsDot dot_tokens
unfolding class_of every
all_dots = ((refl, refl, refl, refl), ((refl, refl, refl, refl), tt))

all_words : Each IsWord word_tokens
unfolding class_of every letter_or_digit word_kind same matched
all_words = ((refl, refl, refl, refl), ((refl, refl, refl, refl), ((refl, refl, refl, refl), ((refl, refl, refl, refl), ((refl, refl, refl, refl), ((refl, refl, refl, refl), tt))))))

module _ (s : List ℕ) (p : ℕ) where
  -- a token found, as the grammar sees it
  found_sign : (k n : ℕ) → token_at s p ≡ token k p (p + n) → Plain k → Found s p (sign k) n
  found_sign k n e h = record {
    is = e;
    tok = ap (tok_of s) e ∙ kind_sign s (token k p (p + n)) k (plain_not k h 65 refl) (plain_not k h 48 refl) refl;
    end = ap (λ (t : Token). t.end) e;
    on = λ z. plain_not k h 0 refl (sym (ap (λ (t : Token). t.kind) e) ∙ z);
  }

  found_number : (w r : List ℕ) → drop p s ≡ w ++ r → token_at s p ≡ token 48 p (p + length w) → Found s p (number (signed_of w)) (length w)
  found_number w r d e = record {
    is = e;
    tok = ap (tok_of s) e ∙ kind_number s (token 48 p (p + length w)) refl ∙ ap (λ (v : List ℕ). number (signed_of v)) (part_here s p w r d);
    end = ap (λ (t : Token). t.end) e;
    on = λ z. let h : ◌≡◌ {A = ℕ} 48 0 = sym (ap (λ (t : Token). t.kind) e) ∙ z in omega arith;
  }

  found_word : (w r : List ℕ) → drop p s ≡ w ++ r → token_at s p ≡ token 65 p (p + length w) → Found s p (word (word_of w)) (length w)
  found_word w r d e = record {
    is = e;
    tok = ap (tok_of s) e ∙ kind_word s (token 65 p (p + length w)) refl ∙ ap (λ (v : List ℕ). word (word_of v)) (part_here s p w r d);
    end = ap (λ (t : Token). t.end) e;
    on = λ z. let h : ◌≡◌ {A = ℕ} 65 0 = sym (ap (λ (t : Token). t.kind) e) ∙ z in omega arith;
  }

  module _ (w r : List ℕ) (e : drop p s ≡ w ++ r) where
    sign_found : (k : ℕ) → IsSign k w → Found s p (sign k) (length w)
    unfolding begin_at
    sign_found k h =
        let d : drop p s ≡ k ∷ r = e ∙ ap (λ (v : List ℕ). v ++ r) h.0 in
        let n : length w ≡ 1 = ap length h.0 in
        rw n (found_sign k 1 (starts s p (k ∷ []) r d Sign h.1 refl ∙ ap (λ (b : ℕ). token b p (p + 1)) (byte_here s p k r d)) h.2)

    dot_found : (k : ℕ) → IsDot k w → EndsRun dot_byte r → Found s p (sign k) (length w)
    unfolding begin_at dots_token
    dot_found k h o =
        let z : p + length w - p ≡ length w = omega arith in
        found_sign k (length w)
        (starts s p w r e Dot h.1 refl ∙ rw (run_here s p w r e dot_byte h.0 o, z) (ap (λ (k : ℕ). token k p (p + length w)) h.2)) h.3

    word_found : (k : ℕ) → IsWord k w → EndsRun letter_or_digit r → Found s p (sign k) (length w)
    unfolding begin_at word_token
    word_found k h o =
        found_sign k (length w)
        (starts s p w r e Lower h.1 refl
        ∙ rw (run_here s p w r e letter_or_digit h.0 o, part_here s p w r e) (ap (λ (k : ℕ). token k p (p + length w)) h.2))
        h.3

  name_found : (b : ℕ) (w r : List ℕ) → drop p s ≡ (b ∷ w) ++ r → upper b ≡ true → every letter_or_digit (b ∷ w) ≡ true → length (b ∷ w) ≤ 8 → EndsRun letter_or_digit r
      → Found s p (word (word_of (b ∷ w))) (length (b ∷ w))
  unfolding begin_at name_token
  name_found b w r e u a m o =
      let z : p + length (b ∷ w) - p ≡ length (b ∷ w) = omega arith in
      found_word (b ∷ w) r e
      (starts s p (b ∷ w) r e Upper (class_upper b u) refl
      ∙ rw (run_here s p (b ∷ w) r e letter_or_digit a o, z, le-leb (length (b ∷ w)) 8 m))

  -- digits from here on: 0 alone, or no 0 at the front
  digits_found : (b : ℕ) (w r : List ℕ) → drop p s ≡ (b ∷ w) ++ r → every a_digit (b ∷ w) ≡ true → ◌≡◌ {A = ℕ} (cond (eqb b 48) (cond (eqb (length (b ∷ w)) 1) 48 1) 48) 48 → EndsRun a_digit r
      → Found s p (number (signed_of (b ∷ w))) (length (b ∷ w))
  unfolding begin_at number_token number_kind every
  digits_found b w r e a h o =
      let z : p + length (b ∷ w) - p ≡ length (b ∷ w) = omega arith in
      found_number (b ∷ w) r e
      (starts s p (b ∷ w) r e Digit (class_digit b (both (a_digit b) (every a_digit w) a).0) refl
      ∙ rw (run_here s p (b ∷ w) r e a_digit a o, z, ne_eqb (p + length (b ∷ w)) p (λ q. omega arith), byte_here s p b (w ++ r) e)
      (ap (λ (k : ℕ). token k p (p + length (b ∷ w))) h))

  -- a minus and digits, no 0 at the front
  minus_found : (b : ℕ) (w r : List ℕ) → drop p s ≡ (45 ∷ b ∷ w) ++ r → every a_digit (b ∷ w) ≡ true → (b ≡ 48 → ⊥) → EndsRun a_digit r
      → Found s p (number (signed_of (45 ∷ b ∷ w))) (length (45 ∷ b ∷ w))
  unfolding begin_at number_token number_kind class_of
  minus_found b w r e a h o =
      let n : drop (p + 1) s ≡ (b ∷ w) ++ r = next_here s p 45 ((b ∷ w) ++ r) e in
      let z : p + 1 + length (b ∷ w) ≡ p + length (45 ∷ b ∷ w) = omega arith in
      found_number (45 ∷ b ∷ w) r e
      (starts s p (45 ∷ b ∷ w) r e Minus refl refl
      ∙ rw (run_here s (p + 1) (b ∷ w) r n a_digit a o, ne_eqb (p + 1 + length (b ∷ w)) (p + 1) (λ q. omega arith), byte_here s (p + 1) b (w ++ r) n, ne_eqb b 48 h, z))

-- digits are no minus
digit_value : (b : ℕ) (w : List ℕ) → a_digit b ≡ true → signed_of (b ∷ w) ≡ record { minus = false; value = value_of 0 (b ∷ w) }
unfolding signed_of
digit_value b w e =
    let h : 48 ≤ b = leb-true 48 b (both (leb 48 b) (leb b 57) e).0 in
    rw (ne_eqb b 45 (λ q. omega arith))

-- a token's bytes are found as the token
pub found : (s : List ℕ) (p : ℕ) {t : Tok} {w : List ℕ} {more : ℕ → Bool} (r : List ℕ) → Spells t w more → EndsRun more r → drop p s ≡ w ++ r → Found s p t (length w)
unfolding every signed_of value_of
found s p r (a_sign {k} {w} l) o e = sign_found s p w r e k (each_listed IsSign sign_tokens k w all_signs l)
found s p r (a_dot {k} {w} l) o e = dot_found s p w r e k (each_listed IsDot dot_tokens k w all_dots l) o
found s p r (a_word {k} {w} l) o e = word_found s p w r e k (each_listed IsWord word_tokens k w all_words l) o
found s p r (a_name {w = []} h) o e = absurd h
found s p r (a_name {w = b ∷ w} h) o e = name_found s p b w r e h.0 (join (upper_word b h.0) h.1) h.2 o
found s p r a_zero o e = digits_found s p 48 [] r e refl refl o
found s p r (a_number {w = []} h) o e = absurd h
found s p r (a_number {w = b ∷ w} h) o e =
    let g = both (a_digit b) (every a_digit w) h.0 in
    rw (← (digit_value b w g.0)) (digits_found s p b w r e h.0 (rw (ne_eqb b 48 h.1)) o)
found s p r (a_negative {w = []} h) o e = absurd h
found s p r (a_negative {w = b ∷ w} h) o e = minus_found s p b w r e h.0 h.1 o
