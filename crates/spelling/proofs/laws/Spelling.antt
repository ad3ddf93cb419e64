-- What a text spells is what the scanner finds, where no token is malformed. Assumes nothing.
use mathlib.Core.Path.{◌≡◌, refl, subst, ap, ap₂, ◌∙◌}
use mathlib.Core.Bool.{cond, Bool, true, false}
use mathlib.Core.Logic.{inl, inr}
use mathlib.Core.List.{List, [], ◌∷◌, ◌++◌, map}
use Prim.Native.Nat.{ℕ, zero, suc, ◌+◌, ◌-◌, ◌≤◌, ◌<◌}
use Prim.Native.String.{String}
use native.Mathlib.Omega.{arith}
use lib.Dec.{eqb, leb}
use lib.ListN.{length, drop, get_or, length-drop}
use borrow.Author.Tests.{eq-eqb, ne_eqb, eqb-true, eqb-false, le-leb, lt-leb, leb-true}
use Rattle.table.specs.Lists.{every, same}
use Rattle.table.specs.Table.{upper, letter_or_digit}
use Rattle.table.proofs.laws.Lists.{both, join}
use Rattle.table.proofs.laws.View.{same_eq}
use Rattle.grammar.specs.Token.{Token, token}
use Rattle.grammar.specs.inner.Scanner.{Class, Space, Lower, Upper, Digit, Dot, Minus, Sign, Other, is_space, class_of, run_end, word_kind, word_token, name_token, number_kind, number_token, dots_token, begin_at, token_at, tokens_from}
use Rattle.grammar.specs.Grammar.{Tok, number, sign}
use Rattle.grammar.specs.TokOf.{tok_of}
use Rattle.grammar.proofs.laws.RunOf.{run_on, run_off, run_out}
use Rattle.grammar.proofs.laws.TokenAt.{onward}
use Rattle.grammar.proofs.laws.TokOf.{tok_tag, sign_in, kind_sign}
use Rattle.table.specs.Ascii.{ascii}
use Rattle.spelling.specs.Spelling.{a_digit, dot_byte, blank, sign_tokens, dot_tokens, word_tokens, Listed, Spells, a_sign, a_dot, a_word, a_name, a_zero, a_number, a_negative, EndsRun, Spelt, ran_out, a_blank, a_token}
use Rattle.spelling.specs.Places.{Begins}
use Rattle.spelling.specs.Scanned.{WellFormed}
use Rattle.spelling.proofs.laws.Classes.{Seen, seen, space_blank}
use Rattle.spelling.proofs.laws.StandsAt.{inside, byte_here, next_here, part_here, past_here, run_here, Found, found, Each, each_listed}

-- the tokens from p on, as the grammar sees them
abbrev toks : ℕ → List ℕ → ℕ → List Tok
toks n s p = map (tok_of s) (tokens_from n s p)

module _ (s : List ℕ) where
  -- a blank is passed over
  skip : (p b : ℕ) (v : List ℕ) → drop p s ≡ b ∷ v → blank b ≡ true → token_at s p ≡ token_at s (p + 1)
  unfolding token_at
  skip p b v e h = rw (run_on is_space s p (inside s p b v e) (ap is_space (byte_here s p b v e) ∙ space_blank b ∙ h))

  pub skips : (n p b : ℕ) (v : List ℕ) → drop p s ≡ b ∷ v → blank b ≡ true → tokens_from n s p ≡ tokens_from n s (p + 1)
  unfolding tokens_from
  skips zero p b v e h = refl
  skips (suc n) p b v e h = rw (skip p b v e h)

  -- the end of the text
  pub at_end : (n p : ℕ) → drop p s ≡ [] → tokens_from (suc n) s p ≡ token 0 (length s) (length s) ∷ []
  unfolding tokens_from token_at
  at_end n p e =
      let l : length s ≤ p = omega (arith, length-drop p s, ap length e) in
      rw (run_out is_space s p l, le-leb (length s) p l)

  -- a token, and what is found after it
  pub onwards : (n p : ℕ) (t : Tok) (k : ℕ) → Found s p t k → tokens_from (suc n) s p ≡ token_at s p ∷ tokens_from n s (p + k)
  unfolding tokens_from
  onwards n p t k f = rw (ne_eqb (token_at s p).kind 0 f.on) (ap (λ (q : ℕ). token_at s p ∷ tokens_from n s q) f.end)

  -- the same as the grammar sees them
  ended : (n p : ℕ) → drop p s ≡ [] → toks (suc n) s p ≡ sign 0 ∷ []
  unfolding tok_of
  ended n p e = ap (map (tok_of s)) (at_end n p e)

  gone_on : (n p : ℕ) (t : Tok) (k : ℕ) → Found s p t k → toks (suc n) s p ≡ t ∷ toks n s (p + k)
  gone_on n p t k f = ap (map (tok_of s)) (onwards n p t k f) ∙ ap (λ (x : Tok). x ∷ toks n s (p + k)) f.tok

  pub left : (n p : ℕ) (w r : List ℕ) (t : Tok) → drop p s ≡ w ++ r → Found s p t (length w) → length s - p < suc n → length s - (p + length w) < n
  left n p w r t e f h = omega (arith, (onward s p f.on).0, (onward s p f.on).1, f.end)

  -- what is spelt is found
  pub spelt_found : {u : List ℕ} {ts : List Tok} → Spelt u ts → (n p : ℕ) → drop p s ≡ u → length s - p < n → toks n s p ≡ ts
  spelt_found ran_out zero p e h = absurd (omega arith)
  spelt_found ran_out (suc n) p e h = ended n p e
  spelt_found (a_blank {b} {s = v} i sp) n p e h =
      ap (map (tok_of s)) (skips n p b v e i) ∙ spelt_found sp n (p + 1) (next_here s p b v e) (omega arith)
  spelt_found (a_token i o sp) zero p e h = absurd (omega arith)
  spelt_found (a_token {t} {w} {s = r} i o sp) (suc n) p e h =
      let f = found s p r i o e in
      gone_on n p t (length w) f ∙ ap (λ (l : List Tok). t ∷ l) (spelt_found sp n (p + length w) (past_here s p w r e) (left n p w r t e f h))

-- ---- what is found, where no token is malformed, is spelt

-- the longest run at the front
record Split (f : ℕ → Bool) (u : List ℕ) : Type 0 where
  front : List ℕ
  rest : List ℕ
  pub is : u ≡ front ++ rest
  all : every f front ≡ true
  ends : EndsRun f rest

split : (f : ℕ → Bool) (u : List ℕ) → Split f u
unfolding every
split f [] = record { front = []; rest = []; is = refl; all = refl; ends = tt }
split f (b ∷ u) = go (f b) refl (split f u)
  where
    go : (c : Bool) → f b ≡ c → Split f u → Split f (b ∷ u)
    go true e r = record { front = b ∷ r.front; rest = r.rest; is = ap (λ (l : List ℕ). b ∷ l) r.is; all = join e r.all; ends = r.ends }
    go false e r = record { front = []; rest = b ∷ u; is = refl; all = refl; ends = e }

keyword : (w : List ℕ) → (word_kind w ≡ 1 → ⊥) → Listed word_tokens (word_kind w) w
unfolding word_kind
keyword w h =
    go (same w (ascii "end")) refl (same w (ascii "rec")) refl (same w (ascii "int")) refl (same w (ascii "text")) refl (same w (ascii "flag")) refl
    (same w (ascii "edition")) refl h
  where
    go : (a : Bool) → same w (ascii "end") ≡ a → (b : Bool) → same w (ascii "rec") ≡ b → (c : Bool) → same w (ascii "int") ≡ c
        → (d : Bool) → same w (ascii "text") ≡ d → (f : Bool) → same w (ascii "flag") ≡ f → (g : Bool) → same w (ascii "edition") ≡ g
        → (◌≡◌ {A = ℕ} (cond a 101 (cond b 114 (cond c 105 (cond d 116 (cond f 102 (cond g 69 1)))))) 1 → ⊥)
        → Listed word_tokens (cond a 101 (cond b 114 (cond c 105 (cond d 116 (cond f 102 (cond g 69 1)))))) w
    go true e b i c j d k f l g m h = inl (refl, same_eq w _ e)
    go false e true i c j d k f l g m h = inr (inl (refl, same_eq w _ i))
    go false e false i true j d k f l g m h = inr (inr (inl (refl, same_eq w _ j)))
    go false e false i false j true k f l g m h = inr (inr (inr (inl (refl, same_eq w _ k))))
    go false e false i false j false k true l g m h = inr (inr (inr (inr (inl (refl, same_eq w _ l)))))
    go false e false i false j false k false l true m h = inr (inr (inr (inr (inr (inl (refl, same_eq w _ m))))))
    go false e false i false j false k false l false m h = absurd (h refl)

nothing_more : (v : List ℕ) → EndsRun (λ b. false) v
nothing_more [] = tt
nothing_more (c ∷ v) = refl

module _ (s : List ℕ) (p b : ℕ) (v : List ℕ) (e : drop p s ≡ b ∷ v) where
  -- a run that b begins
  module _ (f : ℕ → Bool) (m : Split f v) where
    taken : drop p s ≡ (b ∷ m.front) ++ m.rest
    taken = e ∙ ap (λ (l : List ℕ). b ∷ l) m.is

    whole : f b ≡ true → every f (b ∷ m.front) ≡ true
    unfolding every
    whole h = join h m.all

    size : f b ≡ true → run_end f s p ≡ p + length (b ∷ m.front)
    size h = run_here s p (b ∷ m.front) m.rest taken f (whole h) m.ends

    begin : {t : Tok} → Spells t (b ∷ m.front) f → Begins (b ∷ v)
    begin {t} i = record { t = t; w = b ∷ m.front; more = f; rest = m.rest; spells = i; ends = m.ends; is = ap (λ (l : List ℕ). b ∷ l) m.is }

  lower_begins : letter_or_digit b ≡ true → ((word_token s p).kind ≡ 1 → ⊥) → Begins (b ∷ v)
  unfolding word_token
  lower_begins l h = begin letter_or_digit m (a_word (keyword w (λ q. h (rw (size letter_or_digit m l, part_here s p w m.rest (taken letter_or_digit m)) q))))
    where
      m : Split letter_or_digit v
      m = split letter_or_digit v

      w : List ℕ
      w = b ∷ m.front

  upper_begins : upper b ≡ true → letter_or_digit b ≡ true → ((name_token s p).kind ≡ 1 → ⊥) → Begins (b ∷ v)
  unfolding name_token
  upper_begins u l h = go (leb (length (b ∷ m.front)) 8) refl
    where
      m : Split letter_or_digit v
      m = split letter_or_digit v

      go : (c : Bool) → leb (length (b ∷ m.front)) 8 ≡ c → Begins (b ∷ v)
      go true f = begin letter_or_digit m (a_name (u, m.all, leb-true _ _ f))
      go false f =
          let z : p + length (b ∷ m.front) - p ≡ length (b ∷ m.front) = omega arith in
          absurd (h (rw (size letter_or_digit m l, z, f)))

  digit_begins : a_digit b ≡ true → ((number_token s p p).kind ≡ 1 → ⊥) → Begins (b ∷ v)
  unfolding number_token number_kind
  digit_begins d h = go (eqb b 48) refl (split a_digit v)
    where
      go : (c : Bool) → eqb b 48 ≡ c → Split a_digit v → Begins (b ∷ v)
      go false f m = begin a_digit m (a_number (whole a_digit m d, eqb-false b 48 f))
      go true f m = alone m.front refl
        where
          alone : (w : List ℕ) → m.front ≡ w → Begins (b ∷ v)
          alone [] g = record {
            t = number (record { minus = false; value = 0 });
            w = ascii "0";
            more = a_digit;
            rest = m.rest;
            spells = a_zero;
            ends = m.ends;
            is = ap₂ ◌∷◌ (eqb-true b 48 f) (m.is ∙ ap (λ (l : List ℕ). l ++ m.rest) g);
          }
          alone (c ∷ w) g =
              let n : length (b ∷ m.front) ≡ suc (suc (length w)) = ap (λ (l : List ℕ). length (b ∷ l)) g in
              let z : p + length (b ∷ m.front) - p ≡ length (b ∷ m.front) = omega arith in
              absurd
              (h (rw (size a_digit m d, z, ne_eqb (p + length (b ∷ m.front)) p (λ q. omega arith), byte_here s p b v e, f, ne_eqb (length (b ∷ m.front)) 1 (λ q. omega arith))))

  minus_begins : b ≡ 45 → ((number_token s p (p + 1)).kind ≡ 1 → ⊥) → Begins (b ∷ v)
  unfolding number_token number_kind
  minus_begins d h = go (split a_digit v)
    where
      n : drop (p + 1) s ≡ v
      n = next_here s p b v e

      go : Split a_digit v → Begins (b ∷ v)
      go m = first m.front refl
        where
          ended : run_end a_digit s (p + 1) ≡ p + 1 + length m.front
          ended = run_here s (p + 1) m.front m.rest (n ∙ m.is) a_digit m.all m.ends

          first : (w : List ℕ) → m.front ≡ w → Begins (b ∷ v)
          first [] g =
              let z : p + 1 + length m.front ≡ p + 1 = omega (arith, ap length g) in
              absurd (h (rw (ended, eq-eqb (p + 1 + length m.front) (p + 1) z)))
          first (c ∷ w) g = lead (eqb c 48) refl
            where
              is : v ≡ (c ∷ w) ++ m.rest
              is = m.is ∙ ap (λ (l : List ℕ). l ++ m.rest) g

              lead : (x : Bool) → eqb c 48 ≡ x → Begins (b ∷ v)
              lead false f = record {
                t = number (record { minus = true; value = _ });
                w = ascii "-" ++ (c ∷ w);
                more = a_digit;
                rest = m.rest;
                spells = a_negative {w = c ∷ w} (subst (λ (l : List ℕ). every a_digit l ≡ true) g m.all, eqb-false c 48 f);
                ends = m.ends;
                is = ap₂ ◌∷◌ d is;
              }
              lead true f =
                  let l : length m.front ≡ suc (length w) = ap length g in
                  absurd
                  (h (rw (ended, ne_eqb (p + 1 + length m.front) (p + 1) (λ q. omega arith), byte_here s (p + 1) c (w ++ m.rest) (n ∙ is), f, ne_eqb (p + 1 + length m.front - p) 1 (λ q. omega arith))))

  dot_begins : b ≡ 46 → ((dots_token s p).kind ≡ 1 → ⊥) → Begins (b ∷ v)
  unfolding dots_token every
  dot_begins d h = go (split dot_byte v)
    where
      go : Split dot_byte v → Begins (b ∷ v)
      go m = count m.front refl
        where
          is : (w : List ℕ) → m.front ≡ w → v ≡ w ++ m.rest
          is w g = m.is ∙ ap (λ (l : List ℕ). l ++ m.rest) g

          count : (w : List ℕ) → m.front ≡ w → Begins (b ∷ v)
          count [] g =
              record { t = sign 46; w = ascii "."; more = dot_byte; rest = m.rest; spells = a_dot (inl (refl, refl)); ends = m.ends; is = ap₂ ◌∷◌ d (is [] g) }
          count (c ∷ []) g =
              let c_is : c ≡ 46 = eqb-true c 46 (both (eqb c 46) true (subst (λ (l : List ℕ). every dot_byte l ≡ true) g m.all)).0 in
              record {
                t = sign 58;
                w = ascii "..";
                more = dot_byte;
                rest = m.rest;
                spells = a_dot (inr (inl (refl, refl)));
                ends = m.ends;
                is = ap₂ ◌∷◌ d (is (c ∷ []) g ∙ ap (λ (x : ℕ). x ∷ m.rest) c_is);
              }
          count (c ∷ c₁ ∷ w) g =
              let n : length (b ∷ m.front) ≡ suc (suc (suc (length w))) = ap (λ (l : List ℕ). length (b ∷ l)) g in
              let z : p + length (b ∷ m.front) - p ≡ length (b ∷ m.front) = omega arith in
              absurd
              (h (rw (size dot_byte m (eq-eqb b 46 d), z, ne_eqb (length (b ∷ m.front)) 1 (λ q. omega arith), ne_eqb (length (b ∷ m.front)) 2 (λ q. omega arith))))

  pub begins : (x : Class) → Seen b x → ((begin_at s p x).kind ≡ 1 → ⊥) → Begins (b ∷ v)
  unfolding begin_at
  begins Space i h = absurd (h refl)
  begins Lower i h = lower_begins i h
  begins Upper i h = upper_begins i.0 i.1 h
  begins Digit i h = digit_begins i h
  begins Dot i h = dot_begins i h
  begins Minus i h = minus_begins i h
  begins Sign i h = record { t = sign b; w = b ∷ []; more = λ b. false; rest = v; spells = a_sign i; ends = nothing_more v; is = refl }
  begins Other i h = absurd (h refl)

module _ (s : List ℕ) where
  -- no blank here: the token begins here
  pub begin_here : (p b : ℕ) (v : List ℕ) → drop p s ≡ b ∷ v → blank b ≡ false → token_at s p ≡ begin_at s p (class_of b)
  unfolding token_at
  begin_here p b v e i =
      let l : p < length s = inside s p b v e in
      let at : get_or s p 0 ≡ b = byte_here s p b v e in
      rw (run_off is_space s p l (ap is_space at ∙ space_blank b ∙ i), lt-leb (length s) p l, at)

  formed_kind : (n p : ℕ) → WellFormed (toks (suc n) s p) → (token_at s p).kind ≡ 1 → ⊥
  unfolding tokens_from
  formed_kind n p f k = f.0 (kind_sign s (token_at s p) 1 (λ q. omega arith) (λ q. omega arith) k)

  step : (m n p : ℕ) → ((n p : ℕ) → length s - p < m → length s - p < n → WellFormed (toks n s p) → Spelt (drop p s) (toks n s p))
      → length s - p < suc m → length s - p < suc n → WellFormed (toks (suc n) s p) → Spelt (drop p s) (toks (suc n) s p)
  step m n p ih h i f = go (drop p s) refl
    where
      go : (u : List ℕ) → drop p s ≡ u → Spelt (drop p s) (toks (suc n) s p)
      go [] e = rw (e, ended s n p e) ran_out
      go (b ∷ v) e = blanks (blank b) refl
        where
          on : drop (p + 1) s ≡ v
          on = next_here s p b v e

          blanks : (c : Bool) → blank b ≡ c → Spelt (drop p s) (toks (suc n) s p)
          blanks true g =
              let l : p < length s = inside s p b v e in
              let k : toks (suc n) s p ≡ toks (suc n) s (p + 1) = ap (map (tok_of s)) (skips s (suc n) p b v e g) in
              rw (e, k) (a_blank g (rw on at (ih (suc n) (p + 1) (omega arith) (omega arith) (rw k at f))))
          blanks false g = token_next (begins s p b v e (class_of b) (seen b) (λ q. formed_kind n p f (ap (λ (t : Token). t.kind) (begin_here p b v e g) ∙ q)))
            where
              token_next : Begins (b ∷ v) → Spelt (drop p s) (toks (suc n) s p)
              token_next a =
                  let d : drop p s ≡ a.w ++ a.rest = e ∙ a.is in
                  let x : Found s p a.t (length a.w) = found s p a.rest a.spells a.ends d in
                  let o : toks (suc n) s p ≡ a.t ∷ toks n s (p + length a.w) = gone_on s n p a.t (length a.w) x in
                  rw (d, o)
                  (a_token a.spells a.ends
                  (rw (past_here s p a.w a.rest d) at
                  (ih n (p + length a.w) (left s m p a.w a.rest a.t d x h) (left s n p a.w a.rest a.t d x i) (rw o at f).1)))

  pub found_spelt : (m n p : ℕ) → length s - p < m → length s - p < n → WellFormed (toks n s p) → Spelt (drop p s) (toks n s p)
  found_spelt zero n p h i f = absurd (omega arith)
  found_spelt (suc m) zero p h i f = absurd (omega arith)
  found_spelt (suc m) (suc n) p h i f = step m n p (λ n p. found_spelt m n p) h i f

-- ---- no token that is spelt is malformed

listed_formed : (es : List (ℕ × String)) (k : ℕ) (w : List ℕ) → Each (λ k w. eqb k 1 ≡ false) es → Listed es k w → sign k ≡ sign 1 → ⊥
listed_formed es k w a l e = eqb-false k 1 (each_listed (λ k w. eqb k 1 ≡ false) es k w a l) (ap sign_in e)

pub spells_formed : {t : Tok} {w : List ℕ} {more : ℕ → Bool} → Spells t w more → t ≡ sign 1 → ⊥
spells_formed (a_sign {k} {w} l) e = listed_formed sign_tokens k w (refl, (refl, (refl, (refl, (refl, (refl, (refl, (refl, (refl, (refl, (refl, (refl, tt)))))))))))) l e
spells_formed (a_dot {k} {w} l) e = listed_formed dot_tokens k w (refl, (refl, tt)) l e
spells_formed (a_word {k} {w} l) e = listed_formed word_tokens k w (refl, (refl, (refl, (refl, (refl, (refl, tt)))))) l e
spells_formed (a_name h) e = omega (arith, ap tok_tag e)
spells_formed a_zero e = omega (arith, ap tok_tag e)
spells_formed (a_number h) e = omega (arith, ap tok_tag e)
spells_formed (a_negative h) e = omega (arith, ap tok_tag e)

pub spelt_formed : {s : List ℕ} {ts : List Tok} → Spelt s ts → WellFormed ts
spelt_formed ran_out = ((λ e. omega (arith, ap sign_in e)), tt)
spelt_formed (a_blank i sp) = spelt_formed sp
spelt_formed (a_token i o sp) = (spells_formed i, spelt_formed sp)
