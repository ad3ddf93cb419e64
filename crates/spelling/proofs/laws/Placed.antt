-- The tokens of any text and their places are what the scanner finds up to the first malformed one, and reading asks of no others.
-- Assumes nothing.
use mathlib.Core.Path.{◌≡◌, refl, sym, subst, ap, ◌∙◌}
use mathlib.Core.Bool.{cond, Bool, true, false}
use mathlib.Core.Logic.{◌↔◌}
use mathlib.Core.List.{List, [], ◌∷◌, ◌++◌}
use Prim.Native.Nat.{ℕ, zero, suc, ◌+◌, ◌-◌, ◌≤◌, ◌<◌}
use native.Mathlib.Omega.{arith}
use lib.Dec.{eqb}
use lib.ListN.{length, drop, length-drop, length-append}
use borrow.Author.Tests.{eq-eqb, ne_eqb, eqb-true, eqb-false}
use Rattle.table.specs.Lists.{first_no}
use Rattle.grammar.proofs.laws.Questions.{asked}
use Rattle.grammar.specs.Token.{Token, token}
use Rattle.grammar.specs.inner.Scanner.{Class, Space, Lower, Upper, Digit, Dot, Minus, Sign, Other, class_of, word_token, name_token, number_token, dots_token, begin_at, token_at, tokens_from, tokens}
use Rattle.grammar.specs.Building.{Built, denied}
use Rattle.grammar.specs.Reading.{State, token_formed, taken, run_tokens, questions}
use Rattle.grammar.specs.Grammar.{Tok}
use Rattle.grammar.proofs.laws.TokOf.{kind_sign}
use Rattle.spelling.specs.Spelling.{blank, Spells}
use Rattle.spelling.specs.Places.{Begins, kind_in, Placed, ran_out, malformed, a_blank, a_token}
use Rattle.spelling.proofs.laws.Classes.{seen}
use Rattle.spelling.proofs.laws.StandsAt.{inside, next_here, past_here, Found, found}
use Rattle.spelling.proofs.laws.Spelling.{skips, at_end, onwards, left, begins, begin_here, spells_formed}

-- the scanner's tokens up to the first that is malformed, of which only the place counts
unfoldable pub upto_bad : List Token → List Token
upto_bad [] = []
upto_bad (k ∷ ks) = cond (eqb k.kind 1) (token 1 k.start k.start ∷ []) (k ∷ upto_bad ks)

abbrev upto : ℕ → List ℕ → ℕ → List Token
upto n s p = upto_bad (tokens_from n s p)

module _ (s : List ℕ) where
  begin_start : (p : ℕ) (x : Class) → (begin_at s p x).start ≡ p
  unfolding begin_at word_token name_token number_token dots_token
  begin_start p Space = refl
  begin_start p Lower = refl
  begin_start p Upper = refl
  begin_start p Digit = refl
  begin_start p Dot = refl
  begin_start p Minus = refl
  begin_start p Sign = refl
  begin_start p Other = refl

  -- a token that is spelt is not malformed
  not_bad : (p n : ℕ) {t : Tok} {w : List ℕ} {more : ℕ → Bool} → Spells t w more → Found s p t n → eqb (token_at s p).kind 1 ≡ false
  not_bad p n i f = ne_eqb _ _ (λ k. spells_formed i (sym f.tok ∙ kind_sign s (token_at s p) 1 (λ q. omega arith) (λ q. omega arith) k))

  upto_on : (n p : ℕ) {t : Tok} {w : List ℕ} {more : ℕ → Bool} → Spells t w more → Found s p t (length w)
      → upto (suc n) s p ≡ token (kind_in t) p (p + length w) ∷ upto n s (p + length w)
  unfolding upto_bad
  upto_on n p {t} {w} i f =
      ap upto_bad (onwards s n p t (length w) f)
      ∙ rw (not_bad p (length w) i f) (ap (λ (k : Token). k ∷ upto n s (p + length w)) f.is)

  upto_end : (n p : ℕ) → p ≤ length s → drop p s ≡ [] → upto (suc n) s p ≡ token 0 p p ∷ []
  unfolding upto_bad
  upto_end n p h e =
      let z : length s ≡ p = omega (arith, length-drop p s, ap length e) in
      ap upto_bad (at_end s n p e) ∙ rw z

  upto_here : (n p : ℕ) → (token_at s p).kind ≡ 1 → (token_at s p).start ≡ p → upto (suc n) s p ≡ token 1 p p ∷ []
  unfolding upto_bad tokens_from
  upto_here n p k h = rw (eq-eqb (token_at s p).kind 1 k) (ap (λ (q : ℕ). token 1 q q ∷ []) h)

  starts_here : (p b : ℕ) (v : List ℕ) → drop p s ≡ b ∷ v → blank b ≡ false → (token_at s p).start ≡ p
  starts_here p b v e i = ap (λ (k : Token). k.start) (begin_here s p b v e i) ∙ begin_start p (class_of b)

  begins_here : (p b : ℕ) (v : List ℕ) → drop p s ≡ b ∷ v → blank b ≡ false → ((token_at s p).kind ≡ 1 → ⊥) → Begins (b ∷ v)
  begins_here p b v e i h = begins s p b v e (class_of b) (seen b) (λ q. h (ap (λ (k : Token). k.kind) (begin_here s p b v e i) ∙ q))

  within : (p : ℕ) (w r : List ℕ) → drop p s ≡ w ++ r → p ≤ length s → p + length w ≤ length s
  within p w r e h = omega (arith, length-drop p s, ap length e, length-append w r)

  placed_upto : {u : List ℕ} {p : ℕ} {ks : List Token} → Placed u p ks → (n : ℕ) → drop p s ≡ u → p ≤ length s → length s - p < n → upto n s p ≡ ks
  placed_upto ran_out zero e l h = absurd (omega arith)
  placed_upto (ran_out {p}) (suc n) e l h = upto_end n p l e
  placed_upto (malformed i never) zero e l h = absurd (omega arith)
  placed_upto (malformed {b} {p} {s = v} i never) (suc n) e l h = go (eqb (token_at s p).kind 1) refl
    where
      go : (c : Bool) → eqb (token_at s p).kind 1 ≡ c → upto (suc n) s p ≡ token 1 p p ∷ []
      go true f = upto_here n p (eqb-true _ _ f) (starts_here p b v e i)
      go false f = absurd (never (begins_here p b v e i (eqb-false _ _ f)))
  placed_upto (a_blank {b} {p} {s = v} i pl) n e l h =
      let m : p < length s = inside s p b v e in
      ap upto_bad (skips s n p b v e i) ∙ placed_upto pl n (next_here s p b v e) (omega arith) (omega arith)
  placed_upto (a_token i o pl) zero e l h = absurd (omega arith)
  placed_upto (a_token {t} {w} {s = r} {p = p} i o pl) (suc n) e l h =
      let f = found s p r i o e in
      upto_on n p i f
      ∙ ap (λ (ks : List Token). token (kind_in t) p (p + length w) ∷ ks) (placed_upto pl n (past_here s p w r e) (within p w r e l) (left s n p w r t e f h))

  step : (m n p : ℕ) → ((n p : ℕ) → p ≤ length s → length s - p < m → length s - p < n → Placed (drop p s) p (upto n s p))
      → p ≤ length s → length s - p < suc m → length s - p < suc n → Placed (drop p s) p (upto (suc n) s p)
  step m n p ih l h i = go (drop p s) refl
    where
      go : (u : List ℕ) → drop p s ≡ u → Placed (drop p s) p (upto (suc n) s p)
      go [] e = rw (e, upto_end n p l e) ran_out
      go (b ∷ v) e = blanks (blank b) refl
        where
          blanks : (c : Bool) → blank b ≡ c → Placed (drop p s) p (upto (suc n) s p)
          blanks true g =
              let m : p < length s = inside s p b v e in
              rw (e, skips s (suc n) p b v e g) (a_blank g (rw (next_here s p b v e) at (ih (suc n) (p + 1) (omega arith) (omega arith) (omega arith))))
          blanks false g = decide (eqb (token_at s p).kind 1) refl
            where
              decide : (c : Bool) → eqb (token_at s p).kind 1 ≡ c → Placed (drop p s) p (upto (suc n) s p)
              decide true f =
                  rw (e, upto_here n p (eqb-true _ _ f) (starts_here p b v e g))
                  (malformed g (λ (a : Begins (b ∷ v)). eqb-false (token_at s p).kind 1 (not_bad p (length a.w) a.spells (found s p a.rest a.spells a.ends (e ∙ a.is))) (eqb-true (token_at s p).kind 1 f)))
              decide false f = next (begins_here p b v e g (eqb-false _ _ f))
                where
                  next : Begins (b ∷ v) → Placed (drop p s) p (upto (suc n) s p)
                  next a =
                      let d : drop p s ≡ a.w ++ a.rest = e ∙ a.is in
                      let x : Found s p a.t (length a.w) = found s p a.rest a.spells a.ends d in
                      rw (d, upto_on n p a.spells x)
                      (a_token a.spells a.ends
                      (rw (past_here s p a.w a.rest d) at
                      (ih n (p + length a.w) (within p a.w a.rest d l) (left s m p a.w a.rest a.t d x h) (left s n p a.w a.rest a.t d x i))))

  upto_placed : (m n p : ℕ) → p ≤ length s → length s - p < m → length s - p < n → Placed (drop p s) p (upto n s p)
  upto_placed zero n p l h i = absurd (omega arith)
  upto_placed (suc m) zero p l h i = absurd (omega arith)
  upto_placed (suc m) (suc n) p l h i = step m n p (λ n p. upto_placed m n p) l h i

-- ---- reading asks of no token after a malformed one

asked_bad : (s : List ℕ) (st : State) (k : Token) → eqb k.kind 1 ≡ true → asked s st k ≡ 2
unfolding first_no questions token_formed
asked_bad s st k e = rw e

pub run_upto : (s : List ℕ) (ks : List Token) (st : State) → run_tokens s st ks ≡ run_tokens s st (upto_bad ks)
unfolding run_tokens upto_bad
run_upto s [] st = refl
run_upto s (k ∷ ks) st = go (eqb k.kind 1) refl (run_upto s ks)
  where
    go : (b : Bool) → eqb k.kind 1 ≡ b → ((st : State) → run_tokens s st ks ≡ run_tokens s st (upto_bad ks))
        → run_tokens s st (k ∷ ks) ≡ run_tokens s st (cond b (token 1 k.start k.start ∷ []) (k ∷ upto_bad ks))
    go true e ih = rw (asked_bad s st k e, asked_bad s st (token 1 k.start k.start) refl)
    go false e ih = ap (λ (r : Built). cond (eqb (asked s st k) 0) r (denied (asked s st k) k.start)) (ih (taken s st k))

-- ---- the theorems

-- Tokens are those of a text exactly when the scanner finds them up to the first malformed one.
pub placed_scanned : (s : List ℕ) (ks : List Token) → Placed s 0 ks ↔ (upto_bad (tokens s) ≡ ks)
unfolding tokens
placed_scanned s ks = (
  (λ pl. placed_upto s pl (suc (length s)) refl (omega arith) (omega arith)),
  (λ e. subst (Placed s 0) e (upto_placed s (suc (length s)) (suc (length s)) 0 (omega arith) (omega arith) (omega arith))),
)
