-- A text that is read has the tokens of a type; a text that is refused by 3 has tokens that begin those of no type from the one refused on,
-- and begin those of some type before it. (Of the grammar alone: names, ranges, labels and limits aside.)
-- Assumes nothing.
use mathlib.Core.Path.{◌≡◌, refl, sym, ap, ap₂, subst, ◌∙◌}
use mathlib.Core.Bool.{cond, Bool, true, false, true≢false, false≢true}
use mathlib.Core.Logic.{◌⊎◌, inl, inr}
use mathlib.Core.List.{List, [], ◌∷◌, ◌++◌, map}
use Prim.Native.Nat.{ℕ, zero, suc, ◌-◌, ◌<◌}
use native.Mathlib.Omega.{arith}
use lib.Dec.{eqb, leb}
use lib.ListN.{length}
use borrow.Author.Tests.{eqb-true, eqb-false}
use Rattle.grammar.proofs.laws.Questions.{asked}
use Rattle.grammar.specs.inner.Scanner.{token_at, tokens_from, tokens}
use Rattle.grammar.specs.Building.{denied, Built}
use Rattle.grammar.specs.Filled.{not_read}
use Rattle.grammar.specs.Reading.{Item, outset, edition, just, name, label, type, more, fields, field, low, high, more_fields, dot, share, State, state, admits, grammar_allows, taken, run_tokens, start, built, reads}
use Rattle.grammar.specs.Grammar.{Tok, sign, Protocol, print, print_opening, print_text}
use Rattle.grammar.specs.TokOf.{tok_of}
use Rattle.grammar.specs.declared.Reading.{Reading}
use Rattle.grammar.specs.Token.{Token}
use Rattle.grammar.proofs.laws.TokenAt.{onward}
use Rattle.grammar.proofs.laws.TokOf.{kind_sign}
use Rattle.grammar.proofs.laws.RunTokens.{passed, run_refused}
use Rattle.grammar.proofs.laws.GrammarAllows.{expected_in, Becomes, MadeUp, becomes_some, Clean, allowed_on, taken_on, taken_back, taken_clean, asked_none, asked_three}

-- ---- the tokens of a text end where the text does, and only there

abbrev pub Ended : List Token → Type 0
Ended [] = ⊥
Ended (k ∷ []) = k.kind ≡ 0
Ended (k ∷ j ∷ ks) = (k.kind ≡ 0 → ⊥) × Ended (j ∷ ks)

ended_more : (k : Token) (ks : List Token) → (k.kind ≡ 0 → ⊥) → Ended ks → Ended (k ∷ ks)
ended_more k [] z e = absurd e
ended_more k (j ∷ ks) z e = (z, e)

from_ended : (n : ℕ) (s : List ℕ) (p : ℕ) → length s - p < n → Ended (tokens_from n s p)
unfolding tokens_from
from_ended zero s p h = absurd (omega arith)
from_ended (suc n) s p h = go (eqb k.kind 0) refl (λ i. from_ended n s (token_at s p).end i)
  where
    k : Token
    k = token_at s p

    go : (b : Bool) → eqb k.kind 0 ≡ b → (length s - k.end < n → Ended (tokens_from n s k.end)) → Ended (k ∷ cond b [] (tokens_from n s k.end))
    go true e later = eqb-true _ _ e
    go false e later =
        let f = onward s p (eqb-false _ _ e) in
        let f₀ = f.0 in
        let f₁ = f.1 in
        ended_more k (tokens_from n s k.end) (eqb-false _ _ e) (later (omega arith))

pub tokens_ended : (s : List ℕ) → Ended (tokens s)
unfolding tokens
tokens_ended s = from_ended (suc (length s)) s 0 (omega arith)

-- ---- what is read

module _ (s : List ℕ) where
  -- the end of the text is allowed only where nothing more is expected
  at_end : (i : Item) (E : List Item) → Clean (i ∷ E) → admits i 0 ≡ true → ⊥
  at_end outset E c a = false≢true a
  at_end edition E c a = false≢true a
  at_end (just n) E c a = c.0.2 (sym (eqb-true 0 n a))
  at_end name E c a = false≢true a
  at_end label E c a = false≢true a
  at_end type E c a = false≢true a
  at_end (more σ) E c a = false≢true a
  at_end fields E c a = false≢true a
  at_end field E c a = false≢true a
  at_end (low κ) E c a = false≢true a
  at_end (high κ l) E c a = false≢true a
  at_end more_fields E c a = false≢true a
  at_end dot E c a = false≢true a
  at_end share E c a = false≢true a

  last_token : (st : State) (k : Token) → k.kind ≡ 0 → Clean (expected_in st) → grammar_allows s st k ≡ true → Becomes (expected_in st) (tok_of s k ∷ [])
  unfolding grammar_allows
  last_token (state [] O b T) k z c a = ap (λ (x : Tok). x ∷ []) (kind_sign s k 0 (λ x. omega arith) (λ x. omega arith) z)
  last_token (state (i ∷ E) O b T) k z c a = absurd (at_end i E c (subst (λ (n : ℕ). admits i n ≡ true) z a))

  spelt : (ks : List Token) (st : State) → Ended ks → Clean (expected_in st) → (run_tokens s st ks).question ≡ 0 → Becomes (expected_in st) (map (tok_of s) ks)
  spelt [] st d c h = absurd d
  spelt (k ∷ []) st d c h = last_token st k d c (asked_none s k st (passed s st k [] h).0)
  spelt (k ∷ j ∷ ks) st d c h =
      let p = passed s st k (j ∷ ks) h in
      taken_back s k st (map (tok_of s) (j ∷ ks)) d.0 c (asked_none s k st p.0) (spelt (j ∷ ks) (taken s st k) d.1 (taken_clean s k st c) p.1)

  -- a text that is read is that of a protocol
  pub spells : (run_tokens s start (tokens s)).question ≡ 0 → (p : Protocol) × (map (tok_of s) (tokens s) ≡ print_text p)
  spells h =
      let b = spelt (tokens s) start (tokens_ended s) tt h in
      (record { opening = b.0; type = b.1 }, b.3 ∙ ap (λ (ts : List Tok). print_opening b.0 (print b.1 ts)) b.4)

  -- ---- what is denied by 3

  -- a token with the place p among tokens, with which no list begins that E can become; but one begins with those before it
  record Stops (E : List Item) (ks : List Token) (p : ℕ) : Type 0 where
    before : List Token
    here : Token
    rest : List Token
    split : ks ≡ before ++ (here ∷ rest)
    place : here.start ≡ p
    none : (us : List Tok) → Becomes E (map (tok_of s) before ++ (tok_of s here ∷ us)) → ⊥
    some : (us : List Tok) × Becomes E (map (tok_of s) before ++ us) × MadeUp us

  -- at the first token, or after it
  stops_first : (st : State) (k : Token) (ks : List Token) (p : ℕ) → run_tokens s st (k ∷ ks) ≡ denied 3 p
      → ((asked s st k ≡ 0) × (run_tokens s (taken s st k) ks ≡ denied 3 p)) ⊎ Stops (expected_in st) (k ∷ ks) p
  unfolding run_tokens denied
  stops_first st k ks p h = go (eqb (asked s st k) 0) refl h
    where
      go : (b : Bool) → eqb (asked s st k) 0 ≡ b → cond b (run_tokens s (taken s st k) ks) (denied (asked s st k) k.start) ≡ denied 3 p
          → ((asked s st k ≡ 0) × (run_tokens s (taken s st k) ks ≡ denied 3 p)) ⊎ Stops (expected_in st) (k ∷ ks) p
      go true e h = inl (eqb-true _ _ e, h)
      go false e h =
          let a : asked s st k ≡ 3 = ap (λ (x : Built). x.question) h in
          inr
          (record {
            before = [];
            here = k;
            rest = ks;
            split = refl;
            place = ap (λ (x : Built). x.at) h;
            none = λ us b. true≢false (sym (allowed_on s k st us b) ∙ asked_three s k st a);
            some = becomes_some (expected_in st);
          })

  three_ends : (st : State) (p : ℕ) → run_tokens s st [] ≡ denied 3 p → ⊥
  unfolding run_tokens denied
  three_ends st p h = let z : ◌≡◌ {A = ℕ} 0 3 = ap (λ (x : Built). x.question) h in omega arith

  stops : (ks : List Token) (st : State) (p : ℕ) → Ended ks → Clean (expected_in st) → run_tokens s st ks ≡ denied 3 p → Stops (expected_in st) ks p
  stops [] st p d c h = absurd d
  stops (k ∷ []) st p d c h = elim (stops_first st k [] p h) [ inl e ↦ absurd (three_ends (taken s st k) p e.1) | inr r ↦ r ]
  stops (k ∷ j ∷ ks) st p d c h = onwards (λ e. stops (j ∷ ks) (taken s st k) p d.1 (taken_clean s k st c) e) (stops_first st k (j ∷ ks) p h)
    where
      onwards : (run_tokens s (taken s st k) (j ∷ ks) ≡ denied 3 p → Stops (expected_in (taken s st k)) (j ∷ ks) p)
          → ((asked s st k ≡ 0) × (run_tokens s (taken s st k) (j ∷ ks) ≡ denied 3 p)) ⊎ Stops (expected_in st) (k ∷ j ∷ ks) p → Stops (expected_in st) (k ∷ j ∷ ks) p
      onwards later (inr r) = r
      onwards later (inl e) =
          let r = later e.1 in
          record {
            before = k ∷ r.before;
            here = r.here;
            rest = r.rest;
            split = ap (λ (l : List Token). k ∷ l) r.split;
            place = r.place;
            none = λ us b. r.none us (taken_on s k st (map (tok_of s) r.before ++ (tok_of s r.here ∷ us)) d.0 b);
            some = (r.some.0, taken_back s k st (map (tok_of s) r.before ++ r.some.0) d.0 c (asked_none s k st e.0) r.some.1, r.some.2);
          }

-- ---- the theorem

-- The text's tokens are those before, the one here, whose place is p, and the rest. No protocol's tokens, with the end of the text, begin
-- with those before and this one; some protocol's begin with those before, and go on with tokens made up.
pub record Forbidden (s : List ℕ) (p : ℕ) : Type 0 where
  pub before : List Token
  pub here : Token
  pub rest : List Token
  pub split : tokens s ≡ before ++ (here ∷ rest)
  pub place : here.start ≡ p
  pub none : (p : Protocol) (us : List Tok) → print_text p ≡ map (tok_of s) before ++ (tok_of s here ∷ us) → ⊥
  pub some : (p : Protocol) × (us : List Tok) × (print_text p ≡ map (tok_of s) before ++ us)
  pub made_up : MadeUp some.1

pub three : (s : List ℕ) (p : ℕ) → reads s ≡ not_read 3 p → Forbidden s p
unfolding reads built not_read denied
three s p h = go (leb (length s) 8192) (ap (λ (x : Reading). x.question) h) (ap (λ (x : Reading). x.at) h)
  where
    go : (x : Bool) → (cond x (run_tokens s start (tokens s)) (denied 1 0)).question ≡ 3 → (cond x (run_tokens s start (tokens s)) (denied 1 0)).at ≡ p → Forbidden s p
    go false q a = absurd (omega arith)
    go true q a =
        let R = run_tokens s start (tokens s) in
        let h : R ≡ denied 3 p = run_refused s (tokens s) start (λ z. omega arith) ∙ ap₂ denied q a in
        let r = stops s (tokens s) start p (tokens_ended s) tt h in
        let m = r.some.1 in
        record {
          before = r.before;
          here = r.here;
          rest = r.rest;
          split = r.split;
          place = r.place;
          none = λ p us e. r.none us (p.opening, p.type, sign 0 ∷ [], sym e, refl);
          some = (
            record { opening = m.0; type = m.1 },
            r.some.0,
            ap (λ (ts : List Tok). print_opening m.0 (print m.1 ts)) (sym m.4) ∙ sym m.3,
          );
          made_up = r.some.2;
        }
