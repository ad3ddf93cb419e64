-- What a refusal means, said of the tokens that stand in the text: by 2 or a later question, since reading goes the same way over the same
-- tokens wherever they stand; by 3, from the grammar, with a text written by the speller.
-- Assumes nothing.
use mathlib.Core.Path.{◌≡◌, refl, sym, subst, ap, ap₂, ◌∙◌}
use mathlib.Core.Bool.{cond, Bool, true, false, not}
use mathlib.Core.List.{List, [], ◌∷◌, ◌++◌, map}
use Prim.Native.Nat.{ℕ}
use native.Mathlib.Omega.{arith}
use lib.Dec.{eqb, leb}
use lib.ListN.{length, drop}
use borrow.Author.Tests.{ne_eqb, eqb-true}
use Rattle.table.specs.Lists.{every, first_no}
use Rattle.table.specs.Table.{upper}
use Rattle.table.proofs.laws.Lists.{never}
use Rattle.grammar.specs.Token.{Token, token}
use Rattle.grammar.specs.inner.Scanner.{tokens}
use Rattle.grammar.specs.Building.{denied}
use Rattle.grammar.specs.Filled.{not_read, written}
use Rattle.grammar.specs.Reading.{State, token_formed, grammar_allows, edition_known, name_bound, guarded, ranged, share_ranged, new_label, within_limits, shares_add, questions, start, run_tokens, built, reads}
use Rattle.grammar.proofs.laws.Questions.{asked}
use Rattle.grammar.specs.Grammar.{Protocol, Tok, word, number, sign, print_text}
use Rattle.grammar.specs.TokOf.{tok_of}
use Rattle.grammar.specs.declared.Reading.{Reading}
use Rattle.grammar.proofs.laws.TokOf.{kind_sign}
use Rattle.grammar.proofs.laws.GrammarAllows.{MadeUp}
use Rattle.grammar.proofs.laws.Prefix.{Forbidden, three}
use Rattle.spelling.specs.Spelling.{Spelt, a_name}
use Rattle.spelling.specs.Places.{Placed, ran_out, malformed, a_blank, a_token}
use Rattle.spelling.specs.Speller.{spell, Writable}
use Rattle.spelling.specs.Scanned.{WellFormed}
use Rattle.spelling.specs.Refusals.{At, upto_before, upto_here, RefusedMeans, TwoMeans, ThreeMeans}
use Rattle.spelling.proofs.laws.StandsAt.{next_here, past_here, found}
use Rattle.spelling.proofs.claims.SpeltScanned.{spelt_scanned}
use Rattle.spelling.proofs.laws.WellFormed.{text_formed}
use Rattle.spelling.proofs.laws.Placed.{upto_bad, placed_scanned}
use Rattle.spelling.proofs.claims.ReadPlaced.{read_placed}
use Rattle.spelling.proofs.laws.Speller.{spell_spelt}
use Rattle.spelling.proofs.laws.Spellable.{spells_writable, Written, text_written}
use Rattle.spelling.proofs.laws.Alike.{Stop, stop}
use Rattle.spelling.proofs.laws.Places.{at_once}

-- ---- by 2 or a later question

run_read : (u : List ℕ) → (reads u).question ≡ 0 → (run_tokens u start (tokens u)).question ≡ 0
unfolding reads built denied
run_read u h = go (leb (length u) 8192) h
  where
    go : (b : Bool) → (cond b (run_tokens u start (tokens u)) (denied 1 0)).question ≡ 0 → (run_tokens u start (tokens u)).question ≡ 0
    go true h = h
    go false h = absurd (omega arith)

-- the same tokens, however they are split
here_same : (s : List ℕ) (p : ℕ) (a b : At s p) (ts : List Tok) → upto_here a ts ≡ upto_here b ts
here_same s p a b ts = let h = at_once s p a b in ap₂ (λ ks k. map (tok_of s) ks ++ (tok_of s k ∷ ts)) h.0 h.1

before_same : (s : List ℕ) (p : ℕ) (a b : At s p) (ts : List Tok) → upto_before a ts ≡ upto_before b ts
before_same s p a b ts = ap (λ ks. map (tok_of s) ks ++ ts) (at_once s p a b).0

pub refused_means : RefusedMeans
unfolding not_read denied
refused_means s q p l h = let r = (read_placed s (not_read q p)).0 h in go r.0 r.1 (leb (length s) 8192) r.2
  where
    go : (ks : List Token) → Placed s 0 ks → (b : Bool) → written (cond b (run_tokens s start ks) (denied 1 0)) ≡ not_read q p
        → At s p × ((a : At s p) (u : List ℕ) (ts : List Tok) → Spelt u (upto_here a ts) → (reads u).question ≡ 0 → ⊥)
    go ks pl false e = let z : ◌≡◌ {A = ℕ} 1 q = ap (λ (r : Reading). r.question) e in absurd (omega arith)
    go ks pl true e =
        let z : (run_tokens s start ks).question ≡ q = ap (λ (r : Reading). r.question) e in
        let f : Stop s start ks (run_tokens s start ks).question (run_tokens s start ks).at = stop s ks start (λ n. omega arith) in
        let b : At s p = record {
          before = f.before;
          here = f.here;
          rest = f.rest;
          split = subst (Placed s 0) f.split pl;
          place = f.place ∙ ap (λ (r : Reading). r.at) e;
        } in
        (b, (λ a u ts sp read. f.none u (tokens u) ts (((spelt_scanned u _).0 sp).0 ∙ here_same s p a b ts) (run_read u read)))

-- ---- by 2

two_asked : (s : List ℕ) (st : State) (k : Token) → asked s st k ≡ 2 → k.kind ≡ 1
unfolding questions first_no token_formed
two_asked s st k e =
    eqb-true k.kind 1
    (go (eqb k.kind 1) (grammar_allows s st k) (edition_known s st k) (name_bound s st k) (guarded s st k) (ranged s st k) (share_ranged s st k) (new_label s st k) (within_limits s st k) (shares_add s st k) e)
  where
    go : (a b m c d e x f g y : Bool)
        → first_no ((2, not a) ∷ (3, b) ∷ (23, m) ∷ (4, c) ∷ (5, d) ∷ (6, e) ∷ (19, x) ∷ (7, f) ∷ (8, g) ∷ (20, y) ∷ []) ≡ 2 → a ≡ true
    go true b m c d e x f g y h = refl
    go false false m c d e x f g y h = absurd (omega arith)
    go false true false c d e x f g y h = absurd (omega arith)
    go false true true false d e x f g y h = absurd (omega arith)
    go false true true true false e x f g y h = absurd (omega arith)
    go false true true true true false x f g y h = absurd (omega arith)
    go false true true true true true false f g y h = absurd (omega arith)
    go false true true true true true true false g y h = absurd (omega arith)
    go false true true true true true true true false y h = absurd (omega arith)
    go false true true true true true true true true false h = absurd (omega arith)
    go false true true true true true true true true true h = absurd (omega arith)

pub two_means : TwoMeans
unfolding not_read denied
two_means s p h a = let r = (read_placed s (not_read 2 p)).0 h in go r.0 r.1 (leb (length s) 8192) r.2
  where
    go : (ks : List Token) → Placed s 0 ks → (b : Bool) → written (cond b (run_tokens s start ks) (denied 1 0)) ≡ not_read 2 p → a.here.kind ≡ 1
    go ks pl false e = let z : ◌≡◌ {A = ℕ} 1 2 = ap (λ (r : Reading). r.question) e in absurd (omega arith)
    go ks pl true e =
        let z : (run_tokens s start ks).question ≡ 2 = ap (λ (r : Reading). r.question) e in
        let f : Stop s start ks (run_tokens s start ks).question (run_tokens s start ks).at = stop s ks start (λ n. omega arith) in
        let b : At s p = record {
          before = f.before;
          here = f.here;
          rest = f.rest;
          split = subst (Placed s 0) f.split pl;
          place = f.place ∙ ap (λ (r : Reading). r.at) e;
        } in
        ap (λ (k : Token). k.kind) (at_once s p a b).1 ∙ two_asked s f.why.0 f.here (f.why.1 ∙ z)

-- ---- by 3

bad_sign : (s : List ℕ) (k : Token) → k.kind ≡ 1 → tok_of s k ≡ sign 1
bad_sign s k e = kind_sign s k 1 (λ q. omega arith) (λ q. omega arith) e

-- the tokens that stand in a text can be written
placed_written : (s : List ℕ) {u : List ℕ} {p : ℕ} {ks : List Token} → Placed u p ks → drop p s ≡ u → Written (map (tok_of s) ks)
placed_written s (ran_out {p}) e = rw (kind_sign s (token 0 p p) 0 (λ q. omega arith) (λ q. omega arith) refl) (tt, tt)
placed_written s (malformed {b} {p} i never) e = rw (bad_sign s (token 1 p p) refl) (tt, tt)
placed_written s (a_blank {b} {p} {s = v} i pl) e = placed_written s pl (next_here s p b v e)
placed_written s (a_token {t} {w} {s = r} {p = p} i o pl) e =
    let f = found s p r i o e in
    (subst Writable (sym (sym (ap (tok_of s) f.is) ∙ f.tok)) (spells_writable i), placed_written s pl (past_here s p w r e))

made_up_written : (ts : List Tok) → MadeUp ts → Written ts
unfolding upper every
made_up_written [] m = tt
made_up_written (word x ∷ ts) m =
    (subst (λ (x : ℕ). Writable (word x)) (sym m.0) (spells_writable (a_name {w = 65 ∷ []} (refl, refl, omega arith))), made_up_written ts m.1)
made_up_written (number n ∷ ts) m = (subst (λ n. Writable (number n)) (sym m.0) (λ e z. never e refl), made_up_written ts m.1)
made_up_written (sign k ∷ ts) m = (tt, made_up_written ts m)

-- the first of tokens and others
front_written : (ts us vs : List Tok) → Written (ts ++ us) → Written vs → Written (ts ++ vs)
front_written [] us vs w v = v
front_written (t ∷ ts) us vs w v = (w.0, front_written ts us vs w.1 v)

front_formed : (ts us : List Tok) → WellFormed (ts ++ us) → WellFormed ts
front_formed [] us w = tt
front_formed (t ∷ ts) us w = (w.0, front_formed ts us w.1)

map_append : (s : List ℕ) (ks js : List Token) → map (tok_of s) (ks ++ js) ≡ map (tok_of s) ks ++ map (tok_of s) js
map_append s [] js = refl
map_append s (k ∷ ks) js = ap (λ (l : List Tok). tok_of s k ∷ l) (map_append s ks js)

upto_front : (s : List ℕ) (ks js : List Token) → WellFormed (map (tok_of s) ks) → upto_bad (ks ++ js) ≡ ks ++ upto_bad js
unfolding upto_bad
upto_front s [] js w = refl
upto_front s (k ∷ ks) js w = rw (ne_eqb k.kind 1 (λ e. w.0 (bad_sign s k e))) (ap (λ (l : List Token). k ∷ l) (upto_front s ks js w.1))

-- the tokens before, and others made up, are those of a text
text_made : (s : List ℕ) (p : ℕ) (a : At s p) (r : Protocol) (us : List Tok) → MadeUp us → print_text r ≡ upto_before a us
    → (u : List ℕ) × (r : Protocol) × (ts : List Tok) × Spelt u (print_text r) × (print_text r ≡ upto_before a ts)
text_made s p a r us m e =
    let w = rw (map_append s a.before (a.here ∷ a.rest)) at (placed_written s a.split refl) in
    let v = front_written (map (tok_of s) a.before) _ us w (made_up_written us m) in
    (spell r, r, us, spell_spelt r (text_written r (subst Written (sym e) v)), e)

pub three_means : ThreeMeans
unfolding upto_bad
three_means s p h a = go (three s p h)
  where
    go : Forbidden s p
        → ((r : Protocol) (ts : List Tok) → print_text r ≡ upto_here a ts → ⊥)
        × ((u : List ℕ) × (r : Protocol) × (ts : List Tok) × Spelt u (print_text r) × (print_text r ≡ upto_before a ts))
    go f = decide (eqb f.here.kind 1) refl
      where
        formed : WellFormed (map (tok_of s) f.before)
        formed = front_formed (map (tok_of s) f.before) f.some.1 (subst WellFormed f.some.2 (text_formed f.some.0))

        found : Placed s 0 (f.before ++ cond (eqb f.here.kind 1) (token 1 f.here.start f.here.start ∷ []) (f.here ∷ upto_bad f.rest))
        found = (placed_scanned s _).1 (ap upto_bad f.split ∙ upto_front s f.before (f.here ∷ f.rest) formed)

        -- from a token that is the same as the grammar sees it
        told : (k : Token) (ks : List Token) → Placed s 0 (f.before ++ (k ∷ ks)) → k.start ≡ p → tok_of s k ≡ tok_of s f.here
            → ((r : Protocol) (ts : List Tok) → print_text r ≡ upto_here a ts → ⊥)
            × ((u : List ℕ) × (r : Protocol) × (ts : List Tok) × Spelt u (print_text r) × (print_text r ≡ upto_before a ts))
        told k ks pl e same =
            let b : At s p = record { before = f.before; here = k; rest = ks; split = pl; place = e } in (
              (λ t ts q. f.none t ts (q ∙ here_same s p a b ts ∙ ap (λ (x : Tok). map (tok_of s) f.before ++ (x ∷ ts)) same)),
              text_made s p a f.some.0 f.some.1 f.made_up (f.some.2 ∙ before_same s p b a f.some.1),
            )

        decide : (b : Bool) → eqb f.here.kind 1 ≡ b
            → ((r : Protocol) (ts : List Tok) → print_text r ≡ upto_here a ts → ⊥)
            × ((u : List ℕ) × (r : Protocol) × (ts : List Tok) × Spelt u (print_text r) × (print_text r ≡ upto_before a ts))
        decide true e =
            told (token 1 f.here.start f.here.start) [] (rw e at found) f.place
            (bad_sign s (token 1 f.here.start f.here.start) refl ∙ sym (bad_sign s f.here (eqb-true f.here.kind 1 e)))
        decide false e = told f.here (upto_bad f.rest) (rw e at found) f.place refl
