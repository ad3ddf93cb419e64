-- The opening of a text: reading goes over it, and over the type of a text that has none, exactly where its edition is 1 or 2.
-- Assumes nothing.
use mathlib.Core.Path.{◌≡◌, refl, sym, ap, ◌∙◌}
use mathlib.Core.Bool.{Bool, true, cond}
use mathlib.Core.List.{List, [], ◌∷◌, map}
use mathlib.Core.Option.{Option, none, some}
use Prim.Native.Nat.{ℕ}
use native.Mathlib.Omega.{arith}
use borrow.Author.Tests.{ne_eqb}
use Rattle.table.specs.Lists.{first_no}
use Rattle.table.specs.Table.{Branch, Table}
use Rattle.grammar.specs.Number.{Signed, in_edition}
use Rattle.grammar.specs.Building.{empty_branch, stateless, set_edition, Built}
use Rattle.grammar.specs.Reading.{Item, outset, edition, type, Open, State, state, start, token_formed, grammar_allows, edition_known, name_bound, guarded, ranged, share_ranged, new_label, within_limits, shares_add, taken, run_tokens, questions}
use Rattle.grammar.specs.Grammar.{Ty, Tok, number, sign, print, print_opening, edition_named, opening_legal}
use Rattle.grammar.specs.TokOf.{tok_of}
use Rattle.grammar.specs.Token.{Token}
use Rattle.grammar.proofs.laws.Questions.{asked}
use Rattle.grammar.proofs.laws.TokOf.{sign_kind, number_kind, kind_sign}
use Rattle.grammar.proofs.laws.RunTokens.{Goes, after, given, one, past}
use Rattle.grammar.proofs.laws.Print.{gate}
use Rattle.grammar.proofs.laws.Unique.{no_edition}

-- at the outset any token but `edition` does what it does where a type is expected
pub outset_same : (s : List ℕ) (K : List Item) (O : List Open) (b : Branch) (T : Table) (k : Token) → (k.kind ≡ 69 → ⊥)
    → (asked s (state (outset ∷ K) O b T) k ≡ asked s (state (type ∷ K) O b T) k) × (taken s (state (outset ∷ K) O b T) k ≡ taken s (state (type ∷ K) O b T) k)
unfolding first_no questions token_formed grammar_allows edition_known name_bound guarded ranged share_ranged new_label within_limits shares_add taken
outset_same s K O b T k h = (rw (ne_eqb _ _ h), rw (ne_eqb _ _ h))

module _ (s : List ℕ) (q : ℕ) (E : List Item) (O : List Open) (b : Branch) (T : Table) where
  outset_one : (k : Token) → tok_of s k ≡ sign 69
      → (asked s (state (outset ∷ E) O b T) k ≡ 0) × (taken s (state (outset ∷ E) O b T) k ≡ state (edition ∷ type ∷ E) O b T)
  unfolding first_no questions token_formed grammar_allows edition_known name_bound guarded ranged share_ranged new_label within_limits shares_add taken
  outset_one k e = let h : k.kind ≡ 69 = sign_kind s k 69 e in (rw h, rw h)

  edition_one : (n : Signed) {us : List Tok} → (q ≡ 23 → in_edition n ≡ true)
      → Goes s q (in_edition n ≡ true) (state (edition ∷ E) O b T) (number n ∷ us) (state E O b (set_edition T n.value)) us
  unfolding first_no questions token_formed grammar_allows edition_known name_bound guarded ranged share_ranged new_label within_limits shares_add taken
  edition_one n g = one s (λ k h.
      let w = number_kind s k n h in
      let a : asked s (state (edition ∷ E) O b T) k ≡ cond (in_edition n) 0 23 = rw (w.0, w.1) in
      ((λ p. a ∙ ap (λ (x : Bool). cond x 0 23) p), (λ e. gate (in_edition n) 23 (omega arith) g (rw a at e)), (λ p. ap (λ (m : Signed). state E O b (set_edition T m.value)) w.1)))

  -- a type where no opening stands before it
  no_opening : (t : Ty) {P : Type 0} {st : State} {us : List Tok}
      → Goes s q P (state (type ∷ E) O b T) (print t us) st us → Goes s q P (state (outset ∷ E) O b T) (print t us) st us
  unfolding run_tokens
  no_opening t {P} {st} {us} g = record {
    on = λ p ks e. let a = g.on p ks e in (a.0, a.1, same ks e ∙ a.2);
    only = λ ks e z. g.only ks e (ap (λ (r : Built). r.question) (sym (same ks e)) ∙ z);
  }
    where
      same : (ks : List Token) → map (tok_of s) ks ≡ print t us → run_tokens s (state (outset ∷ E) O b T) ks ≡ run_tokens s (state (type ∷ E) O b T) ks
      same [] e = refl
      same (k ∷ ks) e =
          let a = outset_same s E O b T k (λ h.
          no_edition t us (map (tok_of s) ks) (sym e ∙ ap (λ (x : Tok). x ∷ map (tok_of s) ks) (kind_sign s k 69 (λ x. omega arith) (λ x. omega arith) h))) in
          rw (a.0, a.1)

pub opening_law : (s : List ℕ) (q : ℕ) (o : Option Signed) → (q ≡ 23 → opening_legal o ≡ true) → (t : Ty) {P : Type 0} {st : State} {us : List Tok}
    → Goes s q P (state (type ∷ []) [] empty_branch (stateless (edition_named o))) (print t us) st us
    → Goes s q ((opening_legal o ≡ true) × P) start (print_opening o (print t us)) st us
unfolding set_edition
opening_law s q none i t g = given s (λ p. (refl, p)) (λ p. p.1) (no_opening s q [] [] empty_branch (stateless 1) t g)
opening_law s q (some n) i t g =
    past s (outset_one s q [] [] empty_branch (stateless 1)) (after s (edition_one s q (type ∷ []) [] empty_branch (stateless 1) n i) (λ p. g))
