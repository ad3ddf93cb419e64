-- A text has one syntax: the tokens of a type are no beginning of another's, and those of a protocol are of no other.
-- Assumes nothing.
use mathlib.Core.Path.{◌≡◌, refl, sym, ap, ap₂}
use mathlib.Core.List.{List, [], ◌∷◌}
use mathlib.Core.Option.{Option, none, some}
use Prim.Native.Nat.{ℕ}
use native.Mathlib.Omega.{arith}
use Rattle.grammar.specs.Number.{Signed}
use Rattle.grammar.specs.Grammar.{sending, receiving, Kind, int, text, flag, SyntaxField, Share, Ty, stop, var, loop, choice, Br, last, also, Protocol, Tok, word, number, sign, letter, print_field, print_more, print_fields, print_share, print_head, print, print_br, print_opening, print_text}
use Rattle.grammar.proofs.laws.RunTokens.{first_is, rest_is}
use Rattle.grammar.proofs.laws.TokOf.{tok_tag, word_in_is, number_in, sign_in}

-- ---- tokens

words_same : {x y : ℕ} → word x ≡ word y → x ≡ y
words_same e = ap word_in_is e

numbers_same : {x y : Signed} → number x ≡ number y → x ≡ y
numbers_same {x} e = ap (number_in x) e

signs_same : {x y : ℕ} → sign x ≡ sign y → x ≡ y
signs_same e = ap sign_in e

no_word : {x y : ℕ} → sign x ≡ word y → ⊥
no_word e = omega (arith, ap tok_tag e)

-- ---- fields

letters_same : (κ ι : Kind) → letter κ ≡ letter ι → κ ≡ ι
letters_same int int e = refl
letters_same int text e = absurd (omega arith)
letters_same int flag e = absurd (omega arith)
letters_same text int e = absurd (omega arith)
letters_same text text e = refl
letters_same text flag e = absurd (omega arith)
letters_same flag int e = absurd (omega arith)
letters_same flag text e = absurd (omega arith)
letters_same flag flag e = refl

no_letter : (κ : Kind) → letter κ ≡ 41 → ⊥
no_letter int e = omega arith
no_letter text e = omega arith
no_letter flag e = omega arith

field_once : (f g : SyntaxField) (ts us : List Tok) → print_field f ts ≡ print_field g us → (f ≡ g) × (ts ≡ us)
field_once f g ts us e =
    let e₂ = rest_is (rest_is e) in
    let e₄ = rest_is (rest_is e₂) in
    let κ = letters_same f.kind g.kind (signs_same (first_is e)) in
    let l = numbers_same (first_is e₂) in
    let h = numbers_same (first_is e₄) in
    ((λ i. record { kind = κ i; low = l i; high = h i }), rest_is (rest_is e₄))

more_once : (fs gs : List SyntaxField) (ts us : List Tok) → print_more fs ts ≡ print_more gs us → (fs ≡ gs) × (ts ≡ us)
more_once [] [] ts us e = (refl, rest_is e)
more_once [] (g ∷ gs) ts us e = absurd (omega (arith, signs_same (first_is e)))
more_once (f ∷ fs) [] ts us e = absurd (omega (arith, signs_same (first_is e)))
more_once (f ∷ fs) (g ∷ gs) ts us e =
    let a = field_once f g (print_more fs ts) (print_more gs us) (rest_is e) in
    let b = more_once fs gs ts us a.1 in
    (ap₂ ◌∷◌ a.0 b.0, b.1)

fields_once : (fs gs : List SyntaxField) (ts us : List Tok) → print_fields fs ts ≡ print_fields gs us → (fs ≡ gs) × (ts ≡ us)
fields_once [] [] ts us e = (refl, rest_is e)
fields_once [] (g ∷ gs) ts us e = absurd (no_letter g.kind (sym (signs_same (first_is e))))
fields_once (f ∷ fs) [] ts us e = absurd (no_letter f.kind (signs_same (first_is e)))
fields_once (f ∷ fs) (g ∷ gs) ts us e =
    let a = field_once f g (print_more fs ts) (print_more gs us) e in
    let b = more_once fs gs ts us a.1 in
    (ap₂ ◌∷◌ a.0 b.0, b.1)

-- a share, up to the dot
share_once : (sh w : Share) (ts us : List Tok) → print_share sh (sign 46 ∷ ts) ≡ print_share w (sign 46 ∷ us) → (sh ≡ w) × (ts ≡ us)
share_once none none ts us e = (refl, rest_is e)
share_once none (some m) ts us e = absurd (omega (arith, signs_same (first_is e)))
share_once (some n) none ts us e = absurd (omega (arith, signs_same (first_is e)))
share_once (some n) (some m) ts us e = let f = rest_is e in (ap some (numbers_same (first_is f)), rest_is (rest_is f))

head_once : (σ l k : ℕ) (fs gs : List SyntaxField) (sh w : Share) (ts us : List Tok) → print_head σ l fs sh ts ≡ print_head σ k gs w us
    → (l ≡ k) × (fs ≡ gs) × (sh ≡ w) × (ts ≡ us)
head_once σ l k fs gs sh w ts us e =
    let a = fields_once fs gs (print_share sh (sign 46 ∷ ts)) (print_share w (sign 46 ∷ us)) (rest_is (rest_is (rest_is e))) in
    let b = share_once sh w ts us a.1 in
    (words_same (first_is (rest_is e)), a.0, b.0, b.1)

-- ---- types

mutual
  pub print_once : (t u : Ty) (ts us : List Tok) → print t ts ≡ print u us → (t ≡ u) × (ts ≡ us)
  print_once stop stop ts us e = (refl, rest_is e)
  print_once stop (var y) ts us e = absurd (no_word (first_is e))
  print_once stop (loop y u) ts us e = absurd (omega (arith, signs_same (first_is e)))
  print_once stop (choice sending bs) ts us e = absurd (omega (arith, signs_same (first_is e)))
  print_once stop (choice receiving bs) ts us e = absurd (omega (arith, signs_same (first_is e)))
  print_once (var x) stop ts us e = absurd (no_word (sym (first_is e)))
  print_once (var x) (var y) ts us e = (ap var (words_same (first_is e)), rest_is e)
  print_once (var x) (loop y u) ts us e = absurd (no_word (sym (first_is e)))
  print_once (var x) (choice v cs) ts us e = absurd (no_word (sym (first_is e)))
  print_once (loop x t) stop ts us e = absurd (omega (arith, signs_same (first_is e)))
  print_once (loop x t) (var y) ts us e = absurd (no_word (first_is e))
  print_once (loop x t) (loop y u) ts us e =
      let a = print_once t u ts us (rest_is (rest_is (rest_is e))) in
      (ap₂ loop (words_same (first_is (rest_is e))) a.0, a.1)
  print_once (loop x t) (choice sending cs) ts us e = absurd (omega (arith, signs_same (first_is e)))
  print_once (loop x t) (choice receiving cs) ts us e = absurd (omega (arith, signs_same (first_is e)))
  print_once (choice sending bs) stop ts us e = absurd (omega (arith, signs_same (first_is e)))
  print_once (choice sending bs) (var y) ts us e = absurd (no_word (first_is e))
  print_once (choice sending bs) (loop y u) ts us e = absurd (omega (arith, signs_same (first_is e)))
  print_once (choice sending bs) (choice sending cs) ts us e =
      let a = print_br_once bs cs 33 ts us (rest_is (rest_is e)) in
      (ap (choice sending) a.0, a.1)
  print_once (choice sending bs) (choice receiving cs) ts us e = absurd (omega (arith, signs_same (first_is e)))
  print_once (choice receiving bs) stop ts us e = absurd (omega (arith, signs_same (first_is e)))
  print_once (choice receiving bs) (var y) ts us e = absurd (no_word (first_is e))
  print_once (choice receiving bs) (loop y u) ts us e = absurd (omega (arith, signs_same (first_is e)))
  print_once (choice receiving bs) (choice sending cs) ts us e = absurd (omega (arith, signs_same (first_is e)))
  print_once (choice receiving bs) (choice receiving cs) ts us e =
      let a = print_br_once bs cs 63 ts us (rest_is (rest_is e)) in
      (ap (choice receiving) a.0, a.1)

  print_br_once : (bs cs : Br) (σ : ℕ) (ts us : List Tok) → print_br bs σ ts ≡ print_br cs σ us → (bs ≡ cs) × (ts ≡ us)
  print_br_once (last l fs sh t) (last k gs w u) σ ts us e =
      let h = head_once σ l k fs gs sh w (print t (sign 125 ∷ ts)) (print u (sign 125 ∷ us)) e in
      let a = print_once t u (sign 125 ∷ ts) (sign 125 ∷ us) h.3 in
      ((λ i. last (h.0 i) (h.1 i) (h.2 i) (a.0 i)), rest_is a.1)
  print_br_once (last l fs sh t) (also k gs w u cs) σ ts us e =
      let h = head_once σ l k fs gs sh w (print t (sign 125 ∷ ts)) (print u (sign 44 ∷ print_br cs σ us)) e in
      let a = print_once t u (sign 125 ∷ ts) (sign 44 ∷ print_br cs σ us) h.3 in
      absurd (omega (arith, signs_same (first_is a.1)))
  print_br_once (also l fs sh t bs) (last k gs w u) σ ts us e =
      let h = head_once σ l k fs gs sh w (print t (sign 44 ∷ print_br bs σ ts)) (print u (sign 125 ∷ us)) e in
      let a = print_once t u (sign 44 ∷ print_br bs σ ts) (sign 125 ∷ us) h.3 in
      absurd (omega (arith, signs_same (first_is a.1)))
  print_br_once (also l fs sh t bs) (also k gs w u cs) σ ts us e =
      let h = head_once σ l k fs gs sh w (print t (sign 44 ∷ print_br bs σ ts)) (print u (sign 44 ∷ print_br cs σ us)) e in
      let a = print_once t u (sign 44 ∷ print_br bs σ ts) (sign 44 ∷ print_br cs σ us) h.3 in
      let b = print_br_once bs cs σ ts us (rest_is a.1) in
      ((λ i. also (h.0 i) (h.1 i) (h.2 i) (a.0 i) (b.0 i)), b.1)

-- no type's tokens begin with `edition`
pub no_edition : (t : Ty) (ts us : List Tok) → print t ts ≡ sign 69 ∷ us → ⊥
no_edition stop ts us e = omega (arith, signs_same (first_is e))
no_edition (var x) ts us e = no_word (sym (first_is e))
no_edition (loop x t) ts us e = omega (arith, signs_same (first_is e))
no_edition (choice sending bs) ts us e = omega (arith, signs_same (first_is e))
no_edition (choice receiving bs) ts us e = omega (arith, signs_same (first_is e))

opening_once : (o w : Option Signed) (t u : Ty) (ts us : List Tok) → print_opening o (print t ts) ≡ print_opening w (print u us)
    → (o ≡ w) × (print t ts ≡ print u us)
opening_once none none t u ts us e = (refl, e)
opening_once none (some n) t u ts us e = absurd (no_edition t ts _ e)
opening_once (some n) none t u ts us e = absurd (no_edition u us _ (sym e))
opening_once (some n) (some m) t u ts us e = (ap some (numbers_same (first_is (rest_is e))), rest_is (rest_is e))

pub text_once : (p r : Protocol) → print_text p ≡ print_text r → p ≡ r
text_once p r e =
    let a = opening_once p.opening r.opening p.type r.type (sign 0 ∷ []) (sign 0 ∷ []) e in
    let b = print_once p.type r.type (sign 0 ∷ []) (sign 0 ∷ []) a.1 in
    λ i. record { opening = a.0 i; type = b.0 i }
