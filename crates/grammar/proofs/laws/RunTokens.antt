-- How reading goes over tokens that are given: from one state to another, exactly where a condition holds. Laws of this form are
-- put together one after the other.
-- Assumes nothing.
use mathlib.Core.Path.{◌≡◌, refl, sym, ap, subst, ◌∙◌}
use mathlib.Core.Bool.{cond, Bool, true, false}
use mathlib.Core.Logic.{◌⊎◌, inl, inr}
use mathlib.Core.List.{List, [], ◌∷◌, map}
use Prim.Native.Nat.{ℕ}
use lib.Dec.{eqb}
use borrow.Author.Tests.{eq-eqb, eqb-true, eqb-false}
use Rattle.grammar.proofs.laws.Questions.{asked}
use Rattle.grammar.specs.Building.{denied, Built}
use Rattle.grammar.specs.Reading.{State, taken, run_tokens}
use Rattle.grammar.specs.Grammar.{Tok}
use Rattle.grammar.specs.TokOf.{tok_of}
use Rattle.grammar.specs.Token.{Token}

-- Over tokens ks that are ts, reading goes on from st: where P holds, in the state st' over tokens that are us; else it ends with a no to
-- another question than q (q is 0: with a no).
pub record Goes (s : List ℕ) (q : ℕ) (P : Type 0) (st : State) (ts : List Tok) (st' : State) (us : List Tok) : Type 0 where
  pub on : P → (ks : List Token) → map (tok_of s) ks ≡ ts → (ls : List Token) × (map (tok_of s) ls ≡ us) × (run_tokens s st ks ≡ run_tokens s st' ls)
  pub only : (ks : List Token) → map (tok_of s) ks ≡ ts → (run_tokens s st ks).question ≡ q → P

-- no question, or q
abbrev pub NoneOr : ℕ → ℕ → Type 0
NoneOr q n = (n ≡ 0) ⊎ (n ≡ q)

-- the head and the tail of a list that is known
abbrev heads : Tok → List Tok → Tok
heads d [] = d
heads d (a ∷ us) = a

abbrev tails : List Tok → List Tok
tails [] = []
tails (a ∷ us) = us

abbrev Filled : List Tok → Type 0
Filled [] = ⊥
Filled (a ∷ us) = Unit {0}

pub first_is : {a b : Tok} {us vs : List Tok} → a ∷ us ≡ b ∷ vs → a ≡ b
first_is {a} e = ap (heads a) e

pub rest_is : {a b : Tok} {us vs : List Tok} → a ∷ us ≡ b ∷ vs → us ≡ vs
rest_is e = ap tails e

pub never_empty : {a : Tok} {us : List Tok} → [] ≡ a ∷ us → ⊥
never_empty e = subst Filled (sym e) tt

module _ (s : List ℕ) where
  run_yes : (st : State) (k : Token) (ks : List Token) → asked s st k ≡ 0 → run_tokens s st (k ∷ ks) ≡ run_tokens s (taken s st k) ks
  unfolding run_tokens
  run_yes st k ks e = ap (λ b. cond b (run_tokens s (taken s st k) ks) (denied (asked s st k) k.start)) (eq-eqb _ _ e)

  pub passed : (st : State) (k : Token) (ks : List Token) → (run_tokens s st (k ∷ ks)).question ≡ 0 → (asked s st k ≡ 0) × ((run_tokens s (taken s st k) ks).question ≡ 0)
  unfolding run_tokens denied
  passed st k ks h = go (eqb (asked s st k) 0) refl h
    where
      go : (b : Bool) → eqb (asked s st k) 0 ≡ b → (cond b (run_tokens s (taken s st k) ks) (denied (asked s st k) k.start)).question ≡ 0
          → (asked s st k ≡ 0) × ((run_tokens s (taken s st k) ks).question ≡ 0)
      go true e h = (eqb-true _ _ e, h)
      go false e h = absurd (eqb-false _ _ e h)

  -- reading that ends with q passes the first token, or ends there
  ended : (q : ℕ) (st : State) (k : Token) (ks : List Token) → (run_tokens s st (k ∷ ks)).question ≡ q → NoneOr q (asked s st k)
  unfolding run_tokens denied
  ended q st k ks h = go (eqb (asked s st k) 0) refl h
    where
      go : (b : Bool) → eqb (asked s st k) 0 ≡ b → (cond b (run_tokens s (taken s st k) ks) (denied (asked s st k) k.start)).question ≡ q → NoneOr q (asked s st k)
      go true e h = inl (eqb-true _ _ e)
      go false e h = inr h

  -- a no gives the empty table
  pub run_refused : (ks : List Token) (st : State) → ((run_tokens s st ks).question ≡ 0 → ⊥) → run_tokens s st ks ≡ denied (run_tokens s st ks).question (run_tokens s st ks).at
  unfolding run_tokens denied
  run_refused [] st z = absurd (z refl)
  run_refused (k ∷ ks) st z = go (eqb (asked s st k) 0) z (run_refused ks (taken s st k))
    where
      rest : Built
      rest = run_tokens s (taken s st k) ks

      go : (b : Bool) → ((cond b rest (denied (asked s st k) k.start)).question ≡ 0 → ⊥)
          → ((rest.question ≡ 0 → ⊥) → rest ≡ denied rest.question rest.at)
          → cond b rest (denied (asked s st k) k.start)
          ≡ denied (cond b rest (denied (asked s st k) k.start)).question (cond b rest (denied (asked s st k) k.start)).at
      go true z i = i z
      go false z i = refl

  -- one after the other
  pub after : {q : ℕ} {P Q : Type 0} {st st' st'' : State} {ts us vs : List Tok}
      → Goes s q P st ts st' us → (P → Goes s q Q st' us st'' vs) → Goes s q (P × Q) st ts st'' vs
  after g h = record {
    on = λ c ks e.
        let a = g.on c.0 ks e in
        let b = (h c.0).on c.1 a.0 a.1 in
        (b.0, b.1, a.2 ∙ b.2);
    only = λ ks e z.
        let p = g.only ks e z in
        let a = g.on p ks e in
        (p, (h p).only a.0 a.1 (ap (λ (r : Built). r.question) (sym a.2) ∙ z));
  }

  -- the same condition in other words
  pub given : {q : ℕ} {P Q : Type 0} {st st' : State} {ts us : List Tok} → (P → Q) → (Q → P) → Goes s q P st ts st' us → Goes s q Q st ts st' us
  given f g h = record { on = λ q. h.on (g q); only = λ ks e z. f (h.only ks e z) }

  -- one token, with its condition
  pub one : {q : ℕ} {P : Type 0} {st st' : State} {a : Tok} {us : List Tok}
      → ((k : Token) → tok_of s k ≡ a → (P → asked s st k ≡ 0) × (NoneOr q (asked s st k) → P) × (P → taken s st k ≡ st'))
      → Goes s q P st (a ∷ us) st' us
  one {q} {P} {st} {st'} {a} {us} f = record { on = λ p ks e. on ks p e; only = only }
    where
      on : (ks : List Token) → P → map (tok_of s) ks ≡ a ∷ us → (ls : List Token) × (map (tok_of s) ls ≡ us) × (run_tokens s st ks ≡ run_tokens s st' ls)
      on [] p e = absurd (never_empty e)
      on (k ∷ ks) p e =
          let h = f k (first_is e) in
          (ks, rest_is e, run_yes st k ks (h.0 p) ∙ ap (λ (x : State). run_tokens s x ks) (h.2 p))

      only : (ks : List Token) → map (tok_of s) ks ≡ a ∷ us → (run_tokens s st ks).question ≡ q → P
      only [] e z = absurd (never_empty e)
      only (k ∷ ks) e z = (f k (first_is e)).1 (ended q st k ks z)

  -- one token that always passes, and what comes after it
  pub past : {q : ℕ} {Q : Type 0} {st st' st'' : State} {a : Tok} {us vs : List Tok}
      → ((k : Token) → tok_of s k ≡ a → (asked s st k ≡ 0) × (taken s st k ≡ st'))
      → Goes s q Q st' us st'' vs → Goes s q Q st (a ∷ us) st'' vs
  past f g = given (λ c. c.1) (λ q. (tt, q)) (after (one {P = Unit {0}} (λ k e. ((λ p. (f k e).0), (λ z. tt), (λ p. (f k e).1)))) (λ p. g))

  -- nothing is left to do
  pub done : {q : ℕ} {st : State} {ts : List Tok} → Goes s q (Unit {0}) st ts st ts
  done = record { on = λ p ks e. (ks, e, refl); only = λ ks e z. tt }

  -- and then tokens that always pass
  pub ending : {q : ℕ} {P : Type 0} {st st' st'' : State} {ts us vs : List Tok}
      → Goes s q P st ts st' us → (P → Goes s q (Unit {0}) st' us st'' vs) → Goes s q P st ts st'' vs
  ending g h = given (λ c. c.0) (λ p. (p, tt)) (after g h)

  -- between states that are equal
  pub into : {q : ℕ} {P : Type 0} {st st' st'' : State} {ts us : List Tok} → st' ≡ st'' → Goes s q P st ts st' us → Goes s q P st ts st'' us
  into {q} {P} {st} {st'} {st''} {ts} {us} e g = subst (λ (x : State). Goes s q P st ts x us) e g

  pub towards : {q : ℕ} {P : Type 0} {st st' st'' : State} {ts us : List Tok} → Goes s q P st ts st' us → (P → st' ≡ st'') → Goes s q P st ts st'' us
  towards g e = ending g (λ p. into (e p) done)
