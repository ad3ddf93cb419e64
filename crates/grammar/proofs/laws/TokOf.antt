-- The tokens of a text as the grammar sees them: what a word, a number or a sign says of the token, and the other way round.
-- Assumes nothing.
use mathlib.Core.Path.{◌≡◌, refl, sym, ap, ◌∙◌}
use mathlib.Core.Bool.{cond, Bool, true, false}
use mathlib.Core.Logic.{◌⊎◌, inl, inr}
use mathlib.Core.List.{List}
use Prim.Native.Nat.{ℕ}
use native.Mathlib.Omega.{arith}
use lib.Dec.{eqb}
use borrow.Author.Tests.{eq-eqb, ne_eqb, eqb-true}
use Rattle.grammar.specs.Token.{Token, word_in}
use Rattle.grammar.specs.Number.{Signed, signed_in}
use Rattle.grammar.specs.Grammar.{Tok, word, number, sign}
use Rattle.grammar.specs.TokOf.{tok_of}

-- what a token is as the grammar sees it
abbrev pub Kinds : List ℕ → Token → Tok → Type 0
Kinds s k x = ((k.kind ≡ 65) × (x ≡ word (word_in s k))) ⊎ (((k.kind ≡ 48) × (x ≡ number (signed_in s k))) ⊎ (x ≡ sign k.kind))

pub three_ways : (s : List ℕ) (k : Token) (x : Tok) → tok_of s k ≡ x → Kinds s k x
unfolding tok_of
three_ways s k x h = go (eqb k.kind 65) refl (eqb k.kind 48) refl h
  where
    go : (b : Bool) → eqb k.kind 65 ≡ b → (c : Bool) → eqb k.kind 48 ≡ c
        → cond b (word (word_in s k)) (cond c (number (signed_in s k)) (sign k.kind)) ≡ x → Kinds s k x
    go true e c f h = inl (eqb-true _ _ e, sym h)
    go false e true f h = inr (inl (eqb-true _ _ f, sym h))
    go false e false f h = inr (inr (sym h))

-- the three are told apart
abbrev pub tok_tag : Tok → ℕ
tok_tag (word x) = 0
tok_tag (number n) = 1
tok_tag (sign n) = 2

abbrev pub word_in_is : Tok → ℕ
word_in_is (word x) = x
word_in_is (number n) = 0
word_in_is (sign n) = 0

abbrev pub number_in : Signed → Tok → Signed
number_in d (word x) = d
number_in d (number n) = n
number_in d (sign n) = d

abbrev pub sign_in : Tok → ℕ
sign_in (word x) = 0
sign_in (number n) = 0
sign_in (sign n) = n

pub sign_kind : (s : List ℕ) (k : Token) (n : ℕ) → tok_of s k ≡ sign n → k.kind ≡ n
sign_kind s k n h = go (three_ways s k (sign n) h)
  where
    go : Kinds s k (sign n) → k.kind ≡ n
    go (inl e) = absurd (omega (arith, ap tok_tag e.1))
    go (inr (inl e)) = absurd (omega (arith, ap tok_tag e.1))
    go (inr (inr e)) = sym (ap sign_in e)

pub word_kind : (s : List ℕ) (k : Token) (x : ℕ) → tok_of s k ≡ word x → (k.kind ≡ 65) × (word_in s k ≡ x)
word_kind s k x h = go (three_ways s k (word x) h)
  where
    go : Kinds s k (word x) → (k.kind ≡ 65) × (word_in s k ≡ x)
    go (inl e) = (e.0, sym (ap word_in_is e.1))
    go (inr (inl e)) = absurd (omega (arith, ap tok_tag e.1))
    go (inr (inr e)) = absurd (omega (arith, ap tok_tag e))

pub number_kind : (s : List ℕ) (k : Token) (n : Signed) → tok_of s k ≡ number n → (k.kind ≡ 48) × (signed_in s k ≡ n)
number_kind s k n h = go (three_ways s k (number n) h)
  where
    go : Kinds s k (number n) → (k.kind ≡ 48) × (signed_in s k ≡ n)
    go (inl e) = absurd (omega (arith, ap tok_tag e.1))
    go (inr (inl e)) = (e.0, sym (ap (number_in n) e.1))
    go (inr (inr e)) = absurd (omega (arith, ap tok_tag e))

-- and the other way round
pub kind_sign : (s : List ℕ) (k : Token) (n : ℕ) → (n ≡ 65 → ⊥) → (n ≡ 48 → ⊥) → k.kind ≡ n → tok_of s k ≡ sign n
unfolding tok_of
kind_sign s k n z y h = rw (ne_eqb k.kind 65 (λ e. z (sym h ∙ e)), ne_eqb k.kind 48 (λ e. y (sym h ∙ e))) (ap sign h)

pub kind_word : (s : List ℕ) (k : Token) → k.kind ≡ 65 → tok_of s k ≡ word (word_in s k)
unfolding tok_of
kind_word s k h = rw (eq-eqb _ _ h)

pub kind_number : (s : List ℕ) (k : Token) → k.kind ≡ 48 → tok_of s k ≡ number (signed_in s k)
unfolding tok_of
kind_number s k h = rw (ne_eqb k.kind 65 (λ e. omega arith), eq-eqb _ _ h)
