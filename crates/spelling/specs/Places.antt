-- The tokens of any text with their places, up to the first that is malformed (document 01, "Protocol text" and its question 2). So what
-- reading refuses, and where, is said without a scanner, too.
-- Assumes nothing.
use Rattle.std.specs.Prelude.{◌≡◌, Bool, true, false, List, [], ◌∷◌, ◌++◌, ℕ, ◌+◌, length}
use Rattle.grammar.specs.Token.{Token, token}
use Rattle.grammar.specs.Grammar.{Tok, word, number, sign}
use Rattle.spelling.specs.Spelling.{blank, Spells, EndsRun}
use Rattle.grammar.specs.Kind as K

-- the bytes begin with a token
pub record Begins (u : List ℕ) : Type 0 where
  pub t : Tok
  pub w : List ℕ
  pub more : ℕ → Bool
  pub rest : List ℕ
  pub spells : Spells t w more
  pub ends : EndsRun more rest
  pub is : u ≡ w ++ rest

abbrev pub kind_in : Tok → ℕ
kind_in (word x) = K.of_name
kind_in (number n) = K.of_number
kind_in (sign k) = k

-- the bytes from the place p on: blanks and tokens, until the text runs out or a byte that is no blank begins nothing named
pub data Placed : List ℕ → ℕ → List Token → Type 0 where
  ran_out : {p : ℕ} → Placed [] p (token K.text_end p p ∷ [])
  malformed : {b p : ℕ} {s : List ℕ} → blank b ≡ false → (Begins (b ∷ s) → ⊥) → Placed (b ∷ s) p (token K.no_token p p ∷ [])
  a_blank : {b p : ℕ} {s : List ℕ} {ks : List Token} → blank b ≡ true → Placed s (p + 1) ks → Placed (b ∷ s) p ks
  a_token : {t : Tok} {w s : List ℕ} {more : ℕ → Bool} {p : ℕ} {ks : List Token}
      → Spells t w more → EndsRun more s → Placed s (p + length w) ks → Placed (w ++ s) p (token (kind_in t) p (p + length w) ∷ ks)
