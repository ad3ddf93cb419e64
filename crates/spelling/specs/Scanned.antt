-- What the scanner finds in a text is what the text spells. (Reading goes over what the scanner finds; TextTheorems.antt, ReadPlaced, says what it
-- does without it.)
-- Assumes nothing.
use Rattle.std.specs.Prelude.{◌≡◌, ◌↔◌, List, [], ◌∷◌, map, ℕ}
use Rattle.grammar.specs.Grammar.{Tok, sign}
use Rattle.grammar.specs.TokOf.{tok_of}
use Rattle.grammar.specs.inner.Scanner.{tokens}
use Rattle.spelling.specs.Spelling.{Spelt}
use Rattle.grammar.specs.Kind as K

-- no token is malformed
abbrev pub WellFormed : List Tok → Type 0
WellFormed [] = Unit {0}
WellFormed (t ∷ ts) = (t ≡ sign K.no_token → ⊥) × WellFormed ts

-- A text spells tokens exactly when the scanner finds them in it and none of them is malformed.
abbrev pub SpeltScanned : Type 0
SpeltScanned = (s : List ℕ) (ts : List Tok) → Spelt s ts ↔ ((map (tok_of s) (tokens s) ≡ ts) × WellFormed ts)
