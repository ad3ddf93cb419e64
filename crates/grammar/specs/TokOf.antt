-- A token of a text as the grammar sees it.
-- Assumes nothing.
use Rattle.std.specs.Prelude.{cond, List, ℕ, eqb}
use Rattle.grammar.specs.Token.{Token, word_in}
use Rattle.grammar.specs.Number.{signed_in}
use Rattle.grammar.specs.Grammar.{Tok, word, number, sign}
use Rattle.grammar.specs.Kind as K

unfoldable pub tok_of : List ℕ → Token → Tok
tok_of s k =
    cond (eqb k.kind K.of_name) (word (word_in s k)) (cond (eqb k.kind K.of_number) (number (signed_in s k)) (sign k.kind))
