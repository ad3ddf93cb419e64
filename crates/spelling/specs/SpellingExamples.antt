-- Spellings that document 01 gives or rules out, one for each of its sentences on tokens.
-- Assumes nothing.
use Rattle.std.specs.Prelude.{true, false, List, [], ◌∷◌, ◌++◌, ℕ}
use Rattle.std.proofs.Math.Option.{none, some}
use Prim.Native.String.{String}
use Rattle.table.specs.Ascii.{ascii}
use Rattle.grammar.specs.Token.{word_of}
use Rattle.grammar.specs.Number.{Signed}
use Rattle.grammar.specs.Grammar.{sending, receiving, int, Ty, stop, var, loop, choice, last, also, Protocol, Tok, word, number, sign, print_text}
use Rattle.spelling.specs.Spelling.{Spelt}
use Rattle.grammar.specs.Kind as K

abbrev pub as_name : String → ℕ
as_name x = word_of (ascii x)

abbrev pub plus : ℕ → Signed
plus n = record { minus = false; value = n }

-- a text without an opening
abbrev pub unopened : Ty → Protocol
unopened t = record { opening = none; type = t }

-- document 01's P, as a type
abbrev pub P_type : Ty
P_type =
    loop (as_name "X")
    (choice sending
    (also (as_name "Ask") (record { kind = int; low = plus 0; high = plus 100 } ∷ []) none
    (choice receiving (last (as_name "Ok") [] none (var (as_name "X"))))
    (last (as_name "Quit") [] none stop)))

-- two branches with shares
abbrev pub two_shares : Ty
two_shares = choice sending (also (as_name "A") [] (some (plus 400)) stop (last (as_name "B") [] (some (plus 600)) stop))

abbrev Nothing : List ℕ → Type 0
Nothing s = (ts : List Tok) → Spelt s ts → ⊥

pub record SpellingExamples : Type 0 where
  pub protocol : Spelt (ascii "rec X.+{!Ask(int[0..100]).&{?Ok().X},!Quit().end}") (print_text (unopened P_type))
  -- spaces and line feeds may stand before and after tokens; a tab may not
  pub blanks : Spelt (0x0A ∷ 0x20 ∷ ascii "end" ++ (0x0A ∷ [])) (print_text (unopened stop))
  pub tab : Nothing (0x09 ∷ ascii "end")
  -- a token that begins with a digit takes digits only
  pub two_tokens : Spelt (ascii "5A") (number (plus 5) ∷ word (as_name "A") ∷ sign K.text_end ∷ [])
  -- one to eight bytes
  pub eight : Spelt (ascii "Abcdefg8") (word (as_name "Abcdefg8") ∷ sign K.text_end ∷ [])
  pub nine : Nothing (ascii "Abcdefgh9")
  -- a minus belongs to its number
  pub negative : Spelt (ascii "-5") (number (record { minus = true; value = 5 }) ∷ sign K.text_end ∷ [])
  -- no minus before 0, no leading zero
  pub minus_zero : Nothing (ascii "-0")
  pub leading_zero : Nothing (ascii "01")
  -- a share's @ is a sign: blanks may stand around it
  pub share : Spelt (ascii "+{!A() @ 400.end,!B()@ 600.end}") (print_text (unopened two_shares))
  -- dots, and words, take the longest run
  pub three_dots : Nothing (ascii "...")
  pub other_word : Nothing (ascii "ending")
  -- `edition` is a word: a blank stands before its number, but need not stand after it
  pub opening : Spelt (ascii "edition 2end") (print_text (record { opening = some (plus 2); type = stop }))
  pub no_blank : Nothing (ascii "edition1")
  pub edition_zero : Nothing (ascii "edition 02")
