-- A speller: a text of a protocol, each token's bytes followed by a space. So every protocol whose names, labels and numbers can be written
-- at all has a text.
-- Assumes nothing.
use Rattle.std.specs.Prelude.{◌≡◌, true, cond, List, [], ◌∷◌, ◌++◌, ℕ, suc, eqb}
use Rattle.std.proofs.Math.Option.{Option, none, some}
use Prim.Native.String.{String}
use Rattle.table.specs.Table.{legal_label}
use Rattle.table.specs.View.{label_of}
use Rattle.grammar.specs.Token.{word_of}
use Rattle.grammar.specs.Number.{Signed}
use Rattle.grammar.specs.Grammar.{SyntaxField, Ty, stop, var, loop, choice, Br, last, also, Protocol, Tok, word, number, sign, print_text}
use Rattle.table.specs.Ascii.{ascii, letters, digits}
use Rattle.spelling.specs.Spelling.{sign_tokens, dot_tokens, word_tokens}

-- what stands beside k in a list
unfoldable pub beside : List (ℕ × String) → ℕ → List ℕ
beside [] k = []
beside (e ∷ es) k = cond (eqb k e.0) (ascii e.1) (beside es k)

abbrev pub bytes : Tok → List ℕ
bytes (word x) = letters (label_of x)
bytes (number n) = cond n.minus (ascii "-") [] ++ digits (suc n.value) n.value
bytes (sign k) = beside (sign_tokens ++ dot_tokens ++ word_tokens) k

unfoldable pub spelling : List Tok → List ℕ
spelling [] = []
spelling (t ∷ ts) = bytes t ++ (0x20 ∷ spelling ts)

unfoldable pub spell : Protocol → List ℕ
spell p = spelling (print_text p)

-- ---- which protocols have a text

-- a word whose eight bytes are a legal label; any number but -0
abbrev pub Writable : Tok → Type 0
Writable (word x) = (legal_label (label_of x) ≡ true) × (word_of (label_of x) ≡ x)
Writable (number n) = n.minus ≡ true → n.value ≡ 0 → ⊥
Writable (sign k) = Unit {0}

-- a property of the names, labels and numbers of a protocol
module _ (P : Tok → Type 0) where
  abbrev pub OfFields : List SyntaxField → Type 0
  OfFields [] = Unit {0}
  OfFields (f ∷ fs) = P (number f.low) × (P (number f.high) × OfFields fs)

  -- a share or an opening
  abbrev pub OfNumber : Option Signed → Type 0
  OfNumber none = Unit {0}
  OfNumber (some n) = P (number n)

  abbrev mutual
    pub Of : Ty → Type 0
    Of stop = Unit {0}
    Of (var x) = P (word x)
    Of (loop x t) = P (word x) × Of t
    Of (choice w bs) = OfBr bs

    pub OfBr : Br → Type 0
    OfBr (last l fs sh t) = P (word l) × (OfFields fs × (OfNumber sh × Of t))
    OfBr (also l fs sh t bs) = P (word l) × (OfFields fs × (OfNumber sh × (Of t × OfBr bs)))

abbrev pub Spellable : Protocol → Type 0
Spellable p = OfNumber Writable p.opening × Of Writable p.type
