-- What holds of the signs of the grammar and of a protocol's names, labels and numbers holds of the tokens that it is written with.
-- Assumes nothing.
use mathlib.Core.Path.{◌≡◌, refl}
use mathlib.Core.Bool.{true}
use mathlib.Core.List.{List, [], ◌∷◌, ◌++◌}
use mathlib.Core.Option.{Option, none, some}
use Prim.Native.Nat.{ℕ}
use Rattle.grammar.specs.Token.{one_of}
use Rattle.grammar.specs.Number.{Signed}
use Rattle.grammar.specs.Grammar.{Way, sending, receiving, Kind, int, text, flag, SyntaxField, Share, Ty, stop, var, loop, choice, Br, last, also, Protocol, Tok, word, number, sign, mark, arrow, letter, print_field, print_more, print_fields, print_share, print_head, print, print_br, print_opening, print_text}
use Rattle.spelling.specs.Spelling.{sign_tokens, dot_tokens, word_tokens}
use Rattle.spelling.specs.Speller.{OfFields, OfNumber, Of, OfBr}
use Rattle.spelling.proofs.laws.Classes.{kinds}

-- the signs, dots and words of the grammar
abbrev pub fixed : List ℕ
fixed = kinds (sign_tokens ++ dot_tokens ++ word_tokens)

is_mark : (w : Way) → (one_of fixed (mark w) ≡ true) × (one_of fixed (arrow w) ≡ true)
is_mark sending = (refl, refl)
is_mark receiving = (refl, refl)

is_kind : (k : Kind) → one_of fixed (letter k) ≡ true
is_kind int = refl
is_kind text = refl
is_kind flag = refl

module _ (P : Tok → Type 0) (Q : List Tok → Type 0) (word_on : (x : ℕ) (ts : List Tok) → P (word x) → Q ts → Q (word x ∷ ts))
    (number_on : (n : Signed) (ts : List Tok) → P (number n) → Q ts → Q (number n ∷ ts))
    (put : (k : ℕ) (ts : List Tok) → one_of fixed k ≡ true → Q ts → Q (sign k ∷ ts)) where
  field_holds : (f : SyntaxField) (ts : List Tok) → P (number f.low) → P (number f.high) → Q ts → Q (print_field f ts)
  field_holds f ts l h q = put _ _ (is_kind f.kind) (put _ _ refl (number_on _ _ l (put _ _ refl (number_on _ _ h (put _ _ refl q)))))

  more_hold : (fs : List SyntaxField) (ts : List Tok) → OfFields P fs → Q ts → Q (print_more fs ts)
  more_hold [] ts o q = put _ _ refl q
  more_hold (f ∷ fs) ts o q = put _ _ refl (field_holds f _ o.0 o.1.0 (more_hold fs ts o.1.1 q))

  fields_hold : (fs : List SyntaxField) (ts : List Tok) → OfFields P fs → Q ts → Q (print_fields fs ts)
  fields_hold [] ts o q = put _ _ refl q
  fields_hold (f ∷ fs) ts o q = field_holds f _ o.0 o.1.0 (more_hold fs ts o.1.1 q)

  share_holds : (sh : Share) (ts : List Tok) → OfNumber P sh → Q ts → Q (print_share sh ts)
  share_holds none ts o q = q
  share_holds (some n) ts o q = put _ _ refl (number_on _ _ o q)

  head_holds : (σ l : ℕ) (fs : List SyntaxField) (sh : Share) (ts : List Tok) → one_of fixed σ ≡ true → P (word l) → OfFields P fs → OfNumber P sh → Q ts
      → Q (print_head σ l fs sh ts)
  head_holds σ l fs sh ts e p o r q = put _ _ e (word_on _ _ p (put _ _ refl (fields_hold fs _ o (share_holds sh _ r (put _ _ refl q)))))

  mutual
    print_holds : (t : Ty) (ts : List Tok) → Of P t → Q ts → Q (print t ts)
    print_holds stop ts o q = put _ _ refl q
    print_holds (var x) ts o q = word_on _ _ o q
    print_holds (loop x t) ts o q = put _ _ refl (word_on _ _ o.0 (put _ _ refl (print_holds t ts o.1 q)))
    print_holds (choice w bs) ts o q = put _ _ (is_mark w).0 (put _ _ refl (branches_hold bs (arrow w) ts (is_mark w).1 o q))

    branches_hold : (bs : Br) (σ : ℕ) (ts : List Tok) → one_of fixed σ ≡ true → OfBr P bs → Q ts → Q (print_br bs σ ts)
    branches_hold (last l fs sh t) σ ts e o q = head_holds σ l fs sh _ e o.0 o.1.0 o.1.1.0 (print_holds t _ o.1.1.1 (put _ _ refl q))
    branches_hold (also l fs sh t bs) σ ts e o q =
        head_holds σ l fs sh _ e o.0 o.1.0 o.1.1.0 (print_holds t _ o.1.1.1.0 (put _ _ refl (branches_hold bs σ ts e o.1.1.1.1 q)))

  opening_holds : (o : Option Signed) (ts : List Tok) → OfNumber P o → Q ts → Q (print_opening o ts)
  opening_holds none ts h q = q
  opening_holds (some n) ts h q = put _ _ refl (number_on _ _ h q)

  pub text_holds : (p : Protocol) → OfNumber P p.opening → Of P p.type → Q (sign 0 ∷ []) → Q (print_text p)
  text_holds p h o q = opening_holds p.opening _ h (print_holds p.type (sign 0 ∷ []) o q)

-- what holds of all of them
module _ (P : Tok → Type 0) (w : (x : ℕ) → P (word x)) (n : (x : Signed) → P (number x)) where
  of_fields : (fs : List SyntaxField) → OfFields P fs
  of_fields [] = tt
  of_fields (f ∷ fs) = (n f.low, (n f.high, of_fields fs))

  pub of_number : (o : Option Signed) → OfNumber P o
  of_number none = tt
  of_number (some x) = n x

  mutual
    pub of_all : (t : Ty) → Of P t
    of_all stop = tt
    of_all (var x) = w x
    of_all (loop x t) = (w x, of_all t)
    of_all (choice v bs) = of_branches bs

    of_branches : (bs : Br) → OfBr P bs
    of_branches (last l fs sh t) = (w l, (of_fields fs, (of_number sh, of_all t)))
    of_branches (also l fs sh t bs) = (w l, (of_fields fs, (of_number sh, (of_all t, of_branches bs))))
