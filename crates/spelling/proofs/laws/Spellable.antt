-- The protocols that have a text are those whose names, labels and numbers can be written; and such a one that is legal is read from its text.
-- Assumes nothing.
use mathlib.Core.Path.{◌≡◌, refl}
use mathlib.Core.Bool.{Bool, ◌&&◌}
use mathlib.Core.List.{List, [], ◌∷◌}
use mathlib.Core.Option.{Option, none, some}
use Prim.Native.Nat.{ℕ, ◌+◌, ◌-◌, ◌*◌, ◌≤◌}
use native.Mathlib.Omega.{arith}
use lib.Dec.{leb}
use borrow.Author.Tests.{leb-true}
use Rattle.table.specs.Lists.{every}
use Rattle.table.proofs.laws.Lists.{both, join, never}
use Rattle.grammar.specs.Number.{Signed, value_of}
use Rattle.grammar.specs.Grammar.{SyntaxField, Share, Ty, stop, var, loop, choice, Br, last, also, Protocol, Tok, sign, arrow, print_more, print_fields, print_share, print, print_br, print_opening, print_text}
use Rattle.grammar.proofs.laws.ClassOf.{upper_word}
use Rattle.grammar.proofs.laws.Packed.{label_word}
use Rattle.spelling.specs.Spelling.{a_digit, Digits, Spells, a_sign, a_dot, a_word, a_name, a_zero, a_number, a_negative, Spelt, ran_out, a_blank, a_token}
use Rattle.spelling.specs.Speller.{Writable, OfFields, OfNumber, Of, OfBr, Spellable}

-- ---- what is spelt can be written

value_ge : (w : List ℕ) (v : ℕ) → v ≤ value_of v w
unfolding value_of
value_ge [] v = omega arith
value_ge (b ∷ w) v = omega (arith, value_ge w (v * 10 + (b - 48)))

positive : (b : ℕ) (w : List ℕ) → Digits (b ∷ w) → value_of 0 (b ∷ w) ≡ 0 → ⊥
unfolding value_of every
positive b w h z =
    let d = both (leb 48 b) (leb b 57) (both (leb 48 b && leb b 57) (every a_digit w) h.0).0 in
    let l : 48 ≤ b = leb-true 48 b d.0 in
    let n = h.1 in
    omega (arith, value_ge w (0 * 10 + (b - 48)))

pub spells_writable : {t : Tok} {w : List ℕ} {more : ℕ → Bool} → Spells t w more → Writable t
unfolding every
spells_writable (a_sign l) = tt
spells_writable (a_dot l) = tt
spells_writable (a_word l) = tt
spells_writable (a_name {w = []} h) = absurd h
spells_writable (a_name {w = b ∷ w} h) =
    let l = label_word b w h.0 (join (upper_word b h.0) h.1) h.2 in
    (l.legal, l.back)
spells_writable a_zero = λ e z. never e refl
spells_writable (a_number h) = λ e z. never e refl
spells_writable (a_negative {w = []} h) = absurd h
spells_writable (a_negative {w = b ∷ w} h) = λ e z. positive b w h z

abbrev pub Written : List Tok → Type 0
Written [] = Unit {0}
Written (t ∷ ts) = Writable t × Written ts

pub spelt_written : {s : List ℕ} {ts : List Tok} → Spelt s ts → Written ts
spelt_written ran_out = (tt, tt)
spelt_written (a_blank i sp) = spelt_written sp
spelt_written (a_token i o sp) = (spells_writable i, spelt_written sp)

more_written : (fs : List SyntaxField) (ts : List Tok) → Written (print_more fs ts) → OfFields Writable fs × Written ts
more_written [] ts w = (tt, w.1)
more_written (f ∷ fs) ts w = let a = more_written fs ts w.1.1.1.1.1.1.1 in ((w.1.1.1.0, (w.1.1.1.1.1.0, a.0)), a.1)

fields_written : (fs : List SyntaxField) (ts : List Tok) → Written (print_fields fs ts) → OfFields Writable fs × Written ts
fields_written [] ts w = (tt, w.1)
fields_written (f ∷ fs) ts w = let a = more_written fs ts w.1.1.1.1.1.1 in ((w.1.1.0, (w.1.1.1.1.0, a.0)), a.1)

share_written : (sh : Share) (ts : List Tok) → Written (print_share sh ts) → OfNumber Writable sh × Written ts
share_written none ts w = (tt, w)
share_written (some n) ts w = (w.1.0, w.1.1)

mutual
  print_written : (t : Ty) (ts : List Tok) → Written (print t ts) → Of Writable t × Written ts
  print_written stop ts w = (tt, w.1)
  print_written (var x) ts w = (w.0, w.1)
  print_written (loop x t) ts w = let a = print_written t ts w.1.1.1 in ((w.1.0, a.0), a.1)
  print_written (choice v bs) ts w = branches_written bs (arrow v) ts w.1.1

  branches_written : (bs : Br) (σ : ℕ) (ts : List Tok) → Written (print_br bs σ ts) → OfBr Writable bs × Written ts
  branches_written (last l fs sh t) σ ts w =
      let us = sign 46 ∷ print t (sign 125 ∷ ts) in
      let a = fields_written fs (print_share sh us) w.1.1.1 in
      let d = share_written sh us a.1 in
      let b = print_written t (sign 125 ∷ ts) d.1.1 in
      ((w.1.0, (a.0, (d.0, b.0))), b.1.1)
  branches_written (also l fs sh t bs) σ ts w =
      let us = sign 46 ∷ print t (sign 44 ∷ print_br bs σ ts) in
      let a = fields_written fs (print_share sh us) w.1.1.1 in
      let d = share_written sh us a.1 in
      let b = print_written t (sign 44 ∷ print_br bs σ ts) d.1.1 in
      let c = branches_written bs σ ts b.1.1 in
      ((w.1.0, (a.0, (d.0, (b.0, c.0)))), c.1)

opening_written : (o : Option Signed) (ts : List Tok) → Written (print_opening o ts) → OfNumber Writable o × Written ts
opening_written none ts w = (tt, w)
opening_written (some n) ts w = (w.1.0, w.1.1)

pub text_written : (p : Protocol) → Written (print_text p) → Spellable p
text_written p w =
    let a = opening_written p.opening _ w in
    (a.0, (print_written p.type (sign 0 ∷ []) a.1).0)
