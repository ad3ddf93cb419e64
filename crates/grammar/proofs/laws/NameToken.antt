-- The labels of a text are legal: a token that is a name has one to eight letters and digits, the first a capital.
-- Assumes nothing.
use mathlib.Core.Path.{◌≡◌, refl, sym, ap, ap₂, subst, ◌∙◌}
use mathlib.Core.Bool.{cond, Bool, true, false}
use mathlib.Core.List.{List, [], ◌∷◌, map}
use mathlib.Core.Option.{Option, none, some}
use Prim.Native.Nat.{ℕ, zero, suc, ◌+◌, ◌-◌, ◌≤◌, ◌<◌}
use native.Mathlib.Omega.{arith}
use lib.Dec.{eqb, leb}
use lib.ListN.{length, drop, take, get_or, length-take}
use lib.Seq.{drop-cons}
use borrow.Author.Tests.{eqb-true, leb-true, leb-false}
use Rattle.table.specs.Lists.{every, same}
use Rattle.table.specs.Table.{upper, letter_or_digit}
use Rattle.table.proofs.laws.Lists.{join}
use Rattle.grammar.specs.Token.{Token, part, token, word_of, word_in}
use Rattle.grammar.specs.inner.Scanner.{Class, Space, Lower, Upper, Digit, Dot, Minus, Sign, Other, is_space, is_digit, is_dot, class_of, run_of, run_end, word_kind, word_token, name_token, number_kind, number_token, dots_token, begin_at, token_at, tokens_from, tokens}
use Rattle.grammar.specs.Number.{Signed, signed_in}
use Rattle.grammar.specs.Grammar.{SyntaxField, Share, Ty, stop, var, loop, choice, Br, last, also, Protocol, Tok, word, number, sign, arrow, print_more, print_fields, print_share, print, print_br, print_opening}
use Rattle.grammar.specs.TokOf.{tok_of}
use Rattle.grammar.specs.inner.Writes.{Writes}
use Rattle.grammar.proofs.laws.ClassOf.{code, class_test, upper_word}
use Rattle.grammar.proofs.laws.Packed.{Label, label_word}

-- ---- a name's bytes

all_run : (f : ℕ → Bool) (l : List ℕ) → every f (take (run_of f l) l) ≡ true
unfolding every run_of
all_run f [] = refl
all_run f (b ∷ l) = go (f b) refl (all_run f l)
  where
    go : (c : Bool) → f b ≡ c → every f (take (run_of f l) l) ≡ true → every f (take (cond c (1 + run_of f l) 0) (b ∷ l)) ≡ true
    go true e h = let n : 1 + run_of f l ≡ suc (run_of f l) = omega arith in rw n (join e h)
    go false e h = refl

first_run : (f : ℕ → Bool) (b : ℕ) (l : List ℕ) → f b ≡ true → (run_of f (b ∷ l) ≡ suc (run_of f l)) × (take (run_of f (b ∷ l)) (b ∷ l) ≡ b ∷ take (run_of f l) l)
unfolding run_of
first_run f b l e =
    let n : cond (f b) (1 + run_of f l) 0 ≡ suc (run_of f l) = ap (λ c. cond c (1 + run_of f l) 0) e ∙ omega arith in
    (n, ap (λ n. take n (b ∷ l)) n)

-- a word that begins with a capital at a, and is not longer than eight
name_label : (s : List ℕ) (a : ℕ) → a < length s → class_of (get_or s a 0) ≡ Upper → run_end letter_or_digit s a - a ≤ 8 → Label (word_of (part s a (run_end letter_or_digit s a)))
unfolding run_end
name_label s a h e m =
    subst (λ (w : List ℕ). Label (word_of w)) (sym is)
    (label_word b (take (run_of f l) l) capital (subst (λ (w : List ℕ). every f w ≡ true) front.1 (all_run f (b ∷ l))) (omega (arith, length-take (run_of f l) l, front.0, size)))
  where
    f : ℕ → Bool
    f = letter_or_digit

    b : ℕ
    b = get_or s a 0

    l : List ℕ
    l = drop (suc a) s

    capital : upper b ≡ true
    capital = class_test b Upper e

    front : (run_of f (b ∷ l) ≡ suc (run_of f l)) × (take (run_of f (b ∷ l)) (b ∷ l) ≡ b ∷ take (run_of f l) l)
    front = first_run f b l (upper_word b capital)

    size : run_end letter_or_digit s a - a ≡ run_of f (b ∷ l)
    size = let z : a + run_of f (drop a s) - a ≡ run_of f (drop a s) = omega arith in z ∙ ap (run_of f) (drop-cons s a 0 h)

    is : part s a (run_end letter_or_digit s a) ≡ b ∷ take (run_of f l) l
    is = ap₂ take size (drop-cons s a 0 h) ∙ front.1

-- ---- tokens

not_name : (s : List ℕ) (w : List ℕ) → word_kind w ≡ 65 → ⊥
unfolding word_kind
not_name s w e = go (same w (101 ∷ 110 ∷ 100 ∷ [])) (same w (114 ∷ 101 ∷ 99 ∷ [])) (same w (105 ∷ 110 ∷ 116 ∷ [])) (same w (116 ∷ 101 ∷ 120 ∷ 116 ∷ [])) (same w (102 ∷ 108 ∷ 97 ∷ 103 ∷ []))
    (same w (101 ∷ 100 ∷ 105 ∷ 116 ∷ 105 ∷ 111 ∷ 110 ∷ [])) e
  where
    go : (a b c d f g : Bool) → ◌≡◌ {A = ℕ} (cond a 101 (cond b 114 (cond c 105 (cond d 116 (cond f 102 (cond g 69 1)))))) 65 → ⊥
    go true b c d f g e = omega arith
    go false true c d f g e = omega arith
    go false false true d f g e = omega arith
    go false false false true f g e = omega arith
    go false false false false true g e = omega arith
    go false false false false false true e = omega arith
    go false false false false false false e = omega arith

no_number : (s : List ℕ) (a d e : ℕ) → number_kind s a d e ≡ 65 → ⊥
unfolding number_kind
no_number s a d e h = go (eqb e d) (eqb (get_or s d 0) 48) (eqb (e - a) 1) h
  where
    go : (x y z : Bool) → ◌≡◌ {A = ℕ} (cond x 1 (cond y (cond z 48 1) 48)) 65 → ⊥
    go true y z h = omega arith
    go false true true h = omega arith
    go false true false h = omega arith
    go false false z h = omega arith

no_sign : Sign ≡ class_of 65 → ⊥
unfolding class_of
no_sign e = omega (arith, ap code e)

begin_label : (s : List ℕ) (a : ℕ) (x : Class) → a < length s → class_of (get_or s a 0) ≡ x → (begin_at s a x).kind ≡ 65 → Label (word_in s (begin_at s a x))
unfolding begin_at word_token name_token number_token dots_token
begin_label s a Space h e k = absurd (omega arith)
begin_label s a Lower h e k = absurd (not_name s (part s a (run_end letter_or_digit s a)) k)
begin_label s a Upper h e k = name_label s a h e (short (leb (run_end letter_or_digit s a - a) 8) refl k)
  where
    short : (b : Bool) → leb (run_end letter_or_digit s a - a) 8 ≡ b → ◌≡◌ {A = ℕ} (cond b 65 1) 65 → run_end letter_or_digit s a - a ≤ 8
    short true f k = leb-true _ _ f
    short false f k = absurd (omega arith)
begin_label s a Digit h e k = absurd (no_number s a a (run_end is_digit s a) k)
begin_label s a Dot h e k = absurd (go (eqb (run_end is_dot s a - a) 1) (eqb (run_end is_dot s a - a) 2) k)
  where
    go : (x y : Bool) → ◌≡◌ {A = ℕ} (cond x 46 (cond y 58 1)) 65 → ⊥
    go true y k = omega arith
    go false true k = omega arith
    go false false k = omega arith
begin_label s a Minus h e k = absurd (no_number s a (a + 1) (run_end is_digit s (a + 1)) k)
begin_label s a Sign h e k = absurd (no_sign (sym e ∙ ap class_of k))
begin_label s a Other h e k = absurd (omega arith)

pub token_label : (s : List ℕ) (p : ℕ) → (token_at s p).kind ≡ 65 → Label (word_in s (token_at s p))
unfolding token_at
token_label s p k = go (leb (length s) a) refl k
  where
    a : ℕ
    a = run_end is_space s p

    answer : Bool → Token
    answer b = cond b (token 0 (length s) (length s)) (begin_at s a (class_of (get_or s a 0)))

    go : (b : Bool) → leb (length s) a ≡ b → (answer b).kind ≡ 65 → Label (word_in s (answer b))
    go true e k = absurd (omega arith)
    go false e k = begin_label s a (class_of (get_or s a 0)) (leb-false _ _ e) refl k

-- ---- a text

-- every word among tokens is a label; every label of a type is one
abbrev Words : List Tok → Type 0
Words [] = Unit {0}
Words (word x ∷ ts) = Label x × Words ts
Words (number n ∷ ts) = Words ts
Words (sign n ∷ ts) = Words ts

abbrev mutual
  pub Labelled : Ty → Type 0
  Labelled stop = Unit {0}
  Labelled (var x) = Unit {0}
  Labelled (loop x t) = Labelled t
  Labelled (choice w bs) = LabelledBr bs

  pub LabelledBr : Br → Type 0
  LabelledBr (last l fs sh t) = Label l × Labelled t
  LabelledBr (also l fs sh t bs) = Label l × (Labelled t × LabelledBr bs)

token_words : (s : List ℕ) (k : Token) (ts : List Tok) → (k.kind ≡ 65 → Label (word_in s k)) → Words ts → Words (tok_of s k ∷ ts)
unfolding tok_of
token_words s k ts h w = go (eqb k.kind 65) refl (eqb k.kind 48)
  where
    go : (b : Bool) → eqb k.kind 65 ≡ b → (c : Bool) → Words (cond b (word (word_in s k)) (cond c (number (signed_in s k)) (sign k.kind)) ∷ ts)
    go true e c = (h (eqb-true _ _ e), w)
    go false e true = w
    go false e false = w

from_words : (n : ℕ) (s : List ℕ) (p : ℕ) → Words (map (tok_of s) (tokens_from n s p))
unfolding tokens_from
from_words zero s p = tt
from_words (suc n) s p = go (eqb (token_at s p).kind 0) (from_words n s (token_at s p).end)
  where
    go : (b : Bool) → Words (map (tok_of s) (tokens_from n s (token_at s p).end)) → Words (map (tok_of s) (token_at s p ∷ cond b [] (tokens_from n s (token_at s p).end)))
    go true w = token_words s (token_at s p) [] (token_label s p) tt
    go false w = token_words s (token_at s p) (map (tok_of s) (tokens_from n s (token_at s p).end)) (token_label s p) w

more_words : (fs : List SyntaxField) (ts : List Tok) → Words (print_more fs ts) → Words ts
more_words [] ts w = w
more_words (f ∷ fs) ts w = more_words fs ts w

fields_words : (fs : List SyntaxField) (ts : List Tok) → Words (print_fields fs ts) → Words ts
fields_words [] ts w = w
fields_words (f ∷ fs) ts w = more_words fs ts w

share_words : (sh : Share) (ts : List Tok) → Words (print_share sh ts) → Words ts
share_words none ts w = w
share_words (some n) ts w = w

mutual
  print_words : (t : Ty) (ts : List Tok) → Words (print t ts) → Labelled t × Words ts
  print_words stop ts w = (tt, w)
  print_words (var x) ts w = (tt, w.1)
  print_words (loop x t) ts w = print_words t ts w.1
  print_words (choice v bs) ts w = print_br_words bs (arrow v) ts w

  print_br_words : (bs : Br) (σ : ℕ) (ts : List Tok) → Words (print_br bs σ ts) → LabelledBr bs × Words ts
  print_br_words (last l fs sh t) σ ts w =
      let us = sign 46 ∷ print t (sign 125 ∷ ts) in
      let a = print_words t (sign 125 ∷ ts) (share_words sh us (fields_words fs (print_share sh us) w.1)) in
      ((w.0, a.0), a.1)
  print_br_words (also l fs sh t bs) σ ts w =
      let us = sign 46 ∷ print t (sign 44 ∷ print_br bs σ ts) in
      let a = print_words t (sign 44 ∷ print_br bs σ ts) (share_words sh us (fields_words fs (print_share sh us) w.1)) in
      let b = print_br_words bs σ ts a.1 in
      ((w.0, (a.0, b.0)), b.1)

opening_words : (o : Option Signed) (ts : List Tok) → Words (print_opening o ts) → Words ts
opening_words none ts w = w
opening_words (some n) ts w = w

-- the labels of a text's type are legal
pub labels_legal : (s : List ℕ) (p : Protocol) → Writes s p → Labelled p.type
unfolding tokens
labels_legal s p w =
    (print_words p.type (sign 0 ∷ [])
    (opening_words p.opening _ (subst Words w.written (from_words (suc (length s)) s 0)))).0
