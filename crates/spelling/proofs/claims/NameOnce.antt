-- A name is its bytes: the word of a name has them, filled up with 0x00, so two names have one word exactly when their bytes are the same.
-- Assumes nothing.
use mathlib.Core.Path.{◌≡◌, refl, sym, ap, ◌∙◌}
use mathlib.Core.Bool.{true}
use mathlib.Core.List.{List, [], ◌∷◌}
use Prim.Native.Nat.{ℕ, zero, suc}
use Rattle.table.specs.Ascii.{letters}
use Rattle.table.specs.Lists.{every}
use Rattle.table.specs.Table.{letter_or_digit}
use Rattle.table.specs.View.{label_of}
use Rattle.table.proofs.laws.Lists.{both, join}
use Rattle.table.proofs.laws.LegalLabel.{label_bytes}
use Rattle.grammar.specs.Token.{packed, word_of}
use Rattle.grammar.specs.Filled.{padded}
use Rattle.grammar.proofs.laws.ClassOf.{upper_word}
use Rattle.grammar.proofs.laws.Packed.{packed_bytes, letters_small}
use Rattle.spelling.specs.Spelling.{Name}
use Rattle.spelling.specs.TextTheorems.{NameBytes, NameBack, NameOnce}
use Rattle.spelling.proofs.laws.Speller.{letter_not_zero}

name_letters : (w : List ℕ) → Name w → every letter_or_digit w ≡ true
unfolding every
name_letters [] h = absurd h
name_letters (b ∷ w) h = join (upper_word b h.0) h.1

-- the word of a name is its bytes, filled up with 0x00
pub name_bytes : NameBytes
unfolding word_of
name_bytes [] h = absurd h
name_bytes (b ∷ w) h = label_bytes (packed 8 (b ∷ w)) ∙ packed_bytes 8 (b ∷ w) (letters_small (b ∷ w) (name_letters (b ∷ w) h)) h.2

trim_letters : (w : List ℕ) → every letter_or_digit w ≡ true → letters w ≡ w
unfolding letters every
trim_letters [] e = refl
trim_letters (b ∷ w) e =
    let p = both (letter_or_digit b) (every letter_or_digit w) e in
    rw (letter_not_zero b p.0) (ap (λ (l : List ℕ). b ∷ l) (trim_letters w p.1))

trim_padded : (n : ℕ) (w : List ℕ) → every letter_or_digit w ≡ true → letters (padded n w) ≡ w
unfolding letters every
trim_padded zero w e = trim_letters w e
trim_padded (suc n) [] e = refl
trim_padded (suc n) (b ∷ w) e =
    let p = both (letter_or_digit b) (every letter_or_digit w) e in
    rw (letter_not_zero b p.0) (ap (λ (l : List ℕ). b ∷ l) (trim_padded n w p.1))

-- the bytes of a name from its word
pub name_back : NameBack
name_back w h = ap letters (name_bytes w h) ∙ trim_padded 8 w (name_letters w h)

-- Two names are the same exactly when their bytes are.
pub name_once : NameOnce
name_once v w h i = ((λ e. sym (name_back v h) ∙ ap (λ (x : ℕ). letters (label_of x)) e ∙ name_back w i), (λ e. ap word_of e))
