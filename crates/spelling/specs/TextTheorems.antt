-- The theorems on texts, each as a type that proofs/ has a value of.
-- Assumes nothing.
use Rattle.std.specs.Prelude.{◌≡◌, true, cond, ◌↔◌, List, ℕ, suc, ◌≤◌, leb, length}
use Rattle.table.specs.Ascii.{letters, digits}
use Rattle.table.specs.View.{label_of, view, sound_of}
use Rattle.grammar.specs.Token.{Token, word_of}
use Rattle.grammar.specs.Number.{value_of}
use Rattle.grammar.specs.Grammar.{Protocol, Tok, print_text, table_of, Legal}
use Rattle.grammar.specs.Building.{denied}
use Rattle.grammar.specs.Filled.{came_out, filled, padded, written}
use Rattle.grammar.specs.Reading.{start, run_tokens, reads}
use Rattle.grammar.specs.declared.Reading.{Reading}
use Rattle.spelling.specs.Spelling.{Name, Spelt}
use Rattle.spelling.specs.Places.{Placed}
use Rattle.spelling.specs.Speller.{spell, Spellable}
use Rattle.spelling.specs.TextOf.{TextOf}
use Rattle.table.specs.Table as T

-- ---- what a text spells

-- A text spells at most one list of tokens.
abbrev pub SpeltOnce : Type 0
SpeltOnce = (s : List ℕ) (ts us : List Tok) → Spelt s ts → Spelt s us → ts ≡ us

-- A text spells at most one protocol.
abbrev pub ProtocolOnce : Type 0
ProtocolOnce = (s : List ℕ) (p r : Protocol) → Spelt s (print_text p) → Spelt s (print_text r) → p ≡ r

-- ---- reading

-- A text is read, into r, exactly when it is one of a protocol, and r is that protocol's table.
abbrev pub ReadExactly : Type 0
ReadExactly =
    (s : List ℕ) (r : Reading)
    → ((reads s ≡ r) × (r.question ≡ 0))
    ↔ ((p : Protocol) × TextOf s p × (r ≡ came_out 0 0 (filled (table_of p))))

-- The same of what is seen of the table's words.
abbrev pub ReadSeen : Type 0
ReadSeen =
    (s : List ℕ) (T : T.Table)
    → (((reads s).question ≡ 0) × (view (reads s).table ≡ T))
    ↔ ((p : Protocol) × TextOf s p × (T ≡ table_of p))

-- Reading any text, refusals and their places included, asks the questions at the tokens that stand in it.
abbrev pub ReadPlaced : Type 0
ReadPlaced =
    (s : List ℕ) (r : Reading)
    → (reads s ≡ r)
    ↔ ((ks : List Token) × Placed s 0 ks × (written (cond (leb (length s) 8192) (run_tokens s start ks) (denied 1 0)) ≡ r))

-- A table that is read is sound (question 9).
abbrev pub ReadSound : Type 0
ReadSound = (s : List ℕ) → (reads s).question ≡ 0 → sound_of (reads s).table ≡ true

-- ---- the speller

-- The digits of a number, by division by ten, have its value.
abbrev pub DecimalValue : Type 0
DecimalValue = (n : ℕ) → value_of 0 (digits (suc n) n) ≡ n

-- A protocol has a text exactly when its names, labels and numbers can be written.
abbrev pub SpellableExactly : Type 0
SpellableExactly = (p : Protocol) → Spellable p ↔ ((s : List ℕ) × Spelt s (print_text p))

-- The speller's text of a legal protocol is read, where it is not too long.
abbrev pub SpellRead : Type 0
SpellRead = (p : Protocol) → Spellable p → Legal p → length (spell p) ≤ 8192 → reads (spell p) ≡ came_out 0 0 (filled (table_of p))

-- ---- names

-- The eight bytes of a name's word are the name's, filled up with 0x00.
abbrev pub NameBytes : Type 0
NameBytes = (w : List ℕ) → Name w → label_of (word_of w) ≡ padded 8 w

-- So a name comes back from its word.
abbrev pub NameBack : Type 0
NameBack = (w : List ℕ) → Name w → letters (label_of (word_of w)) ≡ w

-- Two names are the same exactly when their bytes are.
abbrev pub NameOnce : Type 0
NameOnce = (v w : List ℕ) → Name v → Name w → (word_of v ≡ word_of w) ↔ (v ≡ w)
