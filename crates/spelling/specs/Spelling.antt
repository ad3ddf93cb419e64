-- What a text spells (document 01, "Protocol text"). This is no scanner: it gives the bytes of each token, and says that a text is tokens
-- and blanks, each token as long a run as it can be.
-- Assumes nothing.
use Rattle.std.specs.Prelude.{◌≡◌, Bool, true, false, ◌&&◌, ◌||◌, ◌⊎◌, List, [], ◌∷◌, ◌++◌, map, ℕ, ◌≤◌, leb, eqb, length}
use Prim.Native.String.{String}
use Rattle.table.specs.Ascii.{ascii}
use Rattle.table.specs.Lists.{every}
use Rattle.table.specs.Table.{upper, letter_or_digit}
use Rattle.grammar.specs.Token.{word_of}
use Rattle.grammar.specs.Number.{value_of}
use Rattle.grammar.specs.Grammar.{Tok, word, number, sign}
use Rattle.grammar.specs.Kind as K

-- ---- bytes: `upper` is A-Z, `letter_or_digit` A-Z, a-z, 0-9

-- 0-9
abbrev pub a_digit : ℕ → Bool
a_digit b = leb 48 b && leb b 57

abbrev pub dot_byte : ℕ → Bool
dot_byte b = eqb b 46

-- a space or a line feed
abbrev pub blank : ℕ → Bool
blank b = eqb b 0x20 || eqb b 0x0A

-- ---- tokens

-- a sign or a word, with its kind
abbrev own : String → ℕ × String
own x = (K.of x, x)

abbrev pub sign_tokens : List (ℕ × String)
sign_tokens = map own ("+" ∷ "&" ∷ "{" ∷ "}" ∷ "," ∷ "!" ∷ "?" ∷ "(" ∷ ")" ∷ "[" ∷ "]" ∷ "@" ∷ [])

abbrev pub dot_tokens : List (ℕ × String)
dot_tokens = own "." ∷ (K.dots, "..") ∷ []

abbrev pub word_tokens : List (ℕ × String)
word_tokens = own "end" ∷ own "rec" ∷ own "int" ∷ own "text" ∷ own "flag" ∷ (K.edition_word, "edition") ∷ []

-- w is what stands beside k in a list
abbrev pub Listed : List (ℕ × String) → ℕ → List ℕ → Type 0
Listed [] k w = ⊥
Listed (e ∷ es) k w = ((k ≡ e.0) × (w ≡ ascii e.1)) ⊎ Listed es k w

-- A-Z followed by A-Z, a-z, 0-9, one to eight bytes in all
abbrev pub Name : List ℕ → Type 0
Name [] = ⊥
Name (b ∷ w) = (upper b ≡ true) × (every letter_or_digit w ≡ true) × (length (b ∷ w) ≤ 8)

-- digits without a leading zero
abbrev pub Digits : List ℕ → Type 0
Digits [] = ⊥
Digits (b ∷ w) = (every a_digit (b ∷ w) ≡ true) × (b ≡ 48 → ⊥)

-- a token, its bytes, and which bytes would go on with it: names and words (letters and digits), digits and dots take the longest run
pub data Spells : Tok → List ℕ → (ℕ → Bool) → Type 0 where
  a_sign : {k : ℕ} {w : List ℕ} → Listed sign_tokens k w → Spells (sign k) w (λ b. false)
  a_dot : {k : ℕ} {w : List ℕ} → Listed dot_tokens k w → Spells (sign k) w dot_byte
  a_word : {k : ℕ} {w : List ℕ} → Listed word_tokens k w → Spells (sign k) w letter_or_digit
  a_name : {w : List ℕ} → Name w → Spells (word (word_of w)) w letter_or_digit
  a_zero : Spells (number (record { minus = false; value = 0 })) (ascii "0") a_digit
  a_number : {w : List ℕ} → Digits w → Spells (number (record { minus = false; value = value_of 0 w })) w a_digit
  a_negative : {w : List ℕ} → Digits w → Spells (number (record { minus = true; value = value_of 0 w })) (ascii "-" ++ w) a_digit

-- ---- a text

-- the bytes that follow a token do not go on with it
abbrev pub EndsRun : (ℕ → Bool) → List ℕ → Type 0
EndsRun more [] = Unit {0}
EndsRun more (b ∷ s) = more b ≡ false

-- blanks and tokens in any order, and at last that the text ran out
pub data Spelt : List ℕ → List Tok → Type 0 where
  ran_out : Spelt [] (sign K.text_end ∷ [])
  a_blank : {b : ℕ} {s : List ℕ} {ts : List Tok} → blank b ≡ true → Spelt s ts → Spelt (b ∷ s) ts
  a_token : {t : Tok} {w s : List ℕ} {more : ℕ → Bool} {ts : List Tok}
      → Spells t w more → EndsRun more s → Spelt s ts → Spelt (w ++ s) (t ∷ ts)
