-- What a refusal implies (document 01, questions 1 to 8; document 02, request 4, questions 19 and 20, and request 7, question 23): of any text,
-- in the tokens that stand in it; of a text that spells a whole protocol, by the test that the protocol fails.
-- Assumes nothing.
use Rattle.std.specs.Prelude.{◌≡◌, ◌↔◌, ◌⊎◌, Bool, true, false, List, [], ◌∷◌, ◌++◌, map, ℕ, ◌≤◌, ◌<◌, leb, length}
use Rattle.table.specs.Lists.{every}
use Rattle.grammar.specs.Grammar.{Protocol, Tok, print_text, table_of, names_bound, recs_guarded, ranges_legal, labels_new, fields_few, depth, shares_legal, sums_right, opening_legal, Legal}
use Rattle.grammar.specs.TokOf.{tok_of}
use Rattle.grammar.specs.Filled.{not_read}
use Rattle.grammar.specs.Reading.{reads}
use Rattle.grammar.specs.Token.{Token}
use Rattle.spelling.specs.Spelling.{Spelt}
use Rattle.spelling.specs.Places.{Placed}
use Rattle.grammar.specs.Kind as K

-- ---- any text

-- 1 to 8, 19, 20 or 23
abbrev pub Refusing : ℕ → Type 0
Refusing q = ((1 ≤ q) × (q ≤ 8)) ⊎ ((q ≡ 19) ⊎ ((q ≡ 20) ⊎ (q ≡ 23)))

-- Every text is read, or refused: one of these numbers, a place and the empty table.
abbrev pub ReadOrRefused : Type 0
ReadOrRefused = (s : List ℕ) → ((reads s).question ≡ 0) ⊎ ((q : ℕ) × (at : ℕ) × Refusing q × (reads s ≡ not_read q at))

-- By 1, exactly a text of more than 8,192 bytes, and the place is 0.
abbrev pub OneMeans : Type 0
OneMeans = (s : List ℕ) (at : ℕ) → (reads s ≡ not_read 1 at) ↔ ((8192 < length s) × (at ≡ 0))

-- the token whose place is p, of those that stand in the text: those before it, it itself and the rest
pub record At (s : List ℕ) (p : ℕ) : Type 0 where
  pub before : List Token
  pub here : Token
  pub rest : List Token
  pub split : Placed s 0 (before ++ (here ∷ rest))
  pub place : here.start ≡ p

-- the tokens before it; the same and it itself; as the grammar sees them, with others to follow
abbrev pub upto_before : {s : List ℕ} {p : ℕ} → At s p → List Tok → List Tok
upto_before {s} a ts = map (tok_of s) a.before ++ ts

abbrev pub upto_here : {s : List ℕ} {p : ℕ} → At s p → List Tok → List Tok
upto_here {s} a ts = upto_before a (tok_of s a.here ∷ ts)

-- A refusal by 2 or a later question: there is a token at the place, and no text that is read begins with the tokens up to and with it.
abbrev pub RefusedMeans : Type 0
RefusedMeans =
    (s : List ℕ) (q p : ℕ) → 2 ≤ q → reads s ≡ not_read q p
    → At s p × ((a : At s p) (u : List ℕ) (ts : List Tok) → Spelt u (upto_here a ts) → (reads u).question ≡ 0 → ⊥)

-- By 2, besides: the token is malformed.
abbrev pub TwoMeans : Type 0
TwoMeans = (s : List ℕ) (p : ℕ) → reads s ≡ not_read 2 p → (a : At s p) → a.here.kind ≡ K.no_token

-- By 3, besides: no protocol's tokens, the protocol legal or not, begin with them; and there is a text of a protocol whose tokens begin with
-- those before.
abbrev pub ThreeMeans : Type 0
ThreeMeans =
    (s : List ℕ) (at : ℕ) → reads s ≡ not_read 3 at → (a : At s at)
    → ((p : Protocol) (ts : List Tok) → print_text p ≡ upto_here a ts → ⊥)
    × ((u : List ℕ) × (p : Protocol) × (ts : List Tok) × Spelt u (print_text p) × (print_text p ≡ upto_before a ts))

-- ---- a text that spells a whole protocol

-- the tests of a protocol, each with the number of the question that asks it
abbrev pub tests : Protocol → List (ℕ × Bool)
tests p =
    (4, names_bound p.type []) ∷ (5, recs_guarded p.type) ∷ (6, ranges_legal p.type) ∷ (7, labels_new p.type)
    ∷ (8, leb (length (table_of p).sorts) 32)
    ∷ (8, leb (length (table_of p).branches) 128)
    ∷ (8, fields_few p.type)
    ∷ (8, leb (depth p.type) 16)
    ∷ (19, shares_legal p.type)
    ∷ (20, sums_right p.type)
    ∷ (23, opening_legal p.opening)
    ∷ []

-- one of the tests fails, and q is its number
abbrev pub FailsBy : ℕ → List (ℕ × Bool) → Type 0
FailsBy q [] = ⊥
FailsBy q (t ∷ ts) = ((q ≡ t.0) × (t.1 ≡ false)) ⊎ FailsBy q ts

-- It is read, or refused by the number of a test that the protocol fails: so never by 1, 2 or 3.
abbrev pub QuestionsMean : Type 0
QuestionsMean =
    (s : List ℕ) (p : Protocol) → length s ≤ 8192 → Spelt s (print_text p) → ((reads s).question ≡ 0) ⊎ FailsBy (reads s).question (tests p)

-- It is legal exactly when it passes all of them.
abbrev pub LegalExactly : Type 0
LegalExactly = (p : Protocol) → Legal p ↔ (every (λ t. t.1) (tests p) ≡ true)
