-- Reading, as document 01 words it: first over the whole text, then at each token from the left, the questions are asked in
-- their order, and the first no gives the question's number and the token's place. `reads`, at the end, is the whole.
-- Assumes nothing.
use Rattle.std.specs.Prelude.{Bool, true, false, not, ◌&&◌, ◌||◌, cond, List, [], ◌∷◌, ℕ, leb, ltb, eqb, length}
use Rattle.std.proofs.Math.Option.{Option, none, some}
use Rattle.table.specs.Lists.{first_no}
use Rattle.table.specs.Table.{Sort, Branch, Table, states_most, branches_most, fields_most}
use Rattle.grammar.specs.Token.{Token, one_of, word_in}
use Rattle.grammar.specs.inner.Scanner.{tokens}
use Rattle.grammar.specs.Number.{signed_in, offset, in_kind, in_share, in_edition}
use Rattle.grammar.specs.Grammar.{text_limit, open_most, or_else}
use Rattle.grammar.specs.Building.{empty_branch, labelled, field_added, aimed, stateless, set_edition, add_state, add_branch, add_share, label_used, choice_right, Built, came, denied}
use Rattle.grammar.specs.Filled.{written}
use Rattle.grammar.specs.declared.Reading.{Reading}
use Rattle.table.specs.Table as S
use Rattle.grammar.specs.Kind as K

-- ---- the state between two tokens

-- What the grammar expects: at the outset `edition` or a type; an edition's number; a token of one kind; the name of a `rec`; a label; a
-- type; after a branch `,` and another, with that sign, or `}`; after `(` a field or `)`; a field; the low number of a kind; the high one,
-- with the low in offset form; after a field `,` and another, or `)`; after a branch's `)` an `@` and a share, or `.`; a share.
pub data Item : Type 0 where
  outset : Item
  edition : Item
  just : ℕ → Item
  name : Item
  label : Item
  type : Item
  more : ℕ → Item
  fields : Item
  field : Item
  low : ℕ → Item
  high : ℕ → ℕ → Item
  more_fields : Item
  dot : Item
  share : Item

-- which of these it is
abbrev pub tag : Item → ℕ
tag outset = 0
tag edition = 1
tag (just n) = 2
tag name = 3
tag label = 4
tag type = 5
tag (more σ) = 6
tag fields = 7
tag field = 8
tag (low κ) = 9
tag (high κ l) = 10
tag more_fields = 11
tag dot = 12
tag share = 13

abbrev pub is_a : Item → Item → Bool
is_a i j = eqb (tag i) (tag j)

-- What is open: a `rec` with its name and the first state of its body, a choice with its state.
pub data Open : Type 0 where
  a_rec : ℕ → ℕ → Open
  a_choice : ℕ → Open

-- What is still expected, the next first; what is open, the innermost first; the branch that is being read (from its label up to its type,
-- the `rec`s at the type's front included, else the empty one); the table so far.
pub data State : Type 0 where
  state : List Item → List Open → Branch → Table → State

abbrev pub open_in : State → List Open
open_in (state E O b T) = O

abbrev pub branch_in : State → Branch
branch_in (state E O b T) = b

abbrev pub table_in : State → Table
table_in (state E O b T) = T

-- what is expected next; where nothing more is, the end of the text
abbrev pub next_item : State → Item
next_item (state [] O b T) = just K.text_end
next_item (state (i ∷ E) O b T) = i

-- what a name means: the first state of the body of the innermost `rec` of that name that is open
unfoldable pub meaning : List Open → ℕ → Option ℕ
meaning [] x = none
meaning (a_rec n o ∷ O) x = cond (eqb n x) (some o) (meaning O x)
meaning (a_choice o ∷ O) x = meaning O x

-- the innermost `rec` of that name is open inside the innermost choice: no choice stands between
unfoldable pub unguarded : List Open → ℕ → Bool
unguarded [] x = false
unguarded (a_rec n o ∷ O) x = cond (eqb n x) true (unguarded O x)
unguarded (a_choice o ∷ O) x = false

-- the state of the innermost choice
abbrev pub owner_in : List Open → ℕ
owner_in [] = 0
owner_in (a_rec n o ∷ O) = owner_in O
owner_in (a_choice o ∷ O) = o

-- a type has come to its end, and with it every `rec` whose body it is
unfoldable pub closed : List Open → List Open
closed [] = []
closed (a_rec n o ∷ O) = closed O
closed (a_choice o ∷ O) = a_choice o ∷ O

-- a choice has come to its end
abbrev pub left : List Open → List Open
left [] = []
left (x ∷ O) = closed O

-- ---- the questions

abbrev pub Question : Type 0
Question = List ℕ → State → Token → Bool

-- 2. Is the token well formed?
unfoldable pub token_formed : Question
token_formed s st k = not (eqb k.kind K.no_token)

-- a type begins with such a token
abbrev pub opens_type : ℕ → Bool
opens_type kind = one_of (K.of "end" ∷ K.of_name ∷ K.of "rec" ∷ K.of "&" ∷ K.of "+" ∷ []) kind

-- 3. Does the grammar allow it here, the end of the text included?
abbrev pub admits : Item → ℕ → Bool
admits outset kind = eqb kind K.edition_word || opens_type kind
admits edition kind = eqb kind K.of_number
admits (just n) kind = eqb kind n
admits name kind = eqb kind K.of_name
admits label kind = eqb kind K.of_name
admits type kind = opens_type kind
admits (more σ) kind = one_of (K.of "," ∷ K.of "}" ∷ []) kind
admits fields kind = one_of (K.of ")" ∷ K.of "int" ∷ K.of "text" ∷ K.of "flag" ∷ []) kind
admits field kind = one_of (K.of "int" ∷ K.of "text" ∷ K.of "flag" ∷ []) kind
admits (low κ) kind = eqb kind K.of_number
admits (high κ l) kind = eqb kind K.of_number
admits more_fields kind = one_of (K.of "," ∷ K.of ")" ∷ []) kind
admits dot kind = one_of (K.of "@" ∷ K.of "." ∷ []) kind
admits share kind = eqb kind K.of_number

unfoldable pub grammar_allows : Question
grammar_allows s st k = admits (next_item st) k.kind

-- 23. Is an edition 1 or 2?
unfoldable pub edition_known : Question
edition_known s st k = cond (is_a (next_item st) edition) (in_edition (signed_in s k)) true

-- a name is used as a type
abbrev pub as_type : Item → ℕ → Bool
as_type i kind = (is_a i outset || is_a i type) && eqb kind K.of_name

-- 4. Is a name used as a type bound by a `rec` around it?
abbrev pub is_found : Option ℕ → Bool
is_found none = false
is_found (some n) = true

unfoldable pub name_bound : Question
name_bound s st k = cond (as_type (next_item st) k.kind) (is_found (meaning (open_in st) (word_in s k))) true

-- 5. Does a choice stand between a name used as a type and its own binder, the innermost `rec` of that name? (Where the name follows no
-- `rec`'s dot, it follows a branch's, and the branch's choice stands there.)
unfoldable pub guarded : Question
guarded s st k = cond (as_type (next_item st) k.kind) (not (unguarded (open_in st) (word_in s k))) true

-- 6. Is the number within its kind, and high not below low (asked at high)?
abbrev pub number_in_range : List ℕ → Token → Item → Bool
number_in_range s k outset = true
number_in_range s k edition = true
number_in_range s k (just n) = true
number_in_range s k name = true
number_in_range s k label = true
number_in_range s k type = true
number_in_range s k (more σ) = true
number_in_range s k fields = true
number_in_range s k field = true
number_in_range s k (low κ) = in_kind κ (signed_in s k)
number_in_range s k (high κ l) = in_kind κ (signed_in s k) && not (ltb (offset (signed_in s k)) l)
number_in_range s k more_fields = true
number_in_range s k dot = true
number_in_range s k share = true

unfoldable pub ranged : Question
ranged s st k = number_in_range s k (next_item st)

-- 19. Is a share 1 to 1000?
unfoldable pub share_ranged : Question
share_ranged s st k = cond (is_a (next_item st) share) (in_share (signed_in s k)) true

-- 7. Is the label new in its choice?
unfoldable pub new_label : Question
new_label s st k = cond (is_a (next_item st) label) (not (label_used (table_in st) (owner_in (open_in st)) (word_in s k))) true

-- 8. Is the token within 32 states, 128 branches, 4 fields in a branch, and 16 choices and `rec`s open around one another?
-- States are counted at `+`, `&` or `end`, branches at `!` or `?`, fields at the kind's word, what is open at `+`, `&` or `rec`.
abbrev pub below : List ℕ → ℕ → ℕ → ℕ → Bool
below kinds kind count limit = cond (one_of kinds kind) (ltb count limit) true

unfoldable pub within_limits : Question
within_limits s st k =
    below (K.of "+" ∷ K.of "&" ∷ K.of "end" ∷ []) k.kind (length (table_in st).sorts) states_most
    && (below (K.of "!" ∷ K.of "?" ∷ []) k.kind (length (table_in st).branches) branches_most
    && (below (K.of "int" ∷ K.of "text" ∷ K.of "flag" ∷ []) k.kind (length (branch_in st).fields) fields_most
    && below (K.of "+" ∷ K.of "&" ∷ K.of "rec" ∷ []) k.kind (length (open_in st)) open_most))

-- 20. Have the branches of a choice that closes no share, or each one, and do they add to 1000?
abbrev pub closes : Item → ℕ → Bool
closes i kind = is_a i (more 0) && eqb kind (K.of "}")

unfoldable pub shares_add : Question
shares_add s st k = cond (closes (next_item st) k.kind) (choice_right (table_in st) (owner_in (open_in st))) true

-- the questions that are asked at a token, in their order, with their answers
unfoldable pub questions : List ℕ → State → Token → List (ℕ × Bool)
questions s st k =
    (2, token_formed s st k) ∷ (3, grammar_allows s st k)
    ∷ (23, edition_known s st k)
    ∷ (4, name_bound s st k) ∷ (5, guarded s st k) ∷ (6, ranged s st k)
    ∷ (19, share_ranged s st k)
    ∷ (7, new_label s st k)
    ∷ (8, within_limits s st k)
    ∷ (20, shares_add s st k)
    ∷ []

-- ---- the state after a token that passed

-- + has branches with !, & has branches with ?
unfoldable pub sign_of : ℕ → ℕ
sign_of kind = cond (eqb kind (K.of "+")) (K.of "!") (K.of "?")

-- the sort of a choice
unfoldable pub choice_sort : ℕ → Sort
choice_sort kind = cond (eqb kind (K.of "+")) S.sends S.receives

-- int, text, flag; 3 for any other token
unfoldable pub kind_of : ℕ → ℕ
kind_of kind = cond (eqb kind (K.of "int")) 0 (cond (eqb kind (K.of "text")) 1 (cond (eqb kind (K.of "flag")) 2 3))

-- a branch and those after it: sign label ( fields ) share . type, then `,` or `}`
abbrev pub a_branch : ℕ → List Item → List Item
a_branch σ E = just σ ∷ label ∷ just (K.of "(") ∷ fields ∷ dot ∷ type ∷ more σ ∷ E

-- a field of a kind and those after it: [ low .. high ], then `,` or `)`; `..` and high come with low, which high is held against
abbrev pub a_field : ℕ → List Item → List Item
a_field κ E = just (K.of "[") ∷ low κ ∷ just (K.of "]") ∷ more_fields ∷ E

-- a branch leads to the first state of its type: what a name means, or the next state n
unfoldable pub target : List ℕ → Token → List Open → ℕ → ℕ
target s k O n = cond (eqb k.kind K.of_name) (or_else (meaning O (word_in s k)) n) n

-- the table at the first token of a type that is no `rec`: with the branch whose type it is, if a choice is open
unfoldable pub stored : List Open → Branch → Table → ℕ → Table
stored [] b T n = T
stored (a_rec m o ∷ O) b T n = stored O b T n
stored (a_choice o ∷ O) b T n = add_branch T (aimed b n)

-- that token: a name, `end`, or `+` or `&`
unfoldable pub began : Token → List Item → List Open → Table → State
began k E O T =
    cond (eqb k.kind K.of_name) (state E (closed O) empty_branch T)
    (cond (eqb k.kind (K.of "end")) (state E (closed O) empty_branch (add_state T S.ends))
    (state (just (K.of "{") ∷ a_branch (sign_of k.kind) E) (a_choice (length T.sorts) ∷ O) empty_branch
    (add_state T (choice_sort k.kind))))

-- the first token of a type
abbrev pub type_taken : List ℕ → List Item → List Open → Branch → Table → Token → State
type_taken s E O b T k =
    cond (eqb k.kind (K.of "rec")) (state (name ∷ just (K.of ".") ∷ type ∷ E) O b T)
    (began k E O (stored O b T (target s k O (length T.sorts))))

unfoldable pub taken : List ℕ → State → Token → State
taken s (state [] O b T) k = state [] O b T
taken s (state (outset ∷ E) O b T) k = cond (eqb k.kind K.edition_word) (state (edition ∷ type ∷ E) O b T) (type_taken s E O b T k)
taken s (state (edition ∷ E) O b T) k = state E O b (set_edition T (signed_in s k).value)
taken s (state (just n ∷ E) O b T) k = state E O b T
taken s (state (name ∷ E) O b T) k = state E (a_rec (word_in s k) (length T.sorts) ∷ O) b T
taken s (state (label ∷ E) O b T) k = state E O (labelled (word_in s k) (owner_in O)) T
taken s (state (type ∷ E) O b T) k = type_taken s E O b T k
taken s (state (more σ ∷ E) O b T) k = cond (eqb k.kind (K.of ",")) (state (a_branch σ E) O b T) (state E (left O) b T)
taken s (state (fields ∷ E) O b T) k =
    cond (eqb k.kind (K.of ")")) (state E O b T) (state (a_field (kind_of k.kind) E) O b T)
taken s (state (field ∷ E) O b T) k = state (a_field (kind_of k.kind) E) O b T
taken s (state (low κ ∷ E) O b T) k = state (just K.dots ∷ high κ (offset (signed_in s k)) ∷ E) O b T
taken s (state (high κ l ∷ E) O b T) k = state E O (field_added b κ l (offset (signed_in s k))) T
taken s (state (more_fields ∷ E) O b T) k = cond (eqb k.kind (K.of ",")) (state (field ∷ E) O b T) (state E O b T)
taken s (state (dot ∷ E) O b T) k =
    cond (eqb k.kind (K.of "@")) (state (share ∷ just (K.of ".") ∷ E) O b T) (state E O b (add_share T 0))
taken s (state (share ∷ E) O b T) k = state E O b (add_share T (signed_in s k).value)

-- ---- reading

-- from a state on, over the tokens that are left
unfoldable pub run_tokens : List ℕ → State → List Token → Built
run_tokens s st [] = came 0 0 (table_in st)
run_tokens s st (k ∷ ks) =
    cond (eqb (first_no (questions s st k)) 0) (run_tokens s (taken s st k) ks) (denied (first_no (questions s st k)) k.start)

-- an edition or a type is expected, nothing is open, the table has no states; without an opening the edition is 1
abbrev pub start : State
start = state (outset ∷ []) [] empty_branch (stateless 1)

-- 1. Is the text at most 8,192 bytes long? Then the questions at each token.
unfoldable pub built : List ℕ → Built
built s = cond (leb (length s) text_limit) (run_tokens s start (tokens s)) (denied 1 0)

-- and the table as the program has it
unfoldable pub reads : List ℕ → Reading
reads s = written (built s)
