-- What is proved of messages, each statement as a type that proofs/ has a value of.
-- Assumes nothing.
use Rattle.std.specs.Prelude.{◌≡◌, ℕ, ◌+◌, ◌*◌, ◌<◌, ◌≤◌, true, false, ◌↔◌, List, [], ◌∷◌, ◌++◌, map, length, take, drop, ◌≢◌, slice_index_or}
use mathlib.Core.List.{flatten}
use Rattle.std.proofs.Math.Option.{Option, none, some}
use Rattle.table.specs.Lists.{matched}
use Rattle.table.specs.Table.{Field, Table, sound}
use Rattle.table.specs.View.{Words, label_of, view}
use Rattle.utf8.specs.Scalars.{Encoded}
use Rattle.message.specs.Message.{Value, Message, count_of, values_of, read, text_length, texts_of, legal_texts, well_formed, front, broken, has_label}
use Rattle.message.specs.Judge.{same_kind, in_range, carries, allows, selected, allowed, forbidden, judge}
use Rattle.message.specs.Make.{branch, branch_message, making}

-- ---- what a judgement says, over a sound table

-- branch k is one of state i's, and has the label
pub record Named (t : Table) (i : ℕ) (label : List ℕ) (k : ℕ) : Type 0 where
  pub there : k < length t.branches
  pub owned : (branch t k).owner ≡ i
  pub labelled : (branch t k).label ≡ label

abbrev pub nth_field : List Field → ℕ → Field
nth_field fs f = slice_index_or fs f (record { kind = 0; low = 0; high = 0 })

abbrev pub nth_value : List Value → ℕ → Value
nth_value vs f = slice_index_or vs f (record { kind = 0; number = 0 })

-- f is the first field whose range does not hold its number
pub record FirstOutside (fs : List Field) (vs : List Value) (f : ℕ) : Type 0 where
  pub there : f < length fs
  pub outside : in_range (nth_field fs f) (nth_value vs f) ≡ false
  pub before : (g : ℕ) → g < f → in_range (nth_field fs g) (nth_value vs g) ≡ true

pub record Judged (t : Table) (i : ℕ) (m : Message) : Type 0 where
  -- what is judged allowed is what the state allows, with the same target
  pub allows_it : (j : ℕ) → judge t i m ≡ allowed j ↔ allows t i m ≡ some j
  -- 1: no branch of the state has the label
  pub no_label : judge t i m ≡ forbidden 1 none ↔ ((k : ℕ) → Named t i m.label k → ⊥)
  -- 2: the branch that has it has another count of fields, or other kinds
  pub other_kinds : judge t i m ≡ forbidden 2 none
      ↔ ((k : ℕ) × Named t i m.label k × (matched same_kind (branch t k).fields m.values ≡ false))
  -- 3: the kinds are the same, and f is the first field whose range does not hold its number
  pub out_of_range : (f : ℕ) → judge t i m ≡ forbidden 3 (some f)
      ↔ ((k : ℕ) × Named t i m.label k
      × ((matched same_kind (branch t k).fields m.values ≡ true) × FirstOutside (branch t k).fields m.values f))

abbrev pub JudgedExactly : Type 0
JudgedExactly = (t : Table) → sound t ≡ true → (i : ℕ) (m : Message) → Judged t i m

-- the branch that a message chooses is one of the state's, and leads where the message leads; where none is selected, it leads nowhere
pub record Selected (t : Table) (i : ℕ) (m : Message) (k : ℕ) : Type 0 where
  pub there : k < length t.branches
  pub carried : carries i m (branch t k) ≡ true
  pub leads : allows t i m ≡ some (branch t k).target

abbrev pub SelectedExactly : Type 0
SelectedExactly =
    (t : Table) (i : ℕ) (m : Message)
    → ((k : ℕ) → selected t i m ≡ some k → Selected t i m k) × ((selected t i m ≡ none) ↔ (allows t i m ≡ none))

-- ---- the label where it stands

-- for any bytes and any label's word, a branch's among them (`branch_at` in table/specs/View.antt): the compare says yes exactly when
-- there are at least eight bytes and the first eight are the label
abbrev pub LabelInPlace : Type 0
LabelInPlace = (bytes : List ℕ) (label : ℕ) → has_label bytes label ≡ true ↔ ((8 ≤ length bytes) × (take 8 bytes ≡ label_of label))

-- ---- bytes that still come

-- no bytes after broken ones make a message of them
abbrev pub NeverMended : Type 0
NeverMended = (bytes more : List ℕ) → broken bytes ≡ true → front (bytes ++ more) ≢ 0

-- 29 bytes that are not broken announce their length
abbrev pub UnbrokenAnnounces : Type 0
UnbrokenAnnounces = (bytes : List ℕ) → 29 ≤ length bytes → broken bytes ≡ false → front bytes ≡ 0

-- ---- the texts

-- 22 gets a yes exactly when each text is the encoding of scalar values
abbrev pub EachTextEncoded : Type 0
EachTextEncoded =
    (bytes : List ℕ) → legal_texts bytes ≡ true ↔ ((f : ℕ) → f < length (texts_of bytes) → Encoded (slice_index_or (texts_of bytes) f []))

-- of a well-formed message there is one for each field, as long as the field announces; one behind the other they are all that stands
-- behind the arrays, so that no byte is left out and none is in two
abbrev pub TextsApart : Type 0
TextsApart =
    (bytes : List ℕ) → well_formed bytes ≡ true
    → (map length (texts_of bytes) ≡ map text_length (values_of bytes)) × (flatten (texts_of bytes) ≡ drop (9 + 5 * count_of bytes) bytes)

-- ---- a made message

-- it is well formed, says its branch, and the state that owns the branch allows it
pub record OpensWith (t : Words) (k : ℕ) (h : Option ℕ) (message : List ℕ) : Type 0 where
  pub formed : well_formed message ≡ true
  pub says : read message ≡ branch_message (branch (view t) k) h
  pub allowed_there : allows (view t) (branch (view t) k).owner (read message) ≡ some (branch (view t) k).target

-- where making answers a length, the buffer's first bytes are such a message
abbrev pub MadeAllowed : Type 0
MadeAllowed =
    (t : Words) (k : ℕ) (h : Option ℕ) (buffer : List ℕ) (n : ℕ) → (making t k h buffer).numbers ≡ (0, n)
    → OpensWith t k h (take n (making t k h buffer).buffer)

-- ---- document 01's example: `Ask` with the int 100, 0x41 73 6B 00 00 00 00 00 01 00 00 00 00 64

abbrev pub ask_100 : List ℕ
ask_100 = 0x41 ∷ 0x73 ∷ 0x6B ∷ 0 ∷ 0 ∷ 0 ∷ 0 ∷ 0 ∷ 1 ∷ 0 ∷ 0 ∷ 0 ∷ 0 ∷ 0x64 ∷ []

-- the label, and the number in offset form: 100 + 2^31
pub record AskSays : Type 0 where
  pub formed : well_formed ask_100 ≡ true
  pub says : read ask_100 ≡ record { label = 0x41 ∷ 0x73 ∷ 0x6B ∷ 0 ∷ 0 ∷ 0 ∷ 0 ∷ 0 ∷ []; values = record { kind = 0; number = 2147483748 } ∷ [] }
