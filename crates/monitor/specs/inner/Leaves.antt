-- What the inner functions say of a table and a message, by places. It need not be believed: the laws tie it to the other files.
-- Assumes nothing.
use Rattle.std.specs.Prelude.{◌≡◌, Bool, true, false, ◌&&◌, List, ℕ, ◌+◌, ◌*◌, ◌≤◌, ◌<◌, length, get_or, take, leb, eqb}
use Rattle.std.proofs.Math.Option.{Option, none, some}
use Rattle.std.specs.Prelude.{Result, Ok, Err, Some, None}
use Rattle.std.specs.Prelude.{Option as Found}
use Rattle.table.specs.Table.{speaker, is_party}
use Rattle.table.specs.View.{branches_of, owner_at, target_at, word_at, count_at, kind_at, low_at, high_at, sort_of, view}
use Rattle.table.specs.inner.Scans.{all, legal_at}
use Rattle.message.specs.Message.{number_at, count_of, values_of, text_bytes, read, legal_values, legal_texts, refusal, has_label}
use Rattle.message.specs.Judge.{selected, Judgement, allowed, forbidden, judge}
use Rattle.table.specs.declared.Party.{Party}
use Rattle.conversation.specs.declared.Reason.{Reason}
use Rattle.conversation.specs.Step.{of_message, reason, outside}
use Rattle.conversation.specs.Due.{first_length}
use Rattle.conversation.specs.declared.State.{State}
use Rattle.conversation.specs.inner.Keeping.{Follows}
use Rattle.table.specs.Lists.{first_no}

-- what the inner judgement is; the branch in it
unfoldable pub judgement : List ℕ → Result ℕ Reason → Judgement ℕ
judgement t (Ok b) = allowed (target_at t b)
judgement t (Err why) = forbidden (reason why) (outside why)

unfoldable pub judged_branch : Result ℕ Reason → Option ℕ
judged_branch (Ok b) = some b
judged_branch (Err why) = none

-- a branch in it is the one that the message selects at state i
abbrev pub Selects : List ℕ → ℕ → List ℕ → Result ℕ Reason → Type 0
Selects t i message j = (b : ℕ) → judged_branch j ≡ some b → selected (view t) i (read message) ≡ some b

-- of a message of n bytes that is judged: the output holds it, and it can take the branch, if the judgement has one
pub record Settled (t : List ℕ) (j : Result ℕ Reason) (s : State) (c : List ℕ) (n room : ℕ) : Type 0 where
  pub eight : 8 ≤ n
  pub holds : n ≤ room
  pub follows : (b : ℕ) → judged_branch j ≡ some b → Follows t b s c

-- branch k is one of state i's, and the bytes begin with its label
unfoldable pub branch_named : List ℕ → ℕ → List ℕ → ℕ → Bool
branch_named t i bytes k = eqb (owner_at t k) i && has_label bytes (word_at t k)

-- r is the first place below n where the test passes, or n
pub record First (test : ℕ → Bool) (n r : ℕ) : Type 0 where
  pub within : r ≤ n
  pub before : (k : ℕ) → k < r → test k ≡ false
  pub there : r < n → test r ≡ true

-- that place, if there is one
abbrev pub FirstOf : (ℕ → Bool) → ℕ → Found ℕ → Type 0
FirstOf test n None = First test n n
FirstOf test n (Some r) = (r < n) × First test n r

-- field f of a message has the kind at place k of the fields; its number is within the range there
unfoldable pub kind_is : List ℕ → List ℕ → ℕ → ℕ → Bool
kind_is t message k f = eqb (get_or message (9 + f) 0) (kind_at t k)

unfoldable pub inside : List ℕ → List ℕ → ℕ → ℕ → Bool
inside t message k f =
    leb (low_at t k) (number_at message (9 + count_of message + 4 * f))
    && leb (number_at message (9 + count_of message + 4 * f)) (high_at t k)

-- the message's fields stand against as many from place `at` of the table's fields on, which are legal
pub record Facing (t message : List ℕ) (at count : ℕ) : Type 0 where
  pub place : at ≤ 508
  pub few : count ≤ 4
  pub counted : count ≡ count_of message
  pub arrays : 9 + 5 * count ≤ length message
  pub legal : (f : ℕ) → f < count → legal_at t (at + f) ≡ true

-- and have the kinds and are within the ranges of those; so they are legal, too, and they announce so many bytes of text
pub record Carried (t message : List ℕ) (at count texts : ℕ) : Type 0 where
  pub kinds : all count (λ f. kind_is t message (at + f) f) ≡ true
  pub numbers : (f : ℕ) → f < count → inside t message (at + f) f ≡ true
  pub legal : legal_values message ≡ true
  pub texts_are : texts ≡ text_bytes (values_of message)
  pub few : texts ≤ 256

-- branch b has the first message's fields, all of its n bytes are there, and its texts are UTF-8
pub record Held (t bytes : List ℕ) (b n : ℕ) : Type 0 where
  pub counted : get_or bytes 8 0 ≡ count_at t b
  pub arrays : 9 + 5 * count_at t b ≤ length bytes
  pub texts : ℕ
  pub carried : Carried t bytes (4 * b) (count_at t b) texts
  pub size : n ≡ 9 + 5 * count_at t b + texts
  pub there : n ≤ length bytes
  pub legal : legal_texts (take n bytes) ≡ true

-- state i allows the message, by branch b
pub record ByBranch (t : List ℕ) (i : ℕ) (message : List ℕ) (b : ℕ) : Type 0 where
  pub there : b < branches_of t
  pub owned : owner_at t b ≡ i
  pub judged : judge (view t) i (read message) ≡ allowed (target_at t b)
  pub selected_one : selected (view t) i (read message) ≡ some b

-- at a state of this sort it is the side's turn, the message gets a yes to 12 to 15, 22 and 16 under every edition, and it is allowed, by
-- branch b
pub record GoesStraight (t : List ℕ) (position sort : ℕ) (side : Party) (message : List ℕ) (room b : ℕ) : Type 0 where
  pub turn : is_party side (speaker (sort_of sort)) ≡ true
  pub asked : (edition : ℕ) → first_no (of_message edition (sort_of sort) side message room) ≡ 0
  pub by_branch : ByBranch t position message b

-- the first message of some bytes is all there and has n of them, it is well formed, the room holds it, and it is allowed, by branch b
pub record Leading (t : List ℕ) (position : ℕ) (bytes : List ℕ) (room n b : ℕ) : Type 0 where
  pub nine : 9 ≤ n
  pub first : first_length bytes ≡ n
  pub formed : refusal (take n bytes) ≡ 0
  pub holds : n ≤ room
  pub by_branch : ByBranch t position (take n bytes) b
