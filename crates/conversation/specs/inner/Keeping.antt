-- What turns and counts keep to while a batch runs. It need not be believed: the laws tie it to Batch and Counts.
-- Assumes nothing.
use Rattle.std.specs.Prelude.{◌≡◌, Bool, true, false, ◌&&◌, ◌||◌, List, ℕ, ◌≤◌, ◌<◌, length, get_or, leb, eqb}
use Rattle.std.proofs.Math.Option.{Option, none, some}
use Rattle.table.specs.View.{Words, branches_of, owner_at, sort_at, sound_at, sound_of}
use Rattle.table.specs.declared.Party.{Party}
use Rattle.message.specs.inner.Layout.{Framed}
use Rattle.conversation.specs.declared.State.{State}
use Rattle.conversation.specs.Step.{Told}
use Rattle.conversation.specs.Due.{of_side, awaited}
use Rattle.conversation.specs.Conversation.{is_forwarded}
use Rattle.conversation.specs.Batch.{Both, at_side, Left, Batch}
use Rattle.conversation.specs.Counts.{n_at, k_at, counted_most}
use Rattle.conversation.specs.Batch as B

-- a due message of the side whose turn it is: only 22 and 16 are left to ask
pub record Heard (t : Words) (s : State) (side : Party) (message : List ℕ) : Type 0 where
  pub turn : awaited t s ≡ of_side side
  pub framed : Framed message

-- what is used and written is within the bytes and the output
pub record LaneIn (bytes : List ℕ) (l : B.Lane) : Type 0 where
  pub used : l.used ≤ length bytes
  pub written : l.written ≤ length l.output

-- table and position are sound, and so it is on either side
pub record Within (t : Words) (l : Both Left) (b : Batch) : Type 0 where
  pub sound : sound_at t b.state.position ≡ true
  pub inside : (side : Party) → LaneIn (at_side side l).bytes (at_side side b.lanes)

-- a message was due, and was forwarded
unfoldable pub is_last_forwarded : Option Told → Bool
is_last_forwarded none = false
is_last_forwarded (some v) = is_forwarded v

-- no branch was taken more often than its choice: so k can rise with n
abbrev pub Rising : List ℕ → List ℕ → Type 0
Rising t c = (b : ℕ) → b < branches_of t → k_at c b ≤ n_at c (owner_at t b)

-- a message can take branch b at a state: it is the state's branch, and the counts can rise
pub record Follows (t : List ℕ) (b : ℕ) (s : State) (c : List ℕ) : Type 0 where
  pub sound : sound_of t ≡ true
  pub there : b < branches_of t
  pub owned : owner_at t b ≡ s.position
  pub rising : Rising t c

abbrev pub moved_to : ℕ → State → State
moved_to target s = record { position = target; standing = s.standing }

-- state i is an end, or its n is its sum and at most 10,000
unfoldable pub sums_to : List ℕ → List ℕ → List ℕ → ℕ → Bool
sums_to t c sums i = eqb (sort_at t i) 0 || (leb (n_at c i) counted_most && eqb (get_or sums i 0) (n_at c i))
