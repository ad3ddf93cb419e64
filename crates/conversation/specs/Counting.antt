-- What is proved of the counts, over whole conversations (document 02, request 4).
-- Assumes nothing.
use Rattle.std.specs.Prelude.{◌≡◌, true, false, ◌&&◌, cond, List, [], ◌∷◌, ◌++◌, ℕ, suc, ◌≤◌, ◌<◌, length, take, eqb}
use Rattle.std.proofs.Math.Option.{Option, none, some}
use Rattle.table.specs.Lists.{first_no}
use Rattle.table.specs.View.{Words, states_of, branches_of, owner_at, view, sound_of, SharesAside}
use Rattle.message.specs.Message.{read}
use Rattle.message.specs.Judge.{selected}
use Rattle.conversation.specs.declared.State.{State}
use Rattle.conversation.specs.Conversation.{Sent, Event, is_forwarded, conversation}
use Rattle.conversation.specs.Counts.{Counts, setting_of, n_at, k_at, counts_sound, fresh_counts, start_questions, starting}
use Rattle.conversation.specs.Batch.{Both, Left, batching}
use Rattle.conversation.specs.Batches.{counts_after}

-- ---- what is counted

-- the branches that the forwarded messages of choice i chose, in their order
unfoldable pub picked : Option ℕ → List ℕ → List ℕ
picked none r = r
picked (some b) r = b ∷ r

unfoldable pub picks : Words → ℕ → List Event → List ℕ
picks t i [] = []
picks t i (e ∷ r) =
    cond (is_forwarded e.done.verdict)
    (cond (eqb e.met.position i) (picked (selected (view t) i (read e.sent.bytes)) (picks t i r)) (picks t i r))
    (picks t i r)

-- how many messages of choice i were forwarded
unfoldable pub forwarded_at : ℕ → List Event → ℕ
forwarded_at i [] = 0
forwarded_at i (e ∷ r) = cond (is_forwarded e.done.verdict && eqb e.met.position i) (suc (forwarded_at i r)) (forwarded_at i r)

-- in every conversation over a sound table each of them chose a branch
abbrev pub PicksAll : Type 0
PicksAll =
    (t : Words) → sound_of t ≡ true → (sent : List Sent) → (earlier later : List Event) → conversation t sent ≡ earlier ++ later
    → (i : ℕ) → length (picks t i earlier) ≡ forwarded_at i earlier

-- how often b is in a list
unfoldable pub times : ℕ → List ℕ → ℕ
times b [] = 0
times b (k ∷ r) = cond (eqb k b) (suc (times b r)) (times b r)

-- of the events of a conversation: z is the one that it was started with; n is the number of forwarded messages of its choice, k of its
-- branch, each counted while n was below 10,000; so they are sound
pub record Tallied (t : Words) (z : ℕ) (events : List Event) (c : Counts) : Type 0 where
  pub sound : counts_sound t c ≡ true
  pub setting : setting_of c ≡ z
  pub selected_times : (i : ℕ) → i < states_of t → n_at c i ≡ length (take 10000 (picks t i events))
  pub taken_times : (b : ℕ) → b < branches_of t → k_at c b ≡ times b (take 10000 (picks t (owner_at t b) events))

-- in every conversation over a sound table, from every setting from 1 to 1000
abbrev pub CountsTally : Type 0
CountsTally =
    (t : Words) (z : ℕ) → sound_of t ≡ true → 1 ≤ z → z ≤ 1000 → (sent : List Sent)
    → (earlier later : List Event) → conversation t sent ≡ earlier ++ later → Tallied t z earlier (counts_after t (fresh_counts z) earlier)

-- ---- no start, no conversation

-- a conversation that was refused when it was started is refused by every call, whatever the table
abbrev pub NoneStarted : Type 0
NoneStarted = (t u : Words) (z : ℕ) → (first_no (start_questions t z) ≡ 0 → ⊥) → counts_sound u (starting t z).counts ≡ false

-- ---- shares take no part

-- every conversation over them is the same, so are its counts, and so is every batch
pub record SameWatch (t u : Words) : Type 0 where
  pub conversations : (sent : List Sent) → conversation t sent ≡ conversation u sent
  pub batches : (s : State) (c : Counts) (l : Both Left) → batching t s c l ≡ batching u s c l
  pub counts : (c : Counts) (events : List Event) → counts_after t c events ≡ counts_after u c events
  pub nine : (c : Counts) → counts_sound t c ≡ counts_sound u c

abbrev pub SharesUnseen : Type 0
SharesUnseen = (t u : Words) → SharesAside t u → SameWatch t u
