-- What is proved of batches (document 02, request 2): they are single calls, they may be cut in two, no byte is lost, and none of the
-- messages that they take is early. That demand 2 holds of them: Programs.antt.
-- Assumes nothing.
use Rattle.std.specs.Prelude.{◌≡◌, true, not, ◌&&◌, cond, ℕ, ◌+◌, ◌≤◌, length, take, drop}
use mathlib.Core.List.{List, [], ◌∷◌, ◌++◌, flatten}
use Rattle.std.proofs.Math.Option.{Option, none, some}
use Rattle.table.specs.Lists.{first_no, every}
use Rattle.table.specs.Table.{is_party}
use Rattle.table.specs.View.{Words}
use Rattle.table.specs.declared.Party.{Party}
use Rattle.message.specs.Message.{refusal, well_formed}
use Rattle.conversation.specs.declared.State.{State}
use Rattle.conversation.specs.Step.{is_running, Told, refused, blamed, forwarded}
use Rattle.conversation.specs.Due.{of_side, awaited, due}
use Rattle.conversation.specs.Conversation.{Event, event, is_refused, is_forwarded}
use Rattle.conversation.specs.Counts.{Counts, counted, counted_turn}
use Rattle.conversation.specs.Batch.{Both, at_side, set_side, each_side, Left, Lane, Batch, latest, batch_questions, begun, batching}
use Rattle.std.specs.Borrow.{Bor}

-- ---- single calls

-- what is left once a message of n bytes is forwarded
unfoldable pub left_after : Party → ℕ → Both Left → Both Left
left_after side n l = set_side side (record { bytes = drop n (at_side side l).bytes; output = drop n (at_side side l).output }) l

-- `due` hands out this message, wherever in memory the bytes stand
abbrev pub HandsOut : Words → State → Both Left → List ℕ → Type 0
HandsOut t s l message = (device host : Bor (List ℕ)) → device.now ≡ l.device.bytes → host.now ≡ l.host.bytes → (due t s device host).1 ≡ message

-- a step with the due message, sent by the side whose turn it is, and given what is left of the output
pub record Single (t : Words) (s : State) (l : Both Left) (e : Event) : Type 0 where
  pub turn : awaited t s ≡ of_side e.sent.side
  pub due : HandsOut t s l e.sent.bytes
  pub some_due : e.sent.bytes ≡ [] → ⊥
  pub given : e.sent.buffer ≡ (at_side e.sent.side l).output
  pub stepped : e ≡ event t s e.sent

-- such steps, one after another, until none is due, a step refuses or a blame falls
pub data Singly (t : Words) : State → Both Left → List Event → Type 0 where
  none_due : {s : State} {l : Both Left} → HandsOut t s l [] → Singly t s l []
  stops : {s : State} {l : Both Left} {e : Event} → Single t s l e → (e.done.verdict ≡ forwarded → ⊥) → Singly t s l (e ∷ [])
  goes_on : {s : State} {l : Both Left} {e : Event} {r : List Event} → Single t s l e → e.done.verdict ≡ forwarded
      → Singly t e.done.state (left_after e.sent.side (length e.sent.bytes) l) r → Singly t s l (e ∷ r)

-- ---- what they come to

-- bytes used on a side: those of its forwarded and blamed messages, which are those that no step refused
unfoldable pub used_on : Party → List Event → ℕ
used_on side [] = 0
used_on side (e ∷ r) =
    cond (is_party side (some e.sent.side) && not (is_refused e.done.verdict)) (length e.sent.bytes) 0 + used_on side r

-- a side's messages that were forwarded, one after another
unfoldable pub passed_from : Party → List Event → List ℕ
passed_from side [] = []
passed_from side (e ∷ r) =
    cond (is_party side (some e.sent.side) && is_forwarded e.done.verdict) (e.sent.bytes ++ passed_from side r) (passed_from side r)

-- they open the other side's output, the rest of which is unchanged
unfoldable pub lane_after : Party → List Event → List ℕ → Lane
lane_after side events out =
    let passed = passed_from side events in
    record { used = used_on side events; written = length passed; output = passed ++ drop (length passed) out }

unfoldable pub state_after : State → List Event → State
state_after s [] = s
state_after s (e ∷ r) = state_after e.done.state r

-- the counts after events, one after another
unfoldable pub counts_after : Words → Counts → List Event → Counts
counts_after t c [] = c
counts_after t c (e ∷ r) = counts_after t (counted t e.met e.sent.bytes e.done.verdict c) r

-- that of the last step, if one was tried
unfoldable pub last_answer : List Event → Option Told
last_answer [] = none
last_answer (e ∷ []) = some e.done.verdict
last_answer (e ∷ f ∷ r) = last_answer (f ∷ r)

unfoldable pub summed : Words → State → Counts → Both Left → List Event → Batch
summed t s c l events =
    record {
      state = state_after s events;
      counts = counts_after t c events;
      lanes = each_side (λ side. lane_after side events (at_side side l).output);
      last = last_answer events;
    }

-- single calls come to an end; and whatever single calls there are, the batch does what they do
abbrev pub BatchSingly : Type 0
BatchSingly =
    (t : Words) (s : State) (c : Counts) (l : Both Left) → first_no (batch_questions t s c) ≡ 0
    → ((events : List Event) × Singly t s l events) × ((events : List Event) → Singly t s l events → batching t s c l ≡ summed t s c l events)

-- ---- a batch cut in two

-- a batch, and another on what it left, as one: numbers are added, outputs joined, and the last answer is the later one
unfoldable pub onto_lane : Lane → Lane → Lane
onto_lane a b = record { used = a.used + b.used; written = a.written + b.written; output = take a.written a.output ++ b.output }

unfoldable pub onto : Batch → Batch → Batch
onto a b =
    record {
      state = b.state;
      counts = b.counts;
      lanes = each_side (λ side. onto_lane (at_side side a.lanes) (at_side side b.lanes));
      last = latest b.last a.last;
    }

-- what a batch leaves of what it was given, and of what has come since
unfoldable pub left_by : Batch → Both Left → Both Left
left_by b l =
    each_side (λ side. let a = at_side side b.lanes in
    record { bytes = drop a.used (at_side side l).bytes; output = drop a.written a.output })

-- bytes that come later, behind those that wait
unfoldable pub joined_by : Both Left → Both (List ℕ) → Both Left
joined_by l x = each_side (λ side. record { bytes = (at_side side l).bytes ++ at_side side x; output = (at_side side l).output })

-- wherever the bytes are cut: unless the first batch was refused or somebody is blamed in it, the second goes on as one batch would. The
-- counts are as many as the program has: question 9 does not ask that
abbrev pub BatchInTwo : Type 0
BatchInTwo =
    (t : Words) (s : State) (c : Counts) (l : Both Left) (x : Both (List ℕ)) → length c ≡ 161 → first_no (batch_questions t s c) ≡ 0
    → let a = batching t s c l in is_running a.state.standing ≡ true
    → batching t s c (joined_by l x) ≡ onto a (batching t a.state a.counts (left_by a (joined_by l x)))

-- ---- no byte is lost

-- the first n of these bytes are whole messages, one behind the other
abbrev pub Messages : List ℕ → ℕ → Type 0
Messages bytes n = (row : List (List ℕ)) × (every well_formed row ≡ true) × (flatten row ≡ take n bytes)

-- of a side's waiting bytes and the other side's output: what is used are whole messages, of which the first are forwarded, unchanged and
-- in their order; the other bytes wait still, and the rest of the output is unchanged
pub record Accounted (l : Left) (a : Lane) : Type 0 where
  pub used : a.used ≤ length l.bytes
  pub messages : Messages l.bytes a.used
  pub passed : Messages l.bytes a.written
  pub written : a.written ≤ a.used
  pub forwards : a.output ≡ take a.written l.bytes ++ drop a.written l.output

-- of either side; and all that is used is forwarded, but for a message that was blamed
pub record NothingLostOf (l : Both Left) (b : Batch) : Type 0 where
  pub accounted : (side : Party) → Accounted (at_side side l) (at_side side b.lanes)
  pub unblamed : is_running b.state.standing ≡ true → (side : Party) → (at_side side b.lanes).used ≡ (at_side side b.lanes).written

abbrev pub NothingLost : Type 0
NothingLost = (t : Words) (s : State) (c : Counts) (l : Both Left) → NothingLostOf l (batching t s c l)

-- ---- a text that is no UTF-8

-- where a message that only 22 refuses waits first on the side whose turn it is, a batch stops before it, with 22: whatever waits behind
-- it, whatever is lent, and as often as it is called, for nothing has changed
abbrev pub StopsAtText : Type 0
StopsAtText =
    (t : Words) (s : State) (c : Counts) (l : Both Left) (side : Party) (message rest : List ℕ) → counted_turn t s c ≡ of_side side
    → refusal message ≡ 22 → (at_side side l).bytes ≡ message ++ rest → batching t s c l ≡ begun s c l (some (refused 22))

-- ---- none of them is early

-- it is its side's turn: 12 does not refuse it, and nobody is blamed with reason 4
pub record InTurn (t : Words) (e : Event) : Type 0 where
  pub turn : awaited t e.met ≡ of_side e.sent.side
  pub not_twelve : e.done.verdict ≡ refused 12 → ⊥
  pub not_early : (side : Party) (f : Option ℕ) → e.done.verdict ≡ blamed side 4 f → ⊥

-- so it is, under either edition, with a step on what `due` hands out
abbrev pub DueInTurn : Type 0
DueInTurn =
    (t : Words) (s : State) (device host : Bor (List ℕ)) (buffer : List ℕ) → ((due t s device host).1 ≡ [] → ⊥)
    → (side : Party) × InTurn t (event t s (record { side = side; bytes = (due t s device host).1; buffer = buffer }))

-- and with every step of every batch, whatever waits and is lent
abbrev pub BatchInTurn : Type 0
BatchInTurn =
    (t : Words) (s : State) (l : Both Left) (events : List Event) → Singly t s l events
    → (earlier : List Event) (e : Event) (later : List Event) → events ≡ earlier ++ (e ∷ later) → InTurn t e
