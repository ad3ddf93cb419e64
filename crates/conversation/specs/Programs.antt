-- Programs that call step and batch over one state and its counts, in any order, as those of docs/GATEWAY.md do: all that they do is one
-- conversation.
-- Assumes nothing.
use Rattle.std.specs.Prelude.{◌≡◌, true, false, List, [], ◌∷◌, ◌++◌, map, ℕ, ◌≤◌}
use Rattle.std.proofs.Math.Option.{Option, none, some}
use Rattle.table.specs.View.{Words, view, sound_of}
use Rattle.table.specs.declared.Party.{Party}
use Rattle.message.specs.Rules.{Rules, table_rules, turn, led}
use Rattle.conversation.specs.declared.State.{State}
use Rattle.conversation.specs.Step.{is_running, refused, Outcome}
use Rattle.conversation.specs.Due.{Awaited, sender_awaited}
use Rattle.conversation.specs.Conversation.{Sent, Event, event, conversation, forwarded_ones, blamed_first, Watched}
use Rattle.conversation.specs.Counts.{Counts, starting, counted_step, counted_turn}
use Rattle.conversation.specs.Batch.{Both, Left, Batch, begun, batching}
use Rattle.conversation.specs.Batches.{Singly, counts_after, summed}
use Rattle.conversation.specs.Counting.{Tallied}
use Rattle.conversation.specs.Due as Due

-- ---- calls one after another

-- `step` or `advance` with a message; `batch` or `batch::advance` with what waits and is lent
pub data Call : Type 0 where
  a_step : Sent → Call
  a_batch : Both Left → Call

-- what it promises: a step's outcome and the counts after it, or a batch
pub data Given : Type 0 where
  by_step : Outcome × Counts → Given
  by_batch : Batch → Given

unfoldable pub called : Words → State → Counts → Call → Given
called t s c (a_step m) = by_step (counted_step t s c m.side m.bytes m.buffer)
called t s c (a_batch l) = by_batch (batching t s c l)

unfoldable pub given_state : Given → State
given_state (by_step (x, c)) = x.state
given_state (by_batch b) = b.state

unfoldable pub given_counts : Given → Counts
given_counts (by_step (x, c)) = c
given_counts (by_batch b) = b.counts

-- each at the state and the counts that the one before left: what they give, and what is left in the end
pub record Run : Type 0 where
  pub gives : List Given
  pub state : State
  pub counts : Counts

unfoldable pub run_on : Given → Run → Run
run_on g r = record { gives = g ∷ r.gives; state = r.state; counts = r.counts }

unfoldable pub program : Words → State → Counts → List Call → Run
program t s c [] = record { gives = []; state = s; counts = c }
program t s c (k ∷ r) = let g = called t s c k in run_on g (program t (given_state g) (given_counts g) r)

-- ---- the steps that they come to

-- of a call: its answer, and its steps. A step is one; a batch is single calls, or 10 refuses it, somebody being blamed, and nothing changes
pub data CallDone (t : Words) (s : State) (c : Counts) : Call → Given → List Event → Type 0 where
  step_done : {m : Sent} → CallDone t s c (a_step m) (by_step ((event t s m).done, counts_after t c (event t s m ∷ []))) (event t s m ∷ [])
  batch_done : {l : Both Left} {events : List Event} → is_running s.standing ≡ true → Singly t s l events
      → CallDone t s c (a_batch l) (by_batch (summed t s c l events)) events
  batch_refused : {l : Both Left} → is_running s.standing ≡ false → CallDone t s c (a_batch l) (by_batch (begun s c l (some (refused 10)))) []

-- of all of them, one after another
pub data CallsDone (t : Words) : State → Counts → List Call → List Given → List Event → Type 0 where
  no_call : {s : State} {c : Counts} → CallsDone t s c [] [] []
  a_call : {s : State} {c : Counts} {k : Call} {r : List Call} {g : Given} {gs : List Given} {mine others : List Event} → CallDone t s c k g mine
      → CallsDone t (given_state g) (given_counts g) r gs others → CallsDone t s c (k ∷ r) (g ∷ gs) (mine ++ others)

-- ---- demand 2 of programs

-- of a conversation that is started with the setting z: its calls; and the steps that they come to
abbrev pub run_from : Words → ℕ → List Call → Run
run_from t z calls = program t (starting t z).state (starting t z).counts calls

abbrev pub CallsFrom : Words → ℕ → List Call → List Event → Type 0
CallsFrom t z calls events = CallsDone t (starting t z).state (starting t z).counts calls (run_from t z calls).gives events

abbrev pub messages_of : List Event → List Sent
messages_of events = map (λ (e : Event). e.sent) events

-- whose turn it is at the place a of the type: 10 refuses once somebody is blamed, and 11 at an end
unfoldable pub awaited_by : {A : Type 0} → Rules A → A → Option Party → Awaited
awaited_by rules a (some side) = Due.refused 10
awaited_by rules a none = sender_awaited (turn rules a)

-- whatever the calls: the start is not refused; the steps of all of them are one conversation, of which demand 2 holds message by message;
-- whose turn it is then; and the counts are those of all its messages
pub record WatchedCalls {A : Type 0} (rules : Rules A) (t : Words) (z : ℕ) (calls : List Call) : Type 0 where
  pub starts : (starting t z).question ≡ 0
  pub events : List Event
  pub answers : CallsFrom t z calls events
  pub conversing : conversation t (messages_of events) ≡ events
  pub watched : Watched rules t (messages_of events)
  pub awaits : (a : A) → led rules (forwarded_ones events) ≡ some a
      → counted_turn t (run_from t z calls).state (run_from t z calls).counts ≡ awaited_by rules a (blamed_first events)
  pub tallied : Tallied t z events (run_from t z calls).counts

-- over a sound table, with every setting from 1 to 1000
abbrev pub CallsWatched : Type 0
CallsWatched =
    (t : Words) (z : ℕ) → sound_of t ≡ true → 1 ≤ z → z ≤ 1000 → (calls : List Call) → WatchedCalls (table_rules (view t)) t z calls
