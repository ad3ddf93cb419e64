-- What the inner functions of a batch say and ask. It need not be believed: the laws tie it to Batch.
-- Assumes nothing.
use Rattle.std.specs.Prelude.{◌≡◌, true, List, [], ℕ}
use Rattle.std.proofs.Math.Option.{Option, some}
use Rattle.table.specs.View.{Words}
use Rattle.table.specs.declared.Party.{Party}
use Rattle.conversation.specs.declared.State.{State}
use Rattle.conversation.specs.declared.Verdict.{Verdict}
use Rattle.conversation.specs.declared.batch.Batched.{Batched}
use Rattle.monitor.specs.declared.lane.Taken.{Taken}
use Rattle.monitor.specs.declared.batch.Turned.{Turned}
use Rattle.conversation.specs.Step.{is_running, Told, forwarded}
use Rattle.conversation.specs.Due.{of_side, awaited}
use Rattle.conversation.specs.Counts.{Counts}
use Rattle.conversation.specs.Batch.{Both, Left, lent, Batch, taking, one_turn, last_of, lane_of, batched}
use Rattle.conversation.specs.inner.Keeping.{Rising, Within}
use Rattle.conversation.specs.Batch as B
use Rattle.std.specs.Prelude as Std

-- what waits on either side: the outputs are the batch's
abbrev pub bytes_waiting : List ℕ → List ℕ → Both Left
bytes_waiting device host = lent device host [] []

-- where turns may go on: the lanes are within, nobody is blamed, and the counts can rise
pub record On (t : Words) (l : Both Left) (b : Batch) : Type 0 where
  pub within : Within t l b
  pub running : is_running b.state.standing ≡ true
  pub rising : Rising t b.counts

-- from one batch to another by turns that forward
pub data Led (t : Words) (l : Both Left) (b : Batch) : Batch → Type 0 where
  no_turn : Led t l b b
  a_turn : {x y : Batch} → Led t l b x → one_turn t l x ≡ (some forwarded, y) → Led t l b y

-- the program's answer before any turn
abbrev pub none_passed : State → Std.Option Verdict → Batched
none_passed s last =
    record { state = s; passed = record { device = record { used = 0; written = 0 }; host = record { used = 0; written = 0 }; last = last } }

-- its answers, with the counts and outputs that it leaves
abbrev pub taken_of : Taken → Counts → List ℕ → B.Taken
taken_of r c out = record { answer = last_of r.answer; state = r.state; counts = c; lane = lane_of r.lane out }

abbrev pub turned_told : Turned → Counts → List ℕ → List ℕ → Option Told × Batch
turned_told r c to_device to_host = (last_of r.answer, batched r.batch c to_device to_host)

-- a message that goes straight is forwarded, and is the turn of whoever has it; the counts and the output that it leaves
pub record PassedOn (t : Words) (s : State) (c : Counts) (bytes : List ℕ) (l : B.Lane) (counts : Counts) (output : List ℕ) (r : Taken) : Type 0 where
  pub forwards : last_of r.answer ≡ some forwarded
  pub turn : (side : Party) → awaited t s ≡ of_side side → taken_of r counts output ≡ taking t s c side bytes l
