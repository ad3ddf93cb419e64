-- A scan's worth of messages together (document 02, request 2): single steps on the due messages, in turn, each given the rest of the
-- other side's output.
-- Assumes nothing.
use Rattle.std.specs.Prelude.{Bool, ◌&&◌, cond, List, [], ◌∷◌, ◌++◌, ℕ, zero, suc, ◌+◌, length, take, drop, eqb, None, Some}
use Rattle.std.specs.Prelude as Std
use Rattle.std.proofs.Math.Option.{Option, none, some}
use Rattle.table.specs.Lists.{first_no}
use Rattle.table.specs.View.{Words, sound_at}
use Rattle.table.specs.declared.Party.{Party}
use Rattle.table.specs.declared.Party.TheVariants.{Device, Host}
use Rattle.conversation.specs.declared.State.{State}
use Rattle.conversation.specs.declared.Verdict.{Verdict}
use Rattle.conversation.specs.declared.batch.Batched.{Batched}
use Rattle.conversation.specs.Step.{is_running, Told, refused, blamed, forwarded, told, stepping}
use Rattle.conversation.specs.Due.{Awaited, of_side, awaited, first_length}
use Rattle.conversation.specs.Counts.{Counts, counts_sound, counted}
use Rattle.conversation.specs.declared.batch.Lane as P
use Rattle.conversation.specs.Due as Due

-- ---- both sides

-- the device's and the host's
pub record Both (A : Type 0) : Type 0 where
  pub device : A
  pub host : A

unfoldable pub at_side : {A : Type 0} → Party → Both A → A
at_side Device x = x.device
at_side Host x = x.host

-- another in a side's place
unfoldable pub set_side : {A : Type 0} → Party → A → Both A → Both A
set_side Device a x = record { device = a; host = x.host }
set_side Host a x = record { device = x.device; host = a }

unfoldable pub each_side : {A : Type 0} → (Party → A) → Both A
each_side f = record { device = f Device; host = f Host }

-- what waits on a side, and the output that its messages go to, which is the other side's
pub record Left : Type 0 where
  pub bytes : List ℕ
  pub output : List ℕ

unfoldable pub lent : List ℕ → List ℕ → List ℕ → List ℕ → Both Left
lent device host to_device to_host =
    record { device = record { bytes = device; output = to_host }; host = record { bytes = host; output = to_device } }

-- ---- one message

-- a side's messages so far: how many of its waiting bytes are used, how many bytes are written on the other side's output, and that output
pub record Lane : Type 0 where
  pub used : ℕ
  pub written : ℕ
  pub output : List ℕ

-- of a message of n bytes: those of a forwarded or blamed one are used, those of a forwarded one written
unfoldable pub used_by : Told → ℕ → ℕ
used_by (refused q) n = 0
used_by (blamed side r f) n = n
used_by forwarded n = n

unfoldable pub written_by : Told → ℕ → ℕ
written_by (refused q) n = 0
written_by (blamed side r f) n = 0
written_by forwarded n = n

-- after a step on a message of n bytes, which was given the rest of the output and left `rest` in it
unfoldable pub lane_on : Told → ℕ → List ℕ → Lane → Lane
lane_on v n rest l =
    record { used = l.used + used_by v n; written = l.written + written_by v n; output = take l.written l.output ++ rest }

-- what comes of a side's turn: the step's answer, if a message was due; the state and the counts; the side's messages so far
pub record Taken : Type 0 where
  pub answer : Option Told
  pub state : State
  pub counts : Counts
  pub lane : Lane

-- the due message of what is left of a side's bytes, on its turn; nothing changes where none is due
unfoldable pub taking : Words → State → Counts → Party → List ℕ → Lane → Taken
taking t s c side bytes l =
    let left = drop l.used bytes in
    let n = first_length left in
    let message = take n left in
    let x = stepping t s side message (drop l.written l.output) in
    cond (eqb n 0) (record { answer = none; state = s; counts = c; lane = l })
    (record {
      answer = some x.verdict;
      state = x.state;
      counts = counted t s message x.verdict c;
      lane = lane_on x.verdict n x.output l;
    })

-- ---- all of them

-- a batch so far: the state and the counts, either side's messages, and the last answer, if a step was tried
pub record Batch : Type 0 where
  pub state : State
  pub counts : Counts
  pub lanes : Both Lane
  pub last : Option Told

-- the later answer, if there is one
unfoldable pub latest : Option Told → Option Told → Option Told
latest none before = before
latest (some v) before = some v

-- what a side's turn makes of a batch, and its answer
unfoldable pub took : Party → Taken → Batch → Option Told × Batch
took side x b = (
  x.answer,
  record { state = x.state; counts = x.counts; lanes = set_side side x.lane b.lanes; last = latest x.answer b.last },
)

-- one turn, of the side that is awaited; nobody's at an end
unfoldable pub turn_of : Words → Both Left → Batch → Awaited → Option Told × Batch
turn_of t l b (Due.refused q) = (none, b)
turn_of t l b (of_side side) = took side (taking t b.state b.counts side (at_side side l).bytes (at_side side b.lanes)) b

unfoldable pub one_turn : Words → Both Left → Batch → Option Told × Batch
one_turn t l b = turn_of t l b (awaited t b.state)

-- on after a forwarded message; it is over when none was due, a step refused or a blame fell
unfoldable pub go_on : (Batch → Batch) → Option Told × Batch → Batch
go_on on (some forwarded, b) = on b
go_on on (some (refused q), b) = b
go_on on (some (blamed side r f), b) = b
go_on on (none, b) = b

-- at most n turns; one more than bytes wait is enough, for a forwarded message has some
unfoldable pub turns : ℕ → Words → Both Left → Batch → Batch
turns zero t l b = b
turns (suc n) t l b = go_on (turns n t l) (one_turn t l b)

-- 9. Is the table sound, the position one of its states, and are the counts sound? 10. Is the standing running?
unfoldable pub batch_questions : Words → State → Counts → List (ℕ × Bool)
batch_questions t s c = (9, sound_at t s.position && counts_sound t c) ∷ (10, is_running s.standing) ∷ []

-- nothing used, nothing written
unfoldable pub begun : State → Counts → Both Left → Option Told → Batch
begun s c l last =
    record {
      state = s;
      counts = c;
      lanes = each_side (λ side. record { used = 0; written = 0; output = (at_side side l).output });
      last = last;
    }

unfoldable pub batching : Words → State → Counts → Both Left → Batch
batching t s c l =
    let q = first_no (batch_questions t s c) in
    cond (eqb q 0) (turns (suc (length l.device.bytes + length l.host.bytes)) t l (begun s c l none)) (begun s c l (some (refused q)))

-- ---- what the program answers, and what it leaves in the counts and the outputs

unfoldable pub last_of : Std.Option Verdict → Option Told
last_of None = none
last_of (Some v) = some (told v)

abbrev pub lane_of : P.Lane → List ℕ → Lane
lane_of l out = record { used = l.used; written = l.written; output = out }

unfoldable pub batched : Batched → Counts → List ℕ → List ℕ → Batch
batched r c to_device to_host =
    record {
      state = r.state;
      counts = c;
      lanes = record { device = lane_of r.passed.device to_host; host = lane_of r.passed.host to_device };
      last = last_of r.passed.last;
    }
