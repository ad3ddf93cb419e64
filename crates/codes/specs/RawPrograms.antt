-- Programs in C and Rust: any calls of sojimu_raw_step, _batch, _turn and _due over one state that sojimu_fresh began, in any order. They are
-- programs of the monitor's own calls (conversation/specs/Programs.antt), with the numbers of document 01.
-- Assumes nothing.
use Rattle.std.specs.Prelude.{◌≡◌, ◌↔◌, true, List, [], ◌∷◌, ◌++◌, ℕ, zero, suc, ◌≤◌, length, get_or}
use Rattle.std.proofs.Math.Option.{Option, none, some}
use Rattle.table.specs.View.{Words, view, sound_of}
use Rattle.table.specs.declared.Party.{Party}
use Rattle.table.specs.declared.Party.TheVariants.{Device, Host}
use Rattle.message.specs.Rules.{Rules, table_rules}
use Rattle.conversation.specs.declared.Standing.TheVariants.{Running, DeviceBlamed, HostBlamed}
use Rattle.conversation.specs.declared.State as M
use Rattle.conversation.specs.Step.{Told, refused, blamed, forwarded}
use Rattle.conversation.specs.Due.{Awaited, of_side, first_length}
use Rattle.conversation.specs.Counts.{Counts, starting, counted_step, counted_turn}
use Rattle.conversation.specs.Batch.{Batch, lent, batching}
use Rattle.conversation.specs.Batches.{Accounted}
use Rattle.conversation.specs.Programs.{Call, a_step, a_batch, run_from, WatchedCalls}
use Rattle.codes.specs.declared.steps.Verdict.{Verdict}
use Rattle.codes.specs.declared.steps.Turn.{Turn}
use Rattle.codes.specs.declared.steps.Due.{Due}
use Rattle.codes.specs.declared.batches.Batch as C
use Rattle.codes.specs.Codes.{state_in, started_codes, turn_codes}
use Rattle.codes.specs.Calls.{step_codes, batching_codes, due_codes}
use Rattle.conversation.specs.Due as D

-- ---- calls one after another

-- with what the program hands over, a side's code being any number
pub data RawCall : Type 0 where
  raw_step : ℕ → List ℕ → List ℕ → RawCall
  raw_batch : List ℕ → List ℕ → List ℕ → List ℕ → RawCall
  raw_turn : RawCall
  raw_due : List ℕ → List ℕ → RawCall

-- what it gets back: an answer, and the outputs, the device's first
pub data RawGiven : Type 0 where
  step_gives : Verdict → List ℕ → RawGiven
  batch_gives : C.Batch → List ℕ → List ℕ → RawGiven
  turn_gives : Turn → RawGiven
  due_gives : Due → RawGiven

-- the state that it keeps: two bytes, and the counts
pub record Kept : Type 0 where
  pub bytes : List ℕ
  pub counts : Counts

-- what the exports promise
unfoldable pub raw_called : Words → Kept → RawCall → RawGiven × Kept
raw_called t k (raw_step side message out) =
    let x = step_codes t k.bytes k.counts side message out in
    (step_gives x.0 x.3, record { bytes = x.1; counts = x.2 })
raw_called t k (raw_batch device host to_device to_host) =
    let x = batching_codes t k.bytes k.counts (lent device host to_device to_host) in
    (batch_gives x.0 x.3 x.4, record { bytes = x.1; counts = x.2 })
raw_called t k raw_turn = (turn_gives (turn_codes (counted_turn t (state_in k.bytes) k.counts)), k)
raw_called t k (raw_due device host) = (due_gives (due_codes (counted_turn t (state_in k.bytes) k.counts) device host), k)

-- the state after calls, each over what the one before left
unfoldable pub kept_after : Words → Kept → List RawCall → Kept
kept_after t k [] = k
kept_after t k (x ∷ r) = kept_after t (raw_called t k x).1 r

-- from the state that sojimu_fresh gives
unfoldable pub kept_from : Words → ℕ → List RawCall → Kept
kept_from t z raws =
    let s = (started_codes (starting t z)).state in
    kept_after t (record { bytes = s.position ∷ s.standing ∷ []; counts = s.counts }) raws

-- ---- which of the monitor's calls they are

abbrev pub step_of : Party → List ℕ → List ℕ → List Call
step_of side message out = a_step (record { side = side; bytes = message; buffer = out }) ∷ []

-- 0 is the device, 1 the host; a step of any other number is refused, and it and the questions change nothing
unfoldable pub call_of : RawCall → List Call
call_of (raw_step zero message out) = step_of Device message out
call_of (raw_step (suc zero) message out) = step_of Host message out
call_of (raw_step (suc (suc n)) message out) = []
call_of (raw_batch device host to_device to_host) = a_batch (lent device host to_device to_host) ∷ []
call_of raw_turn = []
call_of (raw_due device host) = []

unfoldable pub calls_of : List RawCall → List Call
calls_of [] = []
calls_of (x ∷ r) = call_of x ++ calls_of r

-- ---- what the numbers say

pub record StateSays (k : Kept) (s : M.State) (c : Counts) : Type 0 where
  pub two : length k.bytes ≡ 2
  pub position : get_or k.bytes 0 0 ≡ s.position
  pub running : (get_or k.bytes 1 0 ≡ 0) ↔ (s.standing ≡ Running)
  pub device_blamed : (get_or k.bytes 1 0 ≡ 1) ↔ (s.standing ≡ DeviceBlamed)
  pub host_blamed : (get_or k.bytes 1 0 ≡ 2) ↔ (s.standing ≡ HostBlamed)
  pub counts : k.counts ≡ c

-- the reason's number, and with reason 3 the first field outside its range
pub record VerdictSays (r : Verdict) (v : Told) : Type 0 where
  pub forwards : (r.outcome ≡ 0) ↔ (v ≡ forwarded)
  pub refuses : (q : ℕ) → ((r.outcome ≡ 1) × (r.question ≡ q)) ↔ (v ≡ refused q)
  pub blames_device : (n : ℕ) → ((r.outcome ≡ 2) × (r.party ≡ 0) × (r.reason ≡ n)) ↔ ((f : Option ℕ) × (v ≡ blamed Device n f))
  pub blames_host : (n : ℕ) → ((r.outcome ≡ 2) × (r.party ≡ 1) × (r.reason ≡ n)) ↔ ((f : Option ℕ) × (v ≡ blamed Host n f))
  pub outside : (side : Party) (n f : ℕ) → v ≡ blamed side n (some f) → r.field ≡ f

-- the last answer of a batch, or 3 where none was due
pub record LastSays (r : Verdict) (v : Option Told) : Type 0 where
  pub none_due : (r.outcome ≡ 3) ↔ (v ≡ none)
  pub answers : (x : Told) → v ≡ some x → VerdictSays r x

pub record BatchSays (r : C.Batch) (b : Batch) : Type 0 where
  pub device : (r.used_device ≡ b.lanes.device.used) × (r.written_to_host ≡ b.lanes.device.written)
  pub host : (r.used_host ≡ b.lanes.host.used) × (r.written_to_device ≡ b.lanes.host.written)
  pub last : LastSays r.last b.last

pub record TurnSays (r : Turn) (a : Awaited) : Type 0 where
  pub refuses : (q : ℕ) → (q ≡ 0 → ⊥) → (r.question ≡ q) ↔ (a ≡ D.refused q)
  pub device : ((r.question ≡ 0) × (r.side ≡ 0)) ↔ (a ≡ of_side Device)
  pub host : ((r.question ≡ 0) × (r.side ≡ 1)) ↔ (a ≡ of_side Host)

-- of what waits on the side whose turn it is; nothing is due while it is nobody's
pub record DueSays (r : Due) (a : Awaited) (waits_device waits_host : List ℕ) : Type 0 where
  pub device : a ≡ of_side Device → (r.side ≡ 0) × (r.length ≡ first_length waits_device)
  pub host : a ≡ of_side Host → (r.side ≡ 1) × (r.length ≡ first_length waits_host)
  pub nobody : (q : ℕ) → a ≡ D.refused q → r.length ≡ 0

-- ---- every call after every list of calls

-- the codes of the two sides
pub data SideCode : Party → ℕ → Type 0 where
  device_is_0 : SideCode Device 0
  host_is_1 : SideCode Host 1

-- at a state and its counts, a call and what it gives: what the monitor's own call gives there, in numbers. A step of a code that is no side's is
-- refused by what refuses the turn, or else by 12, and leaves the output
pub data RawSays (t : Words) (s : M.State) (c : Counts) : RawCall → RawGiven → Type 0 where
  says_step : {side : Party} {code : ℕ} {message out : List ℕ} {r : Verdict} → SideCode side code
      → VerdictSays r (counted_step t s c side message out).0.verdict
      → RawSays t s c (raw_step code message out) (step_gives r (counted_step t s c side message out).0.output)
  says_nobodys_turn : {code q : ℕ} {message out : List ℕ} {r : Verdict} → 2 ≤ code → counted_turn t s c ≡ D.refused q → VerdictSays r (refused q)
      → RawSays t s c (raw_step code message out) (step_gives r out)
  says_no_side : {code : ℕ} {side : Party} {message out : List ℕ} {r : Verdict} → 2 ≤ code → counted_turn t s c ≡ of_side side → VerdictSays r (refused 12)
      → RawSays t s c (raw_step code message out) (step_gives r out)
  says_batch : {device host to_device to_host : List ℕ} {b : Batch} {r : C.Batch} → b ≡ batching t s c (lent device host to_device to_host) → BatchSays r b
      → RawSays t s c (raw_batch device host to_device to_host) (batch_gives r b.lanes.host.output b.lanes.device.output)
  says_turn : {r : Turn} → TurnSays r (counted_turn t s c) → RawSays t s c raw_turn (turn_gives r)
  says_due : {device host : List ℕ} {r : Due} → DueSays r (counted_turn t s c) device host → RawSays t s c (raw_due device host) (due_gives r)

-- whatever the calls: the start is not refused; those of a side are one conversation of the monitor's calls (`WatchedCalls`); the state that is
-- kept is the one that they leave, and every further call says what the monitor's own says there
pub record WatchedRaw {A : Type 0} (rules : Rules A) (t : Words) (z : ℕ) (raws : List RawCall) : Type 0 where
  pub starts : (started_codes (starting t z)).question ≡ 0
  pub watched : WatchedCalls rules t z (calls_of raws)
  pub keeps : StateSays (kept_from t z raws) (run_from t z (calls_of raws)).state (run_from t z (calls_of raws)).counts
  pub says : (x : RawCall)
      → RawSays t (run_from t z (calls_of raws)).state (run_from t z (calls_of raws)).counts x (raw_called t (kept_from t z raws) x).0

-- over a sound table, with every setting from 1 to 1000
abbrev pub RawWatched : Type 0
RawWatched =
    (t : Words) (z : ℕ) → sound_of t ≡ true → 1 ≤ z → z ≤ 1000 → (raws : List RawCall) → WatchedRaw (table_rules (view t)) t z raws

-- ---- no byte is lost

-- a batch over any two bytes and counts, refused or not: what is used of the device's bytes is what is written on the host's output, and so the
-- other way round (`Accounted`)
abbrev pub RawNothingLost : Type 0
RawNothingLost =
    (t : Words) (bytes : List ℕ) (c : Counts) (device host to_device to_host : List ℕ)
    → let x = batching_codes t bytes c (lent device host to_device to_host) in
    Accounted (record { bytes = device; output = to_host }) (record { used = x.0.used_device; written = x.0.written_to_host; output = x.4 })
    × Accounted (record { bytes = host; output = to_device }) (record { used = x.0.used_host; written = x.0.written_to_device; output = x.3 })
