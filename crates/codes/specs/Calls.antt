-- What the calls that take or give codes do. The other calls' promises are those of the crates below.
-- Assumes nothing.
use Rattle.std.specs.Prelude.{◌≡◌, Bool, false, ◌&&◌, cond, List, [], ◌∷◌, ◌++◌, ℕ, zero, suc, length, get_or, eqb}
use Rattle.std.proofs.Math.Option.{Option, none, some}
use Rattle.table.specs.View.{Words, view}
use Rattle.table.specs.declared.Party.{Party}
use Rattle.table.specs.declared.Party.TheVariants.{Device, Host}
use Rattle.conversation.specs.declared.State as M
use Rattle.conversation.specs.Step.{of_state, Told, refused, blamed, forwarded, Outcome, refusing}
use Rattle.table.specs.Lists.{first_no}
use Rattle.conversation.specs.Due.{Seen, cut, Awaited, of_side, first_length}
use Rattle.conversation.specs.Due as D
use Rattle.conversation.specs.Counts.{Counts, counts_sound, counted_step, counted_turn, counted_due}
use Rattle.conversation.specs.Batch.{Both, Left, Batch, batch_questions, begun, batching}
use Rattle.conversation.specs.Warning.{warning}
use Rattle.message.specs.Make.{opening}
use Rattle.message.specs.Rules.{table_rules}
use Rattle.machine.specs.Machine.{Shortest}
use Rattle.machine.specs.Fit.{shown_moves}
use Rattle.machine.specs.Answer.{Answer, Answered}
use Rattle.codes.specs.declared.steps.Verdict.{Verdict}
use Rattle.codes.specs.declared.steps.Due.{Due}
use Rattle.codes.specs.declared.batches.Batch as C
use Rattle.codes.specs.declared.fits.Fit.{Fit}
use Rattle.codes.specs.Codes.{code_side, party_code, standing_code, standing_of, state_in, state_bytes, verdict_codes, last_codes, warning_codes, high_code, fit_codes}
use Rattle.std.specs.Borrow.{Bor}

-- ---- one step

-- what no side says is never in turn: 9, on the counts, too, 10 and 11 are asked, and 12 gets a no
unfoldable pub stepping_as : Option Party → Words → M.State → Counts → List ℕ → List ℕ → Outcome × Counts
stepping_as (some side) t s c message out = counted_step t s c side message out
stepping_as none t s c message out =
    (refusing (cond (counts_sound t c) (first_no (of_state t s ++ ((12, false) ∷ []))) 9) s out, c)

-- the state's two bytes after a step: a refusal leaves them as they were
unfoldable pub bytes_after : Told → M.State → List ℕ → List ℕ
bytes_after (refused q) s bytes = bytes
bytes_after (blamed side n f) s bytes = state_bytes s
bytes_after forwarded s bytes = state_bytes s

-- the verdict, the state's two bytes, its counts, and the output
unfoldable pub crossing : Outcome × Counts → List ℕ → Verdict × List ℕ × Counts × List ℕ
crossing (r, c) bytes = (verdict_codes r.verdict, bytes_after r.verdict r.state bytes, c, r.output)

unfoldable pub step_codes : Words → List ℕ → Counts → ℕ → List ℕ → List ℕ → Verdict × List ℕ × Counts × List ℕ
step_codes t bytes c side message out = crossing (stepping_as (code_side side) t (state_in bytes) c message out) bytes

-- ---- a batch

-- bytes used on each side, bytes written on each output, and the last answer
unfoldable pub batch_codes : Batch → C.Batch
batch_codes b =
    record {
      used_device = b.lanes.device.used;
      used_host = b.lanes.host.used;
      written_to_device = b.lanes.host.written;
      written_to_host = b.lanes.device.written;
      last = last_codes b.last;
      reserved = 0 ∷ 0 ∷ 0 ∷ [];
    }

-- a position and a standing's code stand for this state
unfoldable pub stand_for : ℕ → ℕ → M.State → Bool
stand_for position standing s = eqb position s.position && eqb (standing_code (standing_of standing)) (standing_code s.standing)

-- the state's two bytes after a batch: where they stand for that state already, they are as they were
unfoldable pub bytes_for : M.State → List ℕ → List ℕ
bytes_for s bytes = cond (stand_for (get_or bytes 0 0) (get_or bytes 1 0) s) bytes (state_bytes s)

-- the answer, the state's two bytes, its counts, the device's output and the host's
unfoldable pub batch_crossing : Batch → List ℕ → C.Batch × List ℕ × Counts × List ℕ × List ℕ
batch_crossing b bytes = (batch_codes b, bytes_for b.state bytes, b.counts, b.lanes.host.output, b.lanes.device.output)

unfoldable pub batching_codes : Words → List ℕ → Counts → Both Left → C.Batch × List ℕ × Counts × List ℕ × List ℕ
batching_codes t bytes c l = batch_crossing (batching t (state_in bytes) c l) bytes

-- ---- the due part

-- the side whose turn it is, and the length of its first message; nothing of the device's where 9, 10 or 11 refuses
unfoldable pub due_codes : Awaited → List ℕ → List ℕ → Due
due_codes (of_side Device) device host = record { side = 0; length = first_length device }
due_codes (of_side Host) device host = record { side = 1; length = first_length host }
due_codes (D.refused q) device host = record { side = 0; length = 0 }

-- the part that they name: the first `length` of that side's bytes. It is the due part of document 01 (`DuePart`)
unfoldable pub waiting : ℕ → Bor (List ℕ) → Bor (List ℕ) → Bor (List ℕ)
waiting zero device host = device
waiting (suc n) device host = host

unfoldable pub part_told : Due → Bor (List ℕ) → Bor (List ℕ) → Seen
part_told r device host = cut (waiting r.side device host) r.length

-- ---- the fit check

-- the codes are those of an answer that the fit check promises; `before` and `after` are the lent list's numbers. Demand 3 follows
-- from the promise (`DemandThree` in machine/specs/Answer)
pub record Checked (d p : Words) (before after : List ℕ) (r : Fit) : Type 0 where
  pub answer : Answer
  pub codes : r ≡ fit_codes answer
  pub answered : Answered d p before after answer

-- ---- what is proved of them

-- over the codes of a state and a side, a step is the monitor's own, in codes
abbrev pub CodesStep : Type 0
CodesStep =
    (t : Words) (s : M.State) (c : Counts) (side : Party) (message out : List ℕ) → let x = counted_step t s c side message out in
    step_codes t (state_bytes s) c (party_code side) message out
    ≡ (verdict_codes x.0.verdict, state_bytes x.0.state, x.1, x.0.output)

-- over the codes of a state, a batch is the monitor's own, in codes
abbrev pub CodesBatch : Type 0
CodesBatch =
    (t : Words) (s : M.State) (c : Counts) (l : Both Left) → let b = batching t s c l in
    batching_codes t (state_bytes s) c l ≡ (batch_codes b, state_bytes b.state, b.counts, b.lanes.host.output, b.lanes.device.output)

-- a batch that 9 or 10 refuses: nothing used or written, the question, and every lent byte as it was, whatever the state's two bytes are
abbrev pub BatchRefused : Type 0
BatchRefused =
    (t : Words) (bytes : List ℕ) (c : Counts) (l : Both Left) (q : ℕ) → q ≡ first_no (batch_questions t (state_in bytes) c) → (q ≡ 0 → ⊥)
    → batching_codes t bytes c l ≡ (batch_codes (begun (state_in bytes) c l (some (refused q))), bytes, c, l.host.output, l.device.output)

-- the side and the length that are told as due are the due part of document 01
abbrev pub DuePart : Type 0
DuePart =
    (t : Words) (s : M.State) (c : Counts) (device host : Bor (List ℕ))
    → part_told (due_codes (counted_turn t s c) device.now host.now) device host ≡ counted_due t s c device host

-- the codes of a warning are those of one answer only
abbrev pub CodesWarn : Type 0
CodesWarn =
    (t u : Words) (s r : M.State) (c d : Counts) (a b : ℕ) → warning_codes (warning t s c a) ≡ warning_codes (warning u r d b)
    → warning t s c a ≡ warning u r d b

-- the fit check's codes are those of one answer only
abbrev pub CodesTell : Type 0
CodesTell =
    (d p : Words) (before a b : List ℕ) (x y : Answer) → Answered d p before a x → Answered d p before b y → fit_codes x ≡ fit_codes y → x ≡ y

-- as many entries as `count` says open the list; with the field that `high` says high in the last they are a shortest failure
pub record ShownCodes (d p : Words) (before after : List ℕ) (r : Fit) : Type 0 where
  pub numbers : List ℕ
  pub field : Option ℕ
  pub many : length numbers ≡ r.count
  pub high_is : high_code field ≡ r.high
  pub list : after ≡ opening numbers before
  pub shortest : Shortest (table_rules (view d)) (table_rules (view p)) r.count (shown_moves (view d) (view p) numbers field)

-- where the fit check's codes say that it fails
abbrev pub CodesFewest : Type 0
CodesFewest = (d p : Words) (before after : List ℕ) (r : Fit) → Checked d p before after r → r.outcome ≡ 1 → ShownCodes d p before after r
