-- One step of the monitor (document 01): the questions, then the judgement.
-- Assumes nothing.
use Rattle.std.specs.Prelude.{◌≡◌, Bool, true, false, ◌||◌, cond, List, [], ◌∷◌, ◌++◌, ℕ, length, leb, eqb}
use Rattle.std.proofs.Math.Option.{Option, none, some}
use Rattle.table.specs.Lists.{first_no}
use Rattle.table.specs.Question.{number}
use Rattle.table.specs.Table.{Sort, is_choice, sort, speaker, is_party}
use Rattle.table.specs.View.{Words, view, sound_at}
use Rattle.message.specs.Message.{read, whole, legal_values, exact, legal_texts}
use Rattle.message.specs.Judge.{Judgement, allowed, forbidden}
use Rattle.message.specs.Rules.{Said, table_rules, judge_said}
use Rattle.message.specs.Make.{opening}
use Rattle.table.specs.declared.Party.{Party}
use Rattle.table.specs.declared.Party.TheVariants.{Device, Host}
use Rattle.conversation.specs.declared.Standing.{Standing}
use Rattle.conversation.specs.declared.Standing.TheVariants.{Running, DeviceBlamed, HostBlamed}
use Rattle.conversation.specs.declared.State.{State}
use Rattle.conversation.specs.declared.Reason.{Reason}
use Rattle.conversation.specs.declared.Reason.TheVariants.{NoLabel, OtherKinds, OutOfRange, Early}
use Rattle.conversation.specs.declared.Verdict.{Verdict}
use Rattle.conversation.specs.declared.Verdict.TheVariants.{Refused, Blamed, Forwarded}
use Rattle.conversation.specs.declared.Stepped.{Stepped}

-- ---- the state

unfoldable pub fresh : State
fresh = record { position = 0; standing = Running }

unfoldable pub is_running : Standing → Bool
is_running Running = true
is_running DeviceBlamed = false
is_running HostBlamed = false

-- the standing once a party is blamed
unfoldable pub blame : Party → Standing
blame Device = DeviceBlamed
blame Host = HostBlamed

-- ---- the questions

-- 9. Is the table sound, and the position one of its states? 10. Is the standing running? 11. Is the position not an end?
unfoldable pub of_state : Words → State → List (ℕ × Bool)
of_state t s =
    (9, sound_at t s.position)
    ∷ (10, is_running s.standing)
    ∷ (11, is_choice (sort (view t) s.position))
    ∷ []

-- 12. Is it this side's turn? Edition 2 does not ask that: the message is judged then
abbrev pub may_speak : ℕ → Sort → Party → Bool
may_speak edition sort side = is_party side (speaker sort) || eqb edition 2

-- under an edition and at a state of some sort: 12; 13, 14, 15, 22: is the message well formed? 16. Does the output buffer hold it?
unfoldable pub of_message : ℕ → Sort → Party → List ℕ → ℕ → List (ℕ × Bool)
of_message edition sort side message room =
    (12, may_speak edition sort side)
    ∷ (13, whole message)
    ∷ (14, legal_values message)
    ∷ (15, exact message)
    ∷ (22, legal_texts message)
    ∷ (16, leb (length message) room)
    ∷ []

-- all of them, in their order
unfoldable pub step_questions : Words → State → Party → List ℕ → ℕ → List (ℕ × Bool)
step_questions t s side message room = of_state t s ++ of_message (view t).edition (sort (view t) s.position) side message room

-- ---- the verdict in document 01's numbers

-- the question that got a no; the party that is blamed, the reason's number and, with reason 3, the field; or forwarded
pub data Told : Type 0 where
  refused : ℕ → Told
  blamed : Party → ℕ → Option ℕ → Told
  forwarded : Told

-- 1 no such label; 2 field count or kinds differ; 3 a number outside its range, with the first such field; 4 out of turn
unfoldable pub reason : Reason → ℕ
reason NoLabel = 1
reason OtherKinds = 2
reason (OutOfRange f) = 3
reason Early = 4

unfoldable pub outside : Reason → Option ℕ
outside NoLabel = none
outside OtherKinds = none
outside (OutOfRange f) = some f
outside Early = none

unfoldable pub told : Verdict → Told
told (Refused q) = refused (number q)
told (Blamed side why) = blamed side (reason why) (outside why)
told Forwarded = forwarded

-- a promise in these numbers leaves one verdict only
abbrev pub VerdictOnce : Type 0
VerdictOnce = (v w : Verdict) → told v ≡ told w → v ≡ w

-- ---- what a step does

-- the verdict, the state after it, and the output
pub record Outcome : Type 0 where
  pub verdict : Told
  pub state : State
  pub output : List ℕ

-- a no: state and output are unchanged
unfoldable pub refusing : ℕ → State → List ℕ → Outcome
refusing q s out = record { verdict = refused q; state = s; output = out }

-- the sender is blamed with the reason; position and output are unchanged
unfoldable pub blaming : ℕ → Option ℕ → State → Party → List ℕ → Outcome
blaming r f s side out =
    record { verdict = blamed side r f; state = record { position = s.position; standing = blame side }; output = out }

-- the message's bytes open the output, the rest of which is unchanged, and the position moves to the target
unfoldable pub forwarding : ℕ → List ℕ → State → List ℕ → Outcome
forwarding target message s out =
    record { verdict = forwarded; state = record { position = target; standing = s.standing }; output = opening message out }

unfoldable pub judging : Judgement ℕ → State → Party → List ℕ → List ℕ → Outcome
judging (allowed target) s side message out = forwarding target message s out
judging (forbidden r f) s side message out = blaming r f s side out

-- the questions; then the message is judged: out of turn, or against the position's branches
unfoldable pub stepping : Words → State → Party → List ℕ → List ℕ → Outcome
stepping t s side message out =
    let q = first_no (step_questions t s side message (length out)) in
    let said : Said = record { side = side; message = read message } in
    cond (eqb q 0) (judging (judge_said (table_rules (view t)) s.position said) s side message out) (refusing q s out)

-- what the program answers, and what it leaves in the output
unfoldable pub outcome : Stepped → List ℕ → Outcome
outcome r out = record { verdict = told r.verdict; state = r.state; output = out }
