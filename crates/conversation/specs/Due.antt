-- The due message (document 01): the part of either side's waiting bytes that is handed back.
-- Assumes nothing.
use Rattle.std.specs.Prelude.{◌≡◌, true, ◌&&◌, cond, List, [], ◌++◌, ℕ, length, take, leb, eqb, Result, Ok, Err}
use Rattle.std.proofs.Math.Option.{Option, none, some}
use Rattle.table.specs.Table.{sort, speaker}
use Rattle.table.specs.View.{Words, view}
use Rattle.message.specs.Message.{front, announced, legal_texts, well_formed}
use Rattle.table.specs.declared.Party.{Party}
use Rattle.table.specs.declared.Party.TheVariants.{Device, Host}
use Rattle.conversation.specs.declared.State.{State}
use Rattle.conversation.specs.Step.{of_state, step_questions}
use Rattle.table.specs.Lists.{first_no}
use Rattle.table.specs.Question.{number}
use Rattle.table.specs.declared.refusal.Question.{Question}
use Rattle.std.specs.Borrow.{Bor}

-- what can be said of a slice: where it begins, which is a block of memory and an offset in it, and its bytes
abbrev pub Seen : Type 0
Seen = (ℕ × ℕ) × List ℕ

abbrev pub seen : Bor (List ℕ) → Seen
seen r = (r.ref_ptr, r.now)

-- the first n bytes of a slice: the part begins where the slice begins
abbrev pub cut : Bor (List ℕ) → ℕ → Seen
cut s n = (s.ref_ptr, take n s.now)

-- whose turn it is: a side's, or 9, 10 or 11 refuses
pub data Awaited : Type 0 where
  refused : ℕ → Awaited
  of_side : Party → Awaited

-- the turn of the side that sends here; at an end no side sends, and 11 refuses
unfoldable pub sender_awaited : Option Party → Awaited
sender_awaited (some side) = of_side side
sender_awaited none = refused 11

unfoldable pub awaited : Words → State → Awaited
awaited t s =
    cond (eqb (first_no (of_state t s)) 0) (sender_awaited (speaker (sort (view t) s.position))) (refused (first_no (of_state t s)))

-- the program's answer: the question that got a no, or the side
unfoldable pub turn_answer : Result Party Question → Awaited
turn_answer (Err q) = refused (number q)
turn_answer (Ok side) = of_side side

-- how long the first message is; 0 when 13 or 14 would refuse or it is not all there
unfoldable pub first_length : List ℕ → ℕ
first_length bytes = cond (eqb (front bytes) 0 && leb (announced bytes) (length bytes)) (announced bytes) 0

-- the first message of the side whose turn it is; else nothing, at the start of the device's bytes
unfoldable pub due_at : Awaited → Bor (List ℕ) → Bor (List ℕ) → Seen
due_at (of_side Device) device host = cut device (first_length device.now)
due_at (of_side Host) device host = cut host (first_length host.now)
due_at (refused q) device host = cut device 0

unfoldable pub due : Words → State → Bor (List ℕ) → Bor (List ℕ) → Seen
due t s device host = due_at (awaited t s) device host

-- a well-formed message that waits first on the side whose turn it is is due, whatever waits behind it
abbrev pub DueFound : Type 0
DueFound =
    (t : Words) (s : State) (device host : Bor (List ℕ)) (message rest : List ℕ) → well_formed message ≡ true
    → (awaited t s ≡ of_side Device → device.now ≡ message ++ rest → due t s device host ≡ (device.ref_ptr, message))
    × (awaited t s ≡ of_side Host → host.now ≡ message ++ rest → due t s device host ≡ (host.ref_ptr, message))

-- what is handed back, if anything, waits on the side whose turn it is, and of a step with it only 22 and then 16 can get a no
abbrev pub DueHeard : Type 0
DueHeard =
    (t : Words) (s : State) (device host : Bor (List ℕ)) (room : ℕ) → ((due t s device host).1 ≡ [] → ⊥)
    → (side : Party) × (awaited t s ≡ of_side side)
    × (first_no (step_questions t s side (due t s device host).1 room)
    ≡ cond (legal_texts (due t s device host).1) (cond (leb (length (due t s device host).1) room) 0 16) 22)
