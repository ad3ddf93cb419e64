-- The counts of a conversation (document 02, request 4): the setting z, n for each choice and k for each branch. They are part of its state:
-- question 9 asks about them, and forwarding raises them.
-- Assumes nothing.
use Rattle.std.specs.Prelude.{Bool, not, ◌&&◌, ◌||◌, cond, List, [], ◌∷◌, ℕ, ◌+◌, get_or, set, replicate, leb, ltb, eqb, None, Some}
use Rattle.std.specs.Prelude as Std
use Rattle.std.proofs.Math.Option.{Option, none, some}
use Rattle.table.specs.Lists.{every, upto, sum_of, first_no}
use Rattle.table.specs.Question.{number}
use Rattle.table.specs.declared.refusal.Question.{Question}
use Rattle.table.specs.Table.{is_choice, sort, of_choice}
use Rattle.table.specs.View.{Words, states_of, branches_of, view, sound_of}
use Rattle.table.specs.declared.Party.{Party}
use Rattle.message.specs.Message.{read}
use Rattle.message.specs.Judge.{selected}
use Rattle.conversation.specs.declared.State.{State}
use Rattle.conversation.specs.declared.Started as P
use Rattle.conversation.specs.Step.{fresh, Told, refused, blamed, forwarded, Outcome, refusing, stepping}
use Rattle.conversation.specs.Due.{Seen, Awaited, awaited, due_at}
use Rattle.conversation.specs.Due as Due
use Rattle.std.specs.Borrow.{Bor}

-- ---- the counts, as the program has them: z, n of each of 32 states, k of each of 128 branches

abbrev pub Counts : Type 0
Counts = List ℕ

abbrev pub setting_of : Counts → ℕ
setting_of c = get_or c 0 0

abbrev pub n_at : Counts → ℕ → ℕ
n_at c i = get_or c (1 + i) 0

abbrev pub k_at : Counts → ℕ → ℕ
k_at c b = get_or c (33 + b) 0

-- ---- question 9 on them

-- z, in hundredths
unfoldable pub legal_setting : ℕ → Bool
legal_setting z = leb 1 z && leb z 1000

abbrev pub counted_most : ℕ
counted_most = 10000

-- a choice's k add up to its n, at most 10,000; nothing is asked at an end
unfoldable pub adds_up : Words → Counts → ℕ → Bool
adds_up t c i =
    not (is_choice (sort (view t) i))
    || (leb (n_at c i) counted_most && eqb (sum_of (of_choice i (view t).branches (upto (branches_of t) (k_at c)))) (n_at c i))

-- 9. Are z and each choice's counts sound? What belongs to no choice, or lies beyond the table, is not looked at
unfoldable pub counts_sound : Words → Counts → Bool
counts_sound t c = legal_setting (setting_of c) && every (adds_up t c) (upto (states_of t) (λ i. i))

-- ---- a conversation is started

unfoldable pub fresh_counts : ℕ → Counts
fresh_counts z = z ∷ replicate 160 0

-- 9, then 21. Is z 1 to 1000?
unfoldable pub start_questions : Words → ℕ → List (ℕ × Bool)
start_questions t z = (9, sound_of t) ∷ (21, legal_setting z) ∷ []

-- 0 or the number of the question that got a no, and what the conversation starts with
pub record Started : Type 0 where
  pub question : ℕ
  pub state : State
  pub counts : Counts

-- 0 and a fresh state; or the question's number, and counts of 0, z among them, which 9 refuses ever after
unfoldable pub starting : Words → ℕ → Started
starting t z =
    let q = first_no (start_questions t z) in
    record { question = q; state = fresh; counts = cond (eqb q 0) (fresh_counts z) (fresh_counts 0) }

-- what the program answers
abbrev pub question_of : Std.Option Question → ℕ
question_of None = 0
question_of (Some q) = number q

unfoldable pub started : P.Started → Started
started r = record { question = question_of r.refused; state = r.state; counts = r.counts }

-- ---- forwarding raises them

-- n of the choice and k of the branch, until n is 10,000: then neither
unfoldable pub raised : Counts → ℕ → ℕ → Counts
raised c i b = cond (ltb (n_at c i) counted_most) (set (set c (1 + i) (n_at c i + 1)) (33 + b) (k_at c b + 1)) c

unfoldable pub raised_by : Counts → ℕ → Option ℕ → Counts
raised_by c i none = c
raised_by c i (some b) = raised c i b

-- by a message that is forwarded at a position
unfoldable pub raised_at : Words → ℕ → List ℕ → Counts → Counts
raised_at t position message c = raised_by c position (selected (view t) position (read message))

-- a refusal and a blame raise nothing
unfoldable pub counted : Words → State → List ℕ → Told → Counts → Counts
counted t s message (refused q) c = c
counted t s message (blamed side r f) c = c
counted t s message forwarded c = raised_at t s.position message c

-- ---- the calls, with their counts

-- a step: 9 on the counts, too
unfoldable pub counted_step : Words → State → Counts → Party → List ℕ → List ℕ → Outcome × Counts
counted_step t s c side message out =
    let x = stepping t s side message out in
    cond (counts_sound t c) (x, counted t s message x.verdict c) (refusing 9 s out, c)

-- whose turn it is, and the due part
unfoldable pub counted_turn : Words → State → Counts → Awaited
counted_turn t s c = cond (counts_sound t c) (awaited t s) (Due.refused 9)

unfoldable pub counted_due : Words → State → Counts → Bor (List ℕ) → Bor (List ℕ) → Seen
counted_due t s c device host = due_at (counted_turn t s c) device host
