-- A message that goes straight is forwarded on the turn of whoever has it.
-- Assumes nothing.
use mathlib.Core.Path.{◌≡◌, sym, ap, subst, ◌∙◌}
use mathlib.Core.List.{List, [], ◌++◌, append-nil}
use mathlib.Core.Option.{some}
use Prim.Native.Nat.{ℕ, ◌+◌, ◌-◌, ◌≤◌}
use native.Mathlib.Omega.{arith}
use lib.ListN.{length, take, drop, length-drop}
use lib.Seq.{take_all, drop-drop, drop-length, length-take-le}
use Rattle.table.specs.Lists.{first_no}
use Rattle.table.specs.View.{Words, target_at}
use Rattle.table.specs.declared.Party.{Party}
use Rattle.message.specs.Judge.{allowed}
use Rattle.message.specs.Make.{opening}
use Rattle.message.proofs.laws.Message.{formed_framed, formed_legal}
use Rattle.conversation.specs.declared.State.{State}
use Rattle.conversation.specs.Step.{forwarded, forwarding, judging, step_questions}
use Rattle.conversation.specs.Due.{of_side, awaited, first_length}
use Rattle.conversation.specs.Counts.{Counts, raised, raised_by, counted}
use Rattle.conversation.specs.Batch.{Lane, used_by, written_by, lane_on, taking}
use Rattle.conversation.specs.inner.Keeping.{moved_to, Heard, LaneIn}
use Rattle.monitor.specs.inner.Leaves.{Leading}
use Rattle.conversation.proofs.laws.Step.{judged_as}
use Rattle.conversation.proofs.laws.Due.{first_within}
use Rattle.conversation.proofs.laws.Batch.{takes_one, due_yes, due_judged}
use Rattle.conversation.proofs.laws.Counts.{raised_at_is}

-- ---- what is left, as the program has it

pub whole_rest : (k : ℕ) (l : List ℕ) → take (length l - k) (drop k l) ≡ drop k l
whole_rest k l = take_all (length l - k) (drop k l) (omega (arith, length-drop k l))

pub none_past : (k : ℕ) (l : List ℕ) → k ≤ length l → drop (length l - k) (drop k l) ≡ []
none_past k l h =
    let e : k + (length l - k) ≡ length l = omega (arith, h) in
    drop-drop (length l - k) k l ∙ ap (λ n. drop n l) e ∙ drop-length l

-- ---- a message that goes straight

module _ (t : Words) (s : State) (c : Counts) (bytes : List ℕ) (l : Lane) (n b : ℕ)
    (x : Leading t s.position (drop l.used bytes) (length (drop l.written l.output)) n b) where
  abbrev rest : List ℕ
  rest = drop l.used bytes

  abbrev room : List ℕ
  room = drop l.written l.output

  some_first : first_length rest ≡ 0 → ⊥
  some_first z = omega (arith, z, x.first, x.nine)

  pub first_there : n ≤ length rest
  first_there = subst (λ k. k ≤ length rest) x.first (first_within rest)

  pub first_size : length (take n rest) ≡ n
  first_size = length-take-le n rest first_there

  pub goes_straight : (side : Party) → awaited t s ≡ of_side side
      → taking t s c side bytes l
      ≡ record {
        answer = some forwarded;
        state = moved_to (target_at t b) s;
        counts = raised c s.position b;
        lane = record { used = l.used + n; written = l.written + n; output = take l.written l.output ++ opening (take n rest) room };
      }
  unfolding lane_on used_by written_by judging forwarding counted raised_by
  goes_straight side a =
      takes_one t s c side bytes l some_first
      ∙ rw (
        x.first,
        judged_as t s side (take n rest) room (allowed (target_at t b)) heard
            (due_judged t s side (take n rest) room now_due ∙ x.by_branch.judged),
        raised_at_is t s.position (take n rest) c (some b) x.by_branch.selected_one,
      )
    where
      now_due : Heard t s side (take n rest)
      now_due = record { turn = a; framed = formed_framed (take n rest) x.formed }

      heard : first_no (step_questions t s side (take n rest) (length room)) ≡ 0
      heard = due_yes t s side (take n rest) room now_due (formed_legal (take n rest) x.formed) (omega (arith, first_size, x.holds))

-- as the program has it
module _ (t : Words) (s : State) (c : Counts) (bytes : List ℕ) (l : Lane) (i : LaneIn bytes l) (n b : ℕ)
    (x : Leading t s.position (take (length bytes - l.used) (drop l.used bytes)) (length l.output - l.written) n b) where
  abbrev first : List ℕ
  first = take n (take (length bytes - l.used) (drop l.used bytes))

  abbrev left : List ℕ
  left = take (length l.output - l.written) (drop l.written l.output)

  ahead : Leading t s.position (drop l.used bytes) (length (drop l.written l.output)) n b
  ahead =
      subst (λ k. Leading t s.position (drop l.used bytes) k n b) (sym (length-drop l.written l.output))
      (subst (λ y. Leading t s.position y (length l.output - l.written) n b) (whole_rest l.used bytes) x)

  pub ahead_size : n ≡ length first
  ahead_size = sym (ap (λ y. length (take n y)) (whole_rest l.used bytes) ∙ first_size t s c bytes l n b ahead)

  pub ahead_fits : (8 ≤ length first) × (length first ≤ length left)
  ahead_fits = (omega (arith, ahead_size, x.nine), rw (whole_rest l.written l.output) (omega (arith, ahead_size, ahead.holds)))

  pub ahead_within : (l.used + n ≤ length bytes) × (l.written + n ≤ length l.output)
  ahead_within = (
    omega (arith, first_there t s c bytes l n b ahead, length-drop l.used bytes, i.used),
    omega (arith, ahead.holds, length-drop l.written l.output, i.written),
  )

  pub passed_on : (out : List ℕ) → out ≡ opening first left → (side : Party) → awaited t s ≡ of_side side
      → taking t s c side bytes l
      ≡ record {
        answer = some forwarded;
        state = moved_to (target_at t b) s;
        counts = raised c s.position b;
        lane =
            record {
              used = l.used + n;
              written = l.written + n;
              output = take l.written l.output ++ (out ++ drop (length l.output - l.written) (drop l.written l.output));
            };
      }
  passed_on out e side a =
      rw (e, whole_rest l.used bytes, whole_rest l.written l.output, none_past l.written l.output i.written, append-nil)
      (goes_straight t s c bytes l n b ahead side a)
