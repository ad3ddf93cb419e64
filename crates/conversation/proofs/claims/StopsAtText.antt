-- A batch stops at a message that only 22 refuses: it is due, its step is refused, and so nothing changes.
-- Assumes nothing.
use mathlib.Core.Path.{◌≡◌, refl, sym, ap, ◌∙◌}
use mathlib.Core.Logic.{⊎_elim}
use mathlib.Core.Bool.{Bool, true, false, cond}
use mathlib.Core.List.{List, ◌++◌}
use mathlib.Core.Option.{none, some}
use Prim.Native.Nat.{ℕ}
use native.Mathlib.Omega.{arith}
use lib.ListN.{length}
use lib.Seq.{take-append_seam}
use Rattle.table.specs.Lists.{first_no}
use Rattle.table.specs.View.{Words}
use Rattle.table.specs.declared.Party.{Party}
use Rattle.message.specs.Message.{refusal}
use Rattle.message.proofs.laws.Message.{whole_parts, framed_parts, stopped_framed}
use Rattle.conversation.specs.declared.State.{State}
use Rattle.conversation.specs.Step.{refused}
use Rattle.conversation.specs.Due.{of_side, awaited, first_length}
use Rattle.conversation.specs.Due as Due
use Rattle.conversation.specs.Counts.{Counts, counts_sound, counted_turn}
use Rattle.conversation.specs.Batch.{Both, at_side, each_side, Left, taking, latest, took, turn_of, one_turn, turns, batch_questions, begun}
use Rattle.conversation.specs.Batches.{StopsAtText}
use Rattle.conversation.specs.Conversation.{is_forwarded}
use Rattle.conversation.specs.inner.Keeping.{is_last_forwarded}
use Rattle.conversation.proofs.laws.Step.{zero_or, not_entered, nine_passed}
use Rattle.conversation.proofs.laws.Due.{no_turn, open_here, first_found}
use Rattle.conversation.proofs.laws.Batch.{due_broken, untouched, takes_one, takes, turn_is, on_over, let_in}
use Rattle.conversation.proofs.laws.Both.{at_each, set_same}
use Rattle.conversation.proofs.laws.Turns.{lane_still}

module _ (t : Words) (s : State) (c : Counts) (side : Party) (message rest : List ℕ) (a : counted_turn t s c ≡ of_side side)
    (e : refusal message ≡ 22) where
  -- 9 got a yes
  turn : (counts_sound t c ≡ true) × (awaited t s ≡ of_side side)
  unfolding counted_turn
  turn = by (counts_sound t c) refl a
    where
      by : (y : Bool) → counts_sound t c ≡ y → cond y (awaited t s) (Due.refused 9) ≡ of_side side
          → (counts_sound t c ≡ true) × (awaited t s ≡ of_side side)
      by true k h = (k, h)
      by false k h = absurd (no_turn h)

  first : first_length (message ++ rest) ≡ length message
  first = first_found message rest (stopped_framed message e).0

  some_first : first_length (message ++ rest) ≡ 0 → ⊥
  some_first z =
      let w = whole_parts message (framed_parts message (stopped_framed message e).0).0 in
      omega (arith, z, first, w.nine)

  asked : first_no (batch_questions t s c) ≡ 0
  asked =
      let q = first_no (batch_questions t s c) in
      ⊎_elim (λ n. absurd (n (sym (not_entered t s c q refl n) ∙ nine_passed _ turn.0 ∙ open_here t s side turn.1))) (λ z. z) (zero_or q)

  -- its turn, from the start
  turn_refused : (out : List ℕ)
      → taking t s c side (message ++ rest) (untouched out) ≡ record { answer = some (refused 22); state = s; counts = c; lane = untouched out }
  turn_refused out =
      let f = stopped_framed message e in
      takes_one t s c side (message ++ rest) (untouched out) some_first
      ∙ rw (first, take-append_seam message rest, due_broken t s side message out (record { turn = turn.1; framed = f.0 }) f.1)
      (lane_still t s c side (message ++ rest) (untouched out) 22 (length message) message)

  -- the first turn is the last
  turns_refused : (l : Both Left) → (at_side side l).bytes ≡ message ++ rest
      → one_turn t l (begun s c l none) ≡ (some (refused 22), begun s c l (some (refused 22)))
  unfolding begun turn_of took latest
  turns_refused l w =
      turn_is t l (begun s c l none) (of_side side) turn.1
      ∙ rw (there, set_same side (each_side (λ p. untouched (at_side p l).output)))
    where
      there : takes t l (begun s c l none) side
          ≡ record { answer = some (refused 22); state = s; counts = c; lane = at_side side (begun s c l none).lanes }
      there = rw (w, at_each (λ p. untouched (at_side p l).output) side) (turn_refused (at_side side l).output)

pub stops_at_text : StopsAtText
unfolding turns is_last_forwarded is_forwarded
stops_at_text t s c l side message rest a e w =
    let r = turns_refused t s c side message rest a e l w in
    sym (let_in t l s c (asked t s c side message rest a e))
    ∙ on_over _ (one_turn t l (begun s c l none)) (ap (λ x. is_last_forwarded x.0) r) ∙ ap (λ x. x.1) r
