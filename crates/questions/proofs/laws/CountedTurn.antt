-- Whose turn it is, with the counts. Assumes nothing.
use mathlib.Core.Path.{◌≡◌, sym, ap, ◌∙◌}
use mathlib.Core.Bool.{cond}
use mathlib.Core.Option.{some}
use Rattle.std.specs.Prelude.{Ok, Err}
use Rattle.table.specs.Lists.{first_no}
use Rattle.table.specs.Question.{number}
use Rattle.table.specs.Table.{speaker}
use Rattle.table.specs.View.{Words, sort_at, sort_of}
use Rattle.table.specs.declared.Party.{Party}
use Rattle.table.specs.declared.refusal.Question.{Question}
use Rattle.table.proofs.laws.Question.{number_no_zero}
use Rattle.conversation.specs.declared.State.{State}
use Rattle.conversation.specs.Step.{of_state}
use Rattle.conversation.specs.Due.{sender_awaited, turn_answer}
use Rattle.conversation.specs.Counts.{Counts, counts_sound, counted_turn}
use Rattle.conversation.proofs.laws.Step.{nine_by, nine_yes, opened}
use Rattle.conversation.proofs.laws.Due.{refused_turn, awaited_by}

module _ (t : Words) (s : State) (c : Counts) where
  pub turn_refused : (q : Question) → number q ≡ cond (counts_sound t c) (first_no (of_state t s)) 9 → turn_answer (Err q) ≡ counted_turn t s c
  unfolding counted_turn turn_answer
  turn_refused q e =
      sym (nine_by (counts_sound t c) e (λ b h. rw b (refused_turn t s (number q) h (number_no_zero q))) (λ b h. rw (b, h)))

  -- 9, 10 and 11 got a yes: the turn of who sends here
  pub turn_passed : (side : Party) → 0 ≡ cond (counts_sound t c) (first_no (of_state t s)) 9 → some side ≡ speaker (sort_of (sort_at t s.position))
      → turn_answer (Ok side) ≡ counted_turn t s c
  unfolding counted_turn turn_answer sender_awaited
  turn_passed side e h =
      let y = nine_yes (counts_sound t c) (first_no (of_state t s)) (sym e) in
      sym (rw y.0 (awaited_by t s y.1 ∙ ap sender_awaited (sym h)))

  pub turn_choice : 0 ≡ cond (counts_sound t c) (first_no (of_state t s)) 9 → sort_at t s.position ≡ 0 → ⊥
  turn_choice e = (opened t s (nine_yes (counts_sound t c) (first_no (of_state t s)) (sym e)).1).choice
