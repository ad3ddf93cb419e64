-- Each way through a step, and through whose turn it is, with the counts.
-- Assumes nothing.
use mathlib.Core.Path.{◌≡◌, refl, sym, ap, ap₂, ◌∙◌}
use mathlib.Core.Bool.{true, cond}
use mathlib.Core.List.{List}
use mathlib.Core.Option.{some}
use Prim.Native.Nat.{ℕ, ◌≤◌}
use lib.ListN.{length}
use Rattle.table.specs.Lists.{first_no}
use Rattle.table.specs.Table.{speaker, is_party}
use Rattle.table.specs.View.{Words, sort_at, target_at, edition_of, view, sound_of}
use Rattle.table.proofs.laws.View.{sort_of_is}
use Rattle.table.specs.declared.Party.{Party}
use Rattle.message.specs.Message.{read}
use Rattle.message.specs.Judge.{allowed}
use Rattle.message.specs.Rules.{table_rules}
use Rattle.conversation.specs.declared.State.{State}
use Rattle.std.specs.Prelude.{Result, Ok, Err}
use Rattle.conversation.specs.declared.Reason.{Reason}
use Rattle.conversation.specs.Step.{of_state, step_questions, Told, refusing, blaming, forwarding, judging}
use Rattle.conversation.specs.Counts.{Counts, counts_sound, raised, raised_by, counted, counted_step}
use Rattle.conversation.specs.inner.Keeping.{Rising}
use Rattle.monitor.specs.inner.Leaves.{judgement, judged_branch, Selects, Settled, GoesStraight}
use Rattle.conversation.proofs.laws.Step.{nine_by, opened, asked_first, asked_message, said_in_turn, said_here, refused_step, judged_as}
use Rattle.conversation.proofs.laws.Counts.{chosen_follows, raised_at_is}

pub together : {A B : Type 0} {a b : A} {x y : B} → a ≡ b → x ≡ y → ◌≡◌ {A = A × B} (a, x) (b, y)
together e f = ap₂ (λ a x. (a, x)) e f

-- ---- a judgement is settled

-- the branch in it is one of the state's
pub settles : (t : Words) (j : Result ℕ Reason) (s : State) (c : Counts) (n room : ℕ) → sound_of t ≡ true → Rising t c → 8 ≤ n → n ≤ room
    → (message : List ℕ) → Selects t s.position message j → Settled t j s c n room
settles t j s c n room sound rising eight holds message e =
    record {
      eight = eight;
      holds = holds;
      follows = λ b h. chosen_follows t s c sound rising (read message) b (e b h);
    }

module _ (t : Words) (s : State) (c : Counts) (side : Party) (message out : List ℕ) where
  -- what it raises is what the verdict counts
  pub settled_counted : (j : Result ℕ Reason) → Selects t s.position message j
      → (v : Told) → v ≡ (judging (judgement t j) s side message out).verdict
      → raised_by c s.position (judged_branch j) ≡ counted t s message v c
  unfolding judged_branch judgement judging forwarding blaming counted raised_by
  settled_counted (Ok b) p v e =
      sym (raised_at_is t s.position message c (some b) (p b refl)) ∙ ap (λ v. counted t s message v c) (sym e)
  settled_counted (Err why) p v e = ap (λ v. counted t s message v c) (sym e)

  -- ---- a step

  pub way_unasked : (q : ℕ) → q ≡ cond (counts_sound t c) (first_no (of_state t s)) 9 → (q ≡ 0 → ⊥)
      → (refusing q s out, c) ≡ counted_step t s c side message out
  unfolding counted_step refusing counted
  way_unasked q e n =
      nine_by (counts_sound t c) e
      (λ b h. rw (b, refused_step t s side message out q (asked_first t s side message (length out) q h n) n)) (λ b h. rw (b, h))

  module _ (e : counts_sound t c ≡ true) where
    pub way_refused : (p : ℕ) → first_no (step_questions t s side message (length out)) ≡ p → (p ≡ 0 → ⊥)
        → (refusing p s out, c) ≡ counted_step t s c side message out
    unfolding counted_step refusing counted
    way_refused p h n = rw (e, refused_step t s side message out p h n)

    pub way_forwards : first_no (of_state t s) ≡ 0 → (b : ℕ) → GoesStraight t s.position (sort_at t s.position) side message (length out) b
        → (forwarding (target_at t b) message s out, raised c s.position b) ≡ counted_step t s c side message out
    unfolding counted_step judging forwarding counted raised_by
    way_forwards o b x =
        let turn = ap (λ k. is_party side (speaker k)) (sort_of_is t s.position (opened t s o).below) ∙ x.turn in
        rw (
          e,
          judged_as t s side message out (allowed (target_at t b)) (asked_message t s side message (length out) o ∙ x.asked (edition_of t))
              (said_in_turn (table_rules (view t)) s.position _ turn ∙ x.by_branch.judged),
          raised_at_is t s.position message c (some b) x.by_branch.selected_one,
        )

    pub way_settled : first_no (step_questions t s side message (length out)) ≡ 0 → (j : Result ℕ Reason) → judgement t j ≡ said_here t s side message out
        → Selects t s.position message j
        → (judging (judgement t j) s side message out, raised_by c s.position (judged_branch j)) ≡ counted_step t s c side message out
    unfolding counted_step
    way_settled asked j h k =
        rw (e, judged_as t s side message out (judgement t j) asked (sym h), settled_counted j k (judging (judgement t j) s side message out).verdict refl)
