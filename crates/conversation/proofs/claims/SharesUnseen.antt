-- Shares take no part: over two sound tables that differ in shares only, every conversation is the same, and so are batches and counts.
-- Assumes nothing.
use mathlib.Core.Path.{◌≡◌, refl, ap, ap₂, ◌∙◌}
use mathlib.Core.Bool.{Bool, not, ◌&&◌, ◌||◌}
use mathlib.Core.List.{List, [], ◌∷◌}
use mathlib.Core.Option.{Option, none, some}
use Prim.Native.Nat.{ℕ, zero, suc}
use lib.ListN.{length, take, drop, get_or}
use lib.Dec.{leb, eqb}
use Rattle.table.specs.Lists.{every, upto, sum_of}
use Rattle.table.specs.Table.{Sort, ends, Branch, is_choice, Table, sort, of_choice, unshared}
use Rattle.table.specs.View.{Words, states_of, branches_of, view, SharesAside, EditionAside}
use Rattle.table.specs.declared.Party.{Party}
use Rattle.table.proofs.laws.Unshared.{editions_too, same_sort, same_states, same_count, same_sound}
use Rattle.message.specs.Message.{Message, read}
use Rattle.message.specs.Judge.{selected, judge}
use Rattle.message.specs.Rules.{Said, table_rules, judge_said}
use Rattle.conversation.specs.declared.State.{State}
use Rattle.conversation.specs.Step.{of_state, step_questions, Told, refused, blamed, forwarded, stepping}
use Rattle.conversation.specs.Due.{Awaited, of_side, awaited, first_length}
use Rattle.conversation.specs.Due as Due
use Rattle.conversation.specs.Conversation.{Sent, Event, event, played, conversation}
use Rattle.conversation.specs.Batch.{Both, at_side, Left, Lane, Batch, taking, took, turn_of, one_turn, go_on, turns, batch_questions, begun, batching}
use Rattle.conversation.specs.Batches.{counts_after}
use Rattle.conversation.specs.Counts.{Counts, setting_of, n_at, k_at, counted_most, legal_setting, adds_up, counts_sound, raised_by, raised_at, counted}
use Rattle.conversation.specs.Counting.{SharesUnseen}
use Rattle.conversation.proofs.laws.Batch.{enough_turns}

module _ (t u : Words) (h : SharesAside t u) where
  a : EditionAside t u
  a = editions_too t u h

  -- ---- steps

  same_judge : (i : ℕ) (m : Message) → judge (view t) i m ≡ judge (view u) i m
  unfolding judge
  same_judge i m = rw a.branches

  same_chosen : (i : ℕ) (m : Message) → selected (view t) i m ≡ selected (view u) i m
  unfolding selected
  same_chosen i m = rw a.branches

  same_edition : (view t).edition ≡ (view u).edition
  unfolding unshared
  same_edition = ap (λ (x : Table). x.edition) h.same

  same_asked : (s : State) (side : Party) (message : List ℕ) (room : ℕ) → step_questions t s side message room ≡ step_questions u s side message room
  unfolding step_questions of_state
  same_asked s side message room = rw (same_sound t u a s.position, same_sort t u a s.position, same_edition)

  same_said : (i : ℕ) (v : Said) → judge_said (table_rules (view t)) i v ≡ judge_said (table_rules (view u)) i v
  unfolding judge_said
  same_said i v = rw (same_sort t u a i, same_judge i v.message)

  same_step : (s : State) (side : Party) (message out : List ℕ) → stepping t s side message out ≡ stepping u s side message out
  unfolding stepping
  same_step s side message out =
      rw (same_asked s side message (length out), same_said s.position (record { side = side; message = read message }))

  same_turn : (s : State) → awaited t s ≡ awaited u s
  unfolding awaited of_state
  same_turn s = rw (same_sound t u a s.position, same_sort t u a s.position)

  same_event : (s : State) (m : Sent) → event t s m ≡ event u s m
  unfolding event
  same_event s m = rw (same_step s m.side m.bytes m.buffer)

  same_played : (s : State) (sent : List Sent) → played t s sent ≡ played u s sent
  unfolding played
  same_played s [] = refl
  same_played s (m ∷ r) =
      ap (λ x. x ∷ played t x.done.state r) (same_event s m)
      ∙ ap (λ l. event u s m ∷ l) (same_played (event u s m).done.state r)

  -- ---- counts

  same_counted : (s : State) (message : List ℕ) (v : Told) (c : Counts) → counted t s message v c ≡ counted u s message v c
  unfolding counted raised_at
  same_counted s message (refused q) c = refl
  same_counted s message (blamed side r f) c = refl
  same_counted s message forwarded c = ap (raised_by c s.position) (same_chosen s.position (read message))

  same_after : (c : Counts) (events : List Event) → counts_after t c events ≡ counts_after u c events
  unfolding counts_after
  same_after c [] = refl
  same_after c (e ∷ r) =
      ap (λ d. counts_after t d r) (same_counted e.met e.sent.bytes e.done.verdict c)
      ∙ same_after (counted u e.met e.sent.bytes e.done.verdict c) r

  -- what question 9 of counts looks at
  abbrev nine_by : Counts → List Sort → List Branch → ℕ → ℕ → Bool
  nine_by c sorts branches n m =
      legal_setting (setting_of c)
      && every (λ i. not (is_choice (get_or sorts i ends))
      || (leb (n_at c i) counted_most && eqb (sum_of (of_choice i branches (upto m (k_at c)))) (n_at c i))) (upto n (λ i. i))

  same_nine : (c : Counts) → counts_sound t c ≡ counts_sound u c
  unfolding counts_sound adds_up sort
  same_nine c =
      ap₂ (λ a b. nine_by c a b (states_of t) (branches_of t)) a.sorts a.branches
      ∙ ap₂ (nine_by c (view u).sorts (view u).branches) (same_states t u a) (same_count t u a)

  -- ---- batches

  same_taking : (s : State) (c : Counts) (side : Party) (bytes : List ℕ) (l : Lane) → taking t s c side bytes l ≡ taking u s c side bytes l
  unfolding taking
  same_taking s c side bytes l =
      let left = drop l.used bytes in
      let message = take (first_length left) left in
      let room = drop l.written l.output in
      rw (same_step s side message room, same_counted s message (stepping u s side message room).verdict c)

  module _ (l : Both Left) where
    same_one : (b : Batch) → one_turn t l b ≡ one_turn u l b
    unfolding one_turn turn_of
    same_one b = ap (turn_of t l b) (same_turn b.state) ∙ by (awaited u b.state)
      where
        by : (o : Awaited) → turn_of t l b o ≡ turn_of u l b o
        by (Due.refused q) = refl
        by (of_side side) =
            ap (λ x. took side x b) (same_taking b.state b.counts side (at_side side l).bytes (at_side side b.lanes))

    same_turns : (n : ℕ) (b : Batch) → turns n t l b ≡ turns n u l b
    unfolding turns go_on
    same_turns zero b = refl
    same_turns (suc n) b = ap (go_on (turns n t l)) (same_one b) ∙ by (one_turn u l b) (same_turns n)
      where
        by : (r : Option Told × Batch) → ((b : Batch) → turns n t l b ≡ turns n u l b) → go_on (turns n t l) r ≡ go_on (turns n u l) r
        by (none, x) on = refl
        by (some (refused q), x) on = refl
        by (some (blamed side w g), x) on = refl
        by (some forwarded, x) on = on x

  same_batch : (s : State) (c : Counts) (l : Both Left) → batching t s c l ≡ batching u s c l
  unfolding batching batch_questions
  same_batch s c l = rw (same_sound t u a s.position, same_nine c, same_turns l (enough_turns l) (begun s c l none))

pub shares_unseen : SharesUnseen
unfolding conversation
shares_unseen t u h =
    record {
      conversations = λ sent. same_played t u h _ sent;
      batches = same_batch t u h;
      counts = same_after t u h;
      nine = same_nine t u h;
    }
