-- Programs: calls come to steps, which are played one behind the other, and state and counts are what those leave.
-- Assumes nothing.
use mathlib.Core.Path.{◌≡◌, refl, sym, ap, subst, ◌∙◌}
use mathlib.Core.Logic.{⊎_elim}
use mathlib.Core.Bool.{Bool, true, false, cond}
use mathlib.Core.List.{List, [], ◌∷◌, ◌++◌, append_assoc, append-nil}
use mathlib.Core.Option.{Option, none, some}
use Prim.Native.Nat.{ℕ, ◌<◌}
use native.Mathlib.Omega.{arith}
use lib.Dec.{eqb}
use Rattle.table.specs.Lists.{first_no}
use Rattle.table.specs.Table.{Sort, ends, sends, receives, is_choice, sort, speaker}
use Rattle.table.specs.View.{Words, states_of, view, sound_of}
use Rattle.table.specs.declared.Party.{Party}
use Rattle.table.proofs.laws.Lists.{decided}
use Rattle.message.specs.Rules.{table_rules}
use Rattle.conversation.specs.declared.State.{State}
use Rattle.conversation.specs.Step.{is_running, of_state}
use Rattle.conversation.specs.Due.{Awaited, sender_awaited, awaited}
use Rattle.conversation.specs.Due as Due
use Rattle.conversation.specs.Conversation.{Event, event, played, blamed_first, nobody, Stands}
use Rattle.conversation.specs.Counts.{Counts, counts_sound, counted_turn}
use Rattle.conversation.specs.Batch.{begun}
use Rattle.conversation.specs.Batches.{state_after, counts_after, summed}
use Rattle.conversation.specs.Programs.{Call, a_step, a_batch, Given, by_step, by_batch, called, given_state, given_counts, Run, run_on, program, CallDone, step_done, batch_done, batch_refused, CallsDone, no_call, a_call, awaited_by}
use Rattle.conversation.proofs.laws.Step.{none_stops, not_running}
use Rattle.conversation.proofs.laws.Conversation.{running_by, stands_sound, Played, played_append, played_stands}
use Rattle.conversation.proofs.laws.Counts.{counted_then}
use Rattle.conversation.proofs.laws.Batch.{sound_parts, kept_out}
use Rattle.conversation.proofs.laws.Singles.{singly_played}
use Rattle.conversation.proofs.laws.Tallied.{after_append, Lasting, lasting_now}
use Rattle.conversation.proofs.claims.BatchSingly.{batch_singly}

module _ (t : Words) where
  -- ---- what calls come to

  -- of one call: its steps are played, and lead to the state and the counts that it gives
  record Leaves (s : State) (c : Counts) (g : Given) (events : List Event) : Type 0 where
    plays : Played t s events
    state : given_state g ≡ state_after s events
    counts : given_counts g ≡ counts_after t c events

  leaves : {s : State} {c : Counts} {k : Call} {g : Given} {events : List Event} → CallDone t s c k g events → Leaves s c g events
  unfolding played event given_state given_counts state_after counts_after summed begun
  leaves step_done = record { plays = refl; state = refl; counts = refl }
  leaves (batch_done on x) = record { plays = singly_played t x; state = refl; counts = refl }
  leaves (batch_refused off) = record { plays = refl; state = refl; counts = refl }

  -- of all of them
  pub done_played : {s : State} {c : Counts} {calls : List Call} {gs : List Given} {events : List Event} → CallsDone t s c calls gs events
      → Played t s events
  unfolding played
  done_played no_call = refl
  done_played (a_call {s = s} {mine = mine} {others = others} x r) =
      let y = leaves x in
      played_append t s mine others y.plays (subst (λ (s : State). Played t s others) y.state (done_played r))

  -- ---- every list of calls comes to steps

  module _ (sound : sound_of t ≡ true) where
    -- behind the events so far, at the state that they lead to: their steps, and the state and the counts that they leave
    pub record Comes (past : List Event) (s : State) (c : Counts) (calls : List Call) (r : Run) : Type 0 where
      pub events : List Event
      pub done : CallsDone t s c calls r.gives events
      pub stands : Stands t (past ++ events) r.state
      pub counts : r.counts ≡ counts_after t c events

    -- one call
    record One (s : State) (c : Counts) (k : Call) : Type 0 where
      given : Given
      is_called : called t s c k ≡ given
      events : List Event
      done : CallDone t s c k given events

    module _ (past : List Event) (s : State) (at : Stands t past s) (c : Counts) (right : counts_sound t c ≡ true) where
      one : (k : Call) → One s c k
      unfolding called event counts_after
      one (a_step m) = record { given = _; is_called = ap by_step (counted_then t s c m right); events = event t s m ∷ []; done = step_done }
      one (a_batch l) = ⊎_elim on off (decided (is_running s.standing))
        where
          here : (sound_of t ≡ true) × (s.position < states_of t)
          here = sound_parts t s.position (stands_sound t sound past s at)

          on : is_running s.standing ≡ true → One s c (a_batch l)
          on r =
              let b = batch_singly t s c l (none_stops t s c here.0 here.1 right r) in
              record { given = _; is_called = ap by_batch (b.1 b.0.0 b.0.1); events = b.0.0; done = batch_done r b.0.1 }

          off : is_running s.standing ≡ false → One s c (a_batch l)
          off r =
              let q = not_running t s c here.0 here.1 right r in
              record { given = _; is_called = ap by_batch (sym (kept_out t l s c 10 (sym q) (λ z. omega arith))); events = []; done = batch_refused r }

    module _ (past : List Event) (s : State) (c : Counts) (k : Call) (r : List Call) (x : One s c k) where
      abbrev rest : Given → Run
      rest g = program t (given_state g) (given_counts g) r

      and_rest : Comes (past ++ x.events) (given_state x.given) (given_counts x.given) r (rest x.given)
          → Comes past s c (k ∷ r) (program t s c (k ∷ r))
      unfolding program run_on
      and_rest y =
          subst (λ (g : Given). Comes past s c (k ∷ r) (run_on g (rest g))) (sym x.is_called)
          (record {
            events = x.events ++ y.events;
            done = a_call x.done y.done;
            stands = subst (λ (l : List Event). Stands t l (rest x.given).state) (append_assoc past x.events y.events) y.stands;
            counts =
                y.counts ∙ ap (λ d. counts_after t d y.events) (leaves x.done).counts
                ∙ sym (after_append t c x.events y.events);
          })

    pub comes : (past : List Event) (s : State) → Stands t past s → (c : Counts) → Lasting t c → (calls : List Call)
        → Comes past s c calls (program t s c calls)
    unfolding program counts_after
    comes past s at c on [] =
        record { events = []; done = no_call; stands = subst (λ (l : List Event). Stands t l s) (sym (append-nil past)) at; counts = refl }
    comes past s at c on (k ∷ r) =
        let x = one past s at c (lasting_now t c on) k in
        let y = leaves x.done in
        and_rest past s c k r x
        (comes (past ++ x.events) (given_state x.given)
        (subst (Stands t (past ++ x.events)) (sym y.state) (played_stands t sound past s at x.events y.plays))
        (given_counts x.given)
        (subst (Lasting t) (sym y.counts) (λ later. ap (counts_sound t) (sym (after_append t c x.events later)) ∙ on (x.events ++ later)))
        r)

    -- ---- whose turn it is then

    -- 10, 11, or the side that sends
    abbrev asked : Bool → Sort → Awaited
    asked b x = let q : ℕ = cond b (cond (is_choice x) 0 11) 10 in cond (eqb q 0) (sender_awaited (speaker x)) (Due.refused q)

    pub awaited_then : (past : List Event) (s : State) → Stands t past s → (c : Counts) → counts_sound t c ≡ true
        → counted_turn t s c ≡ awaited_by (table_rules (view t)) s.position (blamed_first past)
    unfolding counted_turn awaited of_state first_no awaited_by nobody is_choice speaker sender_awaited
    awaited_then past s at c right =
        rw (right, stands_sound t sound past s at, ap is_running at.standing ∙ running_by (blamed_first past)) (by (blamed_first past))
      where
        in_turn : (x : Sort) → asked true x ≡ sender_awaited (speaker x)
        in_turn ends = refl
        in_turn sends = refl
        in_turn receives = refl

        by : (o : Option Party) → asked (nobody o) (sort (view t) s.position) ≡ awaited_by (table_rules (view t)) s.position o
        by none = in_turn (sort (view t) s.position)
        by (some side) = refl
