-- No answer of a program's calls blames a device that fits: who is blamed by a call is blamed in the conversation that the calls come to.
-- Assumes nothing.
use mathlib.Core.Path.{◌≡◌, refl, sym, ap, ◌∙◌}
use mathlib.Core.List.{List, [], ◌∷◌, ◌++◌, append_assoc}
use mathlib.Core.Option.{Option, some}
use Prim.Native.Nat.{ℕ}
use Rattle.table.specs.View.{Words}
use Rattle.table.specs.declared.Party.{Party}
use Rattle.table.specs.declared.Party.TheVariants.{Device}
use Rattle.message.proofs.laws.Judge.{none_some, some_eq}
use Rattle.conversation.specs.declared.State.{State}
use Rattle.conversation.specs.Step.{Told, blamed}
use Rattle.conversation.specs.Conversation.{Event, conversation}
use Rattle.conversation.specs.Counts.{Counts, starting}
use Rattle.conversation.specs.Batch.{begun}
use Rattle.conversation.specs.Batches.{last_answer, summed}
use Rattle.conversation.specs.Programs.{Call, Given, CallDone, step_done, batch_done, batch_refused, CallsDone, no_call, a_call, messages_of}
use Rattle.conversation.proofs.laws.Conversation.{refused_blamed, cons_eq, nil_cons, blamed_there}
use Rattle.conversation.proofs.laws.Programs.{done_played}
use Rattle.together.specs.Unblamed.{told_last, CallsUnblamed}
use Rattle.together.proofs.claims.FitsUnblamed.{fits_unblamed}

-- a step among these has the verdict
record There (v : Told) (events : List Event) : Type 0 where
  before : List Event
  its : Event
  behind : List Event
  split : events ≡ before ++ (its ∷ behind)
  verdict : its.done.verdict ≡ v

last_there : (v : Told) (events : List Event) → last_answer events ≡ some v → There v events
unfolding last_answer
last_there v [] h = none_some h
last_there v (e ∷ []) h = record { before = []; its = e; behind = []; split = refl; verdict = some_eq h }
last_there v (e ∷ f ∷ r) h =
    let x = last_there v (f ∷ r) h in
    record { before = e ∷ x.before; its = x.its; behind = x.behind; split = ap (λ l. e ∷ l) x.split; verdict = x.verdict }

module _ (t : Words) (side : Party) (n : ℕ) (f : Option ℕ) where
  abbrev Blamed : List Event → Type 0
  Blamed events = There (blamed side n f) events

  -- where a call blames somebody, one of its steps does
  by_call : {s : State} {c : Counts} {k : Call} {g : Given} {events : List Event} → CallDone t s c k g events
      → told_last g ≡ some (blamed side n f) → Blamed events
  unfolding told_last summed begun last_answer
  by_call step_done h = last_there (blamed side n f) _ h
  by_call (batch_done {events = events} on x) h = last_there (blamed side n f) events h
  by_call (batch_refused off) h = refused_blamed (some_eq h)

  by_calls : {s : State} {c : Counts} {calls : List Call} {gs : List Given} {events : List Event} → CallsDone t s c calls gs events
      → (earlier : List Given) (g : Given) (later : List Given) → gs ≡ earlier ++ (g ∷ later) → told_last g ≡ some (blamed side n f)
      → Blamed events
  by_calls no_call [] g later q h = nil_cons q
  by_calls no_call (x ∷ r) g later q h = nil_cons q
  by_calls (a_call {others = others} x r) [] g later q h =
      let y = by_call x (ap told_last (cons_eq q).0 ∙ h) in
      record {
        before = y.before;
        its = y.its;
        behind = y.behind ++ others;
        split = ap (λ l. l ++ others) y.split ∙ append_assoc y.before (y.its ∷ y.behind) others;
        verdict = y.verdict;
      }
  by_calls (a_call {mine = mine} x r) (z ∷ earlier) g later q h =
      let y = by_calls r earlier g later (cons_eq q).1 h in
      record {
        before = mine ++ y.before;
        its = y.its;
        behind = y.behind;
        split = ap (λ l. mine ++ l) y.split ∙ sym (append_assoc mine y.before (y.its ∷ y.behind));
        verdict = y.verdict;
      }

pub calls_unblamed : CallsUnblamed
unfolding conversation starting
calls_unblamed D d p sound safe z low high calls events done keeps =
    let free = fits_unblamed D d p sound safe (messages_of events) keeps in
    record {
      unblamed = free;
      none_blames = λ earlier g later q r f h.
          let x = by_calls p Device r f done earlier g later q h in
          free.never
          (blamed_there p sound (messages_of events) x.before x.its x.behind (done_played p done ∙ x.split) Device r f x.verdict);
    }
