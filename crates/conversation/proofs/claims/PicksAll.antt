-- Every message that is forwarded in a conversation chose a branch: the picks of a choice are as many as its forwarded messages.
-- Assumes nothing.
use mathlib.Core.Path.{◌≡◌, refl, sym, ap, subst, ◌∙◌}
use mathlib.Core.Bool.{Bool, true, false, ◌&&◌, cond}
use mathlib.Core.List.{List, [], ◌∷◌, ◌++◌}
use mathlib.Core.Option.{Option, none, some}
use Prim.Native.Nat.{ℕ, suc}
use lib.ListN.{length}
use lib.Dec.{eqb}
use borrow.Author.Tests.{eqb-true}
use Rattle.table.specs.View.{Words, view, sound_of}
use Rattle.table.proofs.laws.Lists.{never}
use Rattle.message.specs.Message.{read}
use Rattle.message.specs.Judge.{allows, selected}
use Rattle.message.specs.Rules.{table_rules}
use Rattle.message.proofs.laws.Judge.{none_some}
use Rattle.message.proofs.claims.SelectedExactly.{selected_exactly}
use Rattle.conversation.specs.declared.State.{State}
use Rattle.conversation.specs.Step.{Outcome, refusing, blaming, stepping}
use Rattle.conversation.specs.Conversation.{Sent, Event, event, played, conversation, said_by, is_forwarded}
use Rattle.conversation.specs.Counting.{picked, picks, forwarded_at, PicksAll}
use Rattle.conversation.proofs.laws.Step.{target_of, Way, refuses, forwards, blames, way}
use Rattle.conversation.proofs.laws.Conversation.{next_allows, said_leads, cons_eq, nil_cons}

module _ (t : Words) (sound : sound_of t ≡ true) where
  abbrev Chooses : Event → Type 0
  Chooses e = is_forwarded e.done.verdict ≡ true → (b : ℕ) × (selected (view t) e.met.position (read e.sent.bytes) ≡ some b)

  chooses : (s : State) (m : Sent) → Chooses (event t s m)
  unfolding event refusing blaming is_forwarded target_of
  chooses s m = by (stepping t s m.side m.bytes m.buffer) (way t s m.side m.bytes m.buffer)
    where
      some_one : (o : Option ℕ) → selected (view t) s.position (read m.bytes) ≡ o
          → (j : ℕ) → allows (view t) s.position (read m.bytes) ≡ some j → (b : ℕ) × (o ≡ some b)
      some_one none e j h = none_some (sym ((selected_exactly (view t) s.position (read m.bytes)).1.0 e) ∙ h)
      some_one (some b) e j h = (b, refl)

      by : (x : Outcome) → Way t s m.side m.bytes m.buffer x → is_forwarded x.verdict ≡ true
          → (b : ℕ) × (selected (view t) s.position (read m.bytes) ≡ some b)
      by x (refuses q e n) h = never h refl
      by x (forwards e j h) f =
          some_one (selected (view t) s.position (read m.bytes)) refl j
          (next_allows (table_rules (view t)) s.position (said_by m) j (said_leads t sound s.position (said_by m) ∙ ap target_of h))
      by x (blames e r f h) g = never g refl

  module _ (i : ℕ) where
    abbrev Alike : List Event → Type 0
    Alike events = length (picks t i events) ≡ forwarded_at i events

    one_more : (e : Event) (r : List Event) → Chooses e → Alike r → Alike (e ∷ r)
    unfolding picks picked forwarded_at
    one_more e r c h = by (is_forwarded e.done.verdict) (eqb e.met.position i) c (λ y. eqb-true e.met.position i y)
      where
        by : (f y : Bool) → (f ≡ true → (b : ℕ) × (selected (view t) e.met.position (read e.sent.bytes) ≡ some b))
            → (y ≡ true → e.met.position ≡ i)
            → length (cond f (cond y (picked (selected (view t) i (read e.sent.bytes)) (picks t i r)) (picks t i r)) (picks t i r))
            ≡ cond (f && y) (suc (forwarded_at i r)) (forwarded_at i r)
        by true true c p =
            let x = c refl in
            ap (λ o. length (picked o (picks t i r))) (ap (λ j. selected (view t) j (read e.sent.bytes)) (sym (p refl)) ∙ x.1) ∙ ap suc h
        by true false c p = h
        by false y c p = h

    all_picked : (s : State) (sent : List Sent) (earlier later : List Event) → played t s sent ≡ earlier ++ later → Alike earlier
    unfolding played picks forwarded_at
    all_picked s sent [] later h = refl
    all_picked s [] (e ∷ r) later h = nil_cons h
    all_picked s (m ∷ sent) (e ∷ r) later h =
        one_more e r (subst Chooses (cons_eq h).0 (chooses s m)) (all_picked (event t s m).done.state sent r later (cons_eq h).1)

pub picks_all : PicksAll
unfolding conversation
picks_all t sound sent earlier later h i = all_picked t sound i _ sent earlier later h
