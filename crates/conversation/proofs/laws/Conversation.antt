-- A whole conversation: the program's state is what verdicts and type say of the messages so far (`Stands`); at such a state each way of a step is right,
-- and leaves such a state.
-- Assumes nothing.
use mathlib.Core.Path.{◌≡◌, refl, sym, ap, ap₂, subst, ◌∙◌}
use mathlib.Core.Bool.{Bool, true, false, ◌&&◌, ◌||◌, cond}
use mathlib.Core.List.{List, [], ◌∷◌, ◌++◌, map, append_assoc, append-nil}
use mathlib.Core.Option.{Option, none, some}
use Prim.Native.Nat.{ℕ, zero, suc, ◌<◌}
use native.Mathlib.Omega.{arith}
use lib.ListN.{length}
use lib.Dec.{eqb}
use borrow.Author.Tests.{lt-ltb}
use Rattle.table.specs.Lists.{upto, first_no}
use Rattle.table.specs.View.{Words, view, branch_at, sound_of, sound_at, states_of, branches_of}
use Rattle.table.proofs.laws.Lists.{never, both, join}
use Rattle.table.proofs.laws.View.{Facts, view_sound, sound_facts}
use Rattle.message.specs.Message.{Message}
use Rattle.message.specs.Judge.{Judgement, allowed, forbidden, carries, goes, allows, selected, judge}
use Rattle.message.specs.Rules.{Rules, table_rules, Said, and_then, turn, next, leads, led, listens, judge_said}
use Rattle.message.proofs.laws.Message.{well_formed_exactly}
use Rattle.message.proofs.laws.Judge.{none_some, some_eq, judge_allows}
use Rattle.message.proofs.claims.SelectedExactly.{selected_exactly}
use Rattle.table.specs.declared.Party.{Party}
use Rattle.table.specs.declared.Party.TheVariants.{Device, Host}
use Rattle.conversation.specs.declared.State.{State}
use Rattle.conversation.specs.Step.{may_speak, fresh, is_running, blame, of_state, of_message, step_questions, Told, refused, blamed, forwarded, Outcome, refusing, blaming, forwarding, stepping}
use Rattle.table.specs.Table.{speaker, is_party}
use Rattle.conversation.specs.Conversation.{Sent, Event, event, played, conversation, said_by, is_forwarded, forwarded_ones, blamed_else, blamed_first, standing_by, Stands, nobody, Judgeable, refusal_of, Handled, Met}
use Rattle.conversation.specs.Batches.{state_after}
use Rattle.conversation.proofs.laws.Step.{all_well, ready, target_of, Way, refuses, forwards, blames, way}
use Rattle.table.specs.Table as T

-- ---- what verdicts and type say, of two lists in a row

pub forwarded_append : (a b : List Event) → forwarded_ones (a ++ b) ≡ forwarded_ones a ++ forwarded_ones b
unfolding forwarded_ones
forwarded_append [] b = refl
forwarded_append (e ∷ r) b = go (is_forwarded e.done.verdict) (forwarded_append r b)
  where
    go : (f : Bool) → forwarded_ones (r ++ b) ≡ forwarded_ones r ++ forwarded_ones b
        → cond f (said_by e.sent ∷ forwarded_ones (r ++ b)) (forwarded_ones (r ++ b))
        ≡ cond f (said_by e.sent ∷ forwarded_ones r) (forwarded_ones r) ++ forwarded_ones b
    go true h = ap (λ l. said_by e.sent ∷ l) h
    go false h = h

pub leads_append : {A : Type 0} (rules : Rules A) (a : A) (vs ws : List Said)
    → leads rules a (vs ++ ws) ≡ and_then (leads rules a vs) (λ b. leads rules b ws)
unfolding leads
leads_append rules a [] ws = refl
leads_append {A} rules a (v ∷ vs) ws = go (next rules a v) (λ b. leads_append rules b vs ws)
  where
    go : (o : Option A) → ((b : A) → leads rules b (vs ++ ws) ≡ and_then (leads rules b vs) (λ b. leads rules b ws))
        → and_then o (λ b. leads rules b (vs ++ ws)) ≡ and_then (and_then o (λ b. leads rules b vs)) (λ b. leads rules b ws)
    go none i = refl
    go (some b) i = i b

-- one message more, in turn
pub leads_more : {A : Type 0} (rules : Rules A) (a : A) (vs : List Said) (b : A) (v : Said) (c : A)
    → leads rules a vs ≡ some b → next rules b v ≡ some c → leads rules a (vs ++ (v ∷ [])) ≡ some c
unfolding leads
leads_more rules a vs b v c e f =
    leads_append rules a vs (v ∷ []) ∙ ap (λ o. and_then o (λ b. leads rules b (v ∷ []))) e ∙ ap (λ o. and_then o (λ b. some b)) f

-- what leads somewhere is allowed
pub next_allows : {A : Type 0} (rules : Rules A) (a : A) (v : Said) (b : A) → next rules a v ≡ some b → rules.allows a v.message ≡ some b
unfolding next
next_allows {A} rules a v b e = go (is_party v.side (turn rules a)) e
  where
    go : (c : Bool) → cond c (rules.allows a v.message) none ≡ some b → rules.allows a v.message ≡ some b
    go true e = e
    go false e = none_some e

or_else : Option Party → Option Party → Option Party
or_else none later = later
or_else (some side) later = some side

or_none : (o : Option Party) → or_else o none ≡ o
unfolding or_else
or_none none = refl
or_none (some side) = refl

blamed_append : (a b : List Event) → blamed_first (a ++ b) ≡ or_else (blamed_first a) (blamed_first b)
unfolding blamed_first or_else blamed_else
blamed_append [] b = refl
blamed_append (e ∷ r) b = ap (blamed_else e.done.verdict) (blamed_append r b) ∙ go e.done.verdict
  where
    go : (v : Told) → blamed_else v (or_else (blamed_first r) (blamed_first b)) ≡ or_else (blamed_else v (blamed_first r)) (blamed_first b)
    go (refused q) = refl
    go (blamed side x f) = refl
    go forwarded = refl

pub blamed_for_good : (a b : List Event) (side : Party) → blamed_first a ≡ some side → blamed_first (a ++ b) ≡ some side
unfolding or_else
blamed_for_good a b side h = blamed_append a b ∙ ap (λ o. or_else o (blamed_first b)) h

-- where nobody is blamed before
pub blamed_once : (a : List Event) (e : Event) → blamed_first a ≡ none → blamed_first (a ++ (e ∷ [])) ≡ blamed_first (e ∷ [])
unfolding or_else
blamed_once a e h = blamed_append a (e ∷ []) ∙ ap (λ o. or_else o (blamed_first (e ∷ []))) h

-- ---- the state that messages lead to is one of the table's

goes_target : (n : ℕ) (g : ℕ → T.Branch) (i : ℕ) (m : Message) (j : ℕ) → goes (upto n g) i m ≡ some j
    → (k : ℕ) × (k < n) × ((g k).target ≡ j)
unfolding goes upto
goes_target zero g i m j e = none_some e
goes_target (suc n) g i m j e = go (carries i m (g zero)) (goes_target n (λ k. g (suc k)) i m j) e
  where
    go : (c : Bool) → (goes (upto n (λ k. g (suc k))) i m ≡ some j → (k : ℕ) × (k < n) × ((g (suc k)).target ≡ j))
        → cond c (some (g zero).target) (goes (upto n (λ k. g (suc k))) i m) ≡ some j → (k : ℕ) × (k < suc n) × ((g k).target ≡ j)
    go true r h = (zero, omega arith, some_eq h)
    go false r h = let x = r h in (suc x.0, omega (arith, x.1), x.2)

module _ (t : List ℕ) (f : Facts t) where
  pub allows_state : (i : ℕ) (m : Message) (j : ℕ) → allows (view t) i m ≡ some j → j < states_of t
  unfolding allows view
  allows_state i m j e =
      let x = goes_target (branches_of t) (branch_at t) i m j e in
      subst (λ n. n < states_of t) x.2 (f.targets x.0 x.1)

  pub next_state : (i : ℕ) (v : Said) (j : ℕ) → next (table_rules (view t)) i v ≡ some j → j < states_of t
  next_state i v j e = allows_state i v.message j (next_allows (table_rules (view t)) i v j e)

  leads_state : (i : ℕ) (vs : List Said) (j : ℕ) → i < states_of t → leads (table_rules (view t)) i vs ≡ some j → j < states_of t
  unfolding leads
  leads_state i [] j l e = subst (λ n. n < states_of t) (some_eq e) l
  leads_state i (v ∷ vs) j l e = go (next (table_rules (view t)) i v) refl (λ k h. leads_state k vs j h) e
    where
      go : (o : Option ℕ) → next (table_rules (view t)) i v ≡ o
          → ((k : ℕ) → k < states_of t → leads (table_rules (view t)) k vs ≡ some j → j < states_of t)
          → and_then o (λ k. leads (table_rules (view t)) k vs) ≡ some j → j < states_of t
      go none q on h = none_some h
      go (some k) q on h = on k (next_state i v k q) h

-- ---- the questions

pub running_by : (o : Option Party) → is_running (standing_by o) ≡ nobody o
unfolding is_running standing_by blame nobody
running_by none = refl
running_by (some Device) = refl
running_by (some Host) = refl

nobody_none : (o : Option Party) → nobody o ≡ true → o ≡ none
unfolding nobody
nobody_none none e = refl
nobody_none (some side) e = never e refl

pub its_turn : (side : Party) (o : Option Party) → is_party side o ≡ true → o ≡ some side
unfolding is_party
its_turn Device none e = never e refl
its_turn Host none e = never e refl
its_turn Device (some Device) e = refl
its_turn Host (some Host) e = refl
its_turn Device (some Host) e = never e refl
its_turn Host (some Device) e = never e refl

-- a side is listened to where 11 and 12 get a yes
pub heard_where : {A : Type 0} (rules : Rules A) (a : A) (side : Party)
    → listens rules a side ≡ (may_speak rules.edition (rules.sort a) side && T.is_choice (rules.sort a))
unfolding listens is_party speaker T.is_choice
heard_where rules a side = by (rules.sort a) side (eqb rules.edition 2)
  where
    by : (s : T.Sort) (side : Party) (b : Bool)
        → (is_party side (speaker s) || (b && T.is_choice s)) ≡ ((is_party side (speaker s) || b) && T.is_choice s)
    by T.ends Device b = refl
    by T.ends Host b = refl
    by T.sends Device b = refl
    by T.sends Host b = refl
    by T.receives Device b = refl
    by T.receives Host b = refl

-- the questions after 10 and 11 are those of a message: at a choice, a side that may speak is listened to
refusal_is : {A : Type 0} (rules : Rules A) (past : List Event) (a : A) (m : Sent)
    → refusal_of rules past a m
    ≡ first_no
    ((10, nobody (blamed_first past)) ∷ (11, T.is_choice (rules.sort a))
    ∷ of_message rules.edition (rules.sort a) m.side m.bytes (length m.buffer))
unfolding refusal_of of_message first_no
refusal_is rules past a m =
    rw (heard_where rules a m.side)
    (ap (λ n. cond (nobody (blamed_first past)) n 10) (by (T.is_choice (rules.sort a)) (may_speak rules.edition (rules.sort a) m.side) _))
  where
    by : (c b : Bool) (n : ℕ) → cond c (cond (b && c) n 12) 11 ≡ cond c (cond b n 12) 11
    by true true n = refl
    by true false n = refl
    by false b n = refl

both_yes : (a b : Bool) (rest : List (ℕ × Bool)) → first_no ((10, a) ∷ (11, b) ∷ rest) ≡ 0 → (a ≡ true) × (b ≡ true) × (first_no rest ≡ 0)
unfolding first_no
both_yes true true rest h = (refl, refl, h)
both_yes true false rest h = absurd (omega (arith, h))
both_yes false b rest h = absurd (omega (arith, h))

module _ {A : Type 0} (rules : Rules A) (past : List Event) (a : A) (m : Sent) where
  none_judgeable : refusal_of rules past a m ≡ 0 → Judgeable rules past a m
  none_judgeable h =
      let x = both_yes (nobody (blamed_first past)) (T.is_choice (rules.sort a)) _ (sym (refusal_is rules past a m) ∙ h) in
      let r = ready rules.edition (rules.sort a) m.side m.bytes (length m.buffer) x.2 in
      record {
        unblamed = nobody_none (blamed_first past) x.0;
        listened = heard_where rules a m.side ∙ join r.turn x.1;
        formed = (well_formed_exactly m.bytes).1 r.formed;
        room = r.fits;
      }

  pub judgeable_none : Judgeable rules past a m → refusal_of rules past a m ≡ 0
  unfolding first_no nobody
  judgeable_none j =
      let x = both (may_speak rules.edition (rules.sort a) m.side) (T.is_choice (rules.sort a))
      (sym (heard_where rules a m.side) ∙ j.listened) in
      refusal_is rules past a m
      ∙ rw (j.unblamed, x.1)
      (all_well rules.edition (rules.sort a) m.side m.bytes (length m.buffer) x.0
      ((well_formed_exactly m.bytes).0 j.formed) j.room)

  blamed_ten : (side : Party) → blamed_first past ≡ some side → refusal_of rules past a m ≡ 10
  unfolding refusal_of first_no nobody
  blamed_ten side e = rw e

-- ---- verdicts apart

pub refused_forwarded : {X : Type 0} {q : ℕ} → refused q ≡ forwarded → X
refused_forwarded e = let z : ◌≡◌ {A = ℕ} 0 1 = cc in absurd (omega arith)

pub refused_blamed : {X : Type 0} {q : ℕ} {side : Party} {r : ℕ} {f : Option ℕ} → refused q ≡ blamed side r f → X
refused_blamed e = let z : ◌≡◌ {A = ℕ} 0 1 = cc in absurd (omega arith)

pub forwarded_blamed : {X : Type 0} {side : Party} {r : ℕ} {f : Option ℕ} → forwarded ≡ blamed side r f → X
forwarded_blamed e = let z : ◌≡◌ {A = ℕ} 0 1 = cc in absurd (omega arith)

pub refused_eq : {p q : ℕ} → refused p ≡ refused q → p ≡ q
refused_eq e = cc

pub blamed_eq : {p q : Party} {r x : ℕ} {f g : Option ℕ} → blamed p r f ≡ blamed q x g → (p ≡ q) × (r ≡ x) × (f ≡ g)
blamed_eq e = (cc, cc, cc)

-- ---- judging and allowing

pub agree : (t : List ℕ) → sound_of t ≡ true → (i : ℕ) (m : Message) → allows (view t) i m ≡ target_of (judge (view t) i m)
unfolding target_of
agree t e i m = go (judge (view t) i m) refl
  where
    sound : T.sound (view t) ≡ true
    sound = view_sound t e

    nowhere : (o : Option ℕ) → allows (view t) i m ≡ o → ((j : ℕ) → judge (view t) i m ≡ allowed j → ⊥) → o ≡ none
    nowhere none h n = refl
    nowhere (some j) h n = absurd (n j ((judge_allows (view t) sound i m j).1 h))

    go : (j : Judgement ℕ) → judge (view t) i m ≡ j → allows (view t) i m ≡ target_of j
    go (allowed j) h = (judge_allows (view t) sound i m j).0 h
    go (forbidden r f) h =
        nowhere (allows (view t) i m) refl
        (λ j k.
        let q : forbidden r f ≡ allowed j = sym h ∙ k in
        let z : ◌≡◌ {A = ℕ} 0 1 = cc in
        omega arith)

-- of what a side says
pub said_leads : (t : List ℕ) → sound_of t ≡ true → (i : ℕ) (v : Said)
    → next (table_rules (view t)) i v ≡ target_of (judge_said (table_rules (view t)) i v)
unfolding next judge_said target_of
said_leads t e i v = by (is_party v.side (turn (table_rules (view t)) i))
  where
    by : (b : Bool) → cond b (allows (view t) i v.message) none ≡ target_of (cond b (judge (view t) i v.message) (forbidden 4 none))
    by true = agree t e i v.message
    by false = refl

-- what is forbidden takes no branch; as the program has both
pub forbidden_chosen : (t : List ℕ) → sound_of t ≡ true → (i : ℕ) (m : Message) (r : ℕ) (f : Option ℕ) → judge (view t) i m ≡ forbidden r f
    → (forbidden r f ≡ judge (view t) i m) × (none ≡ selected (view t) i m)
unfolding target_of
forbidden_chosen t e i m r f h = (sym h, sym ((selected_exactly (view t) i m).1.1 (agree t e i m ∙ ap target_of h)))

-- ---- one message in its place

-- handled in its place, between two such states
pub record Right (t : Words) (past : List Event) (e : Event) : Type 0 where
  pub met : Met (table_rules (view t)) past e
  pub before : Stands t past e.met
  pub after : Stands t (past ++ (e ∷ [])) e.done.state

-- 9 gets a yes
pub stands_sound : (t : Words) → sound_of t ≡ true → (past : List Event) (s : State) → Stands t past s → sound_at t s.position ≡ true
unfolding sound_at
stands_sound t sound past s at =
    let f = sound_facts t sound in
    let l = leads_state t f 0 (forwarded_ones past) s.position (omega (arith, f.some)) at.position in
    join sound (lt-ltb s.position (states_of t) l)

pub stands_fresh : (t : Words) → Stands t [] fresh
unfolding fresh forwarded_ones blamed_first leads standing_by
stands_fresh t = record { position = refl; standing = refl }

module _ (t : Words) (sound : sound_of t ≡ true) (past : List Event) (s : State) (at : Stands t past s) (m : Sent) where
  abbrev rules : Rules ℕ
  rules = table_rules (view t)

  abbrev here : Outcome → Event
  here x = record { sent = m; met = s; done = x }

  abbrev asking : ℕ
  asking = first_no (step_questions t s m.side m.bytes (length m.buffer))

  asked_is : asking ≡ refusal_of rules past s.position m
  unfolding step_questions of_state of_message first_no
  asked_is =
      rw (stands_sound t sound past s at, ap is_running at.standing ∙ running_by (blamed_first past)) (sym (refusal_is rules past s.position m))

  judgeable : asking ≡ 0 → Judgeable rules past s.position m
  judgeable e = none_judgeable rules past s.position m (sym asked_is ∙ e)

  not_judgeable : (q : ℕ) → asking ≡ q → (q ≡ 0 → ⊥) → {X : Type 0}
      → Judgeable rules past s.position m → X
  not_judgeable q e n j = absurd (n (sym e ∙ asked_is ∙ judgeable_none rules past s.position m j))

  module _ (q : ℕ) (e : asking ≡ q) (n : q ≡ 0 → ⊥) where
    abbrev refused_event : Event
    refused_event = here (refusing q s m.buffer)

    refused_handled : Handled rules past s.position (refused_event)
    unfolding refusing
    refused_handled =
        record {
          forwards = (λ h. refused_forwarded h, λ p. not_judgeable q e n p.0);
          writes = λ h. refused_forwarded h;
          blames = λ side r f. (λ h. refused_blamed h, λ p. not_judgeable q e n p.0);
          stays = λ side r f h. refused_blamed h;
          refuses = λ p. (
            λ h. (sym (refused_eq h) ∙ sym e ∙ asked_is, λ z. n (refused_eq h ∙ z)),
            λ x. ap refused (sym e ∙ asked_is ∙ sym x.0),
          );
          leaves = λ p h. ap (λ p. refusing p s m.buffer) (refused_eq h);
        }

    refused_after : Stands t (past ++ (refused_event ∷ [])) s
    unfolding refusing forwarded_ones is_forwarded blamed_first blamed_else or_else
    refused_after =
        record {
          position = ap (led rules) (forwarded_append past _ ∙ append-nil (forwarded_ones past)) ∙ at.position;
          standing = at.standing ∙ ap standing_by (sym (blamed_append past _ ∙ or_none (blamed_first past)));
        }

    refused_right : Right t past (refused_event)
    unfolding refusing
    refused_right =
        record {
          met =
              record {
                place = s.position;
                there = at.position;
                handled = refused_handled;
                for_ever = λ side b. ap (λ p. refusing p s m.buffer) (sym e ∙ asked_is ∙ blamed_ten rules past s.position m side b);
              };
          before = at;
          after = refused_after;
        }

  module _ (e : asking ≡ 0) where
    never_refused : {X : Type 0} (q : ℕ) → (q ≡ refusal_of rules past s.position m) × (q ≡ 0 → ⊥) → X
    never_refused q x = absurd (x.1 (x.0 ∙ sym asked_is ∙ e))

    not_blamed : {X : Type 0} {side : Party} → blamed_first past ≡ some side → X
    not_blamed b = none_some (sym (judgeable e).unblamed ∙ b)

    module _ (j : ℕ) (h : judge_said rules s.position (said_by m) ≡ allowed j) where
      abbrev forwarded_event : Event
      forwarded_event = here (forwarding j m.bytes s m.buffer)

      goes_there : next rules s.position (said_by m) ≡ some j
      unfolding target_of
      goes_there = said_leads t sound s.position (said_by m) ∙ ap target_of h

      forwarded_handled : Handled rules past s.position (forwarded_event)
      unfolding forwarding
      forwarded_handled =
          record {
            forwards = (λ z. (judgeable e, (j, goes_there)), λ p. refl);
            writes = λ z. (j, refl);
            blames = λ side r f. (λ z. forwarded_blamed z, λ p. none_some (sym p.1 ∙ goes_there));
            stays = λ side r f z. forwarded_blamed z;
            refuses = λ q. (λ z. refused_forwarded (sym z), λ x. never_refused q x);
            leaves = λ q z. refused_forwarded (sym z);
          }

      forwarded_after : Stands t (past ++ (forwarded_event ∷ [])) (record { position = j; standing = s.standing })
      unfolding forwarding forwarded_ones is_forwarded blamed_first blamed_else
      forwarded_after =
          record {
            position =
                ap (led rules) (forwarded_append past (forwarded_event ∷ []))
                ∙ leads_more rules 0 (forwarded_ones past) s.position (said_by m) j at.position goes_there;
            standing = at.standing ∙ ap standing_by (sym (blamed_append past (forwarded_event ∷ []) ∙ or_none (blamed_first past)));
          }

      forwarded_right : Right t past (forwarded_event)
      unfolding forwarding
      forwarded_right =
          record {
            met = record { place = s.position; there = at.position; handled = forwarded_handled; for_ever = λ side b. not_blamed b };
            before = at;
            after = forwarded_after;
          }

    module _ (r : ℕ) (f : Option ℕ) (h : judge_said rules s.position (said_by m) ≡ forbidden r f) where
      abbrev blamed_event : Event
      blamed_event = here (blaming r f s m.side m.buffer)

      goes_nowhere : next rules s.position (said_by m) ≡ none
      unfolding target_of
      goes_nowhere = said_leads t sound s.position (said_by m) ∙ ap target_of h

      blamed_handled : Handled rules past s.position (blamed_event)
      unfolding blaming
      blamed_handled =
          record {
            forwards = (λ z. forwarded_blamed (sym z), λ p. none_some (sym goes_nowhere ∙ p.1.1));
            writes = λ z. forwarded_blamed (sym z);
            blames = λ side x g. (
              λ z. let y = blamed_eq z in (judgeable e, goes_nowhere, sym y.0, h ∙ ap₂ forbidden y.1 y.2),
              λ p. same_blame (sym p.2) (sym h ∙ p.3),
            );
            stays = λ side x g z. let y = blamed_eq z in same_outcome y.0 y.1 y.2;
            refuses = λ q. (λ z. refused_blamed (sym z), λ x. never_refused q x);
            leaves = λ q z. refused_blamed (sym z);
          }
        where
          same_outcome : {p : Party} {x : ℕ} {g : Option ℕ} → m.side ≡ p → r ≡ x → f ≡ g → blaming r f s m.side m.buffer ≡ blaming x g s p m.buffer
          same_outcome {p} {x} {g} u v w = rw (u, v, w)

          same_blame : {p q : Party} {r x : ℕ} {f g : Option ℕ} → p ≡ q → ◌≡◌ {A = Judgement ℕ} (forbidden r f) (forbidden x g)
              → blamed p r f ≡ blamed q x g
          same_blame a b = cc

      blamed_after : Stands t (past ++ (blamed_event ∷ [])) (record { position = s.position; standing = blame m.side })
      unfolding blaming forwarded_ones is_forwarded blamed_first blamed_else or_else standing_by
      blamed_after =
          record {
            position = ap (led rules) (forwarded_append past (blamed_event ∷ []) ∙ append-nil (forwarded_ones past)) ∙ at.position;
            standing =
                ap standing_by
                (sym (blamed_append past (blamed_event ∷ []) ∙ ap (λ o. or_else o (some m.side)) (judgeable e).unblamed));
          }

      blamed_right : Right t past (blamed_event)
      unfolding blaming
      blamed_right =
          record {
            met = record { place = s.position; there = at.position; handled = blamed_handled; for_ever = λ side b. not_blamed b };
            before = at;
            after = blamed_after;
          }

  right_by : (x : Outcome) → Way t s m.side m.bytes m.buffer x → Right t past (here x)
  right_by x (refuses q e n) = refused_right q e n
  right_by x (forwards e j h) = forwarded_right e j h
  right_by x (blames e r f h) = blamed_right e r f h

  right_here : Right t past (event t s m)
  unfolding event
  right_here = right_by (stepping t s m.side m.bytes m.buffer) (way t s m.side m.bytes m.buffer)

-- ---- every message in its place

pub cons_eq : {A : Type 0} {a b : A} {r s : List A} → a ∷ r ≡ b ∷ s → (a ≡ b) × (r ≡ s)
cons_eq e = (cc, cc)

pub nil_cons : {A X : Type 0} {b : A} {s : List A} → [] ≡ b ∷ s → X
nil_cons e = let z : ◌≡◌ {A = ℕ} 0 1 = cc in absurd (omega arith)

module _ (t : List ℕ) (sound : sound_of t ≡ true) where
  in_place : (past : List Event) (s : State) → Stands t past s → (sent : List Sent) (earlier : List Event) (e : Event) (later : List Event)
      → played t s sent ≡ earlier ++ (e ∷ later) → Right t (past ++ earlier) e
  unfolding played
  in_place past s at [] [] e later h = nil_cons h
  in_place past s at [] (x ∷ r) e later h = nil_cons h
  in_place past s at (m ∷ sent) [] e later h =
      subst (λ (l : List Event). Right t l e) (sym (append-nil past))
      (subst (Right t past) (cons_eq h).0 (right_here t sound past s at m))
  in_place past s at (m ∷ sent) (x ∷ r) e later h =
      let here = right_here t sound past s at m in
      subst (λ (l : List Event). Right t l e) (append_assoc past (x ∷ []) r)
      (subst (λ (x : Event). Right t ((past ++ (x ∷ [])) ++ r) e) (cons_eq h).0
      (in_place (past ++ (event t s m ∷ [])) (event t s m).done.state here.after sent r e later (cons_eq h).1))

  pub all_sent : (s : State) (sent : List Sent) → map (λ (e : Event). e.sent) (played t s sent) ≡ sent
  unfolding played event
  all_sent s [] = refl
  all_sent s (m ∷ r) = ap (λ l. m ∷ l) (all_sent (event t s m).done.state r)

  pub each_right : (sent : List Sent) (earlier : List Event) (e : Event) (later : List Event) → conversation t sent ≡ earlier ++ (e ∷ later)
      → Right t earlier e
  unfolding conversation
  each_right sent earlier e later h = in_place [] fresh (stands_fresh t) sent earlier e later h

  -- who is blamed in a conversation is blamed first
  pub blamed_there : (sent : List Sent) (earlier : List Event) (e : Event) (later : List Event) → conversation t sent ≡ earlier ++ (e ∷ later)
      → (side : Party) (r : ℕ) (f : Option ℕ) → e.done.verdict ≡ blamed side r f → blamed_first (conversation t sent) ≡ some side
  unfolding blamed_first blamed_else
  blamed_there sent earlier e later h side r f v =
      let free = (((each_right sent earlier e later h).met.handled.blames side r f).0 v).0.unblamed in
      ap blamed_first (h ∙ sym (append_assoc earlier (e ∷ []) later))
      ∙ blamed_for_good (earlier ++ (e ∷ [])) later side (blamed_once earlier e free ∙ rw v)

-- ---- events one behind the other

module _ (t : Words) where
  -- they are what their messages make of the state
  abbrev pub Played : State → List Event → Type 0
  Played s events = played t s (map (λ (e : Event). e.sent) events) ≡ events

  played_at : {x y : Event} {r : List Event} → x ≡ y → Played x.done.state r → Played y.done.state r
  played_at {r = r} h p = subst (λ (x : Event). Played x.done.state r) h p

  pub played_cons : (s : State) (e : Event) (r : List Event) → event t s e.sent ≡ e → Played e.done.state r → Played s (e ∷ r)
  unfolding played
  played_cons s e r h p = ap₂ ◌∷◌ h (played_at (sym h) p)

  pub played_append : (s : State) (a b : List Event) → Played s a → Played (state_after s a) b → Played s (a ++ b)
  unfolding played state_after
  played_append s [] b p q = q
  played_append s (e ∷ r) b p q =
      let h = cons_eq p in
      played_cons s e (r ++ b) h.0 (played_append e.done.state r b (played_at h.0 h.1) q)

  -- and the state then is what verdicts and type say
  pub played_stands : sound_of t ≡ true → (past : List Event) (s : State) → Stands t past s → (events : List Event) → Played s events
      → Stands t (past ++ events) (state_after s events)
  unfolding played state_after
  played_stands sound past s at [] p = subst (λ (l : List Event). Stands t l s) (sym (append-nil past)) at
  played_stands sound past s at (e ∷ r) p =
      let h = cons_eq p in
      let here = subst (Right t past) h.0 (right_here t sound past s at e.sent) in
      subst (λ (l : List Event). Stands t l (state_after e.done.state r)) (append_assoc past (e ∷ []) r)
      (played_stands sound (past ++ (e ∷ [])) e.done.state here.after r (played_at h.0 h.1))
