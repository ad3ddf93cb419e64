-- Early messages: reason 4 is for them alone, and neither the due part nor a batch brings one.
-- Assumes nothing.
use mathlib.Core.Path.{◌≡◌, refl, sym, ap, subst, ◌∙◌}
use mathlib.Core.Logic.{◌↔◌, ⊎_elim}
use mathlib.Core.Bool.{Bool, true, false, cond}
use mathlib.Core.List.{List, [], ◌∷◌, ◌++◌}
use mathlib.Core.Option.{Option, none, some}
use Prim.Native.Nat.{ℕ, ◌<◌}
use native.Mathlib.Omega.{arith}
use lib.ListN.{length}
use lib.Dec.{leb, eqb}
use borrow.Author.Tests.{eq-eqb, eqb-true}
use Rattle.table.specs.Lists.{matched, first_no}
use Rattle.table.specs.Table.{Field, Branch, is_choice, sort, is_party}
use Rattle.table.specs.View.{Words, view}
use Rattle.table.proofs.laws.Lists.{both, join, either, or_left, or_right, decided, never}
use Rattle.message.specs.Message.{Message, whole, legal_values, exact, legal_texts, refusal}
use Rattle.message.specs.Judge.{Judgement, forbidden, names, same_kind, first_outside, by_range, by_fields, judge_among, judge}
use Rattle.message.specs.Rules.{Rules, table_rules, Said, turn, next, judge_said}
use Rattle.message.proofs.laws.Judge.{some_eq}
use Rattle.conversation.specs.declared.State.{State}
use Rattle.conversation.specs.Step.{may_speak, step_questions, blamed, Outcome, refusing, blaming, forwarding, stepping}
use Rattle.conversation.specs.Due.{of_side, awaited}
use Rattle.conversation.specs.Conversation.{Sent, Event, event, said_by, Judgeable, Early, EarlyBlamed, NoneEarly}
use Rattle.conversation.specs.Batch.{Both, Left}
use Rattle.conversation.specs.Batches.{Single, Singly, none_due, stops, goes_on, InTurn, DueInTurn, BatchInTurn}
use Rattle.conversation.proofs.laws.Step.{formed_then, asked_then, edition_is, said_in_turn, said_early, Way, refuses, forwards, blames, way}
use Rattle.conversation.proofs.laws.Due.{open_here, speaks_here}
use Rattle.conversation.proofs.claims.DueFound.{due_heard}
use Rattle.conversation.proofs.laws.Conversation.{heard_where, refused_forwarded, refused_blamed, forwarded_blamed, refused_eq, blamed_eq, cons_eq, nil_cons}
use Rattle.conversation.proofs.claims.DemandTwo.{demand_two}

-- ---- the judgement against branches has the reasons 1, 2 and 3

forbidden_eq : {r x : ℕ} {f g : Option ℕ} → ◌≡◌ {A = Judgement ℕ} (forbidden r f) (forbidden x g) → r ≡ x
forbidden_eq e = cc

module _ (m : Message) (r : ℕ) (f : Option ℕ) where
  by_range_few : (target : ℕ) (o : Option ℕ) → by_range target o ≡ forbidden r f → r < 4
  unfolding by_range
  by_range_few target none e = let z : ◌≡◌ {A = ℕ} 0 1 = cc in absurd (omega arith)
  by_range_few target (some g) e = omega (arith, forbidden_eq e)

  by_fields_few : (fs : List Field) (target : ℕ) → by_fields fs target m.values ≡ forbidden r f → r < 4
  unfolding by_fields
  by_fields_few fs target e = go (matched same_kind fs m.values) e
    where
      go : (b : Bool) → cond b (by_range target (first_outside 0 fs m.values)) (forbidden 2 none) ≡ forbidden r f → r < 4
      go true e = by_range_few target (first_outside 0 fs m.values) e
      go false e = omega (arith, forbidden_eq e)

  among_few : (bs : List Branch) (i : ℕ) → judge_among bs i m ≡ forbidden r f → r < 4
  unfolding judge_among
  among_few [] i e = omega (arith, forbidden_eq e)
  among_few (b ∷ bs) i e = go (names i m.label b) (among_few bs i) e
    where
      go : (c : Bool) → (judge_among bs i m ≡ forbidden r f → r < 4)
          → cond c (by_fields b.fields b.target m.values) (judge_among bs i m) ≡ forbidden r f → r < 4
      go true on e = by_fields_few b.fields b.target e
      go false on e = on e

-- in turn nobody is blamed with reason 4
in_turn_few : (t : Words) (i : ℕ) (v : Said) (f : Option ℕ) → judge_said (table_rules (view t)) i v ≡ forbidden 4 f
    → is_party v.side (turn (table_rules (view t)) i) ≡ true → ⊥
unfolding judge
in_turn_few t i v f e h =
    omega (arith, among_few v.message 4 f (view t).branches i (sym (said_in_turn (table_rules (view t)) i v h) ∙ e))

-- ---- reason 4

module _ (t : Words) (sent : Sent) (earlier : List Event) (i : ℕ) where
  abbrev rules : Rules ℕ
  rules = table_rules (view t)

  -- 11 and 12 got a yes
  heard_here : Judgeable rules earlier i sent → (may_speak rules.edition (rules.sort i) sent.side ≡ true) × (is_choice (rules.sort i) ≡ true)
  heard_here j =
      both (may_speak rules.edition (rules.sort i) sent.side) (is_choice (rules.sort i))
      (sym (heard_where rules i sent.side) ∙ j.listened)

  early_exactly : (Judgeable rules earlier i sent × (next rules i (said_by sent) ≡ none) × (sent.side ≡ sent.side)
      × (judge_said rules i (said_by sent) ≡ forbidden 4 none)) ↔ Early rules earlier i sent
  unfolding next
  early_exactly = (
    λ x.
        let y = heard_here x.0 in
        let out = ⊎_elim (λ h. absurd (in_turn_few t i (said_by sent) none x.3 h)) (λ h. h) (decided (is_party sent.side (turn rules i))) in
        record {
          second =
              ⊎_elim (λ h. never h out) (λ h. eqb-true rules.edition 2 h)
              (either (is_party sent.side (turn rules i)) (eqb rules.edition 2) y.0);
          unblamed = x.0.unblamed;
          goes_on = y.1;
          out_of_turn = out;
          formed = x.0.formed;
          room = x.0.room;
        },
    λ y. (
      record {
        unblamed = y.unblamed;
        listened =
            heard_where rules i sent.side
            ∙ join (or_right (is_party sent.side (turn rules i)) (eq-eqb rules.edition 2 y.second)) y.goes_on;
        formed = y.formed;
        room = y.room;
      },
      rw y.out_of_turn,
      refl,
      said_early rules i (said_by sent) y.out_of_turn,
    ),
  )

pub early_blamed : EarlyBlamed
early_blamed t sound sent earlier e later h place there =
    let met = (demand_two t sound sent).demand.each earlier e later h in
    let x = met.handled.blames e.sent.side 4 none in
    let y = early_exactly t e.sent earlier met.place in
    subst (λ i. (e.done.verdict ≡ blamed e.sent.side 4 none) ↔ Early (table_rules (view t)) earlier i e.sent)
    (some_eq (sym met.there ∙ there)) (λ z. y.0 (x.0 z), λ z. x.1 (y.1 z))

pub none_early : NoneEarly
none_early t sound first sent earlier e later h side f z =
    let met = (demand_two t sound sent).demand.each earlier e later h in
    let x = (met.handled.blames side 4 f).0 z in
    let y = heard_here t e.sent earlier met.place x.0 in
    ⊎_elim (λ g. in_turn_few t met.place (said_by e.sent) f x.3 g)
    (λ g. omega (arith, eqb-true (view t).edition 2 g, edition_is t, first))
    (either (is_party e.sent.side (turn (table_rules (view t)) met.place)) (eqb (view t).edition 2) y.0)

-- ---- in turn

not_twelve : (message : List ℕ) → refusal message ≡ 12 → ⊥
unfolding refusal first_no
not_twelve message e = by (whole message) (legal_values message) (exact message) (legal_texts message) e
  where
    by : (a b c d : Bool) → ◌≡◌ {A = ℕ} (cond a (cond b (cond c (cond d 0 22) 15) 14) 13) 12 → ⊥
    by true true true true e = omega (arith, e)
    by true true true false e = omega (arith, e)
    by true true false d e = omega (arith, e)
    by true false c d e = omega (arith, e)
    by false b c d e = omega (arith, e)

module _ (t : Words) (s : State) (m : Sent) (a : awaited t s ≡ of_side m.side) where
  speaks : is_party m.side (turn (table_rules (view t)) s.position) ≡ true
  speaks = speaks_here t s m.side a

  asked_on : first_no (step_questions t s m.side m.bytes (length m.buffer)) ≡ 12 → ⊥
  asked_on e =
      by (refusal m.bytes) (leb (length m.bytes) (length m.buffer)) (not_twelve m.bytes)
      (sym (asked_then t s m.side m.bytes (length m.buffer) (open_here t s m.side a)
      ∙ formed_then (view t).edition (sort (view t) s.position) m.side m.bytes (length m.buffer)
      (or_left (eqb (view t).edition 2) speaks)) ∙ e)
    where
      by : (q : ℕ) (fits : Bool) → (q ≡ 12 → ⊥) → cond (eqb q 0) (cond fits 0 16) q ≡ 12 → ⊥
      by q fits n e = go (eqb q 0) fits e
        where
          go : (z fits : Bool) → cond z (cond fits 0 16) q ≡ 12 → ⊥
          go true true e = omega (arith, e)
          go true false e = omega (arith, e)
          go false fits e = n e

  pub in_turn : InTurn t (event t s m)
  unfolding event refusing forwarding blaming
  in_turn = by (stepping t s m.side m.bytes m.buffer) (way t s m.side m.bytes m.buffer)
    where
      by : (x : Outcome) → Way t s m.side m.bytes m.buffer x → InTurn t (record { sent = m; met = s; done = x })
      by x (refuses q e n) =
          record { turn = a; not_twelve = λ h. asked_on (e ∙ refused_eq h); not_early = λ side f h. refused_blamed h }
      by x (forwards e j h) = record { turn = a; not_twelve = λ z. refused_forwarded (sym z); not_early = λ side f z. forwarded_blamed z }
      by x (blames e r f h) =
          record {
            turn = a;
            not_twelve = λ z. refused_blamed (sym z);
            not_early = λ side g z.
                in_turn_few t s.position (said_by m) f (h ∙ ap (λ k. forbidden k f) (blamed_eq z).1) speaks;
          }

pub due_in_turn : DueInTurn
due_in_turn t s device host buffer n = let x = due_heard t s device host (length buffer) n in (x.0, in_turn t s _ x.1)

-- ---- of each of a list

data All (P : Event → Type 0) : List Event → Type 0 where
  none_there : All P []
  one_there : {e : Event} {r : List Event} → P e → All P r → All P (e ∷ r)

all_at : {P : Event → Type 0} {events : List Event} → All P events → (earlier : List Event) (e : Event) (later : List Event)
    → events ≡ earlier ++ (e ∷ later) → P e
all_at none_there [] e later h = nil_cons h
all_at none_there (x ∷ r) e later h = nil_cons h
all_at {P} (one_there p x) [] e later h = subst P (cons_eq h).0 p
all_at (one_there p x) (y ∷ r) e later h = all_at x r e later (cons_eq h).1

module _ (t : Words) where
  single_in_turn : {s : State} {l : Both Left} {e : Event} → Single t s l e → InTurn t e
  single_in_turn {s} {l} {e} x = subst (InTurn t) (sym x.stepped) (in_turn t s e.sent x.turn)

  singly_in_turn : {s : State} {l : Both Left} {events : List Event} → Singly t s l events → All (InTurn t) events
  singly_in_turn (none_due h) = none_there
  singly_in_turn (stops x n) = one_there (single_in_turn x) none_there
  singly_in_turn (goes_on x f r) = one_there (single_in_turn x) (singly_in_turn r)

pub batch_in_turn : BatchInTurn
batch_in_turn t s l events x = all_at (singly_in_turn t x)
