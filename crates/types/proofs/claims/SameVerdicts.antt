-- The published monitor goes with the steps of the monitor: a message that is forwarded leads the type on, and is heard and told; one that
-- is blamed is not taken, after which all are refused; and a refused one is not heard (`Follows`).
-- Assumes nothing.
use mathlib.Core.Path.{◌≡◌, refl, sym, ap, subst, ◌∙◌}
use mathlib.Core.Logic.{◌↔◌, ◌⊎◌, inl, inr, ⊎_elim}
use mathlib.Core.Bool.{Bool, true, false, not, cond}
use mathlib.Core.List.{List, [], ◌∷◌, ◌++◌, map, append_assoc, append-nil}
use mathlib.Core.Option.{Option, none, some, some-injective}
use Prim.Native.Nat.{ℕ}
use lib.ListN.{length}
use lib.Dec.{leb, eqb}
use borrow.Author.Tests.{leb-true, eq-eqb, eqb-true, not-true}
use Rattle.table.specs.Lists.{every}
use Rattle.table.specs.Table.{is_party}
use Rattle.table.specs.View.{edition_of, view}
use Rattle.table.proofs.laws.Lists.{both, join, never, refuted}
use Rattle.message.specs.Message.{well_formed}
use Rattle.message.specs.Judge.{forbidden}
use Rattle.message.specs.Rules.{Rules, Said, turn, next, leads, led, listens, judge_said}
use Rattle.message.proofs.laws.Judge.{none_some}
use Rattle.grammar.specs.Grammar.{Ty, Protocol, table_of}
use Rattle.grammar.specs.Reading.{reads}
use Rattle.grammar.proofs.laws.Reads.{read_sound}
use Rattle.table.specs.declared.Party.{Party}
use Rattle.conversation.specs.Step.{Told, refused, blamed, forwarded, refusing}
use Rattle.conversation.specs.Conversation.{Sent, Event, conversation, said_by, is_refused, is_forwarded, forwarded_ones, blamed_else, blamed_first, Handled, Met}
use Rattle.conversation.proofs.laws.Conversation.{blamed_for_good, forwarded_append, leads_more, its_turn, judgeable_none, nil_cons}
use Rattle.conversation.proofs.laws.Step.{turn_its}
use Rattle.conversation.proofs.claims.EarlyBlamed.{none_early}
use Rattle.spelling.specs.TextOf.{TextOf}
use Rattle.spelling.proofs.laws.TextOf.{is_read}
use Rattle.types.specs.Types.{opened, protocol_rules, flip}
use Rattle.types.specs.Monitor.{Mon, verdict, synth, Runs, rest as at_rest}
use Rattle.types.specs.Verdicts.{heard_said, passed_on, for_early, in_turn, FirstInTurn, SameVerdicts, SameTold, blamed_by, ends_in_blame, proper_sent, SameBreaks}
use Rattle.types.proofs.laws.ProtocolRules.{Proper, next_onward, next_turn, proper_next}
use Rattle.types.proofs.laws.TextRules.{proper, edition_is}
use Rattle.types.proofs.laws.Headline.{type_demand}
use Rattle.types.proofs.laws.Monitor.{Midway, Begun, midway, broke, on, course, goes_on, breaks, onward_is, verdict_eq, led_on, led_nowhere}

-- ---- who is blamed

-- after a list that blames nobody, the next event says it
then_blamed : (a : List Event) (e : Event) → blamed_first a ≡ none → blamed_first (a ++ (e ∷ [])) ≡ blamed_by e.done.verdict
unfolding blamed_first blamed_else
then_blamed [] e h = go e.done.verdict
  where
    go : (v : Told) → blamed_else v none ≡ blamed_by v
    go (refused q) = refl
    go (blamed x r f) = refl
    go forwarded = refl
then_blamed (d ∷ a) e h = go d.done.verdict h (λ h. then_blamed a e h)
  where
    go : (v : Told) → blamed_else v (blamed_first a) ≡ none
        → (blamed_first a ≡ none → blamed_first (a ++ (e ∷ [])) ≡ blamed_by e.done.verdict)
        → blamed_else v (blamed_first (a ++ (e ∷ []))) ≡ blamed_by e.done.verdict
    go (refused q) h i = i h
    go (blamed x r f) h i = none_some (sym h)
    go forwarded h i = i h

-- ---- turns

-- a side is listened to on its turn
listened_to : {A : Type 0} (rules : Rules A) (a : A) (side : Party) → turn rules a ≡ some side → listens rules a side ≡ true
unfolding listens
listened_to rules a side h = rw (h, turn_its side)

-- for another reason than 4 a side is blamed on its turn only
blamed_in_turn : {A : Type 0} (rules : Rules A) (a : A) (v : Said) (c : ℕ) (k : Option ℕ) → judge_said rules a v ≡ forbidden c k
    → (c ≡ 4 → ⊥) → turn rules a ≡ some v.side
unfolding judge_said
blamed_in_turn {A} rules a v c k e n = go (is_party v.side (turn rules a)) refl e
  where
    go : (b : Bool) → is_party v.side (turn rules a) ≡ b → cond b (rules.judge a v.message) (forbidden 4 none) ≡ forbidden c k
        → turn rules a ≡ some v.side
    go true h e = its_turn v.side (turn rules a) h
    go false h e = let z : c ≡ 4 = cc in absurd (n z)

-- ---- how the events of a conversation follow a type

module _ (t : Protocol) where
  -- from the type u, nobody being blamed before
  data Follows : Ty → List Event → Type 0 where
    over : {u : Ty} → Follows u []
    waits : {u : Ty} {e : Event} {rest : List Event} (q : ℕ) → e.done.verdict ≡ refused q
        → (proper_sent e.sent ≡ true → turn (protocol_rules t) u ≡ some e.sent.side → ⊥) → Follows u rest → Follows u (e ∷ rest)
    goes : {u w : Ty} {e : Event} {rest : List Event} → e.done.verdict ≡ forwarded → next (protocol_rules t) u (said_by e.sent) ≡ some w
        → Follows w rest → Follows u (e ∷ rest)
    stops : {u : Ty} {e : Event} {rest : List Event} (c : ℕ) (f : Option ℕ) → e.done.verdict ≡ blamed e.sent.side c f
        → next (protocol_rules t) u (said_by e.sent) ≡ none → turn (protocol_rules t) u ≡ some e.sent.side
        → heard_said rest ≡ [] → forwarded_ones rest ≡ [] → Follows u (e ∷ rest)

  -- each event of rest is met after those of past
  abbrev Each : List Event → List Event → Type 0
  Each past rest = (a : List Event) (e : Event) (b : List Event) → rest ≡ a ++ (e ∷ b) → Met (protocol_rules t) (past ++ a) e

  first_met : (past : List Event) (e : Event) (rest : List Event) → Each past (e ∷ rest) → Met (protocol_rules t) past e
  first_met past e rest h = subst (λ (l : List Event). Met (protocol_rules t) l e) (append-nil past) (h [] e rest refl)

  rest_met : (past : List Event) (e : Event) (rest : List Event) → Each past (e ∷ rest) → Each (past ++ (e ∷ [])) rest
  rest_met past e rest h a x b f =
      subst (λ (l : List Event). Met (protocol_rules t) l x) (sym (append_assoc past (e ∷ []) a)) (h (e ∷ a) x b (ap (λ l. e ∷ l) f))

  -- after a blame all are refused
  none_heard : (past rest : List Event) (side : Party) → blamed_first past ≡ some side → Each past rest
      → (heard_said rest ≡ []) × (forwarded_ones rest ≡ [])
  unfolding heard_said is_refused forwarded_ones is_forwarded refusing
  none_heard past [] side b h = (refl, refl)
  none_heard past (e ∷ rest) side b h =
      let x = ap (λ d. d.verdict) ((first_met past e rest h).for_ever side b) in
      let y = none_heard (past ++ (e ∷ [])) rest side (blamed_for_good past (e ∷ []) side b) (rest_met past e rest h) in (
        ap (λ v. cond (is_refused v) (heard_said rest) (said_by e.sent ∷ heard_said rest)) x ∙ y.0,
        ap (λ v. cond (is_forwarded v) (said_by e.sent ∷ forwarded_ones rest) (forwarded_ones rest)) x ∙ y.1,
      )

  -- u is where the forwarded ones of past lead
  module _ (past : List Event) (e : Event) (u : Ty) (there : led (protocol_rules t) (forwarded_ones past) ≡ some u)
      (d : Met (protocol_rules t) past e) where
    handled : Handled (protocol_rules t) past u e
    handled = subst (λ (w : Ty). Handled (protocol_rules t) past w e) (some-injective _ _ (sym d.there ∙ there)) d.handled

    -- where they lead with this event
    leads_on : e.done.verdict ≡ forwarded
        → (w : Ty) × (next (protocol_rules t) u (said_by e.sent) ≡ some w)
        × (led (protocol_rules t) (forwarded_ones (past ++ (e ∷ []))) ≡ some w)
    unfolding forwarded_ones is_forwarded
    leads_on h =
        let x = handled.forwards.0 h in
        let f = x.1.1 in
        let g : forwarded_ones (e ∷ []) ≡ said_by e.sent ∷ [] = rw h in (
          x.1.0,
          f,
          ap (led (protocol_rules t)) (forwarded_append past (e ∷ []) ∙ ap (λ l. forwarded_ones past ++ l) g)
              ∙ leads_more (protocol_rules t) t.type (forwarded_ones past) u (said_by e.sent) x.1.0 there f,
        )

    leads_there : is_forwarded e.done.verdict ≡ false → led (protocol_rules t) (forwarded_ones (past ++ (e ∷ []))) ≡ some u
    unfolding forwarded_ones
    leads_there h =
        let g : forwarded_ones (e ∷ []) ≡ [] = rw h in
        ap (led (protocol_rules t)) (forwarded_append past (e ∷ []) ∙ ap (λ l. forwarded_ones past ++ l) g ∙ append-nil (forwarded_ones past))
        ∙ there

    -- a message that is refused, well formed and with room, after no blame: it was not its side's turn
    out_of_turn : (q : ℕ) → e.done.verdict ≡ refused q → blamed_first past ≡ none → proper_sent e.sent ≡ true
        → turn (protocol_rules t) u ≡ some e.sent.side → ⊥
    unfolding proper_sent
    out_of_turn q h b k f =
        let x = both (well_formed e.sent.bytes) (leb (length e.sent.bytes) (length e.sent.buffer)) k in
        let y = (handled.refuses q).0 h in
        y.1 (y.0 ∙ judgeable_none (protocol_rules t) past u e.sent
        (record { unblamed = b; listened = listened_to (protocol_rules t) u e.sent.side f; formed = x.0; room = leb-true (length e.sent.bytes) (length e.sent.buffer) x.1 }))

  follows : (past rest : List Event) (u : Ty) → led (protocol_rules t) (forwarded_ones past) ≡ some u → blamed_first past ≡ none
      → Each past rest → in_turn rest ≡ true → Follows u rest
  unfolding is_forwarded in_turn every for_early
  follows past [] u there b h i = over
  follows past (e ∷ rest) u there b h i =
      let j = both (not (for_early e.done.verdict)) (in_turn rest) i in
      go e.done.verdict refl (λ w there b. follows (past ++ (e ∷ [])) rest w there b (rest_met past e rest h) j.1)
    where
      d : Met (protocol_rules t) past e
      d = first_met past e rest h

      not_early : (side : Party) (c : ℕ) (k : Option ℕ) → e.done.verdict ≡ blamed side c k → c ≡ 4 → ⊥
      not_early side c k f z =
          never (eq-eqb c 4 z) (not-true (eqb c 4) (ap (λ v. not (for_early v)) (sym f) ∙ (both (not (for_early e.done.verdict)) (in_turn rest) i).0))

      go : (x : Told) → e.done.verdict ≡ x
          → ((w : Ty) → led (protocol_rules t) (forwarded_ones (past ++ (e ∷ []))) ≡ some w → blamed_first (past ++ (e ∷ [])) ≡ none
          → Follows w rest)
          → Follows u (e ∷ rest)
      go (refused q) f i =
          waits q f (out_of_turn past e u there d q f b) (i u (leads_there past e u there d (rw f)) (then_blamed past e b ∙ ap blamed_by f))
      go (blamed side c k) f i =
          let x = ((handled past e u there d).blames side c k).0 f in
          let g : e.done.verdict ≡ blamed e.sent.side c k = f ∙ ap (λ s. blamed s c k) x.2 in
          let n = none_heard (past ++ (e ∷ [])) rest side (then_blamed past e b ∙ ap blamed_by f) (rest_met past e rest h) in
          stops c k g x.1 (blamed_in_turn (protocol_rules t) u (said_by e.sent) c k x.3 (not_early side c k f)) n.0 n.1
      go forwarded f i =
          let x = leads_on past e u there d f in
          goes f x.1 (i x.0 x.2 (then_blamed past e b ∙ ap blamed_by f))

  -- ---- verdicts

  verdicts : {u : Ty} {rest : List Event} → Follows u rest → Proper u → (side : Party) (told : List Said)
      → Runs (synth u) (heard_said rest) told (verdict side) ↔ ((blamed_first rest ≡ some side) × (told ≡ passed_on rest))
  unfolding heard_said is_refused passed_on forwarded_ones is_forwarded blamed_first blamed_else
  verdicts {u} over p side told = (λ r. absurd (course u p r).1, λ x. none_some x.0)
  verdicts (waits q f n i) p side told = rw f (verdicts i p side told)
  verdicts {u} (goes {w = w} {e = e} {rest = rest} f g i) p side told =
      let v = said_by e.sent in
      let ih = verdicts i (proper_next t u v w p g) side in
      rw f (
        λ r.
            ⊎_elim (λ x. absurd x.2) (λ x. let y = (ih x.0).0 x.2 in (y.0, x.1 ∙ ap (λ l. flip v ∷ l) y.1))
            (led_on t u v (heard_said rest) told (verdict side) (course u p r) w g),
        λ x.
            subst (λ l. Runs (synth u) (v ∷ heard_said rest) l (verdict side)) (sym x.1)
            (goes_on u v w (heard_said rest) (passed_on rest) (verdict side) (onward_is t u v (some w) g)
            ((ih (passed_on rest)).1 (x.0, refl))),
      )
  verdicts {u} (stops {e = e} {rest = rest} c k f n d a b) p side told =
      let v = said_by e.sent in
      rw f (
        λ r.
            let x = led_nowhere t u v (heard_said rest) told (verdict side) (course u p r) n in
            (⊎_elim (λ m. absurd m) (λ y. ap (λ s. some s) (verdict_eq y.1)) x.2, x.1 ∙ ap (map flip) (sym b)),
        λ x.
            subst (λ l. Runs (synth u) (v ∷ heard_said rest) l (verdict side)) (sym (x.1 ∙ ap (map flip) b))
            (subst (λ l. Runs (synth u) (v ∷ l) [] (verdict side)) (sym a)
            (subst (λ s. Runs (synth u) (v ∷ []) [] (verdict s)) (some-injective _ _ x.0)
            (breaks u v (onward_is t u v none n) d))),
      )

  -- ---- what is told

  tells_all : {u : Ty} {rest : List Event} → Follows u rest → (K : Mon) × Runs (synth u) (heard_said rest) (passed_on rest) K
  unfolding heard_said is_refused passed_on forwarded_ones is_forwarded
  tells_all {u} over = (synth u, at_rest)
  tells_all (waits q f n i) = rw f (tells_all i)
  tells_all {u} (goes {w = w} {e = e} {rest = rest} f g i) =
      let v = said_by e.sent in
      let x = tells_all i in
      rw f (x.0, goes_on u v w (heard_said rest) (passed_on rest) x.0 (onward_is t u v (some w) g) x.1)
  tells_all {u} (stops {e = e} {rest = rest} c k f n d a b) =
      let v = said_by e.sent in
      rw f (
        verdict v.side,
        subst (λ l. Runs (synth u) (v ∷ heard_said rest) (map flip l) (verdict v.side)) (sym b)
            (subst (λ l. Runs (synth u) (v ∷ l) [] (verdict v.side)) (sym a) (breaks u v (onward_is t u v none n) d)),
      )

  -- what is not heard is not forwarded
  none_passed : (rest : List Event) → heard_said rest ≡ [] → forwarded_ones rest ≡ []
  unfolding heard_said is_refused forwarded_ones is_forwarded
  none_passed [] h = refl
  none_passed (e ∷ rest) h = go e.done.verdict h (λ h. none_passed rest h)
    where
      go : (v : Told) → cond (is_refused v) (heard_said rest) (said_by e.sent ∷ heard_said rest) ≡ []
          → (heard_said rest ≡ [] → forwarded_ones rest ≡ [])
          → cond (is_forwarded v) (said_by e.sent ∷ forwarded_ones rest) (forwarded_ones rest) ≡ []
      go (refused q) h i = i h
      go (blamed side c f) h i = nil_cons (sym h)
      go forwarded h i = nil_cons (sym h)

  -- all of them, or all but the last
  abbrev Nearly : List Said → List Said → Type 0
  Nearly told all = (told ≡ all) ⊎ ((v : Said) × (all ≡ told ++ (v ∷ [])))

  nearly_on : (v : Said) (ms all : List Said) → Nearly ms all → Nearly (v ∷ ms) (v ∷ all)
  nearly_on v ms all x = ⊎_elim (λ e. inl (ap (λ l. v ∷ l) e)) (λ y. inr (y.0, ap (λ l. v ∷ l) y.1)) x

  tells_only : {u : Ty} {rest : List Event} → Follows u rest → Proper u → (told : List Said) (K : Mon)
      → Runs (synth u) (heard_said rest) told K
      → Nearly told (passed_on rest)
  unfolding heard_said is_refused passed_on forwarded_ones is_forwarded
  tells_only {u} over p told K r = inl (course u p r).0
  tells_only {u} (waits {e = e} {rest = rest} q f n i) p told K r =
      by (λ r. tells_only i p told K r) r
    where
      by : (Runs (synth u) (heard_said rest) told K → Nearly told (passed_on rest)) → Runs (synth u) (heard_said (e ∷ rest)) told K
          → Nearly told (passed_on (e ∷ rest))
      by h = rw f h
  tells_only {u} (goes {w = w} {e = e} {rest = rest} f g i) p told K r =
      by (λ ms r. tells_only i (proper_next t u (said_by e.sent) w p g) ms K r) r
    where
      v : Said
      v = said_by e.sent

      by : ((ms : List Said) → Runs (synth w) (heard_said rest) ms K → Nearly ms (passed_on rest))
          → Runs (synth u) (heard_said (e ∷ rest)) told K
          → Nearly told (passed_on (e ∷ rest))
      by h = rw f (λ r. ⊎_elim last more (led_on t u v (heard_said rest) told K (course u p r) w g))
        where
          last : (heard_said rest ≡ []) × (told ≡ []) × Midway K → Nearly told (flip v ∷ passed_on rest)
          last x = inr (flip v, ap (λ l. flip v ∷ map flip l) (none_passed rest x.0) ∙ ap (λ l. l ++ (flip v ∷ [])) (sym x.1))

          more : (ms : List Said) × (told ≡ flip v ∷ ms) × Runs (synth w) (heard_said rest) ms K → Nearly told (flip v ∷ passed_on rest)
          more x =
              subst (λ l. Nearly l (flip v ∷ passed_on rest)) (sym x.1) (nearly_on (flip v) x.0 (passed_on rest) (h x.0 x.2))
  tells_only {u} (stops {e = e} {rest = rest} c k f n d a b) p told K r = by r
    where
      by : Runs (synth u) (heard_said (e ∷ rest)) told K → Nearly told (passed_on (e ∷ rest))
      by = rw f (λ r. inl ((led_nowhere t u (said_by e.sent) (heard_said rest) told K (course u p r) n).1 ∙ ap (map flip) (sym b)))

  -- ---- the last of all messages

  abbrev sent_in : List Event → List Sent
  sent_in events = map (λ (e : Event). e.sent) events

  abbrev saying : List Event → List Said
  saying events = map said_by (sent_in events)

  refused_last : (e : Event) (rest : List Event) (q : ℕ) → e.done.verdict ≡ refused q → ends_in_blame (e ∷ rest) ≡ none
  unfolding ends_in_blame is_forwarded
  refused_last e [] q f = rw f
  refused_last e (d ∷ rest) q f = rw f

  forwarded_last : (e : Event) (rest : List Event) → e.done.verdict ≡ forwarded → ends_in_blame (e ∷ rest) ≡ ends_in_blame rest
  unfolding ends_in_blame is_forwarded
  forwarded_last e [] f = rw f
  forwarded_last e (d ∷ rest) f = rw f

  blamed_last : (e : Event) (rest : List Event) (x side : Party) (c : ℕ) (k : Option ℕ) → e.done.verdict ≡ blamed x c k
      → (ends_in_blame (e ∷ rest) ≡ some side) ↔ ((saying rest ≡ []) × (x ≡ side))
  unfolding ends_in_blame is_forwarded
  blamed_last e [] x side c k f = rw f (λ h. (refl, some-injective _ _ h), λ y. ap (λ s. some s) y.1)
  blamed_last e (d ∷ rest) x side c k f = rw f (λ h. none_some h, λ y. nil_cons (sym y.0))

  breaking : {u : Ty} {rest : List Event} → Follows u rest → Proper u → every proper_sent (sent_in rest) ≡ true → (side : Party)
      → ((told : List Said) × Runs (synth u) (saying rest) told (verdict side)) ↔ (ends_in_blame rest ≡ some side)
  unfolding every ends_in_blame
  breaking {u} over p k side = (λ x. absurd (course u p x.1).1, λ h. none_some h)
  breaking {u} (waits {e = e} {rest = rest} q f n i) p k side = (
    λ x. absurd (waited (course u p x.1)),
    λ h. none_some (sym (refused_last e rest q f) ∙ h),
  )
    where
      early : turn (protocol_rules t) u ≡ some e.sent.side → ⊥
      early = n (both (proper_sent e.sent) (every proper_sent (sent_in rest)) k).0

      waited : {told : List Said} → Begun (opened u) (verdict side) (said_by e.sent) (saying rest) told → ⊥
      waited (midway a b m) = m
      waited (broke a b c d y) = early d
      waited (on x ms a c r) = early (next_turn t u (said_by e.sent) x (next_onward t u (said_by e.sent) ∙ c))
  breaking {u} (goes {w = w} {e = e} {rest = rest} f g i) p k side =
      let v = said_by e.sent in
      let ih = breaking i (proper_next t u v w p g) (both (proper_sent e.sent) (every proper_sent (sent_in rest)) k).1 side in (
        λ x.
            forwarded_last e rest f
            ∙ ⊎_elim (λ y. absurd y.2) (λ y. ih.0 (y.0, y.2))
            (led_on t u v (saying rest) x.0 (verdict side) (course u p x.1) w g),
        λ h.
            let x = ih.1 (sym (forwarded_last e rest f) ∙ h) in
            (flip v ∷ x.0, goes_on u v w (saying rest) x.0 (verdict side) (onward_is t u v (some w) g) x.1),
      )
  breaking {u} (stops {e = e} {rest = rest} c j f n d a b) p k side =
      let v = said_by e.sent in
      let last = blamed_last e rest e.sent.side side c j f in (
        λ x.
            let y = led_nowhere t u v (saying rest) x.0 (verdict side) (course u p x.1) n in
            last.1 (y.0, ⊎_elim (λ m. absurd m) (λ z. verdict_eq z.1) y.2),
        λ h.
            let y = last.0 h in (
              [],
              subst (λ l. Runs (synth u) (v ∷ l) [] (verdict side)) (sym y.0)
                  (subst (λ s. Runs (synth u) (v ∷ []) [] (verdict s)) y.1 (breaks u v (onward_is t u v none n) d)),
            ),
      )

-- ---- the theorems

-- under edition 1 nobody is blamed for coming out of turn
pub first_in_turn : FirstInTurn
unfolding in_turn every for_early view table_of
first_in_turn s p x one sent = go [] (conversation (reads s).table sent) refl
  where
    first : edition_of (reads s).table ≡ 1
    first = sym (edition_is s p x) ∙ one

    not_four : (earlier : List Event) (e : Event) (later : List Event) → conversation (reads s).table sent ≡ earlier ++ (e ∷ later)
        → (v : Told) → e.done.verdict ≡ v → not (for_early v) ≡ true
    not_four earlier e later f (refused q) g = refl
    not_four earlier e later f forwarded g = refl
    not_four earlier e later f (blamed side r k) g = ap not (refuted (eqb r 4) (λ z.
        none_early (reads s).table (read_sound s (is_read s p x)) first sent earlier e later f side k (g ∙ ap (λ r. blamed side r k) (eqb-true r 4 z))))

    go : (past rest : List Event) → conversation (reads s).table sent ≡ past ++ rest → in_turn rest ≡ true
    go past [] f = refl
    go past (e ∷ rest) f =
        join (not_four past e rest f e.done.verdict refl) (go (past ++ (e ∷ [])) rest (f ∙ sym (append_assoc past (e ∷ []) rest)))

module _ (s : List ℕ) (t : Protocol) (x : TextOf s t) (sent : List Sent) (i : in_turn (conversation (reads s).table sent) ≡ true) where
  abbrev events : List Event
  events = conversation (reads s).table sent

  followed : Follows t t.type events
  unfolding leads forwarded_ones blamed_first
  followed = follows t [] events t.type refl refl (type_demand s t x sent).each i

pub same_verdicts : SameVerdicts
same_verdicts s t x sent side told i = verdicts t (followed s t x sent i) (proper s t x) side told

pub same_told : SameTold
same_told s t x sent i = (tells_all t (followed s t x sent i), λ told K r. tells_only t (followed s t x sent i) (proper s t x) told K r)

pub same_breaks : SameBreaks
same_breaks s t x sent k i side =
    let d = (type_demand s t x sent).all_met in
    let b = breaking t (followed s t x sent i) (proper s t x) (ap (every proper_sent) d ∙ k) side in (
      λ y. b.0 (y.0, subst (λ l. Runs (synth t.type) (map said_by l) y.0 (verdict side)) (sym d) y.1),
      λ e. let y = b.1 e in (y.0, subst (λ l. Runs (synth t.type) (map said_by l) y.0 (verdict side)) d y.1),
    )
