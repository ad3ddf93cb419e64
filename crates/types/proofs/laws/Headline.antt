-- Demand 2 with the type in place of the table: rules that go together meet the same demand.
-- Assumes nothing.
use mathlib.Core.Path.{◌≡◌, refl, sym, ap, ap₂, subst, ◌∙◌}
use mathlib.Core.Logic.{◌↔◌}
use mathlib.Core.Bool.{Bool, true, false, ◌&&◌, ◌||◌, cond}
use mathlib.Core.List.{List}
use mathlib.Core.Option.{Option, none, some, some-injective}
use Prim.Native.Nat.{ℕ}
use lib.Dec.{eqb}
use Rattle.table.specs.Table.{is_choice, speaker, is_party}
use Rattle.table.specs.View.{view}
use Rattle.message.specs.Message.{read}
use Rattle.message.specs.Judge.{Judgement, allowed, forbidden}
use Rattle.message.specs.Rules.{Rules, table_rules, turn, next, led, listens, judge_said}
use Rattle.message.proofs.laws.Judge.{none_some}
use Rattle.grammar.specs.Grammar.{Ty, Protocol}
use Rattle.grammar.specs.Reading.{reads}
use Rattle.grammar.proofs.laws.Reads.{read_sound}
use Rattle.conversation.specs.Step.{blamed}
use Rattle.conversation.specs.Conversation.{Sent, Event, said_by, forwarded_ones, Judgeable, refusal_of, Handled, Met, Watched, Early, BlamedEarly}
use Rattle.conversation.proofs.claims.DemandTwo.{demand_two}
use Rattle.conversation.proofs.claims.EarlyBlamed.{early_blamed}
use Rattle.spelling.specs.TextOf.{TextOf}
use Rattle.spelling.proofs.laws.TextOf.{is_read}
use Rattle.types.specs.Types.{protocol_rules}
use Rattle.types.proofs.laws.StandsFor.{Alike, neither, each}
use Rattle.types.proofs.laws.Agree.{why, RulesAlike, next_alike, StandsFor, led_alike}
use Rattle.types.proofs.laws.TextRules.{text_rules}

why_forbids : {A : Type 0} (j : Judgement A) (r : ℕ) (f : Option ℕ) → why j ≡ some (r, f) → j ≡ forbidden r f
unfolding why
why_forbids (allowed a) r f e = none_some e
why_forbids (forbidden x g) r f e = ap (λ (p : ℕ × Option ℕ). forbidden p.0 p.1) (some-injective _ _ e)

-- ---- what is so of a message at b by the second rules is so at a by the first

record Implied {A B : Type 0} (ra : Rules A) (rb : Rules B) (a : A) (b : B) (earlier : List Event) (m : Sent) : Type 0 where
  judgeable : Judgeable rb earlier b m → Judgeable ra earlier a m
  leads : (j : B) × (next rb b (said_by m) ≡ some j) → (i : A) × (next ra a (said_by m) ≡ some i)
  forbids : next rb b (said_by m) ≡ none → next ra a (said_by m) ≡ none
  reason : (n : ℕ) (f : Option ℕ) → judge_said rb b (said_by m) ≡ forbidden n f → judge_said ra a (said_by m) ≡ forbidden n f

module _ {A B : Type 0} (R : A → B → Type 0) (ra : Rules A) (rb : Rules B) (g : RulesAlike R ra rb)
    (a : A) (b : B) (r : R a b) (earlier : List Event) (m : Sent) where
  listens_same : listens ra a m.side ≡ listens rb b m.side
  unfolding listens
  listens_same = ap₂ (λ s e. is_party m.side (speaker s) || (eqb e 2 && is_choice s)) (g.sorted a b r) g.editions

  why_same : why (judge_said ra a (said_by m)) ≡ why (judge_said rb b (said_by m))
  unfolding judge_said why
  why_same =
      ap (λ s. why (cond (is_party m.side (speaker s)) (ra.judge a (read m.bytes)) (forbidden 4 none))) (g.sorted a b r)
      ∙ when (is_party m.side (turn rb b)) (ra.judge a (read m.bytes)) (rb.judge b (read m.bytes)) (g.whys a b r (read m.bytes))
    where
      when : (c : Bool) (i : Judgement A) (j : Judgement B) → why i ≡ why j → why (cond c i (forbidden 4 none)) ≡ why (cond c j (forbidden 4 none))
      when true i j e = e
      when false i j e = refl

  implied : Implied ra rb a b earlier m
  unfolding why
  implied =
      record {
        judgeable = λ j. record { unblamed = j.unblamed; listened = listens_same ∙ j.listened; formed = j.formed; room = j.room };
        leads = λ x. on (next_alike R ra rb g a b r (said_by m)) x.0 x.1;
        forbids = λ e. off (next_alike R ra rb g a b r (said_by m)) e;
        reason = λ n f e. why_forbids _ n f (why_same ∙ ap (λ (j : Judgement B). why j) e);
      }
    where
      on : {o : Option A} {p : Option B} → Alike R o p → (j : B) → p ≡ some j → (i : A) × (o ≡ some i)
      on neither j e = none_some e
      on (each {a = i} y) j e = (i, refl)

      off : {o : Option A} {p : Option B} → Alike R o p → p ≡ none → o ≡ none
      off neither e = refl
      off (each x) e = none_some (sym e)

  refusal_same : refusal_of ra earlier a m ≡ refusal_of rb earlier b m
  unfolding refusal_of
  refusal_same = rw (g.sorted a b r, listens_same)

-- ---- and the other way round

module _ {A B : Type 0} (R : A → B → Type 0) (ra : Rules A) (rb : Rules B) (g : RulesAlike R ra rb) where
  abbrev Turned : B → A → Type 0
  Turned b a = R a b

  turned : RulesAlike Turned rb ra
  turned =
      record {
        begins = g.begins;
        sorted = λ b a r. sym (g.sorted a b r);
        steps = λ b a r m. go (g.steps a b r m);
        whys = λ b a r m. sym (g.whys a b r m);
        editions = sym g.editions;
      }
    where
      go : {o : Option A} {p : Option B} → Alike R o p → Alike Turned p o
      go neither = neither
      go (each r) = each r

  handled_alike : (a : A) (b : B) → R a b → (earlier : List Event) (e : Event) → Handled rb earlier b e → Handled ra earlier a e
  handled_alike a b r earlier e h =
      let to = implied R ra rb g a b r earlier e.sent in
      let back = implied Turned rb ra turned b a r earlier e.sent in
      let same = refusal_same R ra rb g a b r earlier e.sent in
      record {
        forwards = (
          λ f. let x = h.forwards.0 f in (to.judgeable x.0, to.leads x.1),
          λ x. h.forwards.1 (back.judgeable x.0, back.leads x.1),
        );
        writes = h.writes;
        blames = λ side n f. (
          λ z. let x = (h.blames side n f).0 z in (to.judgeable x.0, to.forbids x.1, x.2, to.reason n f x.3),
          λ x. (h.blames side n f).1 (back.judgeable x.0, back.forbids x.1, x.2, back.reason n f x.3),
        );
        stays = h.stays;
        refuses = λ q. (λ z. let x = (h.refuses q).0 z in (x.0 ∙ sym same, x.1), λ x. (h.refuses q).1 (x.0 ∙ same, x.1));
        leaves = h.leaves;
      }

  met_alike : (earlier : List Event) (e : Event) → Met rb earlier e → Met ra earlier e
  met_alike earlier e d = go (led_alike R ra rb g (forwarded_ones earlier)) refl d.there
    where
      go : {o : Option A} {p : Option B} → Alike R o p → led ra (forwarded_ones earlier) ≡ o → p ≡ some d.place → Met ra earlier e
      go neither f h = none_some h
      go (each {a} {b} r) f h =
          record {
            place = a;
            there = f;
            handled = handled_alike a d.place (subst (R a) (some-injective _ _ h) r) earlier e d.handled;
            for_ever = d.for_ever;
          }

pub type_demand : (s : List ℕ) (t : Protocol) → TextOf s t → (sent : List Sent)
    → Watched (protocol_rules t) (reads s).table sent
type_demand s t x sent =
    let T = view (reads s).table in
    let d = (demand_two (reads s).table (read_sound s (is_read s t x)) sent).demand in
    record {
      all_met = d.all_met;
      each = λ earlier e later f.
          met_alike (StandsFor T) (protocol_rules t) (table_rules T) (text_rules s t x) earlier e (d.each earlier e later f);
    }

-- ---- early messages

early_alike : {A B : Type 0} (R : A → B → Type 0) (ra : Rules A) (rb : Rules B) → RulesAlike R ra rb → (a : A) (b : B) → R a b
    → (earlier : List Event) (m : Sent) → Early rb earlier b m → Early ra earlier a m
early_alike R ra rb g a b r earlier m x =
    let sorts = g.sorted a b r in
    record {
      second = g.editions ∙ x.second;
      unblamed = x.unblamed;
      goes_on = ap is_choice sorts ∙ x.goes_on;
      out_of_turn = ap (λ s. is_party m.side (speaker s)) sorts ∙ x.out_of_turn;
      formed = x.formed;
      room = x.room;
    }

pub type_early : (s : List ℕ) (t : Protocol) → TextOf s t → (sent : List Sent)
    → BlamedEarly (protocol_rules t) (reads s).table sent
type_early s t x sent earlier e later f u there = go (led_alike R ra rb g (forwarded_ones earlier)) refl there
  where
    R : Ty → ℕ → Type 0
    R = StandsFor (view (reads s).table)

    ra : Rules Ty
    ra = protocol_rules t

    rb : Rules ℕ
    rb = table_rules (view (reads s).table)

    g : RulesAlike R ra rb
    g = text_rules s t x

    go : {o : Option Ty} {p : Option ℕ} → Alike R o p → led rb (forwarded_ones earlier) ≡ p → o ≡ some u
        → (e.done.verdict ≡ blamed e.sent.side 4 none) ↔ Early ra earlier u e.sent
    go neither k i = none_some i
    go (each {a} {b} r) k i =
        let x = early_blamed (reads s).table (read_sound s (is_read s t x)) sent earlier e later f b k in
        let q = subst (λ x. R x b) (some-injective _ _ i) r in (
          λ z. early_alike R ra rb g u b q earlier e.sent (x.0 z),
          λ y. x.1 (early_alike (Turned R ra rb g) rb ra (turned R ra rb g) b u q earlier e.sent y),
        )
