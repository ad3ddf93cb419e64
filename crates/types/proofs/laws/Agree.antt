-- Rules that go together: under one edition, related places have the same sort, a message leads both on, to related places, or neither, and
-- both forbid it for the same reason. Such rules allow and complete the same lists, and meet the same demand. So do a type's and its table's.
-- Assumes nothing.
use mathlib.Core.Path.{◌≡◌, refl, sym, ap, subst, ◌∙◌}
use mathlib.Core.Bool.{Bool, true, false, ◌&&◌, cond}
use mathlib.Core.List.{List, [], ◌∷◌}
use mathlib.Core.Option.{Option, none, some}
use Prim.Native.Nat.{ℕ, suc, ◌+◌}
use lib.ListN.{length}
use borrow.Author.Tests.{eq-eqb}
use Rattle.table.specs.Lists.{matched, same}
use Rattle.table.specs.Table.{Branch, Table, sort, is_choice, speaker, is_party}
use Rattle.table.specs.Table as T
use Rattle.table.specs.View.{label_of}
use Rattle.table.proofs.laws.Lists.{never}
use Rattle.message.specs.Message.{Message, Value}
use Rattle.message.specs.Judge.{same_kind, names, goes, allows, Judgement, allowed, forbidden, first_outside, by_range, by_fields, judge_among, judge}
use Rattle.message.specs.Rules.{Rules, table_rules, Said, and_then, is_some, turn, next, leads, led, allowed_list, completed_list}
use Rattle.grammar.specs.Grammar.{Ty, Br, last, also, Protocol, sorts, Scope, nothing_bound, first_state, branch_for, edition_named, table_of, recs_guarded}
use Rattle.types.specs.Types.{opened, judge_br, sort_opened, allows_opened, judge_opened, protocol_rules}
use Rattle.types.proofs.laws.Close.{Closed, Meaning, close, close_br, no_meaning, close_none}
use Rattle.types.proofs.laws.Front.{closed_no_name}
use Rattle.types.proofs.laws.StandsFor.{own, Alike, neither, each, none_yet, Represents, Head, an_end, a_choice, head, goes_alike}
use Rattle.types.proofs.laws.Numbering.{at, table_stands, allows_at, judge_at}

-- why a judgement forbids
unfoldable pub why : {A : Type 0} → Judgement A → Option (ℕ × Option ℕ)
why (allowed a) = none
why (forbidden r f) = some (r, f)

pub record RulesAlike {A B : Type 0} (R : A → B → Type 0) (ra : Rules A) (rb : Rules B) : Type 0 where
  pub begins : R ra.start rb.start
  pub sorted : (a : A) (b : B) → R a b → ra.sort a ≡ rb.sort b
  pub steps : (a : A) (b : B) → R a b → (m : Message) → Alike R (ra.allows a m) (rb.allows b m)
  pub whys : (a : A) (b : B) → R a b → (m : Message) → why (ra.judge a m) ≡ why (rb.judge b m)
  pub editions : ra.edition ≡ rb.edition

module _ {A B : Type 0} (R : A → B → Type 0) (ra : Rules A) (rb : Rules B) (g : RulesAlike R ra rb) where
  pub next_alike : (a : A) (b : B) → R a b → (v : Said) → Alike R (next ra a v) (next rb b v)
  unfolding next
  next_alike a b r v =
      subst (λ s. Alike R (cond (is_party v.side (speaker s)) (ra.allows a v.message) none) (next rb b v)) (sym (g.sorted a b r))
      (when (is_party v.side (turn rb b)) (g.steps a b r v.message))
    where
      when : (c : Bool) {o : Option A} {p : Option B} → Alike R o p → Alike R (cond c o none) (cond c p none)
      when true i = i
      when false i = neither

  pub leads_alike : (vs : List Said) (a : A) (b : B) → R a b → Alike R (leads ra a vs) (leads rb b vs)
  unfolding leads
  leads_alike [] a b r = each r
  leads_alike (v ∷ vs) a b r = go (next_alike a b r v) (λ a b r. leads_alike vs a b r)
    where
      go : {o : Option A} {p : Option B} → Alike R o p → ((a : A) (b : B) → R a b → Alike R (leads ra a vs) (leads rb b vs))
          → Alike R (and_then o (λ a. leads ra a vs)) (and_then p (λ b. leads rb b vs))
      go neither i = neither
      go (each {a} {b} r) i = i a b r

  pub led_alike : (vs : List Said) → Alike R (led ra vs) (led rb vs)
  led_alike vs = leads_alike vs ra.start rb.start g.begins

  pub allowed_alike : (vs : List Said) → allowed_list ra vs ≡ allowed_list rb vs
  unfolding allowed_list
  allowed_alike vs = go (led_alike vs)
    where
      go : {o : Option A} {p : Option B} → Alike R o p → is_some o ≡ is_some p
      go neither = refl
      go (each r) = refl

  pub completed_alike : (vs : List Said) → completed_list ra vs ≡ completed_list rb vs
  unfolding completed_list
  completed_alike vs = go (led_alike vs)
    where
      over : (c : Bool) (a : A) (b : B) → is_some (cond c none (some a)) ≡ is_some (cond c none (some b))
      over true a b = refl
      over false a b = refl

      go : {o : Option A} {p : Option B} → Alike R o p
          → is_some (and_then o (λ a. cond (is_choice (ra.sort a)) none (some a)))
          ≡ is_some (and_then p (λ b. cond (is_choice (rb.sort b)) none (some b)))
      go neither = refl
      go (each {a} {b} r) = ap (λ s. is_some (cond (is_choice s) none (some a))) (g.sorted a b r) ∙ over (is_choice (rb.sort b)) a b

-- ---- a represented type and its state

why_fields : {A B : Type 0} (fs : List T.Field) (a : A) (b : B) (vs : List Value) → why (by_fields fs a vs) ≡ why (by_fields fs b vs)
unfolding by_fields by_range why
why_fields fs a b vs = go (matched same_kind fs vs) (first_outside 0 fs vs)
  where
    go : (c : Bool) (o : Option ℕ) → why (cond c (by_range a o) (forbidden 2 none)) ≡ why (cond c (by_range b o) (forbidden 2 none))
    go true none = refl
    go true (some f) = refl
    go false o = refl

why_own : (bs : Br) (e : Scope) (ρ : Meaning) (o n : ℕ) (m : Message)
    → why (judge_br (close_br bs ρ) m) ≡ why (judge_among (own bs e o n) o m)
unfolding judge_among names why
why_own (last l fs sh t) e ρ o n m =
    go (same (label_of l) m.label)
    ∙ sym (ap (λ c. why (cond (c && same (label_of l) m.label) judged (forbidden 1 none))) (eq-eqb o o refl))
  where
    b : Branch
    b = branch_for o l fs (first_state t e n)

    judged : Judgement ℕ
    judged = by_fields b.fields b.target m.values

    go : (c : Bool)
        → why (cond c (by_fields b.fields (close t ρ) m.values) (forbidden 1 none)) ≡ why (cond c judged (forbidden 1 none))
    go true = why_fields b.fields (close t ρ) b.target m.values
    go false = refl
why_own (also l fs sh t bs) e ρ o n m =
    go (same (label_of l) m.label) (why_own bs e ρ o (n + length (sorts t)) m)
    ∙ sym (ap (λ c. why (cond (c && same (label_of l) m.label) judged (judge_among rest o m))) (eq-eqb o o refl))
  where
    b : Branch
    b = branch_for o l fs (first_state t e n)

    judged : Judgement ℕ
    judged = by_fields b.fields b.target m.values

    rest : List Branch
    rest = own bs e o (n + length (sorts t))

    go : (c : Bool) → why (judge_br (close_br bs ρ) m) ≡ why (judge_among rest o m)
        → why (cond c (by_fields b.fields (close t ρ) m.values) (judge_br (close_br bs ρ) m))
        ≡ why (cond c judged (judge_among rest o m))
    go true i = why_fields b.fields (close t ρ) b.target m.values
    go false i = i

module _ (T : Table) where
  -- state n of the table stands for the type u
  abbrev pub StandsFor : Ty → ℕ → Type 0
  StandsFor u n = Represents (sort T) (at T) u n

  pub sort_alike : (u : Ty) (n : ℕ) → StandsFor u n → sort_opened (opened u) ≡ sort T n
  sort_alike u n r = go (head (sort T) (at T) r)
    where
      go : {w : Ty} → Head (sort T) (at T) n w → sort_opened w ≡ sort T n
      go (an_end e f) = sym e
      go (a_choice e ρ s bs w st g c) = sym st.0

  pub allows_alike : (u : Ty) (n : ℕ) → StandsFor u n → (m : Message) → Alike StandsFor (allows_opened (opened u) m) (allows T n m)
  unfolding goes
  allows_alike u n r m = subst (Alike StandsFor (allows_opened (opened u) m)) (sym (allows_at T n m)) (go (head (sort T) (at T) r))
    where
      go : {w : Ty} → Head (sort T) (at T) n w → Alike StandsFor (allows_opened w m) (goes (at T n) n m)
      go (an_end e f) = rw f neither
      go (a_choice e ρ s bs w st g c) = rw st.1 (goes_alike (sort T) (at T) bs e ρ n (suc n) m w st.2 g c)

  pub why_alike : (u : Ty) (n : ℕ) → StandsFor u n → (m : Message) → why (judge_opened (opened u) m) ≡ why (judge T n m)
  unfolding judge_among why
  why_alike u n r m = go (head (sort T) (at T) r) ∙ ap (λ (j : Judgement ℕ). why j) (sym (judge_at T n m))
    where
      go : {w : Ty} → Head (sort T) (at T) n w → why (judge_opened w m) ≡ why (judge_among (at T n) n m)
      go (an_end e f) = rw f
      go (a_choice e ρ s bs w st g c) = why_own bs e ρ n (suc n) m ∙ ap (λ bs. why (judge_among bs n m)) (sym st.1)

  pub rules_alike : (p : Protocol) → StandsFor p.type 0 → edition_named p.opening ≡ T.edition → RulesAlike StandsFor (protocol_rules p) (table_rules T)
  rules_alike p b e = record { begins = b; sorted = sort_alike; steps = allows_alike; whys = why_alike; editions = e }

-- ---- the start

pub starts : (p : Protocol) → Closed p.type → recs_guarded p.type ≡ true → StandsFor (table_of p) p.type 0
starts p c g =
    record {
      tree = p.type;
      scope = nothing_bound;
      meaning = no_meaning;
      means = none_yet;
      stands = table_stands p;
      no_name = closed_no_name p.type c g;
      guard = g;
      covers = λ z f n. never f (c z);
      is = ap opened (sym (close_none p.type));
    }
