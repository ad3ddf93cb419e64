-- Programs in codes: the two bytes and the counts that are kept stand for the state and the counts of the monitor's own calls, and what each
-- call gives says what the monitor's own gives.
-- Assumes nothing.
use mathlib.Core.Path.{◌≡◌, refl, sym, ap, ap₂, subst, ◌∙◌}
use mathlib.Core.Logic.{◌↔◌, ⊎_elim}
use mathlib.Core.Bool.{Bool, true, false, cond}
use mathlib.Core.List.{List, [], ◌∷◌, ◌++◌}
use mathlib.Core.Option.{Option, none, some}
use Prim.Native.Nat.{ℕ, zero, suc, ◌≤◌}
use native.Mathlib.Omega.{arith}
use lib.Dec.{eqb}
use borrow.Author.Tests.{eqb-true, eqb-false}
use Rattle.table.specs.Lists.{first_no}
use Rattle.table.specs.View.{Words, sort_at}
use Rattle.table.specs.declared.Party.{Party}
use Rattle.table.specs.declared.Party.TheVariants.{Device, Host}
use Rattle.table.proofs.laws.Lists.{decided}
use Rattle.message.specs.Rules.{Rules}
use Rattle.message.proofs.laws.Judge.{none_some, some_eq}
use Rattle.conversation.specs.declared.Standing.{Standing}
use Rattle.conversation.specs.declared.Standing.TheVariants.{Running, DeviceBlamed, HostBlamed}
use Rattle.conversation.specs.declared.State.{State}
use Rattle.conversation.specs.Step.{of_state, Told, refused, blamed, forwarded, refusing}
use Rattle.conversation.specs.Due.{Awaited, of_side, awaited}
use Rattle.conversation.specs.Due as D
use Rattle.conversation.specs.Counts.{Counts, counts_sound, starting, counted_turn}
use Rattle.conversation.specs.Batch.{Batch, lent}
use Rattle.conversation.specs.Programs.{called, given_state, given_counts, run_on, program, run_from, WatchedCalls}
use Rattle.conversation.proofs.laws.Step.{zero_or, stops_there, goes_on}
use Rattle.conversation.proofs.laws.Conversation.{refused_forwarded, refused_blamed, forwarded_blamed, refused_eq, blamed_eq}
use Rattle.conversation.proofs.laws.Due.{refused_turn, device_awaited, host_awaited}
use Rattle.codes.specs.Codes.{code_side, party_code, standing_code, standing_of, state_bytes, turn_codes, verdict_codes, last_codes}
use Rattle.codes.specs.Calls.{stepping_as, bytes_after, crossing, step_codes, batch_codes, due_codes}
use Rattle.codes.specs.RawPrograms.{RawCall, raw_step, raw_batch, raw_turn, raw_due, step_gives, Kept, raw_called, kept_after, kept_from, call_of, calls_of, StateSays, VerdictSays, LastSays, BatchSays, TurnSays, DueSays, device_is_0, host_is_1, RawSays, says_step, says_nobodys_turn, says_no_side, says_batch, says_turn, says_due, WatchedRaw}
use Rattle.codes.proofs.laws.Codes.{party_same, standing_same, state_same}
use Rattle.codes.proofs.claims.CodesStep.{codes_step}
use Rattle.codes.proofs.claims.CodesBatch.{codes_batch}

-- ---- what the numbers say

is_side : (p q : Party) → party_code p ≡ party_code q → p ≡ q
is_side p q e = some_eq (sym (party_same p) ∙ ap code_side e ∙ party_same q)

-- a blame, with the field's number, if there is one
blame_says : (side : Party) (n g : ℕ) (f : Option ℕ) → ((k : ℕ) → f ≡ some k → g ≡ k)
    → VerdictSays (record { outcome = 2; question = 0; party = party_code side; reason = n; field = g }) (blamed side n f)
blame_says side n g f h =
    record {
      forwards = (λ e. absurd (omega (arith, e)), λ e. forwarded_blamed (sym e));
      refuses = λ q. (λ x. absurd (omega (arith, x.0)), λ e. refused_blamed (sym e));
      blames_device = λ m. by Device m;
      blames_host = λ m. by Host m;
      outside = λ p m k e. h k (blamed_eq e).2;
    }
  where
    by : (p : Party) (m : ℕ)
        → ((◌≡◌ {A = ℕ} 2 2) × (party_code side ≡ party_code p) × (n ≡ m)) ↔ ((f' : Option ℕ) × (blamed side n f ≡ blamed p m f'))
    by p m = (
      λ x. (f, ap₂ (λ p m. blamed p m f) (is_side side p x.1) x.2),
      λ y. let z = blamed_eq y.1 in (refl, ap party_code z.0, z.1),
    )

verdict_says : (v : Told) → VerdictSays (verdict_codes v) v
verdict_says forwarded =
    record {
      forwards = (λ e. refl, λ e. refl);
      refuses = λ q. (λ x. absurd (omega (arith, x.0)), λ e. refused_forwarded (sym e));
      blames_device = λ n. (λ x. absurd (omega (arith, x.0)), λ y. forwarded_blamed y.1);
      blames_host = λ n. (λ x. absurd (omega (arith, x.0)), λ y. forwarded_blamed y.1);
      outside = λ side n f e. forwarded_blamed e;
    }
verdict_says (refused q) =
    record {
      forwards = (λ e. absurd (omega (arith, e)), λ e. refused_forwarded e);
      refuses = λ p. (λ x. ap refused x.1, λ e. (refl, refused_eq e));
      blames_device = λ n. (λ x. absurd (omega (arith, x.0)), λ y. refused_blamed y.1);
      blames_host = λ n. (λ x. absurd (omega (arith, x.0)), λ y. refused_blamed y.1);
      outside = λ side n f e. refused_blamed e;
    }
verdict_says (blamed side n none) = blame_says side n 0 none (λ k e. none_some e)
verdict_says (blamed side n (some f)) = blame_says side n f (some f) (λ k e. some_eq e)

last_says : (o : Option Told) → LastSays (last_codes o) o
last_says none = record { none_due = (λ e. refl, λ e. refl); answers = λ x e. none_some e }
last_says (some v) =
    record {
      none_due = (λ e. absurd (few v e), λ e. none_some (sym e));
      answers = λ x e. subst (VerdictSays (verdict_codes v)) (some_eq e) (verdict_says v);
    }
  where
    few : (v : Told) → (verdict_codes v).outcome ≡ 3 → ⊥
    few forwarded e = omega (arith, e)
    few (refused q) e = omega (arith, e)
    few (blamed side n none) e = omega (arith, e)
    few (blamed side n (some f)) e = omega (arith, e)

batch_says : (b : Batch) → BatchSays (batch_codes b) b
unfolding batch_codes
batch_says b = record { device = (refl, refl); host = (refl, refl); last = last_says b.last }

side_eq : {p q : Party} → of_side p ≡ of_side q → p ≡ q
side_eq e = cc

nobodys : {X : Type 0} {q : ℕ} {side : Party} → D.refused q ≡ of_side side → X
nobodys e = let z : ◌≡◌ {A = ℕ} 0 1 = cc in absurd (omega arith)

apart : {X : Type 0} → Device ≡ Host → X
apart e = absurd (omega (arith, ap party_code e))

due_says : (a : Awaited) (device host : List ℕ) → DueSays (due_codes a device host) a device host
unfolding due_codes
due_says (D.refused q) device host = record { device = λ e. nobodys e; host = λ e. nobodys e; nobody = λ r e. refl }
due_says (of_side Device) device host =
    record { device = λ e. (refl, refl); host = λ e. apart (side_eq e); nobody = λ r e. nobodys (sym e) }
due_says (of_side Host) device host =
    record { device = λ e. apart (sym (side_eq e)); host = λ e. (refl, refl); nobody = λ r e. nobodys (sym e) }

-- no turn is refused with 0
turn_says : (a : Awaited) → (a ≡ D.refused 0 → ⊥) → TurnSays (turn_codes a) a
turn_says (D.refused q) n =
    record {
      refuses = λ r z. (λ e. ap D.refused e, λ e. cc);
      device = (λ x. absurd (n (ap D.refused x.0)), λ e. nobodys e);
      host = (λ x. absurd (n (ap D.refused x.0)), λ e. nobodys e);
    }
turn_says (of_side side) n =
    record {
      refuses = λ r z. (λ e. absurd (z (sym e)), λ e. nobodys (sym e));
      device = (λ x. ap of_side (is_side side Device x.1), λ e. (refl, ap party_code (side_eq e)));
      host = (λ x. ap of_side (is_side side Host x.1), λ e. (refl, ap party_code (side_eq e)));
    }

state_says : (s : State) (c : Counts) → StateSays (record { bytes = state_bytes s; counts = c }) s c
state_says s c =
    record {
      two = refl;
      position = refl;
      running = by Running;
      device_blamed = by DeviceBlamed;
      host_blamed = by HostBlamed;
      counts = refl;
    }
  where
    by : (x : Standing) → (standing_code s.standing ≡ standing_code x) ↔ (s.standing ≡ x)
    by x = (λ e. sym (standing_same s.standing) ∙ ap standing_of e ∙ standing_same x, λ e. ap standing_code e)

-- ---- a step of a code that is no side's

module _ (t : Words) (s : State) (c : Counts) where
  -- its refusal, by whose turn it is
  data Turned (u : ℕ) : Awaited → Type 0 where
    nobodys_turn : {q : ℕ} → (q ≡ 0 → ⊥) → u ≡ q → Turned u (D.refused q)
    sides_turn : {side : Party} → u ≡ 12 → Turned u (of_side side)

  abbrev unsided : List (ℕ × Bool)
  unsided = of_state t s ++ ((12, false) ∷ [])

  turned_by : Turned (first_no unsided) (awaited t s)
  unfolding first_no
  turned_by = ⊎_elim closed (λ z. opened z (goes_on t s ((12, false) ∷ []) z)) (zero_or (first_no (of_state t s)))
    where
      closed : (first_no (of_state t s) ≡ 0 → ⊥) → Turned (first_no unsided) (awaited t s)
      closed n =
          rw (refused_turn t s (first_no (of_state t s)) refl n)
          (nobodys_turn n (stops_there t s ((12, false) ∷ []) (first_no (of_state t s)) refl n))

      opened : first_no (of_state t s) ≡ 0 → first_no unsided ≡ 12 → Turned (first_no unsided) (awaited t s)
      opened z u =
          ⊎_elim (λ e. rw (device_awaited t s z (eqb-true (sort_at t s.position) 1 e)) (sides_turn u))
          (λ e. rw (host_awaited t s z (eqb-false (sort_at t s.position) 1 e)) (sides_turn u)) (decided (eqb (sort_at t s.position) 1))

  turned : Turned (cond (counts_sound t c) (first_no unsided) 9) (counted_turn t s c)
  unfolding counted_turn
  turned = by (counts_sound t c)
    where
      by : (b : Bool) → Turned (cond b (first_no unsided) 9) (cond b (awaited t s) (D.refused 9))
      by true = turned_by
      by false = nobodys_turn {q = 9} (λ z. omega (arith, z)) refl

-- ---- one call

abbrev kept : State → Counts → Kept
kept s c = record { bytes = state_bytes s; counts = c }

module _ (t : Words) (s : State) (c : Counts) where
  -- no turn is refused with 0
  turn_no : counted_turn t s c ≡ D.refused 0 → ⊥
  turn_no e = by (subst (Turned t s c (cond (counts_sound t c) (first_no (unsided t s c)) 9)) e (turned t s c))
    where
      by : {u : ℕ} → Turned t s c u (D.refused 0) → ⊥
      by (nobodys_turn n e) = n refl

  module _ (n : ℕ) (message out : List ℕ) where
    abbrev of_none : RawCall
    of_none = raw_step (suc (suc n)) message out

    none_says : RawSays t s c of_none (raw_called t (kept s c) of_none).0
    unfolding raw_called step_codes crossing stepping_as refusing
    none_says = rw (state_same s) (by (counted_turn t s c) refl (turned t s c))
      where
        two : 2 ≤ suc (suc n)
        two = omega arith

        refused_as : {u q : ℕ} → u ≡ q → VerdictSays (verdict_codes (refused u)) (refused q)
        refused_as {u} {q} e = subst (λ u. VerdictSays (verdict_codes (refused u)) (refused q)) (sym e) (verdict_says (refused q))

        by : {u : ℕ} (a : Awaited) → counted_turn t s c ≡ a → Turned t s c u a
            → RawSays t s c of_none (step_gives (verdict_codes (refused u)) out)
        by (D.refused q) e (nobodys_turn m u) = says_nobodys_turn two e (refused_as u)
        by (of_side side) e (sides_turn u) = says_no_side two e (refused_as u)

    -- it changes nothing
    none_keeps : (raw_called t (kept s c) of_none).1 ≡ kept s c
    unfolding raw_called step_codes crossing stepping_as bytes_after refusing
    none_keeps = refl

  says : (x : RawCall) → RawSays t s c x (raw_called t (kept s c) x).0
  unfolding raw_called
  says (raw_step zero message out) = rw (codes_step t s c Device message out) (says_step device_is_0 (verdict_says _))
  says (raw_step (suc zero) message out) = rw (codes_step t s c Host message out) (says_step host_is_1 (verdict_says _))
  says (raw_step (suc (suc n)) message out) = none_says n message out
  says (raw_batch device host to_device to_host) = rw (codes_batch t s c (lent device host to_device to_host)) (says_batch refl (batch_says _))
  says raw_turn = rw (state_same s) (says_turn (turn_says (counted_turn t s c) turn_no))
  says (raw_due device host) = rw (state_same s) (says_due (due_says (counted_turn t s c) device host))

-- ---- one after another

module _ (t : Words) where
  kept_is : (raws : List RawCall) (s : State) (c : Counts)
      → kept_after t (kept s c) raws ≡ kept (program t s c (calls_of raws)).state (program t s c (calls_of raws)).counts
  unfolding kept_after raw_called call_of calls_of program run_on called given_state given_counts
  kept_is [] s c = refl
  kept_is (raw_step zero message out ∷ r) s c = rw (codes_step t s c Device message out) (kept_is r _ _)
  kept_is (raw_step (suc zero) message out ∷ r) s c = rw (codes_step t s c Host message out) (kept_is r _ _)
  kept_is (raw_step (suc (suc n)) message out ∷ r) s c = ap (λ k. kept_after t k r) (none_keeps t s c n message out) ∙ kept_is r s c
  kept_is (raw_batch device host to_device to_host ∷ r) s c = rw (codes_batch t s c (lent device host to_device to_host)) (kept_is r _ _)
  kept_is (raw_turn ∷ r) s c = kept_is r s c
  kept_is (raw_due device host ∷ r) s c = kept_is r s c

  -- from the start, over any rules
  pub watched_raw : {A : Type 0} (rules : Rules A) (z : ℕ) (raws : List RawCall) → WatchedCalls rules t z (calls_of raws) → WatchedRaw rules t z raws
  unfolding kept_from
  watched_raw rules z raws w =
      let k = kept_is raws (starting t z).state (starting t z).counts in
      let r = run_from t z (calls_of raws) in
      record {
        starts = w.starts;
        watched = w;
        keeps = subst (λ (k : Kept). StateSays k r.state r.counts) (sym k) (state_says r.state r.counts);
        says = λ x. subst (λ (k : Kept). RawSays t r.state r.counts x (raw_called t k x).0) (sym k) (says t r.state r.counts x);
      }
