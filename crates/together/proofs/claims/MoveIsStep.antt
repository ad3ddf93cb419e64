-- A move does to position and standing what one step does with its message.
-- Assumes nothing.
use mathlib.Core.Path.{◌≡◌, refl, sym, ap, ap₂, ◌∙◌}
use mathlib.Core.Bool.{Bool, true, false, ◌||◌, cond}
use mathlib.Core.Option.{Option, none, some}
use Prim.Native.Nat.{ℕ}
use native.Mathlib.Omega.{arith}
use lib.ListN.{length}
use lib.Dec.{eqb}
use Rattle.table.specs.View.{view}
use Rattle.message.specs.Message.{Message, read}
use Rattle.message.specs.Judge.{judge, allows}
use Rattle.message.specs.Rules.{table_rules, next}
use Rattle.table.specs.declared.Party.{Party}
use Rattle.table.specs.declared.Party.TheVariants.{Device, Host}
use Rattle.conversation.specs.Step.{step_questions, refusing, blaming, forwarding, judging, stepping}
use Rattle.table.specs.Lists.{first_no}
use Rattle.table.specs.Table.{speaker, is_party}
use Rattle.machine.specs.Machine.{from_device, from_host, host_early, by_side, effect}
use Rattle.together.specs.Together.{said_in, running_at, step_with, DeviceHas, Together, MoveIsStep}
use Rattle.table.specs.Table as T
use Rattle.together.proofs.laws.Together.{asks, clash, early, faulty_device, faulty_host, idle, judged_none, judged_some, no_turn, onward, turn, unsaid, untaken, ways, never}

pub move_is_step : MoveIsStep
unfolding effect by_side from_device from_host host_early T.same_sort T.sort_code T.is_choice is_party speaker next
move_is_step D d p sound i j inside alike v formed out room =
    go (d.sort i) (T.sort (view p) j) refl refl alike (eqb (view p).edition 2) refl v.side refl (d.allows i m) (allows (view p) j m) refl refl
  where
    m : Message
    m = read v.bytes

    does : (sd sp : T.Sort) (b : Bool) (s : Party) (x : Option D) (y : Option ℕ) → d.sort i ≡ sd → T.sort (view p) j ≡ sp → eqb (view p).edition 2 ≡ b
        → v.side ≡ s → d.allows i m ≡ x → allows (view p) j m ≡ y → effect d (table_rules (view p)) i j v ≡ ways sd sp b s x y
    does sd sp b Device x y ed ep eb es ex ey = rw (formed, es, ed, ex, ey)
    does sd sp b Host x y ed ep eb es ex ey = rw (formed, es, ep, eb, ex, ey)

    asks_here : (side : Party) (s : T.Sort) (b : Bool) → T.sort (view p) j ≡ s → eqb (view p).edition 2 ≡ b
        → first_no (step_questions p (running_at j) side v.bytes (length out)) ≡ cond (T.is_choice s) (cond (is_party side (speaker s) || b) 0 12) 11
    asks_here side s b e f =
        asks p sound j inside side v.bytes formed out room ∙ ap₂ (λ s b. cond (T.is_choice s) (cond (is_party side (speaker s) || b) 0 12) 11) e f

    refuses : (q : ℕ) (s : Party) → v.side ≡ s → first_no (step_questions p (running_at j) s v.bytes (length out)) ≡ q → (q ≡ 0 → ⊥)
        → step_with p j v out ≡ refusing q (running_at j) out
    refuses q s es a n = ap (λ s. stepping p (running_at j) s v.bytes out) es ∙ no_turn p sound j inside s v.bytes formed out room q a n

    -- it is judged, on a side's turn
    OnTurn : Party → Type 0
    OnTurn s =
        (first_no (step_questions p (running_at j) s v.bytes (length out)) ≡ 0) × (is_party s (speaker (T.sort (view p) j)) ≡ true)

    devices : T.sort (view p) j ≡ T.sends → OnTurn Device
    devices e = (asks_here Device T.sends _ e refl, ap (λ k. is_party Device (speaker k)) e)

    hosts : T.sort (view p) j ≡ T.receives → OnTurn Host
    hosts e = (asks_here Host T.receives _ e refl, ap (λ k. is_party Host (speaker k)) e)

    judges : (s : Party) → v.side ≡ s → OnTurn s → step_with p j v out ≡ judging (judge (view p) j m) (running_at j) s v.bytes out
    judges s es a = ap (λ s. stepping p (running_at j) s v.bytes out) es ∙ turn p sound j inside s v.bytes formed out room a.0 a.1

    allowed_by : (s : Party) (b : ℕ) → v.side ≡ s → OnTurn s → allows (view p) j m ≡ some b
        → step_with p j v out ≡ forwarding b v.bytes (running_at j) out
    allowed_by s b es a e = judges s es a ∙ judged_some p sound j inside s v.bytes formed out room b e

    forbidden_by : (s : Party) → v.side ≡ s → OnTurn s → allows (view p) j m ≡ none
        → (r : ℕ) × (f : Option ℕ) × (step_with p j v out ≡ blaming r f (running_at j) s out)
    forbidden_by s es a e = let b = judged_none p sound j inside s v.bytes formed out room e in (b.0, b.1, judges s es a ∙ b.2)

    early_by : v.side ≡ Host → T.sort (view p) j ≡ T.sends → eqb (view p).edition 2 ≡ true
        → (r : ℕ) × (f : Option ℕ) × (step_with p j v out ≡ blaming r f (running_at j) Host out)
    early_by es e f = (
      4,
      none,
      ap (λ s. stepping p (running_at j) s v.bytes out) es
          ∙ early p sound j inside Host v.bytes formed out room (asks_here Host T.sends true e f) (ap (λ k. is_party Host (speaker k)) e),
    )

    has : (a : D) → v.side ≡ Device → d.sort i ≡ T.sends → d.allows i m ≡ some a → DeviceHas d i v
    has a es ed ex = (es, (a, rw (es, ed, ex)))

    has_not : next d i (said_in v) ≡ none → DeviceHas d i v → ⊥
    has_not n h =
        let q : none ≡ some h.1.0 = sym n ∙ h.1.1 in
        let z : ◌≡◌ {A = ℕ} 0 1 = cc in
        clash z

    go : (sd sp : T.Sort) → d.sort i ≡ sd → T.sort (view p) j ≡ sp → T.same_sort sd sp ≡ true → (b : Bool) → eqb (view p).edition 2 ≡ b
        → (s : Party) → v.side ≡ s → (x : Option D) (y : Option ℕ) → d.allows i m ≡ x → allows (view p) j m ≡ y → Together d p i j v out
    go T.ends T.ends ed ep al b eb Device es x y ex ey =
        idle d p i j v out 11 (does T.ends T.ends b Device x y ed ep eb es ex ey)
        (refuses 11 Device es (asks_here Device T.ends b ep eb) (λ e. omega arith))
    go T.ends T.ends ed ep al true eb Host es x y ex ey =
        idle d p i j v out 11 (does T.ends T.ends true Host x y ed ep eb es ex ey)
        (refuses 11 Host es (asks_here Host T.ends true ep eb) (λ e. omega arith))
    go T.ends T.ends ed ep al false eb Host es x y ex ey =
        idle d p i j v out 11 (does T.ends T.ends false Host x y ed ep eb es ex ey)
        (refuses 11 Host es (asks_here Host T.ends false ep eb) (λ e. omega arith))
    go T.sends T.sends ed ep al b eb Device es none y ex ey =
        unsaid d p i j v out es (has_not (rw (es, ed, ex))) (does T.sends T.sends b Device none y ed ep eb es ex ey)
    go T.sends T.sends ed ep al b eb Device es (some a) none ex ey =
        faulty_device d p i j v out (has a es ed ex) (does T.sends T.sends b Device (some a) none ed ep eb es ex ey)
        (forbidden_by Device es (devices ep) ey)
    go T.sends T.sends ed ep al b eb Device es (some a) (some c) ex ey =
        onward d p i j v out a c (does T.sends T.sends b Device (some a) (some c) ed ep eb es ex ey) (allowed_by Device c es (devices ep) ey)
    go T.sends T.sends ed ep al true eb Host es x y ex ey =
        faulty_host d p i j v out es (does T.sends T.sends true Host x y ed ep eb es ex ey) (early_by es ep eb)
    go T.sends T.sends ed ep al false eb Host es x y ex ey =
        idle d p i j v out 12 (does T.sends T.sends false Host x y ed ep eb es ex ey)
        (refuses 12 Host es (asks_here Host T.sends false ep eb) (λ e. omega arith))
    go T.receives T.receives ed ep al b eb Device es x y ex ey =
        unsaid d p i j v out es (has_not (rw (es, ed))) (does T.receives T.receives b Device x y ed ep eb es ex ey)
    go T.receives T.receives ed ep al b eb Host es x none ex ey =
        faulty_host d p i j v out es (does T.receives T.receives b Host x none ed ep eb es ex ey) (forbidden_by Host es (hosts ep) ey)
    go T.receives T.receives ed ep al b eb Host es none (some c) ex ey =
        untaken d p i j v out c es (does T.receives T.receives b Host none (some c) ed ep eb es ex ey) (allowed_by Host c es (hosts ep) ey)
    go T.receives T.receives ed ep al b eb Host es (some a) (some c) ex ey =
        onward d p i j v out a c (does T.receives T.receives b Host (some a) (some c) ed ep eb es ex ey) (allowed_by Host c es (hosts ep) ey)
    go T.ends T.sends ed ep al b eb s es x y ex ey = never al
    go T.ends T.receives ed ep al b eb s es x y ex ey = never al
    go T.sends T.ends ed ep al b eb s es x y ex ey = never al
    go T.sends T.receives ed ep al b eb s es x y ex ey = never al
    go T.receives T.ends ed ep al b eb s es x y ex ey = never al
    go T.receives T.sends ed ep al b eb s es x y ex ey = never al
