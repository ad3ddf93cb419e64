-- By the sorts of the two states and the side of the move: which question gets a no, and else what the judgement is.
-- Assumes nothing.
use mathlib.Core.Path.{◌≡◌, refl, sym, ap, ◌∙◌}
use mathlib.Core.Logic.{inl, inr, ⊎_elim}
use mathlib.Core.Bool.{Bool, true, false, ◌&&◌, cond}
use mathlib.Core.List.{List}
use mathlib.Core.Option.{Option, none, some}
use Prim.Native.Nat.{ℕ, ◌≤◌, ◌<◌}
use native.Mathlib.Omega.{arith}
use lib.ListN.{length}
use borrow.Author.Tests.{lt-ltb, ne_eqb}
use Rattle.table.specs.View.{Words, states_of, view, sound_of, sound_at}
use Rattle.table.proofs.laws.Lists.{join, decided}
use Rattle.table.proofs.laws.View.{view_sound}
use Rattle.message.specs.Message.{read, well_formed}
use Rattle.message.specs.Judge.{Judgement, allowed, forbidden, judge, allows}
use Rattle.message.specs.Rules.{Rules, table_rules}
use Rattle.message.proofs.laws.Message.{well_formed_exactly}
use Rattle.message.proofs.laws.Judge.{judge_allows}
use Rattle.table.specs.declared.Party.{Party}
use Rattle.table.specs.declared.Party.TheVariants.{Device, Host}
use Rattle.conversation.specs.Step.{may_speak, is_running, of_state, of_message, step_questions, Outcome, refusing, blaming, forwarding, judging, stepping}
use Rattle.conversation.proofs.laws.Step.{not_its_turn, all_well, said_in_turn, said_early, judged_as}
use Rattle.table.specs.Lists.{first_no}
use Rattle.table.specs.Table.{speaker, is_party}
use Rattle.machine.specs.Machine.{Move, device_blamed, host_blamed, jammed, Effect, nothing, forward, halt, from_device, from_host, effect}
use Rattle.together.specs.Together.{running_at, step_with, DeviceHas, Together}
use Rattle.table.specs.Table as T

-- ---- apart

pub clash : {X : Type 0} → ◌≡◌ {A = ℕ} 0 1 → X
clash z = absurd (omega arith)

pub never : {X : Type 0} → false ≡ true → X
never e = let z : ◌≡◌ {A = ℕ} 0 1 = cc in clash z

-- ---- what the step does

module _ (p : Words) (sound : sound_of p ≡ true) (j : ℕ) (inside : j < states_of p) (side : Party) (bytes : List ℕ) (formed : well_formed bytes ≡ true)
    (out : List ℕ) (room : length bytes ≤ length out) where
  -- 13, 14, 15, 22 and 16 get a yes: 12 is left
  asks_message : first_no (of_message (view p).edition (T.sort (view p) j) side bytes (length out))
      ≡ cond (may_speak (view p).edition (T.sort (view p) j) side) 0 12
  asks_message =
      let sort = T.sort (view p) j in
      let edition = (view p).edition in
      ⊎_elim (λ h. all_well edition sort side bytes (length out) h ((well_formed_exactly bytes).0 formed) room ∙ rw h)
      (λ h. not_its_turn edition sort side bytes (length out) h ∙ rw h) (decided (may_speak edition sort side))

  -- so do 9 and 10: 11 and 12 are left
  pub asks : first_no (step_questions p (running_at j) side bytes (length out))
      ≡ cond (T.is_choice (T.sort (view p) j)) (cond (may_speak (view p).edition (T.sort (view p) j) side) 0 12) 11
  unfolding step_questions first_no of_state sound_at is_running
  asks = rw (join sound (lt-ltb j (states_of p) inside)) (ap (λ n. cond (T.is_choice (T.sort (view p) j)) n 11) asks_message)

  pub no_turn : (q : ℕ) → first_no (step_questions p (running_at j) side bytes (length out)) ≡ q → (q ≡ 0 → ⊥) → stepping p (running_at j) side bytes out ≡ refusing q (running_at j) out
  unfolding stepping
  no_turn q e n = rw (e, ne_eqb q 0 n)

  pub turn : first_no (step_questions p (running_at j) side bytes (length out)) ≡ 0 → is_party side (speaker (T.sort (view p) j)) ≡ true
      → stepping p (running_at j) side bytes out ≡ judging (judge (view p) j (read bytes)) (running_at j) side bytes out
  turn e h = judged_as p (running_at j) side bytes out (judge (view p) j (read bytes)) e (said_in_turn (table_rules (view p)) j _ h)

  pub early : first_no (step_questions p (running_at j) side bytes (length out)) ≡ 0 → is_party side (speaker (T.sort (view p) j)) ≡ false
      → stepping p (running_at j) side bytes out ≡ blaming 4 none (running_at j) side out
  unfolding judging
  early e h = judged_as p (running_at j) side bytes out (forbidden 4 none) e (said_early (table_rules (view p)) j _ h)

  -- where the protocol allows the message, the judgement forwards it; where it does not, it blames
  pub judged_some : (b : ℕ) → allows (view p) j (read bytes) ≡ some b → judging (judge (view p) j (read bytes)) (running_at j) side bytes out ≡ forwarding b bytes (running_at j) out
  unfolding judging
  judged_some b e = ap (λ x. judging x (running_at j) side bytes out) ((judge_allows (view p) (view_sound p sound) j (read bytes) b).1 e)

  pub judged_none : allows (view p) j (read bytes) ≡ none
      → (r : ℕ) × (f : Option ℕ) × (judging (judge (view p) j (read bytes)) (running_at j) side bytes out ≡ blaming r f (running_at j) side out)
  unfolding judging
  judged_none e = go (judge (view p) j (read bytes)) refl
    where
      go : (x : Judgement ℕ) → judge (view p) j (read bytes) ≡ x → (r : ℕ) × (f : Option ℕ) × (judging x (running_at j) side bytes out ≡ blaming r f (running_at j) side out)
      go (allowed b) h =
          let q : none ≡ some b = sym e ∙ (judge_allows (view p) (view_sound p sound) j (read bytes) b).0 h in
          let z : ◌≡◌ {A = ℕ} 0 1 = cc in
          clash z
      go (forbidden r f) h = (r, f, refl)

-- ---- the ways of the machine, each with the step's

-- a step that refuses or forwards does not blame
refused_blames : {X : Type 0} (q r : ℕ) (f : Option ℕ) (side : Party) (j : ℕ) (out : List ℕ) (o : Outcome) → o ≡ refusing q (running_at j) out → o ≡ blaming r f (running_at j) side out → X
unfolding refusing blaming
refused_blames q r f side j out o a b = let e = ap (λ (r : Outcome). r.verdict) (sym a ∙ b) in let z : ◌≡◌ {A = ℕ} 0 1 = cc in clash z

forwarded_blames : {X : Type 0} (y r : ℕ) (f : Option ℕ) (side : Party) (bytes : List ℕ) (j : ℕ) (out : List ℕ) (o : Outcome)
    → o ≡ forwarding y bytes (running_at j) out → o ≡ blaming r f (running_at j) side out → X
unfolding forwarding blaming
forwarded_blames y r f side bytes j out o a b = let e = ap (λ (r : Outcome). r.verdict) (sym a ∙ b) in let z : ◌≡◌ {A = ℕ} 0 1 = cc in clash z

two_sides : {X : Type 0} (s : Party) → s ≡ Device → s ≡ Host → X
two_sides s a b = let z : ◌≡◌ {A = ℕ} 0 1 = cc in clash z

module _ {D : Type 0} (d : Rules D) (p : Words) (i : D) (j : ℕ) (v : Move) (out : List ℕ) where
  -- out of turn or at an end
  pub idle : (q : ℕ) → effect d (table_rules (view p)) i j v ≡ nothing → step_with p j v out ≡ refusing q (running_at j) out → Together d p i j v out
  idle q e r = record {
    forwards = λ x y f. let z : ◌≡◌ {A = ℕ} 0 1 = cc in clash z;
    blames_device = (λ f. let z : ◌≡◌ {A = ℕ} 0 1 = cc in clash z, λ h. refused_blames q h.1.0 h.1.1 Device j out (step_with p j v out) r h.1.2);
    blames_host = (λ f. let z : ◌≡◌ {A = ℕ} 0 1 = cc in clash z, λ h. refused_blames q h.1.0 h.1.1 Host j out (step_with p j v out) r h.1.2);
    jams = λ f. let z : ◌≡◌ {A = ℕ} 0 1 = cc in clash z;
    nothing_done = λ f. inl (q, r);
  }

  -- a message that the Device has not
  pub unsaid : v.side ≡ Device → (DeviceHas d i v → ⊥) → effect d (table_rules (view p)) i j v ≡ nothing → Together d p i j v out
  unsaid s n e = record {
    forwards = λ x y f. let z : ◌≡◌ {A = ℕ} 0 1 = cc in clash z;
    blames_device = (λ f. let z : ◌≡◌ {A = ℕ} 0 1 = cc in clash z, λ h. absurd (n h.0));
    blames_host = (λ f. let z : ◌≡◌ {A = ℕ} 0 1 = cc in clash z, λ h. two_sides v.side s h.0);
    jams = λ f. let z : ◌≡◌ {A = ℕ} 0 1 = cc in clash z;
    nothing_done = λ f. inr (s, n);
  }

  pub faulty_device : DeviceHas d i v → effect d (table_rules (view p)) i j v ≡ halt device_blamed → (r : ℕ) × (f : Option ℕ) × (step_with p j v out ≡ blaming r f (running_at j) Device out) → Together d p i j v out
  faulty_device h e b = record {
    forwards = λ x y f. let z : ◌≡◌ {A = ℕ} 0 1 = cc in clash z;
    blames_device = (λ f. (h, b), λ f. e);
    blames_host = (λ f. let z : ◌≡◌ {A = ℕ} 0 1 = cc in clash z, λ g. two_sides v.side h.0 g.0);
    jams = λ f. let z : ◌≡◌ {A = ℕ} 0 1 = cc in clash z;
    nothing_done = λ f. let z : ◌≡◌ {A = ℕ} 0 1 = cc in clash z;
  }

  pub faulty_host : v.side ≡ Host → effect d (table_rules (view p)) i j v ≡ halt host_blamed → (r : ℕ) × (f : Option ℕ) × (step_with p j v out ≡ blaming r f (running_at j) Host out) → Together d p i j v out
  faulty_host s e b = record {
    forwards = λ x y f. let z : ◌≡◌ {A = ℕ} 0 1 = cc in clash z;
    blames_device = (λ f. let z : ◌≡◌ {A = ℕ} 0 1 = cc in clash z, λ g. two_sides v.side g.0.0 s);
    blames_host = (λ f. (s, b), λ g. e);
    jams = λ f. let z : ◌≡◌ {A = ℕ} 0 1 = cc in clash z;
    nothing_done = λ f. let z : ◌≡◌ {A = ℕ} 0 1 = cc in clash z;
  }

  pub untaken : (y : ℕ) → v.side ≡ Host → effect d (table_rules (view p)) i j v ≡ halt jammed → step_with p j v out ≡ forwarding y v.bytes (running_at j) out → Together d p i j v out
  untaken y s e r = record {
    forwards = λ x y f. let z : ◌≡◌ {A = ℕ} 0 1 = cc in clash z;
    blames_device = (λ f. let z : ◌≡◌ {A = ℕ} 0 1 = cc in clash z, λ g. two_sides v.side g.0.0 s);
    blames_host = (λ f. let z : ◌≡◌ {A = ℕ} 0 1 = cc in clash z, λ g. forwarded_blames y g.1.0 g.1.1 Host v.bytes j out (step_with p j v out) r g.1.2);
    jams = λ f. (s, (y, r));
    nothing_done = λ f. let z : ◌≡◌ {A = ℕ} 0 1 = cc in clash z;
  }

  pub onward : (a : D) (b : ℕ) → effect d (table_rules (view p)) i j v ≡ forward a b → step_with p j v out ≡ forwarding b v.bytes (running_at j) out → Together d p i j v out
  onward a b e r = record {
    forwards = λ x y f. let q : b ≡ y = cc in r ∙ ap (λ n. forwarding n v.bytes (running_at j) out) q;
    blames_device = (λ f. let z : ◌≡◌ {A = ℕ} 0 1 = cc in clash z, λ g. forwarded_blames b g.1.0 g.1.1 Device v.bytes j out (step_with p j v out) r g.1.2);
    blames_host = (λ f. let z : ◌≡◌ {A = ℕ} 0 1 = cc in clash z, λ g. forwarded_blames b g.1.0 g.1.1 Host v.bytes j out (step_with p j v out) r g.1.2);
    jams = λ f. let z : ◌≡◌ {A = ℕ} 0 1 = cc in clash z;
    nothing_done = λ f. let z : ◌≡◌ {A = ℕ} 0 1 = cc in clash z;
  }

-- ---- the claim

-- by the sorts, whether the edition is 2, the side, and where the device and the protocol lead
abbrev pub ways : {D : Type 0} → T.Sort → T.Sort → Bool → Party → Option D → Option ℕ → Effect D ℕ
ways sd sp b Device x y = cond (T.same_sort sd T.sends) (from_device x y) nothing
ways sd sp b Host x y = cond (T.same_sort sp T.receives) (from_host y x) (cond (b && T.same_sort sp T.sends) (halt host_blamed) nothing)
