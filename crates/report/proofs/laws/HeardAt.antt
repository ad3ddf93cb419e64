-- One message at one state, by the monitor's step: the verdict says whether the state allows it, and the state where it leads.
-- Assumes nothing.
use mathlib.Core.Path.{◌≡◌, refl, sym, ap, ◌∙◌}
use mathlib.Core.Bool.{true, cond}
use mathlib.Core.List.{List}
use mathlib.Core.Option.{Option, none, some}
use Prim.Native.Nat.{ℕ, ◌≤◌}
use native.Mathlib.Omega.{arith}
use lib.ListN.{length}
use Rattle.table.specs.Lists.{first_no}
use Rattle.table.specs.Table.{Sort, ends, sends, receives, is_choice, sort, speaker, is_party}
use Rattle.table.specs.View.{Words, view, sound_of}
use Rattle.message.specs.Message.{read, well_formed}
use Rattle.message.specs.Judge.{allows, judge}
use Rattle.table.specs.declared.Party.{Party}
use Rattle.table.specs.declared.Party.TheVariants.{Device, Host}
use Rattle.conversation.specs.declared.State.{State}
use Rattle.conversation.specs.declared.Stepped.{Stepped}
use Rattle.conversation.specs.declared.Reason.TheVariants.{NoLabel, OtherKinds, OutOfRange, Early}
use Rattle.conversation.specs.declared.Verdict.{Verdict}
use Rattle.conversation.specs.declared.Verdict.TheVariants.{Refused, Blamed, Forwarded}
use Rattle.conversation.specs.Step.{may_speak, step_questions, blamed, forwarded, told, Outcome, forwarding, blaming, judging, stepping, outcome}
use Rattle.conversation.specs.Counts.{Counts, counts_sound, Started, legal_setting, start_questions, starting, started, counted_step}
use Rattle.conversation.specs.declared.Started as P
use Rattle.conversation.proofs.laws.Step.{turn_its}
use Rattle.conversation.proofs.laws.Counts.{fresh_sound}
use Rattle.together.specs.Together.{running_at}
use Rattle.together.proofs.laws.Together.{asks, turn, judged_some, judged_none}
use Rattle.report.specs.inner.Playing.{HasTurn}

clash : {X : Type 0} → ◌≡◌ {A = ℕ} 0 1 → X
clash z = absurd (omega arith)

-- where it is the side's turn 11 and 12 get a yes, under either edition
in_turn : (edition : ℕ) (s : Sort) (side : Party) → speaker s ≡ some side
    → ◌≡◌ {A = ℕ} (cond (is_choice s) (cond (may_speak edition s side) 0 12) 11) 0
unfolding speaker is_party is_choice
in_turn edition ends side e = let z : ◌≡◌ {A = ℕ} 0 1 = cc in clash z
in_turn edition sends Device e = refl
in_turn edition sends Host e = let z : ◌≡◌ {A = ℕ} 0 1 = cc in clash z
in_turn edition receives Device e = let z : ◌≡◌ {A = ℕ} 0 1 = cc in clash z
in_turn edition receives Host e = refl

started_sound : (t : Words) → sound_of t ≡ true → counts_sound t (starting t 1).counts ≡ true
unfolding starting start_questions first_no legal_setting
started_sound t s = rw s (fresh_sound 1 t refl)

-- the verdict and the state after the step, as where the message leads
unfoldable pub heard_as : Verdict → State → Option ℕ
heard_as Forwarded s = some s.position
heard_as (Blamed side why) s = none
heard_as (Refused q) s = none

module _ (t : Words) (s : sound_of t ≡ true) (i : ℕ) (side : Party) (u : HasTurn t i side) (bytes : List ℕ) (formed : well_formed bytes ≡ true) (before : List ℕ)
    (room : length bytes ≤ length before) (r : Stepped) (after : List ℕ) (b : P.Started) (begun : started b ≡ starting t 1) (d : Counts)
    (k : (outcome r after, d) ≡ counted_step t (running_at i) b.counts side bytes before) where
  -- counts that are started pass 9, so the step is what it is without them
  e : outcome r after ≡ stepping t (running_at i) side bytes before
  unfolding counted_step started
  e = ap (λ (x : Outcome × Counts). x.0) k ∙ rw (ap (λ (x : Started). counts_sound t x.counts) begun ∙ started_sound t s)

  no_question : first_no (step_questions t (running_at i) side bytes (length before)) ≡ 0
  no_question = asks t s i u.inside side bytes formed before room ∙ in_turn (view t).edition (sort (view t) i) side u.turn

  -- so the message is judged
  judges : outcome r after ≡ judging (judge (view t) i (read bytes)) (running_at i) side bytes before
  judges = e ∙ turn t s i u.inside side bytes formed before room no_question (ap (is_party side) u.turn ∙ turn_its side)

  forwards : {b : ℕ} → allows (view t) i (read bytes) ≡ some b → outcome r after ≡ forwarding b bytes (running_at i) before
  forwards {b} f = judges ∙ judged_some t s i u.inside side bytes formed before room b f

  pub hears : heard_as r.verdict r.state ≡ allows (view t) i (read bytes)
  unfolding heard_as told outcome forwarding blaming
  hears = go (allows (view t) i (read bytes)) refl
    where
      on : (v : Verdict) (s : State) (b : ℕ) → told v ≡ forwarded → s.position ≡ b → heard_as v s ≡ some b
      on Forwarded s b f g = ap some g
      on (Blamed side NoLabel) s b f g = let z : ◌≡◌ {A = ℕ} 0 1 = cc in clash z
      on (Blamed side OtherKinds) s b f g = let z : ◌≡◌ {A = ℕ} 0 1 = cc in clash z
      on (Blamed side (OutOfRange n)) s b f g = let z : ◌≡◌ {A = ℕ} 0 1 = cc in clash z
      on (Blamed side Early) s b f g = let z : ◌≡◌ {A = ℕ} 0 1 = cc in clash z
      on (Refused q) s b f g = let z : ◌≡◌ {A = ℕ} 0 1 = cc in clash z

      off : (v : Verdict) (s : State) {p : Party} {n : ℕ} {o : Option ℕ} → told v ≡ blamed p n o → heard_as v s ≡ none
      off Forwarded s f = let z : ◌≡◌ {A = ℕ} 0 1 = cc in clash z
      off (Blamed side why) s f = refl
      off (Refused q) s f = refl

      go : (a : Option ℕ) → allows (view t) i (read bytes) ≡ a → heard_as r.verdict r.state ≡ allows (view t) i (read bytes)
      go (some b) f =
          let q = forwards f in
          on r.verdict r.state b (ap (λ (x : Outcome). x.verdict) q) (ap (λ (x : Outcome). x.state.position) q) ∙ sym f
      go none f =
          let q = judges ∙ (judged_none t s i u.inside side bytes formed before room f).2 in
          off r.verdict r.state (ap (λ (x : Outcome). x.verdict) q) ∙ sym f
