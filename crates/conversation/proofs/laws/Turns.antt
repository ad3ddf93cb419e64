-- Turns one after another: they may be cut after any turn, and the definition's number of them is enough. After those none is due, or
-- a step refuses, or somebody is blamed, and further turns change nothing.
-- Assumes nothing.
use mathlib.Core.Path.{◌≡◌, refl, sym, ap, subst, ◌∙◌}
use mathlib.Core.Logic.{⊎_elim}
use mathlib.Core.Bool.{Bool, true, false, cond}
use mathlib.Core.List.{List}
use mathlib.Core.Option.{Option, none, some}
use Prim.Native.Nat.{ℕ, zero, suc, ◌+◌, ◌<◌}
use native.Mathlib.Omega.{arith}
use lib.ListN.{take, drop, take-append-drop}
use Rattle.table.specs.Lists.{first_no}
use Rattle.table.specs.View.{Words, sound_at}
use Rattle.table.specs.declared.Party.{Party}
use Rattle.table.proofs.laws.Lists.{never}
use Rattle.conversation.specs.declared.State.{State}
use Rattle.conversation.specs.Step.{is_running, blame, of_state, Told, refused, Outcome, refusing, blaming, forwarding, stepping}
use Rattle.conversation.specs.Due.{of_side, awaited, first_length}
use Rattle.conversation.specs.Due as Due
use Rattle.conversation.specs.Conversation.{standing_by, nobody, is_forwarded}
use Rattle.conversation.specs.Counts.{Counts, counted}
use Rattle.conversation.specs.Batch.{Both, at_side, Left, Lane, used_by, written_by, lane_on, Taken, taking, Batch, latest, took, turn_of, one_turn, turns}
use Rattle.conversation.specs.inner.Keeping.{Within, is_last_forwarded}
use Rattle.conversation.proofs.laws.Step.{zero_or, Way, refuses, forwards, blames, way}
use Rattle.conversation.proofs.laws.Due.{refused_turn}
use Rattle.conversation.proofs.laws.Conversation.{running_by}
use Rattle.conversation.proofs.laws.Batch.{taken, takes_none, takes_one, left, takes, turn_is, turn_by, stays, go_on_by, on_again, on_over}
use Rattle.conversation.proofs.laws.Both.{set_same}

-- ---- what holds after turns

module _ (t : Words) (l : Both Left) where
  -- from In a turn leads to Out, and to In again if it forwards
  pub turns_keep : (In Out : Batch → Type 0) → ((b : Batch) → In b → Out b) → ((b : Batch) → In b → Out (one_turn t l b).1)
      → ((b : Batch) → In b → is_last_forwarded (one_turn t l b).0 ≡ true → In (one_turn t l b).1)
      → (n : ℕ) (b : Batch) → In b → Out (turns n t l b)
  unfolding turns
  turns_keep In Out now over on zero b i = now b i
  turns_keep In Out now over on (suc n) b i =
      go_on_by Out (turns n t l) (one_turn t l b)
      (λ h. turns_keep In Out now over on n (one_turn t l b).1 (on b i h)) (λ h. over b i)

  pub turns_within : (n : ℕ) (b : Batch) → Within t l b → Within t l (turns n t l b)
  turns_within =
      turns_keep (Within t l) (Within t l) (λ b w. w) (λ b w. (stays t l b w).within)
      (λ b w h. (stays t l b w).within)

-- ---- why a side's turn is the last

blamed_none : (t : Words) (s : State) → is_running s.standing ≡ false → (q : ℕ) × (awaited t s ≡ Due.refused q)
unfolding of_state first_no
blamed_none t s h =
    (cond (sound_at t s.position) 10 9, refused_turn t s (cond (sound_at t s.position) 10 9) (rw h) (not_zero (sound_at t s.position)))
  where
    not_zero : (y : Bool) → ◌≡◌ {A = ℕ} (cond y 10 9) 0 → ⊥
    not_zero true e = omega (arith, e)
    not_zero false e = omega (arith, e)

pub blame_stops : (side : Party) → is_running (blame side) ≡ false
unfolding standing_by nobody
blame_stops side = running_by (some side)

module _ (t : Words) (s : State) (c : Counts) (side : Party) (bytes : List ℕ) (l : Lane) where
  data Stop (x : Taken) : Type 0 where
    not_due : x ≡ record { answer = none; state = s; counts = c; lane = l } → Stop x
    refuses_it : (q : ℕ) → x ≡ record { answer = some (refused q); state = s; counts = c; lane = l } → Stop x
    blames_it : is_running x.state.standing ≡ false → Stop x

  pub lane_still : (q n : ℕ) (message : List ℕ)
      → taken t s c n message (refusing q s (drop l.written l.output)) l
      ≡ record { answer = some (refused q); state = s; counts = c; lane = l }
  unfolding refusing counted lane_on used_by written_by
  lane_still q n message =
      let e : l.used + 0 ≡ l.used = omega arith in
      let f : l.written + 0 ≡ l.written = omega arith in
      rw (e, f, take-append-drop l.written l.output)

  stop_by : (n : ℕ) (message : List ℕ) (x : Outcome) → Way t s side message (drop l.written l.output) x
      → is_last_forwarded (some x.verdict) ≡ false → Stop (taken t s c n message x l)
  unfolding blaming forwarding is_last_forwarded is_forwarded
  stop_by n message x (refuses q e z) h = refuses_it q (lane_still q n message)
  stop_by n message x (blames e r f z) h = blames_it (blame_stops side)
  stop_by n message x (forwards e j z) h = never refl h

  abbrev message : List ℕ
  message = take (first_length (drop l.used bytes)) (drop l.used bytes)

  stop : is_last_forwarded (taking t s c side bytes l).answer ≡ false → Stop (taking t s c side bytes l)
  stop h = ⊎_elim one (λ z. not_due (takes_none t s c side bytes l z)) (zero_or (first_length (drop l.used bytes)))
    where
      one : (first_length (drop l.used bytes) ≡ 0 → ⊥) → Stop (taking t s c side bytes l)
      one n =
          subst Stop (sym (takes_one t s c side bytes l n))
          (stop_by (first_length (drop l.used bytes)) message (stepping t s side message (drop l.written l.output))
          (way t s side message (drop l.written l.output))
          (sym (ap (λ (x : Taken). is_last_forwarded x.answer) (takes_one t s c side bytes l n)) ∙ h))

-- ---- over is over

module _ (t : Words) (l : Both Left) where
  -- a further turn forwards nothing and changes nothing
  pub record Over (b : Batch) : Type 0 where
    pub ends : is_last_forwarded (one_turn t l b).0 ≡ false
    pub same : (one_turn t l b).1 ≡ b

  over_by : (b : Batch) (r : Option Told × Batch) → one_turn t l b ≡ r → is_last_forwarded r.0 ≡ false → r.1 ≡ b → Over b
  over_by b r e h g =
      record {
        ends = ap (λ (r : Option Told × Batch). is_last_forwarded r.0) e ∙ h;
        same = ap (λ (r : Option Told × Batch). r.1) e ∙ g;
      }

  over_none : (b : Batch) (q : ℕ) → awaited t b.state ≡ Due.refused q → Over b
  unfolding turn_of is_last_forwarded is_forwarded
  over_none b q e = over_by b (none, b) (turn_is t l b (Due.refused q) e) refl refl

  over_blamed : (b : Batch) → is_running b.state.standing ≡ false → Over b
  over_blamed b h = let x = blamed_none t b.state h in over_none b x.0 x.1

  -- a turn that changes nothing but perhaps the last answer
  over_same : (b : Batch) (side : Party) → awaited t b.state ≡ of_side side → (a : Option Told) → is_last_forwarded a ≡ false
      → latest a b.last ≡ b.last
      → takes t l b side ≡ record { answer = a; state = b.state; counts = b.counts; lane = at_side side b.lanes } → Over b
  unfolding took turn_of
  over_same b side e a h i g =
      over_by b (a, b) (turn_is t l b (of_side side) e ∙ rw (g, set_same side b.lanes, i)) h refl

  module _ (b : Batch) where
    after_side : (side : Party) → awaited t b.state ≡ of_side side
        → Stop t b.state b.counts side (at_side side l).bytes (at_side side b.lanes) (takes t l b side)
        → Over (took side (takes t l b side) b).1
    unfolding took is_last_forwarded is_forwarded latest
    after_side side e (not_due g) = rw (g, set_same side b.lanes) (over_same b side e none refl refl g)
    after_side side e (refuses_it q g) =
        rw (g, set_same side b.lanes)
        (over_same (record { state = b.state; counts = b.counts; lanes = b.lanes; last = some (refused q) }) side e (some (refused q)) refl refl g)
    after_side side e (blames_it g) = over_blamed (took side (takes t l b side) b).1 g

    pub turn_over : is_last_forwarded (one_turn t l b).0 ≡ false → Over (one_turn t l b).1
    unfolding took
    turn_over =
        turn_by t l (λ r. is_last_forwarded r.0 ≡ false → Over r.1) b (λ q e h. over_none b q e)
        (λ side e h. after_side side e (stop t b.state b.counts side (at_side side l).bytes (at_side side b.lanes) h))

  pub stuck : (n : ℕ) (b : Batch) → Over b → turns n t l b ≡ b
  unfolding turns
  stuck zero b o = refl
  stuck (suc n) b o = on_over (turns n t l) (one_turn t l b) o.ends ∙ o.same

  -- ---- turns cut in two

  pub turns_cut : (m n : ℕ) (b : Batch) → turns n t l (turns m t l b) ≡ turns (m + n) t l b
  unfolding turns
  turns_cut zero n b = let e : n ≡ 0 + n = omega arith in ap (λ k. turns k t l b) e
  turns_cut (suc m) n b =
      let e : suc (m + n) ≡ suc m + n = omega arith in
      go_on_by (λ c. turns n t l c ≡ turns (suc (m + n)) t l b) (turns m t l) (one_turn t l b)
      (λ h. turns_cut m n (one_turn t l b).1 ∙ sym (on_again (turns (m + n) t l) (one_turn t l b) h))
      (λ h. stuck n (one_turn t l b).1 (turn_over b h) ∙ sym (on_over (turns (m + n) t l) (one_turn t l b) h))
      ∙ ap (λ k. turns k t l b) e

  -- ---- the turns are enough

  pub enough : (n : ℕ) (b : Batch) → Within t l b → left l b.lanes < n
      → Over (turns n t l b)
  unfolding turns
  enough zero b w k = absurd (omega (arith, k))
  enough (suc n) b w k =
      let x = stays t l b w in
      go_on_by Over (turns n t l) (one_turn t l b)
      (λ h. enough n (one_turn t l b).1 x.within (omega (arith, x.falls h, k))) (λ h. turn_over b h)

  pub more_turns : (n m : ℕ) (b : Batch) → Within t l b → left l b.lanes < n
      → turns (n + m) t l b ≡ turns n t l b
  more_turns n m b w k = sym (turns_cut n m b) ∙ stuck m (turns n t l b) (enough n b w k)
