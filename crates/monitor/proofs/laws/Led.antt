-- A batch as the program goes through it: what it reads and writes through parts of slices, and that turns which forward lead on to
-- what is asked for.
-- Assumes nothing.
use mathlib.Core.Path.{◌≡◌, refl, sym, ap, ap₂, subst, ◌∙◌}
use mathlib.Core.Logic.{⊎_elim}
use mathlib.Core.Bool.{true, false}
use mathlib.Core.List.{List, ◌++◌, append-nil}
use mathlib.Core.Option.{Option, none, some}
use Prim.Native.Nat.{ℕ, zero, suc, ◌+◌, ◌-◌, ◌≤◌, ◌<◌}
use native.Mathlib.Omega.{arith}
use lib.ListN.{length, take, drop}
use Rattle.table.specs.Lists.{first_no}
use Rattle.table.specs.View.{Words, sound_of}
use Rattle.table.specs.declared.Party.{Party}
use Rattle.table.specs.declared.Party.TheVariants.{Device, Host}
use Rattle.table.proofs.laws.Lists.{never}
use Rattle.conversation.specs.declared.State.{State}
use Rattle.conversation.specs.declared.Stepped.{Stepped}
use Rattle.monitor.specs.declared.lane.Taken as P
use Rattle.conversation.specs.Step.{is_running, told, Told, refused, blamed, forwarded, Outcome, refusing, blaming, forwarding, stepping, outcome}
use Rattle.conversation.specs.Due.{Awaited, of_side, awaited, first_length}
use Rattle.conversation.specs.Due as Due
use Rattle.conversation.specs.Counts.{Counts, counted}
use Rattle.conversation.specs.Batch.{Both, at_side, Left, lent, Lane, used_by, written_by, lane_on, Taken, taking, Batch, took, turn_of, one_turn, go_on, turns, batch_questions, begun}
use Rattle.conversation.specs.Conversation.{is_forwarded}
use Rattle.conversation.specs.inner.Keeping.{Rising, Heard, LaneIn, is_last_forwarded}
use Rattle.monitor.specs.inner.Lanes.{bytes_waiting, On, Led, no_turn, a_turn, PassedOn, taken_of}
use Rattle.conversation.proofs.laws.Step.{zero_or, entered, Way, refuses, forwards, blames, way}
use Rattle.conversation.proofs.laws.Due.{first_cut}
use Rattle.conversation.proofs.laws.Batch.{sound_parts, taken, takes_none, takes_one, now_due, used_in, written_in, left, turn_is, turn_by, stays, go_on_by, on_again, on_over, enough_turns, begun_within}
use Rattle.conversation.proofs.laws.Counts.{sound_rising, counted_rising}
use Rattle.monitor.proofs.laws.PassedOn.{whole_rest, none_past}

-- ---- parts of slices

pub cut_length : (bytes : List ℕ) (n : ℕ) → n ≡ first_length bytes → n ≡ length (take n bytes)
cut_length bytes n e = subst (λ k. k ≡ length (take k bytes)) (sym e) (sym (first_cut bytes))

module _ (t : Words) (s : State) (c : Counts) (side : Party) (bytes : List ℕ) (l : Lane) (a : awaited t s ≡ of_side side) (i : LaneIn bytes l)
    (n : ℕ) (e : n ≡ first_length (take (length bytes - l.used) (drop l.used bytes))) where
  abbrev rest : List ℕ
  rest = drop l.used bytes

  abbrev room : List ℕ
  room = drop l.written l.output

  -- the message, as the program has it
  abbrev got : List ℕ
  got = take n (take (length bytes - l.used) rest)

  first_is : n ≡ first_length rest
  first_is = e ∙ ap first_length (whole_rest l.used bytes)

  pub got_none : n ≡ 0 → record { answer = none; state = s; counts = c; lane = l } ≡ taking t s c side bytes l
  got_none z = sym (takes_none t s c side bytes l (sym first_is ∙ z))

  module _ (z : n ≡ 0 → ⊥) where
    some_there : first_length rest ≡ 0 → ⊥
    some_there h = z (first_is ∙ h)

    the_message : got ≡ take (first_length rest) rest
    the_message = ap (λ r. take n r) (whole_rest l.used bytes) ∙ ap (λ k. take k rest) first_is

    pub got_due : Heard t s side got
    got_due = subst (Heard t s side) (sym the_message) (now_due t s c side bytes l a i some_there)

    module _ (x : Stepped) (out : List ℕ)
        (h : outcome x out ≡ stepping t s side got (take (length l.output - l.written) room)) where
      so : outcome x out ≡ stepping t s side (take (first_length rest) rest) room
      so =
          h ∙ ap (λ m. stepping t s side m (take (length l.output - l.written) room)) the_message
          ∙ ap (stepping t s side _) (whole_rest l.written l.output)

      says : told x.verdict ≡ (stepping t s side (take (first_length rest) rest) room).verdict
      unfolding outcome
      says = ap (λ (y : Outcome). y.verdict) so

      pub got_used : l.used + used_by (told x.verdict) n ≤ length bytes
      got_used = rw first_is (used_in t s c side bytes l a i some_there (told x.verdict))

      pub got_written : l.written + written_by (told x.verdict) n ≤ length l.output
      got_written = rw (first_is, says) (written_in t s c side bytes l a i some_there)

      pub got_one : (d : Counts) → d ≡ counted t s got (told x.verdict) c
          → record {
            answer = some (told x.verdict);
            state = x.state;
            counts = d;
            lane =
                record {
                  used = l.used + used_by (told x.verdict) n;
                  written = l.written + written_by (told x.verdict) n;
                  output = take l.written l.output ++ (out ++ drop (length l.output - l.written) room);
                };
          }
          ≡ taking t s c side bytes l
      unfolding lane_on outcome
      got_one d f =
          rw (f, none_past l.written l.output i.written, append-nil out)
          (ap₂ (λ k m. taken t s c k m (outcome x out) l) first_is the_message
          ∙ ap (λ y. taken t s c (first_length rest) (take (first_length rest) rest) y l) so ∙ sym (takes_one t s c side bytes l some_there))

-- ---- turns that forward

-- a message that is forwarded leaves the standing as it was
step_standing : (t : Words) (s : State) (side : Party) (message out : List ℕ) (x : Outcome) → Way t s side message out x
    → is_last_forwarded (some x.verdict) ≡ true → x.state.standing ≡ s.standing
unfolding refusing blaming forwarding is_last_forwarded is_forwarded
step_standing t s side message out x (refuses q e n) h = never h refl
step_standing t s side message out x (forwards e j g) h = refl
step_standing t s side message out x (blames e r f g) h = never h refl

module _ (t : Words) (s : State) (c : Counts) (side : Party) (bytes : List ℕ) (l : Lane) where
  -- the standing stays where a message is forwarded, and the counts can rise again
  record Lasts (x : Taken) : Type 0 where
    standing : is_last_forwarded x.answer ≡ true → x.state.standing ≡ s.standing
    rising : Rising t x.counts

  taking_lasts : sound_of t ≡ true → Rising t c → Lasts (taking t s c side bytes l)
  unfolding is_last_forwarded is_forwarded
  taking_lasts sound r = ⊎_elim one no (zero_or (first_length (drop l.used bytes)))
    where
      no : first_length (drop l.used bytes) ≡ 0 → Lasts (taking t s c side bytes l)
      no z = subst Lasts (sym (takes_none t s c side bytes l z)) (record { standing = λ h. refl; rising = r })

      one : (first_length (drop l.used bytes) ≡ 0 → ⊥) → Lasts (taking t s c side bytes l)
      one n =
          subst Lasts (sym (takes_one t s c side bytes l n))
          (record { standing = λ h. step_standing t s side _ _ _ (way t s side _ _) h; rising = counted_rising t sound s _ _ c r })

module _ (t : Words) (l : Both Left) where
  pub begun_on : (g : Both Left) (s : State) (c : Counts) → first_no (batch_questions t s c) ≡ 0 → On t l (begun s c g none)
  unfolding begun
  begun_on g s c e =
      let x = entered t s c e in
      record { within = begun_within t l g s c e; running = x.running; rising = sound_rising t c x.sound x.counts }

  turn_lasts : (b : Batch) → On t l b
      → (is_last_forwarded (one_turn t l b).0 ≡ true → (one_turn t l b).1.state.standing ≡ b.state.standing)
      × Rising t (one_turn t l b).1.counts
  unfolding took
  turn_lasts b o =
      turn_by t l (λ r. (is_last_forwarded r.0 ≡ true → r.1.state.standing ≡ b.state.standing) × Rising t r.1.counts) b
      (λ q e. (λ h. refl, o.rising))
      (λ side e.
      let x = taking_lasts t b.state b.counts side (at_side side l).bytes (at_side side b.lanes)
      (sound_parts t b.state.position o.within.sound).0 o.rising in
      (x.standing, x.rising))

  module _ (b d : Batch) (o : On t l b) (e : one_turn t l b ≡ (some forwarded, d)) where
    turn_forwards : is_last_forwarded (one_turn t l b).0 ≡ true
    unfolding is_last_forwarded is_forwarded
    turn_forwards = ap (λ (r : Option Told × Batch). is_last_forwarded r.0) e

    turn_on : On t l d
    turn_on =
        let x = turn_lasts b o in
        subst (λ (r : Option Told × Batch). On t l r.1) e
        (record {
          within = (stays t l b o.within).within;
          running = ap is_running (x.0 turn_forwards) ∙ o.running;
          rising = x.1;
        })

    pub turn_less : left l d.lanes < left l b.lanes
    turn_less =
        subst (λ (r : Option Told × Batch). left l r.1.lanes < left l b.lanes) e ((stays t l b o.within).falls turn_forwards)

  -- as the program has it
  pub turn_forwarded : (b : Batch) (r : Option Told × Batch) → r ≡ one_turn t l b → is_last_forwarded r.0 ≡ true
      → one_turn t l b ≡ (some forwarded, r.1)
  unfolding is_last_forwarded is_forwarded
  turn_forwarded b r e h = sym e ∙ by r h
    where
      by : (r : Option Told × Batch) → is_last_forwarded r.0 ≡ true → r ≡ (some forwarded, r.1)
      by (none, b) h = never h refl
      by (some (refused q), b) h = never h refl
      by (some (blamed p r x), b) h = never h refl
      by (some forwarded, b) h = refl

  -- a message that goes straight
  pub turn_straight : (b : Batch) (side : Party) → awaited t b.state ≡ of_side side → (r : P.Taken) (d : Counts) (after : List ℕ)
      → PassedOn t b.state b.counts (at_side side l).bytes (at_side side b.lanes) d after r
      → one_turn t l b ≡ (some forwarded, (took side (taken_of r d after) b).1)
  unfolding took turn_of
  turn_straight b side a r d after p =
      turn_is t l b (of_side side) a ∙ ap (λ x. took side x b) (sym (p.turn side a))
      ∙ ap (λ (v : Option Told). (v, (took side (taken_of r d after) b).1)) p.forwards

  -- ---- as far as they lead

  pub led_further : {a b d : Batch} → Led t l a b → Led t l b d → Led t l a d
  led_further x no_turn = x
  led_further x (a_turn m e) = a_turn (led_further x m) e

  module _ (start : Batch) (o : On t l start) where
    pub led_on : {b : Batch} → Led t l start b → On t l b
    led_on no_turn = o
    led_on (a_turn {x} {y} m e) = turn_on x y (led_on m) e

    pub led_less : {b : Batch} → Led t l start b → left l b.lanes ≤ left l start.lanes
    led_less no_turn = omega arith
    led_less (a_turn {x} {y} m e) = omega (arith, led_less m, turn_less x y (led_on m) e)

    abbrev asked_for : Batch
    asked_for = turns (enough_turns l) t l start

    -- what is left to do from a batch on gives what is asked for
    record Going (b : Batch) : Type 0 where
      more : ℕ
      enough : left l b.lanes ≤ more
      same : turns (suc more) t l b ≡ asked_for

    again : (b d : Batch) → On t l b → one_turn t l b ≡ (some forwarded, d) → (n : ℕ) → left l b.lanes ≤ n
        → turns (suc n) t l b ≡ asked_for → Going d
    unfolding turns go_on
    again b d o e zero h s = absurd (omega (arith, h, turn_less b d o e))
    again b d o e (suc n) h s =
        record { more = n; enough = omega (arith, h, turn_less b d o e); same = sym (ap (go_on (turns (suc n) t l)) e) ∙ s }

    going : {b : Batch} → Led t l start b → Going b
    going no_turn = record { more = length l.device.bytes + length l.host.bytes; enough = omega arith; same = refl }
    going (a_turn {x} {y} m e) = let g = going m in again x y (led_on m) e g.more g.enough g.same

    -- at a turn that does not forward
    pub led_over : {b : Batch} → Led t l start b → (r : Option Told × Batch) → r ≡ one_turn t l b → is_last_forwarded r.0 ≡ false
        → r.1 ≡ asked_for
    unfolding turns
    led_over m r e h =
        let g = going m in
        sym (on_over (turns g.more t l) r h) ∙ ap (go_on (turns g.more t l)) e ∙ g.same

-- ---- the whole

-- turns look at what waits, not at what is lent: the outputs are the batch's
module _ (t : Words) (device host to_device to_host : List ℕ) where
  same_one : (b : Batch) → one_turn t (bytes_waiting device host) b ≡ one_turn t (lent device host to_device to_host) b
  unfolding one_turn turn_of at_side lent
  same_one b = by (awaited t b.state)
    where
      by : (o : Awaited) → turn_of t (bytes_waiting device host) b o ≡ turn_of t (lent device host to_device to_host) b o
      by (Due.refused q) = refl
      by (of_side Device) = refl
      by (of_side Host) = refl

  pub same_turns : (n : ℕ) (b : Batch) → turns n t (bytes_waiting device host) b ≡ turns n t (lent device host to_device to_host) b
  unfolding turns
  same_turns zero b = refl
  same_turns (suc n) b =
      let on = turns n t (lent device host to_device to_host) in
      let r = one_turn t (bytes_waiting device host) b in
      go_on_by (λ x. x ≡ go_on on r) (turns n t (bytes_waiting device host)) r (λ h. same_turns n r.1 ∙ sym (on_again on r h)) (λ h. sym (on_over on r h))
      ∙ ap (go_on on) (same_one b)
