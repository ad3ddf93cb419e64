-- No byte is lost: what a batch uses of a side's bytes is a row of well-formed messages, and what it writes is their first bytes,
-- unchanged. As long as messages are forwarded, as many are written as used.
-- Assumes nothing.
use mathlib.Core.Path.{◌≡◌, refl, sym, ap, subst, ◌∙◌}
use mathlib.Core.Logic.{⊎_elim}
use mathlib.Core.Bool.{Bool, true, false, cond}
use mathlib.Core.List.{List, [], ◌∷◌, ◌++◌, append_assoc, append-nil, flatten}
use mathlib.Core.Option.{Option, none, some}
use Prim.Native.Nat.{ℕ, ◌+◌, ◌≤◌}
use native.Mathlib.Omega.{arith}
use lib.ListN.{length, take, drop, take-append-drop, length-drop}
use lib.Seq.{length-take-le, take_at, drop_at, take-add, drop-drop}
use lib.Dec.{eqb}
use Rattle.table.specs.Lists.{first_no, every}
use Rattle.table.specs.View.{Words}
use Rattle.table.specs.declared.Party.{Party}
use Rattle.table.proofs.laws.Lists.{never, join, every_append}
use Rattle.message.specs.Message.{well_formed}
use Rattle.message.specs.Make.{opening}
use Rattle.message.proofs.laws.Message.{well_formed_exactly}
use Rattle.conversation.specs.declared.State.{State}
use Rattle.conversation.specs.Step.{is_running, step_questions, Told, refused, Outcome, refusing, blaming, forwarding, stepping}
use Rattle.conversation.specs.Due.{first_length}
use Rattle.conversation.specs.Counts.{Counts}
use Rattle.conversation.specs.Batch.{Both, at_side, Left, Lane, used_by, written_by, lane_on, Taken, taking, Batch, took, one_turn, turns, batch_questions, begun, batching}
use Rattle.conversation.specs.Batches.{Messages, Accounted, NothingLostOf, NothingLost}
use Rattle.conversation.specs.Conversation.{is_forwarded}
use Rattle.conversation.specs.inner.Keeping.{is_last_forwarded}
use Rattle.conversation.proofs.laws.Step.{zero_or, heard_formed, Way, refuses, forwards, blames, way}
use Rattle.conversation.proofs.laws.Due.{first_within}
use Rattle.conversation.proofs.laws.Batch.{untouched, taken, takes_none, takes_one, takes, turn_by, enough_turns}
use Rattle.conversation.proofs.laws.Both.{each_by, set_by}
use Rattle.conversation.proofs.laws.Turns.{turns_keep, blame_stops}

-- ---- one message more

module _ (m : List ℕ) where
  flatten_last : (row : List (List ℕ)) → flatten (row ++ (m ∷ [])) ≡ flatten row ++ m
  unfolding flatten
  flatten_last [] = append-nil m
  flatten_last (x ∷ r) = ap (λ l. x ++ l) (flatten_last r) ∙ sym (append_assoc x (flatten r) m)

-- a side's bytes, and the other side's output as it was
module _ (g : Left) where
  more_messages : (k n : ℕ) → Messages g.bytes k → well_formed (take n (drop k g.bytes)) ≡ true → Messages g.bytes (k + n)
  unfolding every
  more_messages k n (row, e, j) f =
      let m = take n (drop k g.bytes) in (
        row ++ (m ∷ []),
        every_append well_formed row (m ∷ []) e (join f refl),
        flatten_last m row ∙ ap (λ l. l ++ m) j ∙ sym (take-add k n g.bytes),
      )

  -- as long as every message was forwarded
  record Even (l : Lane) : Type 0 where
    pub accounted : Accounted g l
    pub even : l.used ≡ l.written

  nothing : Even (untouched g.output)
  unfolding every flatten
  nothing =
      record {
        accounted =
            record { used = omega arith; messages = ([], refl, refl); passed = ([], refl, refl); written = omega arith; forwards = refl };
        even = refl;
      }

  -- after a side's turn
  record After (x : Taken) : Type 0 where
    pub accounted : Accounted g x.lane
    pub again : is_last_forwarded x.answer ≡ true → x.lane.used ≡ x.lane.written
    pub unblamed : is_running x.state.standing ≡ true → x.lane.used ≡ x.lane.written

  module _ (l : Lane) (v : Even l) where
    a : Accounted g l
    a = v.accounted

    abbrev bytes : List ℕ
    bytes = g.bytes

    abbrev before : List ℕ
    before = g.output

    long : length (take l.written bytes) ≡ l.written
    long = length-take-le l.written bytes (omega (arith, v.even, a.used))

    front_part : take l.written l.output ≡ take l.written bytes
    front_part = ap (λ r. take l.written r) a.forwards ∙ take_at (take l.written bytes) (drop l.written before) l.written long

    back_part : drop l.written l.output ≡ drop l.written before
    back_part = ap (λ r. drop l.written r) a.forwards ∙ drop_at (take l.written bytes) (drop l.written before) l.written long

    abbrev message : ℕ → List ℕ
    message n = take n (drop l.used bytes)

    abbrev room : List ℕ
    room = drop l.written l.output

    module _ (n : ℕ) (h : n ≤ length (drop l.used bytes)) where
      inside : l.used + n ≤ length bytes
      inside = omega (arith, h, length-drop l.used bytes, a.used)

      forwards_it : take l.written l.output ++ opening (message n) room ≡ take (l.written + n) bytes ++ drop (l.written + n) before
      unfolding opening
      forwards_it =
          rw (front_part, back_part, length-take-le n (drop l.used bytes) h, v.even)
          (sym (append_assoc (take l.written bytes) (take n (drop l.written bytes)) (drop n (drop l.written before)))
          ∙ rw (sym (take-add l.written n bytes), drop-drop n l.written before))

      leaves_it : take l.written l.output ++ room ≡ take (l.written + 0) bytes ++ drop (l.written + 0) before
      leaves_it =
          let e : l.written + 0 ≡ l.written = omega arith in
          take-append-drop l.written l.output ∙ a.forwards ∙ ap (λ k. take k bytes ++ drop k before) (sym e)

      -- of a message that is judged
      formed : (t : Words) (s : State) (side : Party) → first_no (step_questions t s side (message n) (length room)) ≡ 0
          → well_formed (message n) ≡ true
      formed t s side e = (well_formed_exactly (message n)).1 (heard_formed t s side (message n) (length room) e)

      after_by : (t : Words) (s : State) (c : Counts) (side : Party) (x : Outcome) → Way t s side (message n) room x → After (taken t s c n (message n) x l)
      unfolding lane_on used_by written_by refusing blaming forwarding is_last_forwarded is_forwarded
      after_by t s c side x (refuses q e z) =
          let u : l.used ≡ l.used + 0 = omega arith in
          let w : l.written ≡ l.written + 0 = omega arith in
          record {
            accounted =
                record {
                  used = omega (arith, a.used);
                  messages = subst (Messages bytes) u a.messages;
                  passed = subst (Messages bytes) w a.passed;
                  written = omega (arith, v.even);
                  forwards = leaves_it;
                };
            again = λ h. omega (arith, v.even);
            unblamed = λ h. omega (arith, v.even);
          }
      after_by t s c side x (blames e r g z) =
          let w : l.written ≡ l.written + 0 = omega arith in
          record {
            accounted =
                record {
                  used = inside;
                  messages = more_messages l.used n a.messages (formed t s side e);
                  passed = subst (Messages bytes) w a.passed;
                  written = omega (arith, v.even);
                  forwards = leaves_it;
                };
            again = λ h. never h refl;
            unblamed = λ h. never h (blame_stops side);
          }
      after_by t s c side x (forwards e j z) =
          record {
            accounted =
                record {
                  used = inside;
                  messages = more_messages l.used n a.messages (formed t s side e);
                  passed = subst (λ k. Messages bytes (k + n)) v.even (more_messages l.used n a.messages (formed t s side e));
                  written = omega (arith, v.even);
                  forwards = forwards_it;
                };
            again = λ h. omega (arith, v.even);
            unblamed = λ h. omega (arith, v.even);
          }

    after_taking : (t : Words) (s : State) (c : Counts) (side : Party) → After (taking t s c side bytes l)
    after_taking t s c side = ⊎_elim one no (zero_or (first_length (drop l.used bytes)))
      where
        no : first_length (drop l.used bytes) ≡ 0 → After (taking t s c side bytes l)
        no z = subst After (sym (takes_none t s c side bytes l z)) (record { accounted = a; again = λ h. v.even; unblamed = λ h. v.even })

        one : (first_length (drop l.used bytes) ≡ 0 → ⊥) → After (taking t s c side bytes l)
        one n =
            let k = first_length (drop l.used bytes) in
            subst After (sym (takes_one t s c side bytes l n))
            (after_by k (first_within (drop l.used bytes)) t s c side (stepping t s side (message k) room) (way t s side (message k) room))

-- ---- all turns

module _ (g : Both Left) where
  abbrev AllEven : Batch → Type 0
  AllEven b = (side : Party) → Even (at_side side g) (at_side side b.lanes)

  none_lost : (b : Batch) → AllEven b → NothingLostOf g b
  none_lost b v = record { accounted = λ side. (v side).accounted; unblamed = λ h side. (v side).even }

  record Turned (r : Option Told × Batch) : Type 0 where
    pub lost : NothingLostOf g r.1
    pub again : is_last_forwarded r.0 ≡ true → AllEven r.1

  turned : (t : Words) (b : Batch) → AllEven b → Turned (one_turn t g b)
  unfolding took
  turned t b v =
      turn_by t g Turned b (λ q e. record { lost = none_lost b v; again = λ h. v })
      (λ side e.
      let y = takes t g b side in
      let x = after_taking (at_side side g) (at_side side b.lanes) (v side) t b.state b.counts side in
      record {
        lost =
            record {
              accounted = set_by (λ p l. Accounted (at_side p g) l) side y.lane b.lanes x.accounted (λ p o. (v p).accounted);
              unblamed = λ h. set_by (λ p l. l.used ≡ l.written) side y.lane b.lanes (x.unblamed h) (λ p o. (v p).even);
            };
        again = λ h.
            set_by (λ p l. Even (at_side p g) l) side y.lane b.lanes (record { accounted = x.accounted; even = x.again h }) (λ p o. v p);
      })

  begun_even : (s : State) (c : Counts) (last : Option Told) → AllEven (begun s c g last)
  unfolding begun
  begun_even s c last =
      each_by (λ side l. Even (at_side side g) l) (λ side. untouched (at_side side g).output) (λ side. nothing (at_side side g))

-- any table, any state, any counts
pub nothing_lost : NothingLost
unfolding batching
nothing_lost t s c g = by (eqb (first_no (batch_questions t s c)) 0)
  where
    by : (y : Bool)
        → NothingLostOf g
        (cond y (turns (enough_turns g) t g (begun s c g none)) (begun s c g (some (refused (first_no (batch_questions t s c))))))
    by true =
        turns_keep t g (AllEven g) (NothingLostOf g) (none_lost g) (λ b v. (turned g t b v).lost) (λ b v h. (turned g t b v).again h)
        (enough_turns g) (begun s c g none) (begun_even g s c none)
    by false = none_lost g (begun s c g (some (refused _))) (begun_even g s c (some (refused _)))
