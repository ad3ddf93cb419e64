-- Turns on what a batch left of bytes and outputs, put onto that batch, are its further turns.
-- Assumes nothing.
use mathlib.Core.Path.{◌≡◌, refl, sym, ap, ◌∙◌}
use mathlib.Core.Bool.{Bool, true, false, cond}
use mathlib.Core.List.{List, ◌++◌, append_assoc}
use mathlib.Core.Option.{Option, none, some}
use Prim.Native.Nat.{ℕ, zero, suc, ◌+◌, ◌≤◌}
use native.Mathlib.Omega.{arith}
use lib.ListN.{length, take, drop, take-append-drop}
use lib.Seq.{length-take-le, take_at, drop_at, take-add, drop-drop}
use lib.Dec.{eqb}
use Rattle.table.specs.View.{Words}
use Rattle.table.specs.declared.Party.{Party}
use Rattle.table.specs.declared.Party.TheVariants.{Device, Host}
use Rattle.conversation.specs.declared.State.{State}
use Rattle.conversation.specs.Step.{Told, Outcome, stepping}
use Rattle.conversation.specs.Due.{Awaited, of_side, awaited, first_length}
use Rattle.conversation.specs.Due as Due
use Rattle.conversation.specs.Counts.{Counts}
use Rattle.conversation.specs.Batch.{Both, at_side, set_side, each_side, Left, Lane, used_by, written_by, lane_on, Taken, taking, Batch, latest, took, turn_of, one_turn, go_on, turns, begun}
use Rattle.conversation.specs.Batches.{onto_lane, onto, left_by}
use Rattle.conversation.proofs.laws.Batch.{untouched, taken, takes, go_on_by, on_again, on_over}
use Rattle.conversation.proofs.laws.Both.{at_each}

-- ---- one lane after another

unfoldable taken_onto : Lane → Taken → Taken
taken_onto f x = record { answer = x.answer; state = x.state; counts = x.counts; lane = onto_lane f x.lane }

add_assoc : (a b c : ℕ) → (a + b) + c ≡ a + (b + c)
add_assoc a b c = omega arith

-- nothing used and nothing written
pub nothing_onto : (f : Lane) → onto_lane f (untouched (drop f.written f.output)) ≡ f
unfolding onto_lane
nothing_onto f =
    let a : f.used + 0 ≡ f.used = omega arith in
    let b : f.written + 0 ≡ f.written = omega arith in
    rw (a, b, take-append-drop f.written f.output)

module _ (f l : Lane) (i : f.written ≤ length f.output) where
  long : length (take f.written f.output) ≡ f.written
  long = length-take-le f.written f.output i

  abbrev whole : List ℕ
  whole = take f.written f.output ++ l.output

  rest_of : drop (f.written + l.written) whole ≡ drop l.written l.output
  rest_of =
      sym (drop-drop l.written f.written whole)
      ∙ ap (λ r. drop l.written r) (drop_at (take f.written f.output) l.output f.written long)

  front_of : take (f.written + l.written) whole ≡ take f.written f.output ++ take l.written l.output
  front_of = let p = take f.written f.output in
      take-add f.written l.written whole ∙ rw (take_at p l.output f.written long, drop_at p l.output f.written long)

  lane_onto : (v : Told) (n : ℕ) (rest : List ℕ) → lane_on v n rest (onto_lane f l) ≡ onto_lane f (lane_on v n rest l)
  unfolding lane_on onto_lane
  lane_onto v n rest =
      rw (
        front_of,
        append_assoc (take f.written f.output) (take l.written l.output) rest,
        add_assoc f.used l.used (used_by v n),
        add_assoc f.written l.written (written_by v n),
      )

  taking_on : (t : Words) (s : State) (c : Counts) (side : Party) (bytes : List ℕ)
      → taking t s c side bytes (onto_lane f l) ≡ taken_onto f (taking t s c side (drop f.used bytes) l)
  unfolding taking taken_onto onto_lane
  taking_on t s c side bytes = rw (sym (drop-drop l.used f.used bytes), rest_of) (by (eqb (first_length rest) 0))
    where
      rest : List ℕ
      rest = drop l.used (drop f.used bytes)

      message : List ℕ
      message = take (first_length rest) rest

      step : Outcome
      step = stepping t s side message (drop l.written l.output)

      by : (y : Bool)
          → cond y (record { answer = none; state = s; counts = c; lane = onto_lane f l }) (taken t s c (first_length rest) message step (onto_lane f l))
          ≡ taken_onto f (cond y (record { answer = none; state = s; counts = c; lane = l }) (taken t s c (first_length rest) message step l))
      by true = refl
      by false = rw (lane_onto step.verdict (first_length rest) step.output)

-- ---- one batch after another

pub latest_assoc : (a b c : Option Told) → latest a (latest b c) ≡ latest (latest a b) c
unfolding latest
latest_assoc none b c = refl
latest_assoc (some v) b c = refl

-- a side's lane after another's in its place
set_onto : (side : Party) (a : Lane) (f x : Both Lane)
    → set_side side (onto_lane (at_side side f) a) (each_side (λ p. onto_lane (at_side p f) (at_side p x)))
    ≡ each_side (λ p. onto_lane (at_side p f) (at_side p (set_side side a x)))
unfolding set_side each_side at_side
set_onto Device a f x = refl
set_onto Host a f x = refl

module _ (t : Words) (l : Both Left) (f : Batch) (i : (side : Party) → (at_side side f.lanes).written ≤ length (at_side side f.lanes).output) where
  abbrev rest : Both Left
  rest = left_by f l

  rest_at : (side : Party) → (at_side side rest).bytes ≡ drop (at_side side f.lanes).used (at_side side l).bytes
  unfolding left_by at_side each_side
  rest_at Device = refl
  rest_at Host = refl

  takes_on : (b : Batch) (side : Party) → takes t l (onto f b) side ≡ taken_onto (at_side side f.lanes) (takes t rest b side)
  unfolding onto
  takes_on b side =
      rw (at_each (λ p. onto_lane (at_side p f.lanes) (at_side p b.lanes)) side, rest_at side)
      (taking_on (at_side side f.lanes) (at_side side b.lanes) (i side) t b.state b.counts side (at_side side l).bytes)

  turn_on : (b : Batch) → one_turn t l (onto f b) ≡ ((one_turn t rest b).0, onto f (one_turn t rest b).1)
  unfolding one_turn onto turn_of took taken_onto
  turn_on b = by (awaited t b.state)
    where
      by : (o : Awaited) → turn_of t l (onto f b) o ≡ ((turn_of t rest b o).0, onto f (turn_of t rest b o).1)
      by (Due.refused q) = refl
      by (of_side side) =
          let x = takes t rest b side in
          rw (takes_on b side, set_onto side x.lane f.lanes b.lanes, latest_assoc x.answer b.last f.last)

  turns_on : (n : ℕ) (b : Batch) → turns n t l (onto f b) ≡ onto f (turns n t rest b)
  unfolding turns
  turns_on zero b = refl
  turns_on (suc n) b =
      let on = turns n t l in
      let r = one_turn t rest b in
      let z : Option Told × Batch = (r.0, onto f r.1) in
      ap (go_on on) (turn_on b)
      ∙ go_on_by (λ c. go_on on z ≡ onto f c) (turns n t rest) r (λ h. on_again on z h ∙ turns_on n r.1) (λ h. on_over on z h)

  abbrev anew : Batch
  anew = begun f.state f.counts rest none

  as_onto : onto f anew ≡ f
  unfolding onto begun latest left_by each_side at_side
  as_onto = rw (nothing_onto f.lanes.device, nothing_onto f.lanes.host)

  pub goes_on_as : (n : ℕ) → turns n t l f ≡ onto f (turns n t rest anew)
  goes_on_as n = ap (turns n t l) (sym as_onto) ∙ turns_on n anew
