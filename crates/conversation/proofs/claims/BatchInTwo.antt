-- A batch cut in two: one on the bytes that are there, then one on the rest of them with bytes that came later, is a batch on all.
-- Assumes nothing.
use mathlib.Core.Path.{◌≡◌, refl, sym, ap, subst, ◌∙◌}
use mathlib.Core.Logic.{⊎_elim}
use mathlib.Core.Bool.{true, false}
use mathlib.Core.List.{List, ◌++◌, append_assoc}
use mathlib.Core.Option.{Option, none}
use Prim.Native.Nat.{ℕ, zero, suc, ◌+◌, ◌-◌, ◌≤◌}
use native.Mathlib.Omega.{arith}
use lib.ListN.{length, take, drop, take-append-drop, length-drop}
use lib.Seq.{take-append-le, drop-append-le}
use Rattle.table.specs.Lists.{first_no}
use Rattle.table.specs.View.{Words}
use Rattle.table.specs.declared.Party.{Party}
use Rattle.table.proofs.laws.Lists.{never}
use Rattle.conversation.specs.declared.State.{State}
use Rattle.conversation.specs.Step.{Told, is_running}
use Rattle.conversation.specs.Due.{of_side, first_length}
use Rattle.conversation.specs.Counts.{Counts, counts_sound}
use Rattle.conversation.specs.Batch.{Both, at_side, each_side, Left, Lane, taking, Batch, latest, took, turn_of, one_turn, go_on, turns, batch_questions, begun, batching}
use Rattle.conversation.specs.Batches.{summed, onto, left_by, joined_by, BatchInTwo}
use Rattle.conversation.specs.Conversation.{is_forwarded}
use Rattle.conversation.specs.inner.Keeping.{Within, is_last_forwarded}
use Rattle.conversation.proofs.laws.Step.{zero_or, none_stops, entered}
use Rattle.conversation.proofs.laws.Due.{first_within, first_cut, first_framed, first_found}
use Rattle.conversation.proofs.laws.Batch.{sound_parts, takes_none, takes_one, turn_is, turn_by, stays, go_on_by, on_again, on_over, enough_turns, begun_within, let_in}
use Rattle.conversation.proofs.laws.Both.{at_each, set_same}
use Rattle.conversation.proofs.laws.Turns.{turns_within, Over, turn_over, stuck, more_turns}
use Rattle.conversation.proofs.laws.Onto.{goes_on_as}
use Rattle.conversation.proofs.laws.Tallied.{lasting}
use Rattle.conversation.proofs.claims.BatchSingly.{batch_singly}

-- ---- more bytes behind a message

-- a whole message stays the first
first_stays : (r x : List ℕ) → (first_length r ≡ 0 → ⊥) → first_length (r ++ x) ≡ first_length r
first_stays r x n =
    ap first_length
    (ap (λ l. l ++ x) (sym (take-append-drop (first_length r) r)) ∙ append_assoc (take (first_length r) r) (drop (first_length r) r) x)
    ∙ first_found (take (first_length r) r) (drop (first_length r) r ++ x) (first_framed r n)
    ∙ first_cut r

taking_stays : (t : Words) (s : State) (c : Counts) (side : Party) (bytes more : List ℕ) (l : Lane) → l.used ≤ length bytes
    → (first_length (drop l.used bytes) ≡ 0 → ⊥) → taking t s c side (bytes ++ more) l ≡ taking t s c side bytes l
taking_stays t s c side bytes more l i n =
    let r = drop l.used bytes in
    let d : drop l.used (bytes ++ more) ≡ r ++ more = drop-append-le l.used bytes more i in
    let f : first_length (r ++ more) ≡ first_length r = first_stays r more n in
    let m : take (first_length r) (r ++ more) ≡ take (first_length r) r = take-append-le (first_length r) r more (first_within r) in
    takes_one t s c side (bytes ++ more) l (λ z. n (sym f ∙ sym (ap first_length d) ∙ z)) ∙ rw (d, f, m) (sym (takes_one t s c side bytes l n))

module _ (t : Words) (l : Both Left) (x : Both (List ℕ)) where
  abbrev all : Both Left
  all = joined_by l x

  abbrev turn_there : Batch → Option Told × Batch
  turn_there b = one_turn t l b

  abbrev turn_later : Batch → Option Told × Batch
  turn_later b = one_turn t all b

  abbrev later_turns : ℕ → Batch → Batch
  later_turns n b = turns n t all b

  -- a turn either takes no message, or is the same with more bytes
  data Turn (b : Batch) (r : Option Told × Batch) : Type 0 where
    waits : r ≡ (none, b) → Turn b r
    same : turn_later b ≡ r → Turn b r

  turn : (b : Batch) → Within t l b → Turn b (turn_there b)
  unfolding turn_of took latest joined_by
  turn b w =
      turn_by t l (Turn b) b (λ q e. waits refl)
      (λ side e.
      let bytes = (at_side side l).bytes in
      let a = at_side side b.lanes in
      ⊎_elim
      (λ n. same (turn_is t all b (of_side side) e
      ∙ rw (at_each (λ p. more_at p) side, taking_stays t b.state b.counts side bytes (at_side side x) a (w.inside side).used n)))
      (λ z. waits (rw (takes_none t b.state b.counts side bytes a z, set_same side b.lanes))) (zero_or (first_length (drop a.used bytes))))
    where
      more_at : Party → Left
      more_at p = record { bytes = (at_side p l).bytes ++ at_side p x; output = (at_side p l).output }

  -- some number j of turns on all bytes leads from b to r
  unfoldable Later : Batch → Batch → Type 0
  Later b r = (j : ℕ) × ((k : ℕ) → later_turns (j + k) b ≡ later_turns k r)

  unroll : (j k : ℕ) (b : Batch) → later_turns (suc j + k) b ≡ go_on (later_turns (j + k)) (turn_later b)
  unfolding turns
  unroll j k b = let e : suc j + k ≡ suc (j + k) = omega arith in ap (λ n. later_turns n b) e

  at_once : (b r : Batch) → b ≡ r → Later b r
  unfolding Later
  at_once b r e = (0, λ k. let z : 0 + k ≡ k = omega arith in ap (λ n. later_turns n b) z ∙ ap (later_turns k) e)

  later_on : (b r : Batch) → is_last_forwarded (turn_there b).0 ≡ true → Turn b (turn_there b) → Later (turn_there b).1 r → Later b r
  unfolding Later is_last_forwarded is_forwarded
  later_on b r h (waits q) n = never h (ap (λ (r : Option Told × Batch). is_last_forwarded r.0) q)
  later_on b r h (same g) n = (
    suc n.0,
    λ k. unroll n.0 k b ∙ ap (go_on (later_turns (n.0 + k))) g ∙ on_again (later_turns (n.0 + k)) (turn_there b) h ∙ n.1 k,
  )

  later_over : (b : Batch) → is_last_forwarded (turn_there b).0 ≡ false → Turn b (turn_there b) → Later b (turn_there b).1
  unfolding Later
  later_over b h (waits q) = at_once b (turn_there b).1 (sym (ap (λ (r : Option Told × Batch). r.1) q))
  later_over b h (same g) = (
    1,
    λ k. unroll 0 k b ∙ ap (go_on (later_turns (0 + k))) g ∙ on_over (later_turns (0 + k)) (turn_there b) h
        ∙ sym (stuck t all k (turn_there b).1 over),
  )
    where
      over : Over t all (turn_there b).1
      over =
          subst (λ (r : Option Told × Batch). Over t all r.1) g
          (turn_over t all b (ap (λ (r : Option Told × Batch). is_last_forwarded r.0) g ∙ h))

  -- so turns on all bytes go on from where turns on the first of them end
  later : (m : ℕ) (b : Batch) → Within t l b → Later b (turns m t l b)
  unfolding turns
  later zero b w = at_once b b refl
  later (suc m) b w =
      go_on_by (Later b) (turns m t l) (turn_there b)
      (λ h. later_on b (turns m t l (turn_there b).1) h (turn b w) (later m (turn_there b).1 (stays t l b w).within))
      (λ h. later_over b h (turn b w))

-- ---- the later bytes

module _ (t : Words) (s : State) (c : Counts) (l : Both Left) (x : Both (List ℕ)) (long : length c ≡ 161) (e : first_no (batch_questions t s c) ≡ 0) where
  abbrev joined : Both Left
  joined = joined_by l x

  -- what the batch on the bytes that were there comes to
  abbrev there : Batch
  there = turns (enough_turns l) t l (begun s c l none)

  abbrev rest : Both Left
  rest = left_by there joined

  within : Within t l there
  within = turns_within t l (enough_turns l) (begun s c l none) (begun_within t l l s c e)

  all_first : turns (enough_turns joined) t joined (begun s c l none) ≡ turns (enough_turns joined) t joined there
  unfolding Later begun joined_by each_side at_side
  all_first =
      let n = later t l x (enough_turns l) (begun s c l none) (begun_within t l l s c e) in
      let h : enough_turns joined + n.0 ≡ n.0 + enough_turns joined = omega arith in
      sym (more_turns t joined (enough_turns joined) n.0 (begun s c l none) (begun_within t joined l s c e) (omega arith))
      ∙ ap (λ n. turns n t joined (begun s c l none)) h
      ∙ n.1 (enough_turns joined)

  -- its counts are sound, as those of its single calls are
  counts_there : counts_sound t there.counts ≡ true
  unfolding summed
  counts_there =
      let y = batch_singly t s c l e in
      let k = entered t s c e in
      subst (λ (b : Batch). counts_sound t b.counts ≡ true) (sym (let_in t l s c e ∙ y.1 y.0.0 y.0.1))
      (lasting t k.sound c long k.counts y.0.0)

  module _ (on : is_running there.state.standing ≡ true) where
    again : first_no (batch_questions t there.state there.counts) ≡ 0
    again =
        let p = sound_parts t there.state.position within.sound in
        none_stops t there.state there.counts p.0 p.1 counts_there on

    abbrev anew : Batch
    anew = begun there.state there.counts rest none

    rest_same : turns (enough_turns joined) t rest anew ≡ batching t there.state there.counts rest
    unfolding begun left_by joined_by each_side at_side
    rest_same =
        let all_of : Both Left → ℕ = λ g. length g.device.bytes + length g.host.bytes in
        let k = all_of joined - all_of rest in
        let h : enough_turns joined ≡ enough_turns rest + k =
        omega (
          arith,
          length-drop there.lanes.device.used joined.device.bytes,
          length-drop there.lanes.host.used joined.host.bytes,
        ) in
        ap (λ n. turns n t rest anew) h
        ∙ more_turns t rest (enough_turns rest) k anew (begun_within t rest rest there.state there.counts again) (omega arith)
        ∙ let_in t rest there.state there.counts again

    in_two : batching t s c joined ≡ onto there (batching t there.state there.counts rest)
    unfolding begun joined_by each_side at_side
    in_two =
        sym (let_in t joined s c e) ∙ all_first
        ∙ goes_on_as t joined there (λ side. (within.inside side).written) (enough_turns joined) ∙ ap (onto there) rest_same

pub batch_in_two : BatchInTwo
batch_in_two t s c l x long e =
    subst
    (λ (a : Batch). is_running a.state.standing ≡ true
    → batching t s c (joined_by l x) ≡ onto a (batching t a.state a.counts (left_by a (joined_by l x))))
    (let_in t l s c e) (in_two t s c l x long e)
