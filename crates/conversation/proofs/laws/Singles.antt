-- A batch is its single calls: they come to an end, and whatever single calls there are, the batch does what they do.
-- Assumes nothing.
use mathlib.Core.Path.{◌≡◌, refl, sym, ap, ap₂, subst, ◌∙◌}
use mathlib.Core.Logic.{⊎_elim}
use mathlib.Core.Bool.{Bool, true, false, not, ◌&&◌, cond}
use mathlib.Core.List.{List, [], ◌∷◌, ◌++◌, append_assoc, append-nil}
use mathlib.Core.Option.{none, some}
use Prim.Native.Nat.{ℕ, zero, suc, ◌+◌, ◌≤◌, ◌<◌}
use native.Mathlib.Nat.{pos_of_ne-zero}
use native.Mathlib.Omega.{arith}
use lib.ListN.{length, take, drop, length-append, length-drop}
use lib.Seq.{take-append_seam, drop-append_seam, drop-drop}
use Rattle.table.specs.Table.{is_party}
use Rattle.table.specs.View.{Words}
use Rattle.table.specs.declared.Party.{Party}
use Rattle.table.specs.declared.Party.TheVariants.{Device, Host}
use Rattle.table.proofs.laws.Lists.{never, decided}
use Rattle.message.specs.Make.{opening}
use Rattle.conversation.specs.declared.State.{State}
use Rattle.conversation.specs.Step.{Told, refused, blamed, forwarded, Outcome, refusing, blaming, forwarding, stepping}
use Rattle.conversation.specs.Due.{Awaited, of_side, awaited, first_length, due_at, due}
use Rattle.conversation.specs.Due as Due
use Rattle.conversation.specs.Conversation.{Sent, Event, event, played, is_refused, is_forwarded}
use Rattle.conversation.specs.Counts.{Counts}
use Rattle.conversation.specs.Batch.{Both, at_side, set_side, each_side, Left, Lane, used_by, written_by, lane_on, taking, Batch, latest, took, turn_of, one_turn, go_on, turns, begun}
use Rattle.conversation.specs.Batches.{left_after, HandsOut, Single, Singly, none_due, stops, goes_on, used_on, passed_from, lane_after, state_after, counts_after, last_answer, summed, onto_lane, onto, left_by}
use Rattle.conversation.specs.inner.Keeping.{is_last_forwarded}
use Rattle.conversation.proofs.laws.Step.{turn_its, zero_or, Way, refuses, forwards, blames, way}
use Rattle.conversation.proofs.laws.Due.{first_within, first_cut}
use Rattle.conversation.proofs.laws.Conversation.{Played, played_cons}
use Rattle.conversation.proofs.laws.Batch.{untouched, takes_none, takes_one, takes, turn_is, turn_by, on_over}
use Rattle.conversation.proofs.laws.Both.{at_each, each_by, each_is, set_same, set_by}
use Rattle.conversation.proofs.laws.Onto.{goes_on_as}
use denote.Ref.{Bor}

-- ---- the due message

abbrev waiting : Party → Both Left → List ℕ
waiting side l = (at_side side l).bytes

abbrev message_of : Party → Both Left → List ℕ
message_of side l = take (first_length (waiting side l)) (waiting side l)

-- a step with it
abbrev the_step : Words → State → Both Left → Party → Event
the_step t s l side = event t s (record { side = side; bytes = message_of side l; buffer = (at_side side l).output })

-- bytes somewhere in memory
abbrev in_memory : List ℕ → Bor (List ℕ)
in_memory h = record { ref_ptr = (0, 0); now = h }

module _ (t : Words) (s : State) (l : Both Left) where
  hands_none : (q : ℕ) → awaited t s ≡ Due.refused q → HandsOut t s l []
  unfolding due due_at
  hands_none q a device host e f = rw a

  hands_out : (side : Party) → awaited t s ≡ of_side side → HandsOut t s l (message_of side l)
  unfolding due due_at at_side
  hands_out Device a device host e f = rw (a, e)
  hands_out Host a device host e f = rw (a, f)

  handed : (side : Party) (m : List ℕ) → awaited t s ≡ of_side side → HandsOut t s l m → message_of side l ≡ m
  handed side m a h =
      let device = in_memory l.device.bytes in
      let host = in_memory l.host.bytes in
      sym (hands_out side a device host refl refl) ∙ h device host refl refl

  -- a single step is the step with it
  single_is : (e : Event) → Single t s l e → e ≡ the_step t s l e.sent.side
  single_is e g =
      g.stepped
      ∙ ap (event t s) (ap₂ (sent_of e.sent.side) (sym (handed e.sent.side e.sent.bytes g.turn g.due)) g.given)
    where
      sent_of : Party → List ℕ → List ℕ → Sent
      sent_of side m out = record { side = side; bytes = m; buffer = out }

  single_some : (e : Event) → Single t s l e → first_length (waiting e.sent.side l) ≡ 0 → ⊥
  single_some e g z =
      g.some_due (sym (handed e.sent.side e.sent.bytes g.turn g.due) ∙ ap (λ k. take k (waiting e.sent.side l)) z)

  none_first : (side : Party) → awaited t s ≡ of_side side → HandsOut t s l [] → first_length (waiting side l) ≡ 0
  none_first side a h = sym (first_cut (waiting side l)) ∙ ap length (handed side [] a h)

  a_single : (side : Party) → awaited t s ≡ of_side side → (first_length (waiting side l) ≡ 0 → ⊥) → Single t s l (the_step t s l side)
  unfolding event
  a_single side a n =
      record {
        turn = a;
        due = hands_out side a;
        some_due = λ e. n (sym (first_cut (waiting side l)) ∙ ap length e);
        given = refl;
        stepped = refl;
      }

-- ---- single calls come to an end

abbrev pub bytes_left : Both Left → ℕ
bytes_left l = length l.device.bytes + length l.host.bytes

less_waits : (bytes : List ℕ) → (first_length bytes ≡ 0 → ⊥) → length (drop (length (take (first_length bytes) bytes)) bytes) < length bytes
less_waits bytes n =
    let d = length-drop (length (take (first_length bytes) bytes)) bytes in
    omega (arith, d, first_within bytes, first_cut bytes, pos_of_ne-zero n)

fewer : (side : Party) (l : Both Left) → (first_length (waiting side l) ≡ 0 → ⊥)
    → bytes_left (left_after side (length (message_of side l)) l) < bytes_left l
unfolding at_side set_side left_after
fewer Device l n = omega (arith, less_waits l.device.bytes n)
fewer Host l n = omega (arith, less_waits l.host.bytes n)

single_fewer : (t : Words) (s : State) (l : Both Left) (e : Event) → Single t s l e
    → bytes_left (left_after e.sent.side (length e.sent.bytes) l) < bytes_left l
single_fewer t s l e g =
    subst (λ m. bytes_left (left_after e.sent.side (length m) l) < bytes_left l)
    (handed t s l e.sent.side e.sent.bytes g.turn g.due) (fewer e.sent.side l (single_some t s l e g))

forwarded_is : (v : Told) → is_forwarded v ≡ true → v ≡ forwarded
unfolding is_forwarded
forwarded_is (refused q) h = never h refl
forwarded_is (blamed side r f) h = never h refl
forwarded_is forwarded h = refl

module _ (t : Words) where
  abbrev Listed : State → Both Left → Type 0
  Listed s l = (events : List Event) × Singly t s l events

  more : (s : State) (l : Both Left) → ((s : State) (k : Both Left) → bytes_left k < bytes_left l → Listed s k) → Listed s l
  unfolding event is_forwarded
  more s l rest = by (awaited t s) refl
    where
      one : (side : Party) → awaited t s ≡ of_side side → (first_length (waiting side l) ≡ 0 → ⊥) → Listed s l
      one side a n =
          ⊎_elim (λ h. go h) (λ h. (the_step t s l side ∷ [], stops (a_single t s l side a n) (λ f. never (ap is_forwarded f) h)))
          (decided (is_forwarded (the_step t s l side).done.verdict))
        where
          go : is_forwarded (the_step t s l side).done.verdict ≡ true → Listed s l
          go h =
              let r = rest (the_step t s l side).done.state (left_after side (length (message_of side l)) l) (fewer side l n) in
              (the_step t s l side ∷ r.0, goes_on (a_single t s l side a n) (forwarded_is _ h) r.1)

      by : (o : Awaited) → awaited t s ≡ o → Listed s l
      by (Due.refused q) a = ([], none_due (hands_none t s l q a))
      by (of_side side) a =
          ⊎_elim (λ n. one side a n)
          (λ z. ([], none_due (subst (λ k. HandsOut t s l (take k (waiting side l))) z (hands_out t s l side a))))
          (zero_or (first_length (waiting side l)))

  pub listed : (n : ℕ) (s : State) (l : Both Left) → bytes_left l < n → Listed s l
  listed zero s l h = absurd (omega (arith, h))
  listed (suc n) s l h = more s l (λ x k f. listed n x k (omega (arith, f, h)))

-- ---- what one step comes to, and those behind it

-- u bytes used, and p written at the front of the output
abbrev part : ℕ → List ℕ → List ℕ → Lane
part u p out = record { used = u; written = length p; output = p ++ drop (length p) out }

parts_join : (u v : ℕ) (p q out : List ℕ)
    → onto_lane (part u p out) (part v q (drop (length p) (p ++ drop (length p) out))) ≡ part (u + v) (p ++ q) out
unfolding onto_lane
parts_join u v p q out =
    rw (
      take-append_seam p (drop (length p) out),
      drop-append_seam p (drop (length p) out),
      length-append p q,
      drop-drop (length q) (length p) out,
      append_assoc p q (drop (length p + length q) out),
    )

some_last : (e : Event) (r : List Event) → (v : Told) × (last_answer (e ∷ r) ≡ some v)
unfolding last_answer
some_last e [] = (e.done.verdict, refl)
some_last e (f ∷ r) = some_last f r

last_later : (e : Event) (r : List Event) → latest (last_answer r) (some e.done.verdict) ≡ last_answer (e ∷ r)
unfolding last_answer latest
last_later e [] = refl
last_later e (f ∷ r) = let x = some_last f r in ap (λ o. latest o (some e.done.verdict)) x.1 ∙ sym x.1

module _ (side : Party) (e : Event) where
  module _ (r : List Event) where
    used_more : used_on side (e ∷ r) ≡ used_on side (e ∷ []) + used_on side r
    unfolding used_on
    used_more = omega arith

    passed_more : passed_from side (e ∷ r) ≡ passed_from side (e ∷ []) ++ passed_from side r
    unfolding passed_from
    passed_more = by (is_party side (some e.sent.side) && is_forwarded e.done.verdict)
      where
        by : (y : Bool)
            → cond y (e.sent.bytes ++ passed_from side r) (passed_from side r) ≡ cond y (e.sent.bytes ++ []) [] ++ passed_from side r
        by true = ap (λ m. m ++ passed_from side r) (sym (append-nil e.sent.bytes))
        by false = refl

    lanes_join : (out : List ℕ)
        → onto_lane (lane_after side (e ∷ []) out)
        (lane_after side r (drop (lane_after side (e ∷ []) out).written (lane_after side (e ∷ []) out).output))
        ≡ lane_after side (e ∷ r) out
    unfolding lane_after
    lanes_join out =
        parts_join (used_on side (e ∷ [])) (used_on side r) (passed_from side (e ∷ [])) (passed_from side r) out
        ∙ ap₂ (λ u p. part u p out) (sym used_more) (sym passed_more)

  -- a forwarded message's bytes count on its side, and none on the other
  module _ (own : is_party side (some e.sent.side) ≡ true) (f : e.done.verdict ≡ forwarded) where
    own_used : used_on side (e ∷ []) ≡ length e.sent.bytes
    unfolding used_on is_refused
    own_used = let x : length e.sent.bytes + 0 ≡ length e.sent.bytes = omega arith in rw (own, f) x

    own_passed : passed_from side (e ∷ []) ≡ e.sent.bytes
    unfolding passed_from is_forwarded
    own_passed = rw (own, f) (append-nil e.sent.bytes)

  module _ (other : is_party side (some e.sent.side) ≡ false) where
    others_used : used_on side (e ∷ []) ≡ 0
    unfolding used_on
    others_used = rw other

    others_passed : passed_from side (e ∷ []) ≡ []
    unfolding passed_from
    others_passed = rw other

room_after : (out : List ℕ) {p q : List ℕ} → p ≡ q → drop (length p) (p ++ drop (length p) out) ≡ drop (length q) out
room_after out {p} e = drop-append_seam p (drop (length p) out) ∙ ap (λ q. drop (length q) out) e

written_within : (side : Party) (events : List Event) (out : List ℕ)
    → (lane_after side events out).written ≤ length (lane_after side events out).output
unfolding lane_after
written_within side events out =
    let p = passed_from side events in
    omega (arith, length-append p (drop (length p) out))

module _ (t : Words) (s : State) (c : Counts) (l : Both Left) (e : Event) where
  abbrev with_one : Batch
  with_one = summed t s c l (e ∷ [])

  one_then : (r : List Event) → onto with_one (summed t e.done.state with_one.counts (left_by with_one l) r) ≡ summed t s c l (e ∷ r)
  unfolding onto summed left_by state_after counts_after last_answer latest each_side at_side
  one_then r =
      rw (lanes_join Device e r l.device.output, lanes_join Host e r l.host.output, last_later e r)

  one_within : (side : Party) → (at_side side with_one.lanes).written ≤ length (at_side side with_one.lanes).output
  unfolding summed
  one_within =
      each_by (λ side a. a.written ≤ length a.output) (λ side. lane_after side (e ∷ []) (at_side side l).output)
      (λ side. written_within side (e ∷ []) (at_side side l).output)

  -- what it leaves, of a forwarded message
  one_leaves : e.done.verdict ≡ forwarded → left_by with_one l ≡ left_after e.sent.side (length e.sent.bytes) l
  unfolding summed lane_after left_by left_after each_side at_side
  one_leaves f =
      each_is (set_by (λ p a. leaves p ≡ a) e.sent.side _ l
      (rw (own_used e.sent.side e own f, room_after (at_side e.sent.side l).output (own_passed e.sent.side e own f)))
      (λ p o. rw (others_used p e o, room_after (at_side p l).output (others_passed p e o))))
    where
      own : is_party e.sent.side (some e.sent.side) ≡ true
      own = turn_its e.sent.side

      leaves : Party → Left
      leaves p =
          let a = lane_after p (e ∷ []) (at_side p l).output in
          record { bytes = drop a.used (at_side p l).bytes; output = drop a.written a.output }

-- ---- a turn is a single step

module _ (t : Words) (s : State) (c : Counts) (side : Party) (bytes out : List ℕ) where
  abbrev message : List ℕ
  message = take (first_length bytes) bytes

  -- the lane of the step, and of its event
  taken_lane : (x : Outcome) → Way t s side message out x
      → lane_on x.verdict (length message) x.output (untouched out)
      ≡ part (cond (not (is_refused x.verdict)) (length message) 0 + 0) (cond (is_forwarded x.verdict) (message ++ []) []) out
  unfolding lane_on refusing blaming forwarding used_by written_by is_refused is_forwarded opening
  taken_lane x (refuses q e n) = refl
  taken_lane x (blames e r f h) = let y : 0 + length message ≡ length message + 0 = omega arith in rw y
  taken_lane x (forwards e j h) =
      let y : length message + 0 ≡ length message = omega arith in
      let z : 0 + length message ≡ length message = omega arith in
      rw (y, z, append-nil message)

  abbrev done_here : Event
  done_here = event t s (record { side = side; bytes = message; buffer = out })

  taking_one : (first_length bytes ≡ 0 → ⊥)
      → taking t s c side bytes (untouched out)
      ≡ record {
        answer = some done_here.done.verdict;
        state = done_here.done.state;
        counts = counts_after t c (done_here ∷ []);
        lane = lane_after side (done_here ∷ []) out;
      }
  unfolding event lane_after used_on passed_from counts_after
  taking_one n =
      takes_one t s c side bytes (untouched out) n
      ∙ rw (turn_its side, sym (taken_lane (stepping t s side message out) (way t s side message out)), first_cut bytes)

module _ (t : Words) (s : State) (c : Counts) (l : Both Left) where
  abbrev start : Batch
  start = begun s c l none

  turn_one : (side : Party) → awaited t s ≡ of_side side → (first_length (waiting side l) ≡ 0 → ⊥)
      → one_turn t l start ≡ (some (the_step t s l side).done.verdict, with_one t s c l (the_step t s l side))
  unfolding begun turn_of took summed lane_after used_on passed_from is_party event state_after last_answer latest at_side set_side each_side
  turn_one Device a n =
      turn_is t l start (of_side Device) a ∙ ap (λ x. took Device x start) (taking_one t s c Device l.device.bytes l.device.output n)
  turn_one Host a n =
      turn_is t l start (of_side Host) a ∙ ap (λ x. took Host x start) (taking_one t s c Host l.host.bytes l.host.output n)

  turn_single : (e : Event) → Single t s l e → one_turn t l start ≡ (some e.done.verdict, with_one t s c l e)
  turn_single e g =
      subst (λ (e : Event). one_turn t l start ≡ (some e.done.verdict, with_one t s c l e))
      (sym (single_is t s l e g)) (turn_one e.sent.side g.turn (single_some t s l e g))

  turn_none : HandsOut t s l [] → one_turn t l start ≡ (none, start)
  unfolding begun took latest
  turn_none h =
      turn_by t l (λ r. r ≡ (none, start)) start (λ q a. refl)
      (λ side a. rw (nothing_taken side a, set_same side start.lanes))
    where
      nothing_taken : (side : Party) → awaited t s ≡ of_side side
          → takes t l start side ≡ record { answer = none; state = s; counts = c; lane = at_side side start.lanes }
      nothing_taken side a =
          takes_none t s c side (waiting side l) (at_side side start.lanes)
          (rw (at_each (λ p. untouched (at_side p l).output) side) (none_first t s l side a h))

-- ---- a batch is single steps

not_on : (v : Told) → (v ≡ forwarded → ⊥) → is_last_forwarded (some v) ≡ false
unfolding is_last_forwarded is_forwarded
not_on (refused q) n = refl
not_on (blamed side r f) n = refl
not_on forwarded n = absurd (n refl)

module _ (t : Words) where
  abbrev after : ℕ → State → Counts → Both Left → Batch
  after n s c l = turns n t l (start t s c l)

  module _ (n : ℕ) (s : State) (c : Counts) (l : Both Left) (e : Event) (g : Single t s l e) where
    abbrev one : Batch
    one = with_one t s c l e

    stopped : (e.done.verdict ≡ forwarded → ⊥) → after (suc n) s c l ≡ one
    unfolding turns
    stopped x =
        ap (go_on (turns n t l)) (turn_single t s c l e g) ∙ on_over (turns n t l) (some e.done.verdict, one) (not_on e.done.verdict x)

    went_on : e.done.verdict ≡ forwarded → after (suc n) s c l ≡ onto one (after n e.done.state one.counts (left_by one l))
    unfolding turns go_on summed state_after
    went_on f =
        ap (go_on (turns n t l)) (turn_single t s c l e g)
        ∙ ap (λ v. go_on (turns n t l) (some v, one)) f
        ∙ goes_on_as t l one (one_within t s c l e) n

  pub turns_singly : (n : ℕ) (s : State) (c : Counts) (l : Both Left) → bytes_left l < n → (events : List Event) → Singly t s l events
      → after n s c l ≡ summed t s c l events
  unfolding turns go_on begun summed lane_after used_on passed_from state_after counts_after last_answer
  turns_singly zero s c l h events x = absurd (omega (arith, h))
  turns_singly (suc n) s c l h events (none_due d) = ap (go_on (turns n t l)) (turn_none t s c l d)
  turns_singly (suc n) s c l h events (stops {e = e} g x) = stopped n s c l e g x
  turns_singly (suc n) s c l h events (goes_on {e = e} {r = r} g f x) =
      let one = with_one t s c l e in
      let fewer_left = subst (λ k. bytes_left k < bytes_left l) (sym (one_leaves t s c l e f)) (single_fewer t s l e g) in
      went_on n s c l e g f
      ∙ ap (onto one)
      (turns_singly n e.done.state one.counts (left_by one l) (omega (arith, h, fewer_left)) r
      (subst (λ k. Singly t e.done.state k r) (sym (one_leaves t s c l e f)) x))
      ∙ one_then t s c l e r

-- ---- and steps of a conversation

pub singly_played : (t : Words) {s : State} {l : Both Left} {events : List Event} → Singly t s l events → Played t s events
unfolding played
singly_played t (none_due h) = refl
singly_played t (stops {s = s} {e = e} g n) = played_cons t s e [] (sym g.stepped) refl
singly_played t (goes_on {s = s} {e = e} {r = r} g f x) = played_cons t s e r (sym g.stepped) (singly_played t x)
