-- A batch: that question 9 need be asked but once, what a due message is still asked, and that every turn keeps lanes and position
-- within.
-- Assumes nothing.
use mathlib.Core.Path.{◌≡◌, refl, sym, ap, subst, ◌∙◌}
use mathlib.Core.Logic.{⊎_elim}
use mathlib.Core.Bool.{true, false, cond}
use mathlib.Core.List.{List, ◌++◌}
use mathlib.Core.Option.{Option, none, some}
use Prim.Native.Nat.{ℕ, suc, ◌+◌, ◌-◌, ◌≤◌, ◌<◌}
use native.Mathlib.Nat.{pos_of_ne-zero}
use native.Mathlib.Omega.{arith}
use lib.ListN.{length, take, drop, length-append, length-drop}
use lib.Seq.{length-take-le}
use lib.Dec.{leb, ltb}
use borrow.Author.Tests.{ne_eqb, le-leb, lt-leb, lt-ltb, ltb-true}
use Rattle.table.specs.Lists.{first_no}
use Rattle.table.specs.Table.{sort}
use Rattle.table.specs.View.{Words, view, states_of, sort_at, sound_of, sound_at}
use Rattle.table.specs.declared.Party.{Party}
use Rattle.table.specs.declared.Party.TheVariants.{Device, Host}
use Rattle.table.proofs.laws.Lists.{both, join, never}
use Rattle.table.proofs.laws.View.{sound_facts}
use Rattle.message.specs.Message.{read, whole, legal_texts}
use Rattle.message.specs.Judge.{judge}
use Rattle.message.specs.Rules.{table_rules}
use Rattle.message.specs.Make.{opening}
use Rattle.conversation.specs.declared.State.{State}
use Rattle.conversation.specs.Step.{is_running, of_state, step_questions, Told, refused, blamed, forwarded, Outcome, refusing, blaming, forwarding, stepping}
use Rattle.conversation.specs.Due.{Awaited, of_side, awaited, first_length}
use Rattle.conversation.specs.Due as Due
use Rattle.conversation.specs.Counts.{Counts, counted}
use Rattle.conversation.specs.Batch.{Both, at_side, set_side, Left, Lane, used_by, written_by, lane_on, Taken, taking, Batch, took, turn_of, one_turn, go_on, turns, batch_questions, begun, batching}
use Rattle.conversation.specs.Conversation.{is_forwarded}
use Rattle.conversation.specs.inner.Keeping.{Heard, LaneIn, Within, is_last_forwarded}
use Rattle.conversation.proofs.laws.Step.{zero_or, entered, at_end, at_choice, opened, Ready, ready, asked_then, said_in_turn, target_of, said_here, refused_step, Way, refuses, forwards, blames, way}
use Rattle.conversation.proofs.laws.Due.{refused_turn, device_awaited, host_awaited, first_within, first_cut, first_framed, open_here, speaks_here, framed_heard}
use Rattle.conversation.proofs.laws.Conversation.{said_leads, next_state}
use Rattle.conversation.proofs.laws.Both.{each_by, set_by}

-- ---- a sound table and one of its states

module _ (t : Words) (i : ℕ) where
  pub sound_parts : sound_at t i ≡ true → (sound_of t ≡ true) × (i < states_of t)
  unfolding sound_at
  sound_parts e = let b = both (sound_of t) (ltb i (states_of t)) e in (b.0, ltb-true i (states_of t) b.1)

  pub table_sound : sound_at t i ≡ true → sound_of t ≡ true
  table_sound e = (sound_parts e).0

  pub parts_sound : sound_of t ≡ true → i < states_of t → sound_at t i ≡ true
  unfolding sound_at
  parts_sound e l = join e (lt-ltb i (states_of t) l)

-- ---- whose turn it is, 9 having got a yes

module _ (t : Words) (s : State) (e : sound_at t s.position ≡ true) where
  p : (sound_of t ≡ true) × (s.position < states_of t)
  p = sound_parts t s.position e

  module _ (on : is_running s.standing ≡ true) where
    pub ended_turn : sort_at t s.position ≡ 0 → awaited t s ≡ Due.refused 11
    ended_turn h = refused_turn t s 11 (sym (at_end t s p.0 p.1 on h)) (λ z. omega arith)

    module _ (n : sort_at t s.position ≡ 0 → ⊥) where
      pub devices_turn : sort_at t s.position ≡ 1 → awaited t s ≡ of_side Device
      devices_turn h = device_awaited t s (at_choice t s p.0 p.1 on n) h

      pub hosts_turn : (sort_at t s.position ≡ 1 → ⊥) → awaited t s ≡ of_side Host
      hosts_turn h = host_awaited t s (at_choice t s p.0 p.1 on n) h

-- ---- a due message is asked 22 and 16 only

module _ (t : Words) (s : State) (side : Party) (message out : List ℕ) (d : Heard t s side message) where
  due_open : first_no (of_state t s) ≡ 0
  due_open = open_here t s side d.turn

  due_asked : first_no (step_questions t s side message (length out)) ≡ cond (legal_texts message) (cond (leb (length message) (length out)) 0 16) 22
  due_asked = framed_heard t s side d.turn message (length out) d.framed

  pub due_broken : legal_texts message ≡ false → stepping t s side message out ≡ refusing 22 s out
  due_broken b = refused_step t s side message out 22 (due_asked ∙ rw b) (λ z. omega arith)

  pub due_full : legal_texts message ≡ true → length out < length message → stepping t s side message out ≡ refusing 16 s out
  due_full b h = refused_step t s side message out 16 (due_asked ∙ rw (b, lt-leb (length message) (length out) h)) (λ z. omega arith)

  pub due_sound : sound_of t ≡ true
  due_sound = (opened t s due_open).sound

  -- it is judged against the branches
  pub due_judged : said_here t s side message out ≡ judge (view t) s.position (read message)
  due_judged = said_in_turn (table_rules (view t)) s.position _ (speaks_here t s side d.turn)

  due_ready : first_no (step_questions t s side message (length out)) ≡ 0
      → Ready (view t).edition (sort (view t) s.position) side message (length out)
  due_ready e =
      ready (view t).edition (sort (view t) s.position) side message (length out) (sym (asked_then t s side message (length out) due_open) ∙ e)

  module _ (b : legal_texts message ≡ true) (h : length message ≤ length out) where
    pub due_yes : first_no (step_questions t s side message (length out)) ≡ 0
    due_yes = due_asked ∙ rw (b, le-leb (length message) (length out) h)

    pub due_whole : whole message ≡ true
    due_whole = (due_ready due_yes).whole_there

  -- what is written fits, the output keeps its length, and the position is one of the table's states
  pub record StepIn (x : Outcome) : Type 0 where
    pub fits : written_by x.verdict (length message) ≤ length out
    pub long : length x.output ≡ length out
    pub below : x.state.position < states_of t

  step_in_by : (x : Outcome) → s.position < states_of t → Way t s side message out x → StepIn x
  unfolding refusing blaming forwarding written_by opening target_of
  step_in_by x l (refuses q e n) = record { fits = omega arith; long = refl; below = l }
  step_in_by x l (forwards e j h) =
      let f = (due_ready e).fits in
      record {
        fits = f;
        long = length-append message (drop (length message) out) ∙ omega (arith, length-drop (length message) out, f);
        below = next_state t (sound_facts t due_sound) s.position _ j (said_leads t due_sound s.position _ ∙ ap target_of h);
      }
  step_in_by x l (blames e r f h) = record { fits = omega arith; long = refl; below = l }

  pub step_in : StepIn (stepping t s side message out)
  step_in = step_in_by (stepping t s side message out) (opened t s due_open).below (way t s side message out)

-- ---- answers

used_few : (v : Told) (n : ℕ) → used_by v n ≤ n
unfolding used_by
used_few (refused q) n = omega arith
used_few (blamed side r f) n = omega arith
used_few forwarded n = omega arith

-- ---- one side's turn

-- nothing used, nothing written
abbrev pub untouched : List ℕ → Lane
untouched out = record { used = 0; written = 0; output = out }

-- after a step on a message of n bytes
abbrev pub taken : Words → State → Counts → ℕ → List ℕ → Outcome → Lane → Taken
taken t s c n message x l =
    record {
      answer = some x.verdict;
      state = x.state;
      counts = counted t s message x.verdict c;
      lane = lane_on x.verdict n x.output l;
    }

module _ (t : Words) (s : State) (c : Counts) (side : Party) (bytes : List ℕ) (l : Lane) where
  abbrev rest : List ℕ
  rest = drop l.used bytes

  abbrev room : List ℕ
  room = drop l.written l.output

  abbrev message : List ℕ
  message = take (first_length rest) rest

  pub takes_none : first_length rest ≡ 0 → taking t s c side bytes l ≡ record { answer = none; state = s; counts = c; lane = l }
  unfolding taking
  takes_none e = rw e

  pub takes_one : (first_length rest ≡ 0 → ⊥)
      → taking t s c side bytes l ≡ taken t s c (first_length rest) message (stepping t s side message room) l
  unfolding taking
  takes_one n = rw (ne_eqb (first_length rest) 0 n)

  module _ (a : awaited t s ≡ of_side side) (i : LaneIn bytes l) where
    pub now_due : (first_length rest ≡ 0 → ⊥) → Heard t s side message
    now_due n = record { turn = a; framed = first_framed rest n }

    module _ (n : first_length rest ≡ 0 → ⊥) where
      k : StepIn t s side message room (now_due n) (stepping t s side message room)
      k = step_in t s side message room (now_due n)

      pub used_in : (v : Told) → l.used + used_by v (first_length rest) ≤ length bytes
      used_in v = omega (arith, used_few v (first_length rest), first_within rest, length-drop l.used bytes, i.used)

      pub written_in : l.written + written_by (stepping t s side message room).verdict (first_length rest) ≤ length l.output
      written_in = omega (arith, rw (first_cut rest) at k.fits, length-drop l.written l.output, i.written)

      pub same_room : length (take l.written l.output ++ (stepping t s side message room).output) ≡ length l.output
      same_room =
          length-append (take l.written l.output) (stepping t s side message room).output
          ∙ omega (arith, length-take-le l.written l.output i.written, k.long, length-drop l.written l.output, i.written)

      pub below_in : sound_at t (stepping t s side message room).state.position ≡ true
      below_in = parts_sound t _ (due_sound t s side message room (now_due n)) k.below

  -- lane and position stay within, and a forwarded message is used
  pub record Moved (x : Taken) : Type 0 where
    pub inside : LaneIn bytes x.lane
    pub sound : sound_at t x.state.position ≡ true
    pub moves : is_last_forwarded x.answer ≡ true → l.used < x.lane.used

  pub taking_moved : awaited t s ≡ of_side side → sound_at t s.position ≡ true → LaneIn bytes l → Moved (taking t s c side bytes l)
  unfolding is_last_forwarded is_forwarded lane_on used_by
  taking_moved a e i = ⊎_elim one no (zero_or (first_length rest))
    where
      no : first_length rest ≡ 0 → Moved (taking t s c side bytes l)
      no z = subst Moved (sym (takes_none z)) (record { inside = i; sound = e; moves = λ h. never h refl })

      all_used : (v : Told) → is_last_forwarded (some v) ≡ true → used_by v (first_length rest) ≡ first_length rest
      all_used (refused q) h = never h refl
      all_used (blamed p r f) h = never h refl
      all_used forwarded h = refl

      one : (first_length rest ≡ 0 → ⊥) → Moved (taking t s c side bytes l)
      one n =
          subst Moved (sym (takes_one n))
          (record {
            inside =
                record {
                  used = used_in a i n (stepping t s side message room).verdict;
                  written =
                      subst (λ k. l.written + written_by (stepping t s side message room).verdict (first_length rest) ≤ k)
                      (sym (same_room a i n)) (written_in a i n);
                };
            sound = below_in a i n;
            moves = λ h.
                let u = all_used (stepping t s side message room).verdict h in
                omega (arith, u, pos_of_ne-zero n);
          })

-- ---- one turn

-- the bytes that are left
abbrev pub left : Both Left → Both Lane → ℕ
left l x = (length l.device.bytes - x.device.used) + (length l.host.bytes - x.host.used)

less_left : (l : Both Left) (x : Both Lane) (side : Party) (a : Lane) → (at_side side x).used < a.used → a.used ≤ length (at_side side l).bytes
    → left l (set_side side a x) < left l x
unfolding at_side set_side
less_left l x Device a h i = omega (arith, h, i)
less_left l x Host a h i = omega (arith, h, i)

module _ (t : Words) (l : Both Left) where
  -- what comes of a side's turn
  abbrev pub takes : Batch → Party → Taken
  takes b side = taking t b.state b.counts side (at_side side l).bytes (at_side side b.lanes)

  pub turn_is : (b : Batch) (o : Awaited) → awaited t b.state ≡ o → one_turn t l b ≡ turn_of t l b o
  unfolding one_turn
  turn_is b o e = ap (turn_of t l b) e

  -- whoever has it
  pub turn_by : (P : Option Told × Batch → Type 0) (b : Batch) → ((q : ℕ) → awaited t b.state ≡ Due.refused q → P (none, b))
      → ((side : Party) → awaited t b.state ≡ of_side side → P (took side (takes b side) b)) → P (one_turn t l b)
  unfolding turn_of
  turn_by P b nobodys sides = by (awaited t b.state) refl
    where
      by : (o : Awaited) → awaited t b.state ≡ o → P (one_turn t l b)
      by (Due.refused q) e = subst P (sym (turn_is b (Due.refused q) e)) (nobodys q e)
      by (of_side side) e = subst P (sym (turn_is b (of_side side) e)) (sides side e)

  pub record Stays (b : Batch) (r : Option Told × Batch) : Type 0 where
    pub within : Within t l r.1
    pub falls : is_last_forwarded r.0 ≡ true → left l r.1.lanes < left l b.lanes

  pub stays : (b : Batch) → Within t l b → Stays b (one_turn t l b)
  unfolding is_last_forwarded is_forwarded took
  stays b w =
      turn_by (Stays b) b (λ q e. record { within = w; falls = λ h. never h refl })
      (λ side e.
      let x = takes b side in
      let m = taking_moved t b.state b.counts side (at_side side l).bytes (at_side side b.lanes) e w.sound (w.inside side) in
      record {
        within =
            record {
              sound = m.sound;
              inside = set_by (λ p a. LaneIn (at_side p l).bytes a) side x.lane b.lanes m.inside (λ p o. w.inside p);
            };
        falls = λ h. less_left l b.lanes side x.lane (m.moves h) m.inside.used;
      })

-- ---- on, or over

pub go_on_by : (P : Batch → Type 0) (f : Batch → Batch) (r : Option Told × Batch) → (is_last_forwarded r.0 ≡ true → P (f r.1))
    → (is_last_forwarded r.0 ≡ false → P r.1) → P (go_on f r)
unfolding go_on is_last_forwarded is_forwarded
go_on_by P f (none, b) on over = over refl
go_on_by P f (some (refused q), b) on over = over refl
go_on_by P f (some (blamed p r x), b) on over = over refl
go_on_by P f (some forwarded, b) on over = on refl

pub on_again : (f : Batch → Batch) (r : Option Told × Batch) → is_last_forwarded r.0 ≡ true → go_on f r ≡ f r.1
on_again f r h = go_on_by (λ c. c ≡ f r.1) f r (λ k. refl) (λ k. never h k)

pub on_over : (f : Batch → Batch) (r : Option Told × Batch) → is_last_forwarded r.0 ≡ false → go_on f r ≡ r.1
on_over f r h = go_on_by (λ c. c ≡ r.1) f r (λ k. never k h) (λ k. refl)

-- ---- the whole

-- a batch's number of turns
abbrev pub enough_turns : Both Left → ℕ
enough_turns l = suc (length l.device.bytes + length l.host.bytes)

-- whatever waits and whatever is lent
pub begun_within : (t : Words) (l g : Both Left) (s : State) (c : Counts) → first_no (batch_questions t s c) ≡ 0 → Within t l (begun s c g none)
unfolding begun
begun_within t l g s c e =
    record {
      sound = let x = entered t s c e in parts_sound t s.position x.sound x.below;
      inside =
          each_by (λ side a. LaneIn (at_side side l).bytes a) (λ side. untouched (at_side side g).output)
          (λ side. record { used = omega arith; written = omega arith });
    }

module _ (t : Words) (l : Both Left) (s : State) (c : Counts) where
  pub kept_out : (q : ℕ) → q ≡ first_no (batch_questions t s c) → (q ≡ 0 → ⊥) → begun s c l (some (refused q)) ≡ batching t s c l
  unfolding batching
  kept_out q e n = rw (sym e, ne_eqb q 0 n)

  pub let_in : first_no (batch_questions t s c) ≡ 0 → turns (enough_turns l) t l (begun s c l none) ≡ batching t s c l
  unfolding batching
  let_in e = rw e
