-- Whose message is due, how long it is, and that a step then hears it.
-- Assumes nothing.
use mathlib.Core.Path.{◌≡◌, refl, sym, ap, ◌∙◌}
use mathlib.Core.Bool.{Bool, true, false, ◌&&◌, cond, false≢true}
use mathlib.Core.List.{List, ◌++◌}
use mathlib.Core.Option.{Option, none, some}
use Prim.Native.Nat.{ℕ, zero, suc, ◌+◌, ◌*◌, ◌≤◌, ◌<◌}
use native.Mathlib.Omega.{arith}
use lib.ListN.{length, take, length-append, get_or-append}
use lib.Seq.{length-take-le, take-append-le, take-append_seam}
use lib.Dec.{leb, eqb}
use borrow.Author.Tests.{eq-eqb, ne_eqb, eqb-true, le-leb, lt-leb, leb-true}
use Rattle.std.specs.Prelude.{Result, Ok, Err}
use Rattle.table.specs.Question.{number}
use Rattle.table.specs.Table.{legal_label, sort, speaker, is_party}
use Rattle.table.specs.View.{view, sort_of, Words, sort_at}
use Rattle.table.proofs.laws.Lists.{both, join, left_fails, right_fails, or_left}
use Rattle.table.proofs.laws.View.{sort_of_is}
use Rattle.message.specs.Message.{count_of, announced, whole, legal_values, exact, legal_texts, front, Head, front_of, head_of}
use Rattle.message.specs.inner.Layout.{Framed}
use Rattle.message.proofs.laws.Message.{Whole, whole_parts, parts_whole, cut_values, cut_announced, framed_parts, message_framed}
use Rattle.table.specs.declared.Party.{Party}
use Rattle.table.specs.declared.Party.TheVariants.{Device, Host}
use Rattle.conversation.specs.declared.State.{State}
use Rattle.conversation.specs.Step.{of_state, step_questions}
use Rattle.table.specs.Lists.{first_no}
use Rattle.table.specs.declared.refusal.Question.{Question}
use Rattle.table.proofs.laws.Question.{number_no_zero}
use Rattle.conversation.specs.Due.{Awaited, refused, of_side, sender_awaited, awaited, first_length}
use Rattle.conversation.proofs.laws.Step.{turn_its, host_speaks, opened, formed_then, asked_then}

-- ---- whose turn it is

module _ (t : Words) (s : State) where
  pub refused_turn : (q : ℕ) → q ≡ first_no (of_state t s) → (q ≡ 0 → ⊥) → awaited t s ≡ refused q
  unfolding awaited
  refused_turn q e n = rw (sym e, ne_eqb q 0 n)

  module _ (e : first_no (of_state t s) ≡ 0) where
    pub awaited_by : awaited t s ≡ sender_awaited (speaker (sort_of (sort_at t s.position)))
    unfolding awaited
    awaited_by = rw (e, sort_of_is t s.position (opened t s e).below)

    pub device_awaited : sort_at t s.position ≡ 1 → awaited t s ≡ of_side Device
    unfolding sender_awaited speaker sort_of
    device_awaited h = awaited_by ∙ rw h

    pub host_awaited : (sort_at t s.position ≡ 1 → ⊥) → awaited t s ≡ of_side Host
    unfolding sender_awaited
    host_awaited h = awaited_by ∙ ap sender_awaited (host_speaks (sort_at t s.position) (opened t s e).choice h)

-- ---- how long the first message is

module _ (bytes : List ℕ) where
  pub bad_front : (front bytes ≡ 0 → ⊥) → first_length bytes ≡ 0
  unfolding first_length
  bad_front n = rw (left_fails (leb (announced bytes) (length bytes)) (ne_eqb (front bytes) 0 n))

  module _ (e : front bytes ≡ 0) where
    pub not_all_there : length bytes < announced bytes → first_length bytes ≡ 0
    unfolding first_length
    not_all_there h = rw (right_fails (eqb (front bytes) 0) (lt-leb (announced bytes) (length bytes) h))

    pub all_there : announced bytes ≤ length bytes → first_length bytes ≡ announced bytes
    unfolding first_length
    all_there h = rw (join (eq-eqb (front bytes) 0 e) (le-leb (announced bytes) (length bytes) h))

  -- by what `message::front` answers
  module _ (r : Result ℕ Question) (told : head_of r ≡ front_of bytes) where
    pub first_none : (q : Question) → r ≡ Err q → 0 ≡ first_length bytes
    unfolding front_of
    first_none q e =
        let f : number q ≡ front bytes = ap (λ (h : Head). h.question) (sym (ap head_of e) ∙ told) in
        sym (bad_front (λ z. number_no_zero q (f ∙ z)))

    module _ (n : ℕ) (e : r ≡ Ok n) where
      front_yes : (front bytes ≡ 0) × (n ≡ announced bytes)
      unfolding front_of
      front_yes =
          let h = sym (ap head_of e) ∙ told in
          let f : front bytes ≡ 0 = sym (ap (λ (h : Head). h.question) h) in
          (f, ap (λ (h : Head). h.length) h ∙ rw f)

      pub first_all : n ≤ length bytes → n ≡ first_length bytes
      first_all l = front_yes.1 ∙ sym (all_there front_yes.0 (omega (arith, front_yes.1)))

      pub first_part : length bytes < n → 0 ≡ first_length bytes
      first_part l = sym (not_all_there front_yes.0 (omega (arith, front_yes.1)))

  pub first_within : first_length bytes ≤ length bytes
  unfolding first_length
  first_within = go (eqb (front bytes) 0 && leb (announced bytes) (length bytes)) (λ h. leb-true (announced bytes) (length bytes) (both (eqb (front bytes) 0) (leb (announced bytes) (length bytes)) h).1)
    where
      go : (b : Bool) → (b ≡ true → announced bytes ≤ length bytes) → cond b (announced bytes) 0 ≤ length bytes
      go true h = h refl
      go false h = omega arith

  pub first_cut : length (take (first_length bytes) bytes) ≡ first_length bytes
  first_cut = length-take-le (first_length bytes) bytes first_within

  pub first_taken : (n : ℕ) → n ≡ first_length bytes → n ≡ length (take n bytes)
  first_taken n e = rw e (sym first_cut)

  -- it is as long as it says
  pub first_framed : (first_length bytes ≡ 0 → ⊥) → Framed (take (first_length bytes) bytes)
  unfolding first_length
  first_framed n = go (eqb (front bytes) 0 && leb (announced bytes) (length bytes)) refl
    where
      go : (b : Bool) → (eqb (front bytes) 0 && leb (announced bytes) (length bytes)) ≡ b → Framed (take (first_length bytes) bytes)
      go true e =
          let x = both (eqb (front bytes) 0) (leb (announced bytes) (length bytes)) e in
          let f = eqb-true (front bytes) 0 x.0 in
          message_framed bytes (first_length bytes) f (all_there f (leb-true (announced bytes) (length bytes) x.1)) first_within
      go false e = absurd (n (ap (λ b. cond b (announced bytes) 0) e))

-- ---- what is due is heard

-- a refusal is no side's turn
pub no_turn : {q : ℕ} {side : Party} → refused q ≡ of_side side → ⊥
no_turn e = false≢true (ap is_turn e)
  where
    is_turn : Awaited → Bool
    is_turn (refused q) = false
    is_turn (of_side side) = true

sender : (o : Option Party) {side : Party} → sender_awaited o ≡ of_side side → o ≡ some side
unfolding sender_awaited
sender none e = absurd (no_turn e)
sender (some p) e = ap who e
  where
    who : Awaited → Option Party
    who (refused q) = none
    who (of_side side) = some side

module _ (t : Words) (s : State) (side : Party) (a : awaited t s ≡ of_side side) where
  pub open_here : first_no (of_state t s) ≡ 0
  open_here = zero_or (first_no (of_state t s)) refl
    where
      zero_or : (n : ℕ) → first_no (of_state t s) ≡ n → n ≡ 0
      zero_or zero e = refl
      zero_or (suc n) e = absurd (no_turn (sym (refused_turn t s (suc n) (sym e) (λ z. absurd (omega arith))) ∙ a))

  pub speaks_here : is_party side (speaker (sort (view t) s.position)) ≡ true
  unfolding awaited
  speaks_here = ap (is_party side) (sender _ (sym (rw open_here) ∙ a)) ∙ turn_its side

  -- of a message of that side that is as long as it says, only 22 and 16 are left to ask
  pub framed_heard : (message : List ℕ) (room : ℕ) → Framed message
      → first_no (step_questions t s side message room) ≡ cond (legal_texts message) (cond (leb (length message) room) 0 16) 22
  framed_heard message room f =
      asked_then t s side message room open_here
      ∙ formed_then (view t).edition (sort (view t) s.position) side message room (or_left (eqb (view t).edition 2) speaks_here)
      ∙ rw f (by (legal_texts message) (cond (leb (length message) room) 0 16))
    where
      by : (b : Bool) (n : ℕ) → cond (eqb (cond b 0 22) 0) n (cond b 0 22) ≡ cond b n 22
      by true n = refl
      by false n = refl

-- ---- a message that waits first is due, if it is as long as it says

module _ (message rest : List ℕ) (ok : Framed message) where
  parts : (whole message ≡ true) × (legal_values message ≡ true) × (exact message ≡ true)
  parts = framed_parts message ok

  w : Whole message
  w = whole_parts message parts.0

  same_count : count_of (message ++ rest) ≡ count_of message
  unfolding count_of
  same_count = get_or-append message rest 0 8 (omega (arith, w.nine))

  longer : Whole (message ++ rest)
  longer =
      record {
        nine = omega (arith, w.nine, length-append message rest);
        label = ap legal_label (take-append-le 8 message rest (omega (arith, w.nine))) ∙ w.label;
        few = omega (arith, w.few, same_count);
        arrays = omega (arith, w.arrays, same_count, length-append message rest);
      }

  module _ where
    within : length message ≤ length (message ++ rest)
    within = omega (arith, length-append message rest)

    arrays : 9 + 5 * count_of (message ++ rest) ≤ length message
    arrays = omega (arith, w.arrays, same_count)

    same_announced : announced (message ++ rest) ≡ length message
    unfolding exact
    same_announced =
        sym (cut_announced (message ++ rest) (length message) longer arrays within)
        ∙ ap announced (take-append_seam message rest)
        ∙ sym (eqb-true (length message) (announced message) parts.2)

    right_front : front (message ++ rest) ≡ 0
    unfolding front legal_values first_no
    right_front =
        rw (parts_whole (message ++ rest) longer, sym (cut_values (message ++ rest) (length message) longer arrays within), take-append_seam message rest, parts.1)

    pub first_found : first_length (message ++ rest) ≡ length message
    first_found = all_there (message ++ rest) right_front (omega (arith, same_announced, within)) ∙ same_announced
