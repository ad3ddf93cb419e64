-- A branch's message, as it is made and as its line shows it.
-- Assumes nothing.
use mathlib.Core.Path.{◌≡◌, refl, sym, ap, ap₂, ◌∙◌}
use mathlib.Core.Bool.{true}
use mathlib.Core.List.{List, ◌++◌}
use mathlib.Core.Option.{Option}
use Prim.Native.Nat.{ℕ, ◌≤◌, ◌<◌}
use native.Mathlib.Omega.{arith}
use lib.ListN.{length, take, drop, length-append, length-drop}
use lib.Seq.{take-append_seam}
use lib.Dec.{ltb}
use borrow.Author.Tests.{ltb-true}
use Rattle.std.specs.Prelude.{Result, Ok, Err}
use Rattle.std.specs.Result.{IsOk}
use Rattle.table.specs.Table.{Branch}
use Rattle.table.specs.View.{Words, branches_of, word_at, view, label_of, sound_of}
use Rattle.table.proofs.laws.Lists.{both}
use Rattle.table.proofs.laws.View.{sound_facts, view_sound, branches_of_is}
use Rattle.table.proofs.laws.Table.{Legal}
use Rattle.message.specs.Message.{Message, read, well_formed}
use Rattle.message.specs.Make.{made, made_numbers, branch_message, branch, exists, names_field, opening, Making, making}
use Rattle.message.proofs.laws.Making.{branch_at_is, made_size, texts_few, says_length}
use Rattle.message.proofs.laws.BranchMessage.{branch_legal, made_read, made_well_formed}
use Rattle.table.specs.declared.Party.{Party}
use Rattle.table.specs.declared.refusal.Question.{Question}
use Rattle.report.specs.Report.{line, direction, high_part, move_line}
use Rattle.table.specs.Ascii.{letters}

module _ (t : Words) (s : sound_of t ≡ true) (k : ℕ) (h : Option ℕ) (x : exists (view t) k h ≡ true) where
  pub branch_there : k < branches_of t
  unfolding exists
  branch_there =
      let l = ltb-true k (length (view t).branches)
      (both (ltb k (length (view t).branches)) (names_field h (branch (view t) k)) x).0 in
      omega (arith, branches_of_is t)

  pub branch_few : k < 128
  branch_few = omega (arith, branch_there, (sound_facts t s).room)

  legal : Legal (branch (view t) k)
  legal = branch_legal (view t) (view_sound t s) k (omega (arith, branch_there, branches_of_is t)) h

  pub formed : well_formed (made (branch (view t) k) h) ≡ true
  formed = made_well_formed (branch (view t) k) legal h

  -- a message has 9 to 285 bytes
  pub size_least : 9 ≤ length (made (branch (view t) k) h)
  size_least = omega (arith, made_size t k h branch_there)

  pub size_most : length (made (branch (view t) k) h) ≤ 285
  size_most =
      let f = sound_facts t s in
      omega (arith, made_size t k h branch_there, texts_few t k h branch_there f, f.counts k branch_there)

  -- a buffer of 285 bytes holds it
  pub makes : (b : List ℕ) → length b ≡ 285
      → making t k h b ≡ record { numbers = (0, length (made (branch (view t) k) h)); buffer = opening (made (branch (view t) k) h) b }
  makes b e = says_length t k h b s x (omega (arith, size_most))

  pub opens : (b : List ℕ)
      → take (length (made (branch (view t) k) h)) (opening (made (branch (view t) k) h) b) ≡ made (branch (view t) k) h
  unfolding opening
  opens b = take-append_seam (made (branch (view t) k) h) (drop (length (made (branch (view t) k) h)) b)

  -- what `make` answers
  module _ (b after : List ℕ) (room : length b ≡ 285) (f : after ≡ (making t k h b).buffer) where
    answer : {x : ℕ × ℕ} → x ≡ (making t k h b).numbers → x ≡ (0, length (made (branch (view t) k) h))
    answer e = e ∙ ap (λ (m : Making). m.numbers) (makes b room)

    pub is_made : (r : Result ℕ Question) → made_numbers r ≡ (making t k h b).numbers → IsOk r
    unfolding made_numbers
    is_made (Ok n) e = refl
    is_made (Err q) e =
        let z : ◌≡◌ {A = ℕ} 0 (length (made (branch (view t) k) h)) = ap (λ (p : ℕ × ℕ). p.1) (answer e) in
        absurd (omega (arith, size_least))

    pub full : length after ≡ 285
    unfolding opening
    full =
        ap length (f ∙ ap (λ (m : Making). m.buffer) (makes b room))
        ∙ length-append (made (branch (view t) k) h) (drop (length (made (branch (view t) k) h)) b)
        ∙ omega (arith, room, size_most, length-drop (length (made (branch (view t) k) h)) b)

    module _ {n : ℕ} (e : (0, n) ≡ (making t k h b).numbers) where
      length_is : n ≡ length (made (branch (view t) k) h)
      length_is = ap (λ (p : ℕ × ℕ). p.1) (answer e)

      pub short : n ≤ 285
      short = omega (arith, length_is, size_most)

      pub message_is : take n after ≡ made (branch (view t) k) h
      message_is = ap₂ take length_is (f ∙ ap (λ (m : Making). m.buffer) (makes b room)) ∙ opens b

  -- its line has the label of the branch
  pub label_shown : (read (made (branch (view t) k) h)).label ≡ label_of (word_at t k)
  unfolding branch_message
  label_shown =
      ap (λ (m : Message). m.label) (made_read (branch (view t) k) legal h)
      ∙ ap (λ (b : Branch). b.label) (branch_at_is t k h branch_there)

  pub line_shown : (side : Party) {w : ℕ} → w ≡ word_at t k
      → line (direction side ++ (letters (label_of w) ++ high_part h))
      ≡ move_line (record { side = side; bytes = made (branch (view t) k) h }) h
  unfolding move_line
  line_shown side e = ap (λ l. line (direction side ++ (letters l ++ high_part h))) (ap label_of e ∙ sym label_shown)
