-- What is due is found, and a step with it can only be refused by 22 and then 16.
-- Assumes nothing.
use mathlib.Core.Path.{◌≡◌, refl, ap}
use mathlib.Core.Bool.{cond}
use mathlib.Core.List.{List, []}
use Prim.Native.Nat.{ℕ}
use lib.ListN.{length, take}
use lib.Seq.{take-append_seam}
use lib.Dec.{leb}
use Rattle.message.specs.Message.{legal_texts}
use Rattle.message.proofs.laws.Message.{formed_framed, well_formed_exactly}
use Rattle.table.specs.declared.Party.{Party}
use Rattle.table.specs.declared.Party.TheVariants.{Device, Host}
use Rattle.conversation.specs.Step.{step_questions}
use Rattle.table.specs.Lists.{first_no}
use Rattle.conversation.specs.Due.{Awaited, refused, of_side, awaited, first_length, due_at, due, DueHeard, DueFound}
use Rattle.conversation.proofs.laws.Due.{first_found, first_framed, framed_heard}

-- what `due` hands back, if anything, waits on the side whose turn it is, and a step asks 22 and 16 of it
pub due_heard : DueHeard
unfolding due due_at
due_heard t s device host room n = go (awaited t s) refl n
  where
    some_first : (bytes : List ℕ) → (take (first_length bytes) bytes ≡ [] → ⊥) → first_length bytes ≡ 0 → ⊥
    some_first bytes n e = n (ap (λ k. take k bytes) e)

    heard : (side : Party) → awaited t s ≡ of_side side → (bytes : List ℕ) → (take (first_length bytes) bytes ≡ [] → ⊥)
        → first_no (step_questions t s side (take (first_length bytes) bytes) room)
        ≡ cond (legal_texts (take (first_length bytes) bytes)) (cond (leb (length (take (first_length bytes) bytes)) room) 0 16) 22
    heard side e bytes n = framed_heard t s side e (take (first_length bytes) bytes) room (first_framed bytes (some_first bytes n))

    go : (o : Awaited) → awaited t s ≡ o → ((due_at o device host).1 ≡ [] → ⊥)
        → (side : Party) × (awaited t s ≡ of_side side)
        × (first_no (step_questions t s side (due_at o device host).1 room)
        ≡ cond (legal_texts (due_at o device host).1) (cond (leb (length (due_at o device host).1) room) 0 16) 22)
    go (refused q) e n = absurd (n refl)
    go (of_side Device) e n = (Device, e, heard Device e device.now n)
    go (of_side Host) e n = (Host, e, heard Host e host.now n)

pub due_found : DueFound
unfolding due due_at
due_found t s device host message rest ok =
    let first = first_found message rest (formed_framed message ((well_formed_exactly message).0 ok)) in
    (λ e h. rw (e, h, first, take-append_seam message rest), λ e h. rw (e, h, first, take-append_seam message rest))
