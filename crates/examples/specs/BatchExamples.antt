-- Request 2's batch: due messages in turn until none is due, a step refuses or a blame falls.
-- Assumes nothing.
use Rattle.std.specs.Prelude.{◌≡◌, List, [], ◌∷◌, ◌++◌, ℕ, replicate, None, Some}
use Rattle.std.proofs.Math.Option.{Option, none, some}
use Rattle.table.specs.declared.Party.TheVariants.{Device, Host}
use Rattle.table.specs.declared.refusal.Question.TheVariants.{OutputTooShort}
use Rattle.conversation.specs.declared.State.{State}
use Rattle.conversation.specs.declared.Standing.TheVariants.{Running, DeviceBlamed, HostBlamed}
use Rattle.conversation.specs.declared.Verdict.TheVariants.{Refused}
use Rattle.conversation.specs.Step.{Told, refused, blamed, forwarded, fresh}
use Rattle.conversation.specs.Batch.{lent, Lane, Batch, batching, last_of, batched}
use Rattle.conversation.specs.Counts.{Counts}
use Rattle.examples.specs.Twelve.{ask, ok, table, P_counts}
use Rattle.examples.specs.TableExamples.{P1, P2, one_letter}
use Rattle.examples.specs.MessageExamples.{A_of}
use Rattle.examples.specs.StepExamples.{at_position, quit}

-- bytes used on a side, bytes written on the other side's output, and that output
abbrev pub a_lane : ℕ → ℕ → List ℕ → Lane
a_lane u w out = record { used = u; written = w; output = out }

-- a batch: the state, the counts, the device's messages and the host's, and the last answer
abbrev pub came_to : State → Counts → Lane → Lane → Option Told → Batch
came_to s c device host last = record { state = s; counts = c; lanes = record { device = device; host = host }; last = last }

-- `A` without fields
abbrev pub A_alone : List ℕ
A_alone = one_letter 65 ++ (0 ∷ [])

-- "takes due messages in turn until none is due, a step refuses or a blame falls"; "A refused step changes nothing and undoes none before it. Bytes
-- used on a side are those of its forwarded and blamed messages, bytes written on an output those forwarded to it." The device's outputs are of 8,
-- the host's of 9
pub record BatchesTaken : Type 0 where
  -- Ask 100, Ok, and an Ask 101 that is blamed: its bytes are used and not written, and what waits behind it is left
  pub blamed_device : batching P1 fresh (P_counts 442 0 0 0 0 0) (lent (ask 100 ++ (ask 101 ++ (7 ∷ []))) (ok ++ ok) (replicate 10 8) (replicate 30 9))
      ≡ came_to (at_position 0 DeviceBlamed) (P_counts 442 1 1 1 1 0) (a_lane 28 14 (ask 100 ++ replicate 16 9)) (a_lane 9 9 (ok ++ (8 ∷ [])))
      (some (blamed Device 3 (some 0)))
  -- the host's message is blamed
  pub blamed_host : batching P1 fresh (P_counts 442 0 0 0 0 0) (lent (ask 100) (quit ++ ok) (replicate 10 8) (replicate 15 9))
      ≡ came_to (at_position 1 HostBlamed) (P_counts 442 1 0 1 0 0) (a_lane 14 14 (ask 100 ++ (9 ∷ []))) (a_lane 9 0 (replicate 10 8))
      (some (blamed Host 1 none))
  -- two of each, and none is due then: the last answer is the last step's. Each step is given the rest of the output
  pub all_forwarded : batching P1 fresh (P_counts 442 5 4 3 4 2) (lent (ask 1 ++ ask 2) (ok ++ ok) (replicate 19 8) (replicate 29 9))
      ≡ came_to fresh (P_counts 442 7 6 5 6 2) (a_lane 28 28 (ask 1 ++ (ask 2 ++ (9 ∷ [])))) (a_lane 18 18 (ok ++ (ok ++ (8 ∷ []))))
      (some forwarded)
  -- "With no step tried the last answer is that none was due": half a message waits, and an early one, under either edition
  pub none_due : batching P1 fresh (P_counts 442 0 0 0 0 0) (lent (65 ∷ []) ok (replicate 9 8) [])
      ≡ came_to fresh (P_counts 442 0 0 0 0 0) (a_lane 0 0 []) (a_lane 0 0 (replicate 9 8)) none
  pub none_early : batching P2 fresh (P_counts 442 0 0 0 0 0) (lent [] ok (replicate 9 8) (replicate 9 9))
      ≡ came_to fresh (P_counts 442 0 0 0 0 0) (a_lane 0 0 (replicate 9 9)) (a_lane 0 0 (replicate 9 8)) none
  pub at_an_end : batching P1 (at_position 2 Running) (P_counts 442 0 0 0 0 0) (lent quit ok [] [])
      ≡ came_to (at_position 2 Running) (P_counts 442 0 0 0 0 0) (a_lane 0 0 []) (a_lane 0 0 []) none
  -- a second message without room: refused, and the first stays
  pub no_room : batching P1 fresh (P_counts 442 0 0 0 0 0) (lent (ask 7) ok (replicate 8 8) (replicate 14 9))
      ≡ came_to (at_position 1 Running) (P_counts 442 1 0 1 0 0) (a_lane 14 14 (ask 7)) (a_lane 0 0 (replicate 8 8))
      (some (refused 16))
  -- a text that is no UTF-8 is due, and stops it (request 6: "Step, batch .. rest on the new meaning")
  pub no_text : batching P1 fresh (P_counts 442 0 0 0 0 0) (lent (A_of 1 (0 ∷ 0 ∷ 0 ∷ 1 ∷ []) (0xE9 ∷ [])) [] [] (replicate 20 9))
      ≡ came_to fresh (P_counts 442 0 0 0 0 0) (a_lane 0 0 (replicate 20 9)) (a_lane 0 0 [])
      (some (refused 22))
  -- two of one side, while nothing waits on the other
  pub device_alone : batching (table "+{!A().+{!A().end}}") fresh (P_counts 1 0 0 0 0 0) (lent (A_alone ++ A_alone) [] [] (replicate 18 9))
      ≡ came_to (at_position 2 Running) (P_counts 1 1 1 1 1 0) (a_lane 18 18 (A_alone ++ A_alone)) (a_lane 0 0 [])
      (some forwarded)
  pub host_alone : batching (table "&{?A().&{?A().end}}") fresh (P_counts 1 0 0 0 0 0) (lent [] (A_alone ++ A_alone) (replicate 18 8) [])
      ≡ came_to (at_position 2 Running) (P_counts 1 1 1 1 1 0) (a_lane 0 0 []) (a_lane 18 18 (A_alone ++ A_alone))
      (some forwarded)
  -- the end is reached: the last answer is the last step's, and no 11
  pub to_the_end : batching P1 fresh (P_counts 442 0 0 0 0 0) (lent (quit ++ quit) ok [] (replicate 20 9))
      ≡ came_to (at_position 2 Running) (P_counts 442 1 0 0 0 1) (a_lane 9 9 (quit ++ replicate 11 9)) (a_lane 0 0 [])
      (some forwarded)

-- "It asks 9 and 10"; nothing is used or written then
pub record BatchesAsked : Type 0 where
  pub ten : batching P1 (at_position 0 HostBlamed) (P_counts 442 0 0 0 0 0) (lent (ask 7) ok (replicate 9 8) (replicate 20 9))
      ≡ came_to (at_position 0 HostBlamed) (P_counts 442 0 0 0 0 0) (a_lane 0 0 (replicate 20 9)) (a_lane 0 0 (replicate 9 8))
      (some (refused 10))
  -- of the counts, and of the position, ahead of 10
  pub nine : batching P1 (at_position 0 HostBlamed) (P_counts 0 0 0 0 0 0) (lent (ask 7) ok (replicate 9 8) (replicate 20 9))
      ≡ came_to (at_position 0 HostBlamed) (P_counts 0 0 0 0 0 0) (a_lane 0 0 (replicate 20 9)) (a_lane 0 0 (replicate 9 8))
      (some (refused 9))
  pub nine_of_position : batching P1 (at_position 3 HostBlamed) (P_counts 442 0 0 0 0 0) (lent (ask 7) ok (replicate 9 8) (replicate 20 9))
      ≡ came_to (at_position 3 HostBlamed) (P_counts 442 0 0 0 0 0) (a_lane 0 0 (replicate 20 9)) (a_lane 0 0 (replicate 9 8))
      (some (refused 9))
  pub answers : (last_of None ≡ none) × (last_of (Some (Refused OutputTooShort)) ≡ some (refused 16))
  pub numbers : batched
      (record {
        state = at_position 1 Running;
        passed = record { device = record { used = 1; written = 2 }; host = record { used = 3; written = 4 }; last = None };
      })
      (7 ∷ []) (5 ∷ []) (6 ∷ [])
      ≡ came_to (at_position 1 Running) (7 ∷ []) (a_lane 1 2 (6 ∷ [])) (a_lane 3 4 (5 ∷ [])) none
