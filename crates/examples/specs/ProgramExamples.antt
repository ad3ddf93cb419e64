-- Programs that call step and batch over one state, in Rattle and in C: what each call gives, and what is left then.
-- Assumes nothing.
use Rattle.std.specs.Prelude.{◌≡◌, List, [], ◌∷◌, ◌++◌, ℕ, replicate}
use Rattle.std.proofs.Math.Option.{none, some}
use Rattle.table.specs.declared.Party.{Party}
use Rattle.table.specs.declared.Party.TheVariants.{Device, Host}
use Rattle.message.specs.Rules.{table_rules}
use Rattle.conversation.specs.declared.Standing.TheVariants.{Running, DeviceBlamed}
use Rattle.conversation.specs.Step.{refused, blamed, forwarded, fresh}
use Rattle.conversation.specs.Due.{of_side}
use Rattle.conversation.specs.Due as D
use Rattle.conversation.specs.Batch.{lent}
use Rattle.conversation.specs.Programs.{Call, a_step, a_batch, by_step, by_batch, run_from, awaited_by}
use Rattle.together.specs.Unblamed.{told_last}
use Rattle.codes.specs.RawPrograms.{raw_step, raw_batch, raw_turn, raw_due, batch_gives, turn_gives, due_gives, raw_called, kept_from, calls_of}
use Rattle.examples.specs.Twelve.{ask, ok, gives, P_counts}
use Rattle.examples.specs.TableExamples.{P1, P_seen}
use Rattle.examples.specs.StepExamples.{at_position, quit}
use Rattle.examples.specs.BatchExamples.{a_lane, came_to}

-- a step with a message, given so many bytes of 7
abbrev pub stepped : Party → List ℕ → ℕ → Call
stepped side message room = a_step (record { side = side; bytes = message; buffer = replicate room 7 })

pub record ProgramsRun : Type 0 where
  -- Ask 100 by a step, the host's Ok by a batch, Ask 101, which is blamed; then 10 refuses a batch and a step
  pub mixed : run_from P1 442
      (stepped Device (ask 100) 15 ∷ a_batch (lent [] (ok ++ ok) (replicate 9 8) (replicate 9 9)) ∷ stepped Device (ask 101) 14
      ∷ a_batch (lent quit ok [] (replicate 9 9))
      ∷ stepped Device quit 9
      ∷ [])
      ≡ record {
        gives =
            by_step (gives forwarded 1 Running (ask 100 ++ (7 ∷ [])), P_counts 442 1 0 1 0 0)
            ∷ by_batch (came_to fresh (P_counts 442 1 1 1 1 0) (a_lane 0 0 (replicate 9 9)) (a_lane 9 9 ok) (some forwarded))
            ∷ by_step (gives (blamed Device 3 (some 0)) 0 DeviceBlamed (replicate 14 7), P_counts 442 1 1 1 1 0)
            ∷ by_batch (came_to (at_position 0 DeviceBlamed) (P_counts 442 1 1 1 1 0) (a_lane 0 0 (replicate 9 9)) (a_lane 0 0 []) (some (refused 10)))
            ∷ by_step (gives (refused 10) 0 DeviceBlamed (replicate 9 7), P_counts 442 1 1 1 1 0)
            ∷ [];
        state = at_position 0 DeviceBlamed;
        counts = P_counts 442 1 1 1 1 0;
      }
  -- whose turn it is by the type: once somebody is blamed 10, at an end 11
  pub turns_by : (awaited_by (table_rules P_seen) 0 none ≡ of_side Device) × (awaited_by (table_rules P_seen) 1 none ≡ of_side Host)
      × (awaited_by (table_rules P_seen) 2 none ≡ D.refused 11)
      × (awaited_by (table_rules P_seen) 1 (some Device) ≡ D.refused 10)
  -- the answer that can blame: a step's, or a batch's last
  pub lasts : (told_last (by_step (gives (blamed Device 3 (some 0)) 0 DeviceBlamed [], [])) ≡ some (blamed Device 3 (some 0)))
      × (told_last (by_batch (came_to fresh [] (a_lane 0 0 []) (a_lane 0 0 []) (some (blamed Device 1 none)))) ≡ some (blamed Device 1 none))
      × (told_last (by_batch (came_to fresh [] (a_lane 0 0 []) (a_lane 0 0 []) none)) ≡ none)

pub record ProgramsInCodes : Type 0 where
  -- 0 is the device, 1 the host; what no side says, and questions, are no calls of the monitor's
  pub made_of : calls_of
      (raw_step 0 quit (7 ∷ []) ∷ raw_step 2 quit [] ∷ raw_turn ∷ raw_step 1 ok (8 ∷ []) ∷ raw_due quit ok
      ∷ raw_batch (1 ∷ []) (2 ∷ []) (3 ∷ []) (4 ∷ [])
      ∷ [])
      ≡ a_step (record { side = Device; bytes = quit; buffer = 7 ∷ [] })
      ∷ a_step (record { side = Host; bytes = ok; buffer = 8 ∷ [] })
      ∷ a_batch (lent (1 ∷ []) (2 ∷ []) (3 ∷ []) (4 ∷ []))
      ∷ []
  -- a fresh state's two bytes are 0 and 0, position and standing
  pub begins : kept_from P1 442 [] ≡ record { bytes = 0 ∷ 0 ∷ []; counts = P_counts 442 0 0 0 0 0 }
  -- each over what the one before left; questions leave it
  pub goes_along : kept_from P1 442 (raw_batch (ask 7) [] [] (replicate 14 9) ∷ raw_turn ∷ raw_step 1 quit (replicate 9 7) ∷ raw_due [] [] ∷ raw_step 0 quit [] ∷ [])
      ≡ record { bytes = 1 ∷ 2 ∷ []; counts = P_counts 442 1 0 1 0 0 }
  -- the answers; of a batch the device's output comes first
  pub answers : ((raw_called P1 (kept_from P1 442 []) raw_turn).0 ≡ turn_gives (record { question = 0; side = 0 }))
      × ((raw_called P1 (kept_from P1 442 []) (raw_due quit ok)).0 ≡ due_gives (record { side = 0; length = 9 }))
      × ((raw_called P1 (kept_from P1 442 []) (raw_batch (ask 7) ok (replicate 10 8) (replicate 15 9))).0
      ≡ batch_gives
      (record {
        used_device = 14;
        used_host = 9;
        written_to_device = 9;
        written_to_host = 14;
        last = record { outcome = 0; question = 0; party = 0; reason = 0; field = 0 };
        reserved = 0 ∷ 0 ∷ 0 ∷ [];
      })
      (ok ++ (8 ∷ [])) (ask 7 ++ (9 ∷ [])))
