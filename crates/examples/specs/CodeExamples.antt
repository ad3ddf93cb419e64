-- The codes that cross to C and Rust, as include/sojimu.h names them, and what the calls over codes do.
-- Assumes nothing.
use Rattle.std.specs.Prelude.{◌≡◌, true, false, [], ◌∷◌, ◌++◌, ℕ, replicate, None, Some, Ok, Err}
use Rattle.std.proofs.Math.Option.{none, some}
use Rattle.table.specs.declared.Party.TheVariants.{Device, Host}
use Rattle.table.specs.declared.refusal.Question.TheVariants as Q
use Rattle.table.specs.Question.{number, refused_by}
use Rattle.message.specs.Message.{head_of}
use Rattle.message.specs.Make.{high_of, made_numbers}
use Rattle.conversation.specs.declared.Standing.TheVariants.{Running, DeviceBlamed, HostBlamed}
use Rattle.conversation.specs.Step.{refused, blamed, forwarded}
use Rattle.conversation.specs.Batch.{lent}
use Rattle.conversation.specs.Counts.{started}
use Rattle.conversation.specs.Due as D
use Rattle.conversation.specs.Warning as W
use Rattle.machine.specs.Answer as F
use Rattle.codes.specs.Codes as C
use Rattle.codes.specs.Calls.{step_codes, batching_codes, due_codes}
use Rattle.examples.specs.Twelve.{ask, ok, P_counts}
use Rattle.examples.specs.TableExamples.{P1}
use Rattle.examples.specs.StepExamples.{at_position, quit}

pub record CodesTold : Type 0 where
  -- sides: 0 device, 1 host; any other is none
  pub sides : (C.code_side 0 ≡ some Device) × (C.code_side 1 ≡ some Host) × (C.code_side 2 ≡ none) × (C.code_side 256 ≡ none)
  pub turns : (C.turn_codes (D.of_side Host) ≡ record { question = 0; side = 1 })
      × (C.turn_codes (D.of_side Device) ≡ record { question = 0; side = 0 })
      × (C.turn_codes (D.refused 11) ≡ record { question = 11; side = 0 })
  -- standings: 0 running, 1 device blamed, 2 host blamed; any other is not running
  pub states : (C.state_bytes (at_position 5 Running) ≡ 5 ∷ 0 ∷ []) × (C.state_bytes (at_position 5 DeviceBlamed) ≡ 5 ∷ 1 ∷ [])
      × (C.state_bytes (at_position 5 HostBlamed) ≡ 5 ∷ 2 ∷ [])
  pub states_in : (C.state_in (5 ∷ 0 ∷ []) ≡ at_position 5 Running) × (C.state_in (5 ∷ 1 ∷ []) ≡ at_position 5 DeviceBlamed)
      × (C.state_in (5 ∷ 2 ∷ []) ≡ at_position 5 HostBlamed)
      × (C.state_in (5 ∷ 3 ∷ []) ≡ at_position 5 HostBlamed)
  pub started : C.started_codes (record { question = 21; state = at_position 5 HostBlamed; counts = 7 ∷ [] })
      ≡ record { question = 21; state = record { position = 5; standing = 2; counts = 7 ∷ [] } }
  -- outcomes: 0 forwarded, 1 refused, 2 blamed, 3 none was due
  pub verdicts : (C.verdict_codes forwarded ≡ record { outcome = 0; question = 0; party = 0; reason = 0; field = 0 })
      × (C.verdict_codes (refused 12) ≡ record { outcome = 1; question = 12; party = 0; reason = 0; field = 0 })
      × (C.verdict_codes (blamed Host 2 none) ≡ record { outcome = 2; question = 0; party = 1; reason = 2; field = 0 })
      × (C.verdict_codes (blamed Device 4 none) ≡ record { outcome = 2; question = 0; party = 0; reason = 4; field = 0 })
      × (C.verdict_codes (blamed Host 3 (some 1)) ≡ record { outcome = 2; question = 0; party = 1; reason = 3; field = 1 })
  pub lasts : (C.last_codes none ≡ record { outcome = 3; question = 0; party = 0; reason = 0; field = 0 })
      × (C.last_codes (some (refused 12)) ≡ record { outcome = 1; question = 12; party = 0; reason = 0; field = 0 })
  -- an estimate that is none is 65535
  pub warnings : (C.warning_codes (W.refused 18) ≡ record { question = 18; warns = 0; sender = 0; estimate = 65535 })
      × (C.warning_codes (W.tells true (some Device) (some 333)) ≡ record { question = 0; warns = 1; sender = 0; estimate = 333 })
      × (C.warning_codes (W.tells false (some Host) none) ≡ record { question = 0; warns = 0; sender = 1; estimate = 65535 })
      × (C.warning_codes (W.tells false none none) ≡ record { question = 0; warns = 0; sender = 0; estimate = 65535 })
  -- a field that is none is 255
  pub fields : (C.named_by 255 ≡ none)
      × (C.named_by 254 ≡ some 254)
      × (C.named_by 256 ≡ some 256)
      × (C.high_code none ≡ 255)
      × (C.high_code (some 3) ≡ 3)
  pub heads : (C.head_codes (record { question = 14; length = 7 }) ≡ record { question = 14; length = 7 })
      × (C.made_codes (16, 7) ≡ record { question = 16; length = 7 })
  -- outcomes: 0 it fits, 1 it fails, 2 refused
  pub fit_checks : (C.fit_codes (F.fits 3) ≡ record { outcome = 0; question = 0; count = 3; high = 255 })
      × (C.fit_codes (F.fails 2 (some 1)) ≡ record { outcome = 1; question = 0; count = 2; high = 1 })
      × (C.fit_codes (F.fails 2 none) ≡ record { outcome = 1; question = 0; count = 2; high = 255 })
      × (C.fit_codes (F.refused 17) ≡ record { outcome = 2; question = 17; count = 0; high = 255 })
  pub dues : (due_codes (D.of_side Device) (ask 7) ok ≡ record { side = 0; length = 14 })
      × (due_codes (D.of_side Host) (ask 7) ok ≡ record { side = 1; length = 9 })
      × (due_codes (D.refused 10) (ask 7) ok ≡ record { side = 0; length = 0 })
  -- of making: the question, or the length; the field that is named
  pub made : (made_numbers (Err Q.NoBranch) ≡ (18, 0))
      × (made_numbers (Ok 14) ≡ (0, 14))
      × (high_of None ≡ none)
      × (high_of (Some 2) ≡ some 2)

-- each refusal by the number that documents 01 and 02 give its question, and 0 where there is none
pub record QuestionsNumbered : Type 0 where
  -- of a text: its length, its tokens, the grammar, bound, guarded, ranges, labels, limits
  pub text : (number Q.TextTooLong ≡ 1) × (number Q.BadToken ≡ 2) × (number Q.Misplaced ≡ 3) × (number Q.Unbound ≡ 4)
      × (number Q.Unguarded ≡ 5) × (number Q.BadRange ≡ 6) × (number Q.LabelTwice ≡ 7) × (number Q.TooMany ≡ 8)
  -- of a table and a position, the standing, an end, the turn
  pub state : (number Q.Unsound ≡ 9) × (number Q.NotRunning ≡ 10) × (number Q.AtEnd ≡ 11) × (number Q.OutOfTurn ≡ 12)
  -- of a message: front, fields, length; the output, the list, the branch
  pub message : (number Q.BadFront ≡ 13) × (number Q.BadField ≡ 14) × (number Q.OtherLength ≡ 15)
  pub room : (number Q.OutputTooShort ≡ 16) × (number Q.ListTooShort ≡ 17) × (number Q.NoBranch ≡ 18)
  -- of the requests: a share, shares, the setting, UTF-8, the edition
  pub requests : (number Q.BadShare ≡ 19) × (number Q.BadShares ≡ 20) × (number Q.BadSetting ≡ 21) × (number Q.NotUtf8 ≡ 22)
      × (number Q.BadEdition ≡ 23)
  pub answers : (refused_by {T = ℕ} (Err Q.OutOfTurn) ≡ 12) × (refused_by {T = ℕ} (Ok 7) ≡ 0)
  pub heads : (head_of (Err Q.BadField) ≡ record { question = 14; length = 0 }) × (head_of (Ok 14) ≡ record { question = 0; length = 14 })
  pub begun : (started (record { refused = Some Q.BadSetting; state = at_position 5 HostBlamed; counts = 7 ∷ [] })
      ≡ record { question = 21; state = at_position 5 HostBlamed; counts = 7 ∷ [] })
      × (started (record { refused = None; state = at_position 5 HostBlamed; counts = 7 ∷ [] })
      ≡ record { question = 0; state = at_position 5 HostBlamed; counts = 7 ∷ [] })

-- over the state's two bytes: what a step answers, the bytes and counts after it, and the output
pub record StepsInCodes : Type 0 where
  pub forwards : step_codes P1 (0 ∷ 0 ∷ []) (P_counts 1 0 0 0 0 0) 0 quit (replicate 10 7)
      ≡ (record { outcome = 0; question = 0; party = 0; reason = 0; field = 0 }, 2 ∷ 0 ∷ [], P_counts 1 1 0 0 0 1, quit ++ (7 ∷ []))
  pub blames : step_codes P1 (1 ∷ 0 ∷ []) (P_counts 1 0 0 0 0 0) 1 quit (replicate 10 7)
      ≡ (record { outcome = 2; question = 0; party = 1; reason = 1; field = 0 }, 1 ∷ 2 ∷ [], P_counts 1 0 0 0 0 0, replicate 10 7)
  -- refused, with a standing of 3 left as it was
  pub refuses : step_codes P1 (1 ∷ 3 ∷ []) (P_counts 1 0 0 0 0 0) 2 quit []
      ≡ (record { outcome = 1; question = 10; party = 0; reason = 0; field = 0 }, 1 ∷ 3 ∷ [], P_counts 1 0 0 0 0 0, [])
  -- a side that is none: 9, 10 and 11 are asked, then it is 12
  pub no_side : step_codes P1 (0 ∷ 0 ∷ []) (P_counts 1 0 0 0 0 0) 2 [] []
      ≡ (record { outcome = 1; question = 12; party = 0; reason = 0; field = 0 }, 0 ∷ 0 ∷ [], P_counts 1 0 0 0 0 0, [])
  pub no_side_at_end : step_codes P1 (2 ∷ 0 ∷ []) (P_counts 1 0 0 0 0 0) 2 [] []
      ≡ (record { outcome = 1; question = 11; party = 0; reason = 0; field = 0 }, 2 ∷ 0 ∷ [], P_counts 1 0 0 0 0 0, [])
  pub no_counts : step_codes P1 (0 ∷ 1 ∷ []) (P_counts 0 0 0 0 0 0) 2 [] []
      ≡ (record { outcome = 1; question = 9; party = 0; reason = 0; field = 0 }, 0 ∷ 1 ∷ [], P_counts 0 0 0 0 0 0, [])

-- and what a batch answers, the bytes and counts after it, the device's output and the host's
pub record BatchesInCodes : Type 0 where
  pub blames_device : batching_codes P1 (0 ∷ 0 ∷ []) (P_counts 442 0 0 0 0 0) (lent (ask 100 ++ ask 101) ok (replicate 10 8) (replicate 29 9))
      ≡ (
        record {
          used_device = 28;
          used_host = 9;
          written_to_device = 9;
          written_to_host = 14;
          last = record { outcome = 2; question = 0; party = 0; reason = 3; field = 0 };
          reserved = 0 ∷ 0 ∷ 0 ∷ [];
        },
        0 ∷ 1 ∷ [],
        P_counts 442 1 1 1 1 0,
        ok ++ (8 ∷ []),
        ask 100 ++ replicate 15 9,
      )
  pub blames_host : batching_codes P1 (0 ∷ 0 ∷ []) (P_counts 442 0 0 0 0 0) (lent (ask 100) quit (replicate 10 8) (replicate 15 9))
      ≡ (
        record {
          used_device = 14;
          used_host = 9;
          written_to_device = 0;
          written_to_host = 14;
          last = record { outcome = 2; question = 0; party = 1; reason = 1; field = 0 };
          reserved = 0 ∷ 0 ∷ 0 ∷ [];
        },
        1 ∷ 2 ∷ [],
        P_counts 442 1 0 1 0 0,
        replicate 10 8,
        ask 100 ++ (9 ∷ []),
      )
  -- where the position stays, the standing still says it
  pub blames_in_place : batching_codes P1 (1 ∷ 0 ∷ []) (P_counts 442 1 0 1 0 0) (lent [] quit (replicate 10 8) [])
      ≡ (
        record {
          used_device = 0;
          used_host = 9;
          written_to_device = 0;
          written_to_host = 0;
          last = record { outcome = 2; question = 0; party = 1; reason = 1; field = 0 };
          reserved = 0 ∷ 0 ∷ 0 ∷ [];
        },
        1 ∷ 2 ∷ [],
        P_counts 442 1 0 1 0 0,
        replicate 10 8,
        [],
      )
  -- refused, with a standing of 7 left as it was
  pub refuses : batching_codes P1 (0 ∷ 7 ∷ []) (P_counts 442 0 0 0 0 0) (lent (ask 100) ok [] [])
      ≡ (
        record {
          used_device = 0;
          used_host = 0;
          written_to_device = 0;
          written_to_host = 0;
          last = record { outcome = 1; question = 10; party = 0; reason = 0; field = 0 };
          reserved = 0 ∷ 0 ∷ 0 ∷ [];
        },
        0 ∷ 7 ∷ [],
        P_counts 442 0 0 0 0 0,
        [],
        [],
      )
