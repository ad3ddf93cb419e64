-- Document 01's "One step of the monitor": judgements, the questions of a step in their order, whose turn it is and the due part; and request 7's
-- edition 2. Assumes nothing.
use Rattle.std.specs.Prelude.{◌≡◌, true, false, List, [], ◌∷◌, ◌++◌, map, ℕ, replicate, Ok, Err}
use Rattle.std.proofs.Math.Option.{none, some}
use Rattle.table.specs.Table as T
use Rattle.table.specs.declared.Party.{Party}
use Rattle.table.specs.declared.Party.TheVariants.{Device, Host}
use Rattle.table.specs.declared.refusal.Question.TheVariants as Q
use Rattle.message.specs.Message.{Value, Message, read}
use Rattle.message.specs.Judge.{judge, allows, selected, allowed, forbidden}
use Rattle.message.specs.Rules.{Said, table_rules, allowed_list, completed_list, listens}
use Rattle.conversation.specs.declared.State.{State}
use Rattle.conversation.specs.declared.Standing.{Standing}
use Rattle.conversation.specs.declared.Standing.TheVariants.{Running, DeviceBlamed, HostBlamed}
use Rattle.conversation.specs.declared.Reason.TheVariants as Why
use Rattle.conversation.specs.declared.Verdict.TheVariants as Verdicts
use Rattle.conversation.specs.Step.{refused, blamed, forwarded, fresh, stepping, told}
use Rattle.conversation.specs.Due.{of_side, awaited, turn_answer, first_length}
use Rattle.conversation.specs.Due as D
use Rattle.conversation.specs.Conversation.{Sent, Event, conversation, forwarded_ones, blamed_first, refusal_of, standing_by}
use Rattle.examples.specs.Twelve.{ask, ok, gives}
use Rattle.examples.specs.TableExamples.{P_seen, P_under, P1, P2, one_letter, branch_to, two_states}
use Rattle.examples.specs.MessageExamples.{A_of, value_of_kind}

-- ---- judgements

-- A with two ints, and B that leads back
abbrev pub A_and_B : T.Table
A_and_B =
    two_states
    (branch_to 0 (one_letter 66) [] 0
    ∷ branch_to 0 (one_letter 65) (record { kind = 0; low = 5; high = 9 } ∷ record { kind = 0; low = 6; high = 7 } ∷ []) 1
    ∷ [])

abbrev pub A_says : List Value → Message
A_says vs = record { label = one_letter 65; values = vs }

-- "1 no such label; 2 field count or kinds differ; 3 a number outside its range, with the first such field (fields count from 0)"
pub record JudgedMessages : Type 0 where
  -- both ends of a range are inside
  pub inside : (judge A_and_B 0 (A_says (value_of_kind 0 5 ∷ value_of_kind 0 7 ∷ [])) ≡ allowed 1)
      × (judge A_and_B 0 (A_says (value_of_kind 0 9 ∷ value_of_kind 0 6 ∷ [])) ≡ allowed 1)
  pub outside : (judge A_and_B 0 (A_says (value_of_kind 0 4 ∷ value_of_kind 0 5 ∷ [])) ≡ forbidden 3 (some 0))
      × (judge A_and_B 0 (A_says (value_of_kind 0 10 ∷ value_of_kind 0 6 ∷ [])) ≡ forbidden 3 (some 0))
      × (judge A_and_B 0 (A_says (value_of_kind 0 5 ∷ value_of_kind 0 5 ∷ [])) ≡ forbidden 3 (some 1))
      × (judge A_and_B 0 (A_says (value_of_kind 0 5 ∷ value_of_kind 0 8 ∷ [])) ≡ forbidden 3 (some 1))
  -- 2 ahead of 3
  pub others : (judge A_and_B 0 (A_says (value_of_kind 0 4 ∷ [])) ≡ forbidden 2 none)
      × (judge A_and_B 0 (A_says (value_of_kind 0 4 ∷ value_of_kind 2 5 ∷ [])) ≡ forbidden 2 none)
      × (judge A_and_B 0 (A_says (value_of_kind 0 5 ∷ value_of_kind 0 6 ∷ value_of_kind 0 6 ∷ [])) ≡ forbidden 2 none)
      × (judge A_and_B 0 (A_says []) ≡ forbidden 2 none)
  -- the label is another, or another state's
  pub no_label : (judge A_and_B 0 (record { label = one_letter 67; values = [] }) ≡ forbidden 1 none)
      × (judge A_and_B 1 (record { label = one_letter 66; values = [] }) ≡ forbidden 1 none)
  -- "The protocol allows a message when a branch at its position has the label, the kinds, and ranges that hold the numbers"
  pub allowed_to : (allows A_and_B 0 (A_says (value_of_kind 0 9 ∷ value_of_kind 0 6 ∷ [])) ≡ some 1)
      × (allows A_and_B 0 (record { label = one_letter 66; values = [] }) ≡ some 0)
      × (allows A_and_B 0 (A_says (value_of_kind 0 9 ∷ value_of_kind 0 8 ∷ [])) ≡ none)
      × (allows A_and_B 0 (A_says (value_of_kind 0 9 ∷ value_of_kind 2 6 ∷ [])) ≡ none)
      × (allows A_and_B 1 (record { label = one_letter 66; values = [] }) ≡ none)
  -- the number of the branch
  pub by_number : (selected A_and_B 0 (A_says (value_of_kind 0 9 ∷ value_of_kind 0 6 ∷ [])) ≡ some 1)
      × (selected A_and_B 0 (record { label = one_letter 66; values = [] }) ≡ some 0)
      × (selected A_and_B 0 (A_says []) ≡ none)
  -- "1 no such label", "2 ..", "3 .. with the first such field"; request 7: "reason 4"
  pub reasons : (told (Verdicts.Blamed Device Why.NoLabel) ≡ blamed Device 1 none) × (told (Verdicts.Blamed Host Why.OtherKinds) ≡ blamed Host 2 none)
      × (told (Verdicts.Blamed Device (Why.OutOfRange 1)) ≡ blamed Device 3 (some 1))
      × (told (Verdicts.Blamed Host Why.Early) ≡ blamed Host 4 none)
      × (told (Verdicts.Refused Q.OutOfTurn) ≡ refused 12)
      × (told Verdicts.Forwarded ≡ forwarded)

-- ---- one step

abbrev pub at_position : ℕ → Standing → State
at_position i s = record { position = i; standing = s }

-- `Quit`: 0x51 75 69 74 00 00 00 00 00
abbrev pub quit : List ℕ
quit = 81 ∷ 117 ∷ 105 ∷ 116 ∷ 0 ∷ 0 ∷ 0 ∷ 0 ∷ 0 ∷ []

-- `Ask` with the flag true
abbrev pub ask_flag : List ℕ
ask_flag = 65 ∷ 115 ∷ 107 ∷ 0 ∷ 0 ∷ 0 ∷ 0 ∷ 0 ∷ 1 ∷ 2 ∷ 0 ∷ 0 ∷ 0 ∷ 1 ∷ []

-- "A step asks 9, then 10. Is the standing running? 11. Is the position not an end? 12. Is it this side's turn? then 13, 14, 15, then 16"; request 6:
-- "22 .. after 15 and before 16". Each of these would get a no from the questions after it, too. "A no returns the number; state and output are
-- unchanged."
pub record StepsAsked : Type 0 where
  pub nine : stepping P1 (at_position 3 DeviceBlamed) Host [] [] ≡ gives (refused 9) 3 DeviceBlamed []
  pub ten : stepping P1 (at_position 2 HostBlamed) Host [] [] ≡ gives (refused 10) 2 HostBlamed []
  pub ten_device : stepping P1 (at_position 2 DeviceBlamed) Host [] [] ≡ gives (refused 10) 2 DeviceBlamed []
  pub eleven : stepping P1 (at_position 2 Running) Host [] [] ≡ gives (refused 11) 2 Running []
  pub twelve : stepping P1 fresh Host [] [] ≡ gives (refused 12) 0 Running []
  pub twelve_device : stepping P1 (at_position 1 Running) Device [] [] ≡ gives (refused 12) 1 Running []
  pub thirteen : stepping P1 fresh Device (one_letter 65 ++ (1 ∷ 3 ∷ 0 ∷ 0 ∷ 0 ∷ [])) [] ≡ gives (refused 13) 0 Running []
  pub fourteen : stepping P1 fresh Device (A_of 3 (0 ∷ 0 ∷ 0 ∷ 0 ∷ []) (7 ∷ [])) [] ≡ gives (refused 14) 0 Running []
  pub fifteen : stepping P1 fresh Device (A_of 1 (0 ∷ 0 ∷ 0 ∷ 2 ∷ []) (0xE9 ∷ [])) [] ≡ gives (refused 15) 0 Running []
  pub twenty_two : stepping P1 fresh Device (A_of 1 (0 ∷ 0 ∷ 0 ∷ 1 ∷ []) (0xE9 ∷ [])) [] ≡ gives (refused 22) 0 Running []
  pub sixteen : stepping P1 fresh Device (ask 101) (replicate 13 7) ≡ gives (refused 16) 0 Running (replicate 13 7)
  -- request 7: under 2 an end still gets 11, and what is early the message questions and 16
  pub eleven_under_two : stepping P2 (at_position 2 Running) Host [] [] ≡ gives (refused 11) 2 Running []
  pub early_fourteen : stepping P2 fresh Host (A_of 3 (0 ∷ 0 ∷ 0 ∷ 0 ∷ []) []) [] ≡ gives (refused 14) 0 Running []
  pub early_sixteen : stepping P2 fresh Host ok (replicate 8 7) ≡ gives (refused 16) 0 Running (replicate 8 7)

-- "If none holds, the message's bytes open the output, the rest of which is unchanged, and the position moves to the target. If one does, the sender
-- is blamed with that reason; position and output are unchanged."
pub record StepsJudged : Type 0 where
  pub on : stepping P1 (at_position 1 Running) Host ok (replicate 10 7) ≡ gives forwarded 0 Running (ok ++ (7 ∷ []))
  pub to_the_end : stepping P1 fresh Device quit (replicate 9 7) ≡ gives forwarded 2 Running quit
  pub no_label : stepping P1 fresh Device ok (replicate 9 7) ≡ gives (blamed Device 1 none) 0 DeviceBlamed (replicate 9 7)
  pub other_kind : stepping P1 fresh Device ask_flag (replicate 14 7) ≡ gives (blamed Device 2 none) 0 DeviceBlamed (replicate 14 7)
  pub host_blamed : stepping P1 (at_position 1 Running) Host quit (replicate 9 7) ≡ gives (blamed Host 1 none) 1 HostBlamed (replicate 9 7)
  -- request 7: "the sender is then blamed with reason 4, ahead of the others; a blame for that needs no turn"
  pub device_early : stepping P2 (at_position 1 Running) Device quit (replicate 9 7) ≡ gives (blamed Device 4 none) 1 DeviceBlamed (replicate 9 7)
  pub in_turn : stepping P2 (at_position 1 Running) Host quit (replicate 9 7) ≡ gives (blamed Host 1 none) 1 HostBlamed (replicate 9 7)

-- ---- whose turn it is, and the due part

-- "The part is empty .. when 13 or 14 would refuse or the message isn't all there; when 9, 10 or 11 would"
pub record DueParts : Type 0 where
  pub turns : (awaited P1 fresh ≡ of_side Device) × (awaited P1 (at_position 1 Running) ≡ of_side Host)
  pub no_turn : (awaited P1 (at_position 2 Running) ≡ D.refused 11) × (awaited P1 (at_position 2 HostBlamed) ≡ D.refused 10)
      × (awaited P1 (at_position 3 HostBlamed) ≡ D.refused 9)
  pub answers : (turn_answer (Err Q.AtEnd) ≡ D.refused 11) × (turn_answer (Ok Host) ≡ of_side Host)
  -- all there, with something behind it or not; not all there; 13; 14
  pub first : (first_length (ask 101 ++ (7 ∷ [])) ≡ 14) × (first_length (ask 101) ≡ 14)
  pub a_part : (first_length (65 ∷ 115 ∷ 107 ∷ 0 ∷ 0 ∷ 0 ∷ 0 ∷ 0 ∷ 1 ∷ 0 ∷ 0 ∷ 0 ∷ 0 ∷ []) ≡ 0)
      × (first_length (A_of 1 (0 ∷ 0 ∷ 0 ∷ 2 ∷ []) (111 ∷ [])) ≡ 0)
  pub no_message : (first_length (one_letter 97 ++ (0 ∷ [])) ≡ 0) × (first_length (A_of 3 (0 ∷ 0 ∷ 0 ∷ 0 ∷ []) []) ≡ 0)
  -- request 6: "the due part is cut by length as before"
  pub by_length : first_length (A_of 1 (0 ∷ 0 ∷ 0 ∷ 1 ∷ []) (0xE9 ∷ 7 ∷ [])) ≡ 15

-- ---- lists of messages, and whole conversations

abbrev pub said_from : Party → List ℕ → Said
said_from side bytes = record { side = side; message = read bytes }

-- request 12: "A list of messages completes a type when each is allowed in turn and an end is then reached"
pub record ListsLed : Type 0 where
  pub complete : (allowed_list (table_rules P_seen) (said_from Device (ask 100) ∷ said_from Host ok ∷ said_from Device quit ∷ []) ≡ true)
      × (completed_list (table_rules P_seen) (said_from Device (ask 100) ∷ said_from Host ok ∷ said_from Device quit ∷ []) ≡ true)
  pub not_complete : (allowed_list (table_rules P_seen) (said_from Device (ask 100) ∷ said_from Host ok ∷ []) ≡ true)
      × (completed_list (table_rules P_seen) (said_from Device (ask 100) ∷ said_from Host ok ∷ []) ≡ false)
      × (allowed_list (table_rules P_seen) [] ≡ true)
      × (completed_list (table_rules P_seen) [] ≡ false)
  -- forbidden, out of turn, at an end
  pub not_allowed : (allowed_list (table_rules P_seen) (said_from Device (ask 101) ∷ []) ≡ false)
      × (completed_list (table_rules P_seen) (said_from Device (ask 101) ∷ []) ≡ false)
      × (allowed_list (table_rules P_seen) (said_from Host quit ∷ []) ≡ false)
      × (allowed_list (table_rules P_seen) (said_from Device quit ∷ said_from Device quit ∷ []) ≡ false)
  -- a side is judged on its turn; request 7: under 2 on the other's, too, but not at an end
  pub listened : (listens (table_rules P_seen) 0 Device ≡ true)
      × (listens (table_rules P_seen) 0 Host ≡ false)
      × (listens (table_rules (P_under 2)) 0 Host ≡ true)
      × (listens (table_rules (P_under 2)) 2 Host ≡ false)

-- with room for its bytes, which are none the longer
abbrev pub sent_by : Party → List ℕ → ℕ → Sent
sent_by side bytes room = record { side = side; bytes = bytes; buffer = replicate room 7 }

-- under P: forwarded, early, without room, forwarded, blamed, too late
abbrev pub six_sent : List Sent
six_sent =
    sent_by Device (ask 100) 14 ∷ sent_by Device quit 9 ∷ sent_by Host ok 8 ∷ sent_by Host ok 9 ∷ sent_by Device (ask 101) 14 ∷ sent_by Device quit 9 ∷ []

pub record ConversationsHeld : Type 0 where
  -- "The gateway keeps one state per conversation and lends it to each step to be advanced": verdicts, and the states that they are met in
  pub verdicts : map (λ (e : Event). e.done.verdict) (conversation P1 six_sent)
      ≡ forwarded ∷ refused 12 ∷ refused 16 ∷ forwarded ∷ blamed Device 3 (some 0) ∷ refused 10 ∷ []
  pub met : map (λ (e : Event). e.met) (conversation P1 six_sent)
      ≡ at_position 0 Running ∷ at_position 1 Running ∷ at_position 1 Running ∷ at_position 1 Running ∷ at_position 0 Running ∷ at_position 0 DeviceBlamed ∷ []
  pub kept : map (λ (e : Event). e.sent) (conversation P1 six_sent) ≡ six_sent
  pub passed : forwarded_ones (conversation P1 six_sent) ≡ said_from Device (ask 100) ∷ said_from Host ok ∷ []
  pub blamed_one : (blamed_first (conversation P1 six_sent) ≡ some Device) × (blamed_first (conversation P1 (sent_by Device quit 9 ∷ [])) ≡ none)
      × (blamed_first (conversation P1 (sent_by Device (ask 100) 14 ∷ sent_by Host quit 9 ∷ [])) ≡ some Host)
  pub stands : (standing_by none ≡ Running) × (standing_by (some Host) ≡ HostBlamed)
  -- demand 2's own list of questions: 10 once somebody is blamed, 11, then those of the message
  pub refusals : (refusal_of (table_rules P_seen) (conversation P1 six_sent) 2 (sent_by Host [] 0) ≡ 10)
      × (refusal_of (table_rules P_seen) [] 2 (sent_by Host [] 0) ≡ 11)
      × (refusal_of (table_rules P_seen) [] 0 (sent_by Host [] 0) ≡ 12)
      × (refusal_of (table_rules (P_under 2)) [] 0 (sent_by Host [] 0) ≡ 13)
      × (refusal_of (table_rules P_seen) [] 0 (sent_by Device (ask 100) 13) ≡ 16)
      × (refusal_of (table_rules P_seen) [] 0 (sent_by Device (ask 100) 14) ≡ 0)
