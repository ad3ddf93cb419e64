-- Document 01's "Device and monitor together" and "Fit check": moves played, right pairs, what the twelve's two fit checks rest on.
-- Assumes nothing.
use Rattle.std.specs.Prelude.{◌≡◌, true, false, ◌&&◌, ◌||◌, List, [], ◌∷◌, ℕ, ltb, eqb, set, None, Some, Ok, Err}
use Rattle.std.proofs.Math.Option.{none, some}
use Rattle.table.specs.Lists.{first_no}
use Rattle.table.specs.Table as T
use Rattle.table.specs.View.{view}
use Rattle.table.specs.declared.Party.TheVariants.{Device, Host}
use Rattle.table.specs.declared.refusal.Question.TheVariants as Q
use Rattle.message.specs.Rules.{Rules, table_rules, under}
use Rattle.machine.specs.declared.Fitting.TheVariants as Fittings
use Rattle.machine.specs.Machine.{Machine, Move, moves, running, device_blamed, host_blamed, jammed, run, bad, all_forwarded, fresh_machine}
use Rattle.machine.specs.Fit.{right, pairs, shown_moves, of_speakers, but_last, last_count, field_named}
use Rattle.machine.specs.Answer.{refused, fits, fails, answer_of, fit_questions}
use Rattle.examples.specs.Twelve.{ask, ok, table, P, E}
use Rattle.examples.specs.TableExamples.{P_under, P_seen, E_seen, P1, one_letter, branch_to, of_states, one_range}
use Rattle.examples.specs.MessageExamples.{A_of}
use Rattle.examples.specs.StepExamples.{quit}

-- ---- moves

abbrev pub device_says : List ℕ → Move
device_says m = record { side = Device; bytes = m }

abbrev pub host_says : List ℕ → Move
host_says m = record { side = Host; bytes = m }

-- `A` with an int of one byte; A's ranges up to 9 and up to 10
abbrev pub A_int : ℕ → List ℕ
A_int n = A_of 0 (0 ∷ 0 ∷ 0 ∷ n ∷ []) []

abbrev pub to_nine : T.Sort → T.Table
to_nine s = one_range s 0 2147483648 2147483657

abbrev pub to_ten : T.Sort → T.Table
to_ten s = one_range s 0 2147483648 2147483658

-- A up to 10, and then nobody is at an end
abbrev pub never_ends : T.Table
never_ends = of_states (T.sends ∷ T.sends ∷ []) (to_ten T.sends).branches

abbrev pub PP : Rules ℕ
PP = table_rules P_seen

pub record MovesPlayed : Type 0 where
  pub forwarded : run PP PP (device_says (ask 100) ∷ host_says ok ∷ device_says quit ∷ []) ≡ record { state = 2; position = 2; standing = running }
  -- a device with states of its own: `+{!Quit().end}` under P
  pub own_states : run (table_rules (of_states (T.sends ∷ T.ends ∷ []) (branch_to 0 (81 ∷ 117 ∷ 105 ∷ 116 ∷ 0 ∷ 0 ∷ 0 ∷ 0 ∷ []) [] 1 ∷ []))) PP (device_says quit ∷ [])
      ≡ record { state = 1; position = 2; standing = running }
  -- "A device move sends a message of one of the device state's branches, numbers within its ranges: if the protocol allows it both go on ..., else
  -- the device is blamed; where the device's state isn't sending or has no such message, the move changes nothing."
  pub device_wide : run (table_rules (to_ten T.sends)) (table_rules (to_nine T.sends)) (device_says (A_int 10) ∷ [])
      ≡ record { state = 0; position = 0; standing = device_blamed }
  pub no_message_of_it : run (table_rules (to_ten T.sends)) (table_rules (to_nine T.sends)) (device_says (A_int 11) ∷ [])
      ≡ record { state = 0; position = 0; standing = running }
  pub not_sending : run PP PP (device_says (ask 100) ∷ device_says quit ∷ []) ≡ record { state = 1; position = 1; standing = running }
  -- "A host move brings any well-formed message: out of turn or at an end it changes nothing; if the protocol forbids it the host is blamed; if the
  -- device's state takes it both go on likewise, else jammed."
  pub device_narrow : run (table_rules (to_nine T.receives)) (table_rules (to_ten T.receives)) (host_says (A_int 10) ∷ [])
      ≡ record { state = 0; position = 0; standing = jammed }
  pub host_wide : run (table_rules (to_nine T.receives)) (table_rules (to_ten T.receives)) (host_says (A_int 11) ∷ [])
      ≡ record { state = 0; position = 0; standing = host_blamed }
  pub early : run PP PP (host_says ok ∷ []) ≡ record { state = 0; position = 0; standing = running }
  pub at_an_end : run PP PP (device_says quit ∷ host_says ok ∷ []) ≡ record { state = 2; position = 2; standing = running }
  -- request 7: "The machine blames the host likewise, but at an end a host move still changes nothing." "Fit looks at the protocol's edition only."
  pub early_under_two : run PP (table_rules (P_under 2)) (host_says ok ∷ []) ≡ record { state = 0; position = 0; standing = host_blamed }
  pub end_under_two : run (table_rules E_seen) (under 2 (table_rules E_seen)) (host_says ok ∷ [])
      ≡ record { state = 0; position = 0; standing = running }
  pub device_under_two : run (table_rules (P_under 2)) PP (host_says ok ∷ []) ≡ record { state = 0; position = 0; standing = running }
  -- "Once not running, nothing changes": however it stopped
  pub stays_blamed : run PP (table_rules (P_under 2)) (host_says ok ∷ device_says (ask 100) ∷ [])
      ≡ record { state = 0; position = 0; standing = host_blamed }
  pub device_stays_blamed : run (table_rules (to_ten T.sends)) (table_rules (to_nine T.sends)) (device_says (A_int 10) ∷ device_says (A_int 9) ∷ [])
      ≡ record { state = 0; position = 0; standing = device_blamed }
  pub stays_jammed : run (table_rules (to_nine T.receives)) (table_rules (to_ten T.receives)) (host_says (A_int 10) ∷ host_says (A_int 9) ∷ [])
      ≡ record { state = 0; position = 0; standing = jammed }
  -- "While running, it is jammed as soon as the two states differ in sort (end, sending, receiving), before any move too"
  pub sorts_differ : run (table_rules (to_ten T.sends)) (table_rules never_ends) (device_says (A_int 10) ∷ [])
      ≡ record { state = 1; position = 1; standing = jammed }
  pub before_any : ((run (table_rules (to_ten T.sends)) (table_rules (to_ten T.receives)) []).standing ≡ jammed)
      × ((run (table_rules E_seen) (table_rules (to_ten T.receives)) []).standing ≡ jammed)
      × (run (table_rules E_seen) PP [] ≡ record { state = 0; position = 0; standing = jammed })
  -- "A move is a side and a well-formed message"
  pub no_move : run PP (table_rules (P_under 2)) (host_says [] ∷ []) ≡ record { state = 0; position = 0; standing = running }
  pub real_moves : (moves (host_says ok ∷ device_says quit ∷ []) ≡ true) × (moves (host_says ok ∷ device_says [] ∷ []) ≡ false)
  -- what demand 3 rules out: the device blamed, the machine jammed
  pub ends_badly : (bad running ≡ false) × (bad device_blamed ≡ true) × (bad host_blamed ≡ false) × (bad jammed ≡ true)
  -- each of a list is forwarded: not one that changes nothing, that blames, or that comes after such
  pub forwards : (all_forwarded PP PP (fresh_machine PP PP) (device_says (ask 100) ∷ host_says ok ∷ []) ≡ true)
      × (all_forwarded PP PP (fresh_machine PP PP) (device_says ok ∷ []) ≡ false)
      × (all_forwarded PP PP (fresh_machine PP PP) (device_says (ask 100) ∷ host_says quit ∷ []) ≡ false)
      × (all_forwarded PP PP (fresh_machine PP PP) (device_says ok ∷ device_says quit ∷ []) ≡ false)

-- ---- right pairs

-- A with a field of a kind, and A with none
abbrev pub one_kind : ℕ → T.Table
one_kind k = one_range T.sends k 2147483648 2147483648

abbrev pub A_plain : T.Table
A_plain = of_states (T.sends ∷ T.ends ∷ []) (branch_to 0 (one_letter 65) [] 1 ∷ [])

-- two branches, A and B, of a sort
abbrev pub A_or_B_of : T.Sort → T.Table
A_or_B_of s = of_states (s ∷ T.ends ∷ []) (branch_to 0 (one_letter 65) [] 1 ∷ branch_to 0 (one_letter 66) [] 1 ∷ [])

abbrev pub only_B : T.Sort → T.Table
only_B s = of_states (s ∷ T.ends ∷ []) (branch_to 0 (one_letter 66) [] 1 ∷ [])

-- state 0 has B, state 1 A
abbrev pub B_then_A : T.Sort → T.Sort → T.Table
B_then_A r s = of_states (r ∷ s ∷ T.ends ∷ []) (branch_to 0 (one_letter 66) [] 2 ∷ branch_to 1 (one_letter 65) [] 2 ∷ [])

abbrev pub A_then_B : T.Sort → T.Sort → T.Table
A_then_B r s = of_states (r ∷ s ∷ T.ends ∷ []) (branch_to 0 (one_letter 65) [] 2 ∷ branch_to 1 (one_letter 66) [] 2 ∷ [])

-- "A pair of states is right when both are ends; or both send, and each device branch has a protocol branch of the same label and kinds whose ranges
-- contain its own; or both receive, and each protocol branch has a device branch of the same label and kinds whose ranges contain its own." The
-- device is named first
pub record RightPairs : Type 0 where
  pub sends_less : (right (one_range T.sends 0 5 9) (one_range T.sends 0 5 9) 0 0 ≡ true)
      × (right (one_range T.sends 0 5 9) (one_range T.sends 0 4 10) 0 0 ≡ true)
      × (right (one_range T.sends 0 5 9) (one_range T.sends 0 6 9) 0 0 ≡ false)
      × (right (one_range T.sends 0 5 9) (one_range T.sends 0 5 8) 0 0 ≡ false)
  pub takes_more : (right (one_range T.receives 0 5 9) (one_range T.receives 0 5 9) 0 0 ≡ true)
      × (right (one_range T.receives 0 4 10) (one_range T.receives 0 5 9) 0 0 ≡ true)
      × (right (one_range T.receives 0 6 9) (one_range T.receives 0 5 9) 0 0 ≡ false)
      × (right (one_range T.receives 0 5 8) (one_range T.receives 0 5 9) 0 0 ≡ false)
  pub kinds : (right (one_kind 1) (one_kind 1) 0 0 ≡ true) × (right (one_kind 1) (one_kind 2) 0 0 ≡ false) × (right A_plain (one_kind 1) 0 0 ≡ false)
      × (right (one_kind 1) A_plain 0 0 ≡ false)
  pub labels : (right (only_B T.sends) (A_or_B_of T.sends) 0 0 ≡ true) × (right (A_or_B_of T.sends) (only_B T.sends) 0 0 ≡ false)
      × (right (A_or_B_of T.receives) (only_B T.receives) 0 0 ≡ true)
      × (right (only_B T.receives) (A_or_B_of T.receives) 0 0 ≡ false)
  pub ends : (right E_seen E_seen 0 0 ≡ true)
      × (right P_seen E_seen 0 0 ≡ false)
      × (right A_plain A_plain 0 1 ≡ false)
      × (right A_plain A_plain 1 0 ≡ false)
      × (right (only_B T.sends) (only_B T.receives) 0 0 ≡ false)
      × (right (only_B T.receives) (only_B T.sends) 0 0 ≡ false)
  -- a branch of another state does not count
  pub own_branches : (right A_plain (B_then_A T.sends T.sends) 0 0 ≡ false) × (right A_plain (B_then_A T.sends T.sends) 0 1 ≡ true)
      × (right (B_then_A T.sends T.sends) (only_B T.sends) 0 0 ≡ true)
      × (right (B_then_A T.sends T.sends) (only_B T.sends) 1 0 ≡ false)
  -- nor is a state looked at by the other's number
  pub own_numbers : (right (A_then_B T.sends T.receives) (B_then_A T.receives T.sends) 0 1 ≡ true)
      × (right (A_then_B T.sends T.receives) (B_then_A T.receives T.sends) 1 0 ≡ true)
      × (right (A_then_B T.sends T.receives) (B_then_A T.receives T.sends) 0 0 ≡ false)
      × (right (A_then_B T.receives T.receives) (B_then_A T.receives T.receives) 0 1 ≡ true)
      × (right (A_then_B T.receives T.receives) (B_then_A T.receives T.receives) 0 0 ≡ false)
      × (right (A_then_B T.receives T.receives) (B_then_A T.receives T.receives) 1 1 ≡ false)

-- ---- the check

-- by Ask, by Quit; by Ask 0 and Ok
abbrev pub by_ask : List Move
by_ask = device_says (ask 100) ∷ []

abbrev pub by_quit : List Move
by_quit = device_says quit ∷ []

abbrev pub back_again : List Move
back_again = device_says (ask 0) ∷ host_says ok ∷ []

-- device and protocol of other numbers: the device's A, C and D are its branches 1, 3 and 4, of states 0, 2 and 4; the protocol's are 0, 2 and 3, of
-- 0, 1 and 3
abbrev pub with_Z : T.Table
with_Z = view (table "+{!Z().end,!A().&{?B().end,?C().+{!D().end}}}")

abbrev pub without_Z : T.Table
without_Z = view (table "+{!A().&{?B().end,?C().+{!D().end}}}")

abbrev pub ZZ : Machine ℕ ℕ
ZZ = fresh_machine (table_rules with_Z) (table_rules without_Z)

pub record FitChecked : Type 0 where
  -- "It asks 9 of the device, 9 of the protocol, then 17. Has the list at least device states times protocol states entries?"
  pub asked : (first_no (fit_questions [] P1 9) ≡ 9) × (first_no (fit_questions P1 [] 0) ≡ 9) × (first_no (fit_questions P1 E 2) ≡ 17)
      × (first_no (fit_questions P1 E 3) ≡ 0)
      × (first_no (fit_questions P1 (set P1 2338 0) 0) ≡ 9)
      × (first_no (fit_questions P P 8) ≡ 17)
      × (first_no (fit_questions P P 9) ≡ 0)
  -- "P fits P, 3 pairs": each is right, each is reached, and these are 3
  pub P_right : (right P_seen P_seen 0 0 ≡ true) × (right P_seen P_seen 1 1 ≡ true) × (right P_seen P_seen 2 2 ≡ true)
  pub P_reached : (run PP PP [] ≡ record { state = 0; position = 0; standing = running })
      × (run PP PP by_ask ≡ record { state = 1; position = 1; standing = running })
      × (run PP PP by_quit ≡ record { state = 2; position = 2; standing = running })
      × (run PP PP back_again ≡ record { state = 0; position = 0; standing = running })
  pub P_forwarded : (all_forwarded PP PP (fresh_machine PP PP) by_ask ≡ true) × (all_forwarded PP PP (fresh_machine PP PP) by_quit ≡ true)
  pub P_pairs : pairs eqb 3 3 ≡ 3
  -- "Device `end` against P: K = 0, jammed"
  pub end_wrong : right E_seen P_seen 0 0 ≡ false
  pub end_bad : bad (run (table_rules E_seen) PP []).standing ≡ true
  -- "`fit 2`, the pairs met": (0, 0) and (1, 2), of a device with 2 states and a protocol with 3; others, by rows and columns
  pub quit_pairs : pairs (λ i j. (eqb i 0 && eqb j 0) || (eqb i 1 && eqb j 2)) 2 3 ≡ 2
  pub other_pairs : (pairs (λ i j. true) 3 2 ≡ 6) × (pairs ltb 3 2 ≡ 1) × (pairs ltb 2 3 ≡ 3) × (pairs (λ i j. false) 3 2 ≡ 0)
  -- "the speaker's branch number (device's table for the device, protocol's for the host). All numbers are low, texts filled with 0x20; in the last
  -- move one field may be high"
  pub shown_low : shown_moves P_seen P_seen (0 ∷ 1 ∷ 0 ∷ []) none ≡ device_says (ask 0) ∷ host_says ok ∷ device_says (ask 0) ∷ []
  pub shown_high : shown_moves P_seen P_seen (0 ∷ 1 ∷ 0 ∷ []) (some 0) ≡ device_says (ask 0) ∷ host_says ok ∷ device_says (ask 100) ∷ []
  pub whose_table : (shown_moves (to_ten T.sends) (to_nine T.sends) (0 ∷ []) (some 0) ≡ device_says (A_int 10) ∷ [])
      × (shown_moves (to_nine T.receives) (to_ten T.receives) (0 ∷ []) (some 0) ≡ host_says (A_int 10) ∷ [])
  -- each a branch of the speaker's state there; Ok is the host's, Quit is not Ask's target's
  pub of_states_there : (of_speakers P_seen P_seen (fresh_machine PP PP) (0 ∷ 1 ∷ 2 ∷ []) ≡ true)
      × (of_speakers P_seen P_seen (fresh_machine PP PP) (1 ∷ []) ≡ false)
      × (of_speakers P_seen P_seen (fresh_machine PP PP) (0 ∷ 2 ∷ []) ≡ false)
      × (of_speakers P_seen P_seen (fresh_machine PP PP) (3 ∷ []) ≡ false)
      × (of_speakers P_seen P_seen (fresh_machine PP PP) (2 ∷ 0 ∷ []) ≡ false)
  pub of_own_tables : (of_speakers with_Z without_Z ZZ (1 ∷ 2 ∷ 4 ∷ []) ≡ true) × (of_speakers with_Z without_Z ZZ (0 ∷ []) ≡ true)
      × (of_speakers with_Z without_Z ZZ (2 ∷ []) ≡ false)
      × (of_speakers with_Z without_Z ZZ (1 ∷ 3 ∷ []) ≡ false)
      × (of_speakers with_Z without_Z ZZ (1 ∷ 2 ∷ 3 ∷ []) ≡ false)
  -- "all but the last move are forwarded"; the named field is one of the last move's
  pub but_the_last : (but_last (device_says (ask 0) ∷ host_says ok ∷ device_says quit ∷ []) ≡ device_says (ask 0) ∷ host_says ok ∷ [])
      × (but_last [] ≡ [])
  pub fields_of_last : (last_count (host_says ok ∷ device_says (ask 0) ∷ []) ≡ 1)
      × (last_count (device_says (ask 0) ∷ host_says ok ∷ []) ≡ 0)
      × (last_count [] ≡ 0)
  pub named : (field_named none 0 ≡ true) × (field_named (some 0) 1 ≡ true) × (field_named (some 1) 1 ≡ false)
  -- the program's answers in document 01's numbers
  pub answers : (answer_of (Err Q.ListTooShort) ≡ refused 17)
      × (answer_of (Ok (Fittings.Fits 3)) ≡ fits 3)
      × (answer_of (Ok (Fittings.Fails 2 None)) ≡ fails 2 none)
      × (answer_of (Ok (Fittings.Fails 2 (Some 1))) ≡ fails 2 (some 1))
