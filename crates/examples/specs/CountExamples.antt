-- Request 4's counts and warnings: a conversation is started, forwarding counts, a branch warns.
-- Assumes nothing.
use Rattle.std.specs.Prelude.{◌≡◌, true, false, [], ◌∷◌, replicate, set, None, Some, Ok, Err}
use Rattle.std.proofs.Math.Option.{none, some}
use Rattle.table.specs.declared.Party.TheVariants.{Device, Host}
use Rattle.table.specs.declared.refusal.Question.TheVariants.{NoBranch}
use Rattle.conversation.specs.declared.Standing.TheVariants.{Running, DeviceBlamed, HostBlamed}
use Rattle.conversation.specs.Step.{refused, blamed, forwarded, fresh}
use Rattle.conversation.specs.Due.{of_side}
use Rattle.conversation.specs.Due as D
use Rattle.conversation.specs.Conversation.{conversation}
use Rattle.conversation.specs.Counts.{counts_sound, starting, fresh_counts, counted_step, counted_turn}
use Rattle.conversation.specs.Batches.{counts_after}
use Rattle.conversation.specs.Counting.{picks, forwarded_at, times}
use Rattle.conversation.specs.Warning.{warns, estimate, warning, notice_of}
use Rattle.conversation.specs.Warning as W
use Rattle.examples.specs.Twelve.{ok, gives, table, P_counts}
use Rattle.examples.specs.Requests.{shared_text, two_counts}
use Rattle.examples.specs.TableExamples.{P1}
use Rattle.examples.specs.StepExamples.{at_position, quit, six_sent}

-- ---- counts

-- "21 for z outside 1 to 1000, when a conversation is made, after 9"
pub record ConversationsStarted : Type 0 where
  pub started : starting P1 442 ≡ record { question = 0; state = fresh; counts = P_counts 442 0 0 0 0 0 }
  pub least : starting P1 1 ≡ record { question = 0; state = fresh; counts = P_counts 1 0 0 0 0 0 }
  pub most : starting P1 1000 ≡ record { question = 0; state = fresh; counts = P_counts 1000 0 0 0 0 0 }
  pub zero : starting P1 0 ≡ record { question = 21; state = fresh; counts = P_counts 0 0 0 0 0 0 }
  pub above : starting P1 1001 ≡ record { question = 21; state = fresh; counts = P_counts 0 0 0 0 0 0 }
  pub nine_first : starting [] 0 ≡ record { question = 9; state = fresh; counts = P_counts 0 0 0 0 0 0 }
  -- "The state is a position (0 when fresh) and a standing"
  pub fresh_one : fresh ≡ at_position 0 Running

-- "a count n for each choice and k for each branch, raised on forwarding, until n is 10,000"; "Question 9 now also asks .. that in a conversation's
-- state each choice's k add up to its n, at most 10,000, and that z is 1 to 1000"
pub record CountsKept : Type 0 where
  pub first_choice : counted_step P1 fresh (P_counts 442 5 4 3 4 2) Device quit (replicate 9 7)
      ≡ (gives forwarded 2 Running quit, P_counts 442 6 4 3 4 3)
  pub second_choice : counted_step P1 (at_position 1 Running) (P_counts 442 5 4 3 4 2) Host ok (replicate 9 7)
      ≡ (gives forwarded 0 Running ok, P_counts 442 5 5 3 5 2)
  pub last_raised : counted_step P1 fresh (P_counts 442 9999 0 9000 0 999) Device quit (replicate 9 7)
      ≡ (gives forwarded 2 Running quit, P_counts 442 10000 0 9000 0 1000)
  pub no_longer : counted_step P1 fresh (P_counts 442 10000 0 9000 0 1000) Device quit (replicate 9 7)
      ≡ (gives forwarded 2 Running quit, P_counts 442 10000 0 9000 0 1000)
  -- a blame and a refusal raise nothing
  pub not_blamed : counted_step P1 fresh (P_counts 442 0 0 0 0 0) Device ok (replicate 9 7)
      ≡ (gives (blamed Device 1 none) 0 DeviceBlamed (replicate 9 7), P_counts 442 0 0 0 0 0)
  pub not_refused : counted_step P1 fresh (P_counts 442 0 0 0 0 0) Host ok (replicate 9 7)
      ≡ (gives (refused 12) 0 Running (replicate 9 7), P_counts 442 0 0 0 0 0)
  -- 9, ahead of 10
  pub no_sum : counted_step P1 (at_position 0 HostBlamed) (P_counts 442 1 0 0 0 0) Device quit (replicate 9 7)
      ≡ (gives (refused 9) 0 HostBlamed (replicate 9 7), P_counts 442 1 0 0 0 0)
  pub too_many : (counts_sound P1 (P_counts 442 10000 0 10000 0 0) ≡ true) × (counts_sound P1 (P_counts 442 10001 0 10001 0 0) ≡ false)
  pub each_choice : (counts_sound P1 (P_counts 442 3 4 1 4 2) ≡ true) × (counts_sound P1 (P_counts 442 0 1 0 0 0) ≡ false)
      × (counts_sound P1 (P_counts 442 3 4 2 3 2) ≡ false)
  pub settings : (counts_sound P1 (P_counts 1 0 0 0 0 0) ≡ true) × (counts_sound P1 (P_counts 0 0 0 0 0 0) ≡ false)
      × (counts_sound P1 (P_counts 1000 0 0 0 0 0) ≡ true)
      × (counts_sound P1 (P_counts 1001 0 0 0 0 0) ≡ false)
  -- an end is no choice: its number is not looked at
  pub of_the_end : counts_sound P1 (set (P_counts 442 0 0 0 0 0) 3 5) ≡ true
  pub turns : (counted_turn P1 fresh (P_counts 1 0 0 0 0 0) ≡ of_side Device)
      × (counted_turn P1 (at_position 1 Running) (P_counts 1 0 0 0 0 0) ≡ of_side Host)
      × (counted_turn P1 (at_position 2 HostBlamed) (P_counts 0 0 0 0 0 0) ≡ D.refused 9)

-- over a conversation: forwarded are Ask, of choice 0, and Ok, of choice 1
pub record CountsTallied : Type 0 where
  pub picked : (picks P1 0 (conversation P1 six_sent) ≡ 0 ∷ []) × (picks P1 1 (conversation P1 six_sent) ≡ 1 ∷ [])
  pub forwarded_ones : (forwarded_at 0 (conversation P1 six_sent) ≡ 1)
      × (forwarded_at 1 (conversation P1 six_sent) ≡ 1)
      × (forwarded_at 2 (conversation P1 six_sent) ≡ 0)
  pub counted : counts_after P1 (fresh_counts 442) (conversation P1 six_sent) ≡ P_counts 442 1 1 1 1 0
  pub times : (times 2 (0 ∷ 2 ∷ 2 ∷ 2 ∷ 1 ∷ []) ≡ 3) × (times 2 [] ≡ 0)

-- ---- warnings

-- "a branch warns exactly while 10,000 × (1,000k - wn)² is greater than z² × w × (1,000 - w) × n. The edge is inside." "The estimate 1,000k / n is
-- shown to the nearest whole, halves up; while n is 0 there is none."
pub record BranchesWarn : Type 0 where
  -- far too seldom, and not so far: 10,000 x 94,000^2 and 10,000 x 4,000^2 against 442^2 x 990 x 10 x 600
  pub seldom : warns 442 990 600 500 ≡ true
  pub nearly : warns 442 990 600 590 ≡ false
  -- 10,000 x 9,800^2 = 960,400,000,000 against 943^2 x 100 x 900 x 12 = 960,388,920,000, too often and too seldom; 944^2 x .. = 962,426,880,000
  pub close : (warns 943 100 12 11 ≡ true) × (warns 943 900 12 1 ≡ true) × (warns 944 100 12 11 ≡ false) × (warns 944 900 12 1 ≡ false)
  pub none_forwarded : warns 1 500 0 0 ≡ false
  pub estimates : (estimate 6 2 ≡ some 333)
      × (estimate 3 2 ≡ some 667)
      × (estimate 16 1 ≡ some 63)
      × (estimate 16 3 ≡ some 188)
      × (estimate 10000 10000 ≡ some 1000)
      × (estimate 10000 0 ≡ some 0)
      × (estimate 0 0 ≡ none)

-- "A call on a table, a state and a branch asks 9, then 18 for the branch, and tells whether it warns, the choice's sender and the estimate; a branch
-- without a share never warns."
pub record WarningsTold : Type 0 where
  -- "With n = 6, k = 2, w = 10, z = 442 it warns"
  pub warned : warning (table shared_text) fresh (two_counts 442 6 2 4) 0 ≡ W.tells true (some Device) (some 333)
  pub by_host : warning (table "&{?A()@10.end,?B()@990.end}") fresh (two_counts 442 6 0 6) 1 ≡ W.tells false (some Host) (some 1000)
  pub nothing_yet : warning (table shared_text) fresh (two_counts 442 0 0 0) 0 ≡ W.tells false (some Device) none
  pub no_share : warning P1 fresh (P_counts 1 9000 0 9000 0 0) 0 ≡ W.tells false (some Device) (some 1000)
  pub other_choice : warning P1 fresh (P_counts 1 4 2 3 2 1) 1 ≡ W.tells false (some Host) (some 1000)
  pub eighteen : warning P1 fresh (P_counts 442 0 0 0 0 0) 3 ≡ W.refused 18
  pub last_branch : warning P1 fresh (P_counts 442 4 0 3 0 1) 2 ≡ W.tells false (some Device) (some 250)
  -- 9 of the counts, and of the position, ahead of 18
  pub nine : (warning P1 fresh (P_counts 0 0 0 0 0 0) 3 ≡ W.refused 9) × (warning P1 (at_position 3 Running) (P_counts 1 0 0 0 0 0) 3 ≡ W.refused 9)
  pub answers : (notice_of (Err NoBranch) ≡ W.refused 18)
      × (notice_of (Ok (record { warns = true; sender = Host; estimate = None })) ≡ W.tells true (some Host) none)
      × (notice_of (Ok (record { warns = false; sender = Device; estimate = Some 333 })) ≡ W.tells false (some Device) (some 333))
