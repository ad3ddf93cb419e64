-- Document 02's examples, as checked lists, a list for each request that gives some.
-- Assumes nothing.
use Rattle.std.specs.Prelude.{◌≡◌, true, false, List, [], ◌∷◌, ◌++◌, ℕ, ◌≤◌, ◌<◌, length, replicate}
use Rattle.std.proofs.Math.Option.{none, some}
use Prim.Native.String.{String}
use Rattle.table.specs.View.{Words, view, sound_of}
use Rattle.table.specs.declared.Party.TheVariants.{Device, Host}
use Rattle.message.specs.Message.{refusal}
use Rattle.message.specs.Make.{opening}
use Rattle.conversation.specs.declared.Standing.TheVariants.{Running, HostBlamed}
use Rattle.conversation.specs.Step.{refused, blamed, forwarded, fresh}
use Rattle.conversation.specs.Counts.{Counts}
use Rattle.conversation.specs.Warning.{Notice, tells, warning, WarningExamples}
use Rattle.examples.specs.Twelve.{Reads, RefusedAt, table, ask, ok, gives, first_step, P_counts}
use Rattle.table.specs.Table as T
use Rattle.conversation.specs.Warning as W

-- ---- request 1: names straight after rec

-- a choice with one branch, A, that leads back to it
abbrev pub A_again : T.Table
A_again =
    record {
      sorts = T.sends ∷ [];
      branches = record { owner = 0; label = 65 ∷ 0 ∷ 0 ∷ 0 ∷ 0 ∷ 0 ∷ 0 ∷ 0 ∷ []; fields = []; target = 0 } ∷ [];
      shares = 0 ∷ [];
      edition = 1;
    }

abbrev pub ReadsAs : String → T.Table → Type 0
ReadsAs s t = Reads s × (view (table s) ≡ t)

-- `rec X.X` is the third of the twelve
pub record NamesAfterRec : Type 0 where
  pub straight : ReadsAs "rec Y.+{!A().rec X.Y}" A_again
  pub through_several : ReadsAs "rec Y.+{!A().rec X.rec Z.Y}" A_again
  pub no_choice : RefusedAt "rec X.rec Y.X" 5 12
  pub choice_outside : RefusedAt "+{!A().rec X.X}" 5 13
  pub own_binder : RefusedAt "rec X.+{!A().rec X.X}" 5 19
  pub four_first : RefusedAt "+{!A().rec X.Y}" 4 13

-- ---- request 4: shares on choices

abbrev pub shared_text : String
shared_text = "+{!A()@10.end,!B()@990.end}"

-- a choice with two branches, A of 10 thousandths and B of 990
abbrev pub A_or_B : T.Table
A_or_B =
    record {
      sorts = T.sends ∷ T.ends ∷ T.ends ∷ [];
      branches =
          record { owner = 0; label = 65 ∷ 0 ∷ 0 ∷ 0 ∷ 0 ∷ 0 ∷ 0 ∷ 0 ∷ []; fields = []; target = 1 }
          ∷ record { owner = 0; label = 66 ∷ 0 ∷ 0 ∷ 0 ∷ 0 ∷ 0 ∷ 0 ∷ 0 ∷ []; fields = []; target = 2 }
          ∷ [];
      shares = 10 ∷ 990 ∷ [];
      edition = 1;
    }

pub record SharesRead : Type 0 where
  pub with_shares : ReadsAs shared_text A_or_B
  pub sound : sound_of (table shared_text) ≡ true
  pub no_sum : RefusedAt "+{!A()@999.end}" 20 14
  pub mixed : RefusedAt "+{!A()@1000.end,!B().end}" 20 24
  pub no_share : RefusedAt "+{!A()@0.end}" 19 7
  pub no_number : RefusedAt "+{!A()@05.end}" 2 7
  pub warnings : WarningExamples

-- with a half for either, and without shares
abbrev pub halves_text : String
halves_text = "+{!A()@500.end,!B()@500.end}"

abbrev pub unshared_text : String
unshared_text = "+{!A().end,!B().end}"

-- counts under them: the setting, n of state 0, k of A and B
abbrev pub two_counts : ℕ → ℕ → ℕ → ℕ → Counts
two_counts z n a b = z ∷ n ∷ (replicate 31 0 ++ (a ∷ b ∷ replicate 126 0))

-- what the call tells of a branch, the state being fresh
abbrev pub noticed : String → Counts → ℕ → Notice
noticed s c b = warning (table s) fresh c b

pub record SharesWarn : Type 0 where
  -- with n = 6, k = 2, w = 10, z = 442 it warns, and so does the other; 2,000 / 6 is 333.3, and 4,000 / 6 is 666.7
  pub example : (noticed shared_text (two_counts 442 6 2 4) 0 ≡ tells true (some Device) (some 333))
      × (noticed shared_text (two_counts 442 6 2 4) 1 ≡ tells true (some Device) (some 667))
  -- at the edge neither warns, the one picked too often and the one too seldom: 10,000 x 2,000^2 = 200^2 x 500 x 500 x 4
  pub edge : (noticed halves_text (two_counts 200 4 4 0) 0 ≡ tells false (some Device) (some 1000))
      × (noticed halves_text (two_counts 200 4 4 0) 1 ≡ tells false (some Device) (some 0))
  -- a hundredth nearer both do
  pub past_edge : (noticed halves_text (two_counts 199 4 4 0) 0 ≡ tells true (some Device) (some 1000))
      × (noticed halves_text (two_counts 199 4 4 0) 1 ≡ tells true (some Device) (some 0))
  -- while n is 0 there is no estimate, and none warns
  pub none_yet : noticed halves_text (two_counts 1 0 0 0) 0 ≡ tells false (some Device) none
  -- a branch without a share never warns
  pub never : (noticed unshared_text (two_counts 1 10000 10000 0) 0 ≡ tells false (some Device) (some 1000))
      × (noticed unshared_text (two_counts 1 10000 10000 0) 1 ≡ tells false (some Device) (some 0))
  -- 18: it has branches 0 and 1. 9 first: 2 and 3 do not add up to 6
  pub no_branch : noticed shared_text (two_counts 442 6 2 4) 2 ≡ W.refused 18
  pub no_sum : noticed shared_text (two_counts 442 6 2 3) 2 ≡ W.refused 9

-- ---- request 6: texts must be UTF-8

-- `Grade` with two texts, of m and n bytes
abbrev pub grades : ℕ → ℕ → List ℕ → List ℕ
grades m n texts = 71 ∷ 114 ∷ 97 ∷ 100 ∷ 101 ∷ 0 ∷ 0 ∷ 0 ∷ 2 ∷ 1 ∷ 1 ∷ 0 ∷ 0 ∷ 0 ∷ m ∷ 0 ∷ 0 ∷ 0 ∷ n ∷ texts

pub record TextsAsked : Type 0 where
  -- an e with an acute accent, and a euro sign
  pub well_formed_texts : refusal (grades 2 3 (0xC3 ∷ 0xA9 ∷ 0xE2 ∷ 0x82 ∷ 0xAC ∷ [])) ≡ 0
  -- the same bytes, the euro sign cut: it does not borrow from the next text
  pub cut_between : refusal (grades 3 2 (0xC3 ∷ 0xA9 ∷ 0xE2 ∷ 0x82 ∷ 0xAC ∷ [])) ≡ 22
  pub cut_at_the_end : refusal (grades 2 2 (0xC3 ∷ 0xA9 ∷ 0xE2 ∷ 0x82 ∷ [])) ≡ 22
  -- an e with an acute accent as Latin-1 has it
  pub other_encoding : refusal (grades 1 0 (0xE9 ∷ [])) ≡ 22
  -- U+0000 and U+FEFF
  pub nul_and_mark : refusal (grades 1 3 (0x00 ∷ 0xEF ∷ 0xBB ∷ 0xBF ∷ [])) ≡ 0
  -- 15 first
  pub too_short : refusal (grades 2 0 (0xE9 ∷ [])) ≡ 15

-- ---- request 7: edition two and the early message

-- `end` under an edition
abbrev pub end_under : ℕ → T.Table
end_under e = record { sorts = T.ends ∷ []; branches = []; shares = []; edition = e }

-- document 01's P under edition 2
abbrev pub Q_text : String
Q_text = "edition 2 rec X.+{!Ask(int[0..100]).&{?Ok().X},!Quit().end}"

unfoldable pub Q : Words
Q = table Q_text

pub record EditionsRead : Type 0 where
  pub no_opening : ReadsAs "end" (end_under 1)
  pub first : ReadsAs "edition 1 end" (end_under 1)
  pub second : ReadsAs "edition 2end" (end_under 2)
  pub no_blank : RefusedAt "edition1 end" 2 0
  pub leading_zero : RefusedAt "edition 02 end" 2 8
  pub no_number : RefusedAt "edition end" 3 8
  pub no_type : RefusedAt "edition 2" 3 9
  pub twice : RefusedAt "edition 2 edition 2 end" 3 10
  pub elsewhere : RefusedAt "+{!A().edition 2 end}" 3 7
  pub at_the_end : RefusedAt "end edition 2" 3 4
  pub third : RefusedAt "edition 3 end" 23 8
  pub negative : RefusedAt "edition -1 end" 23 8
  pub longer : RefusedAt "edition 12 end" 23 8

-- under Q, where the host's Ok is early
pub record EarlyOk : Type 0 where
  pub reads_Q : Reads Q_text
  -- it blames the host with reason 4, though no branch there has the label
  pub early : (out : List ℕ) → 9 ≤ length out
      → first_step Q Host ok out ≡ (gives (blamed Host 4 none) 0 HostBlamed out, P_counts 442 0 0 0 0 0)
  -- without room it is refused by 16, broken by the message's question
  pub no_room : (out : List ℕ) → length out < 9 → first_step Q Host ok out ≡ (gives (refused 16) 0 Running out, P_counts 442 0 0 0 0 0)
  pub broken : (out : List ℕ) → first_step Q Host [] out ≡ (gives (refused 13) 0 Running out, P_counts 442 0 0 0 0 0)
  -- what comes in turn is forwarded as under P
  pub in_turn : (out : List ℕ) → 14 ≤ length out
      → first_step Q Device (ask 100) out ≡ (gives forwarded 1 Running (opening (ask 100) out), P_counts 442 1 0 1 0 0)
