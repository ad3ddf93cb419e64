-- On a sound table judged allowed is allowed, and each reason says what it says.
-- Assumes nothing.
use Rattle.message.specs.MessageTheorems.{JudgedExactly}
use Rattle.message.proofs.laws.Judge.{judge_allows, judge_no_label, judge_other_kinds, judge_out_of_range}

pub judged_exactly : JudgedExactly
judged_exactly t s i m =
    record {
      allows_it = judge_allows t s i m;
      no_label = judge_no_label t s i m;
      other_kinds = judge_other_kinds t s i m;
      out_of_range = judge_out_of_range t s i m;
    }
