use Rattle.std.proofs.Common.{◌∙◌, arith}
use Rattle.std.proofs.lemmas.Result.{MatchResult-at_ok}
use Rattle.monitor.proofs.laws.Copied.{front_more, front_all}
use Rattle.monitor.proofs.copy.to_front.Goals as goal

pub loop-done-preserved : goal.loop-done-preserved
loop-done-preserved c =
    let i = c.loop-done.invariant in
    let whole = MatchResult-at_ok _ _ _ c.unwrap-eight.ensures c.try_from.ensures.1 in
    record {
      within = omega arith;
      copied =
          front_more _ _ c.loop-done.done c.min-at.result i.copied (omega arith) (c.copy_from_slice.ensures.after ∙ whole.same) (omega arith) (omega arith)
          i.within (omega arith);
    }

pub returns : goal.returns
returns c = c.loop-done.invariant.copied ∙ front_all _ _ c.loop-done.done (omega arith)
