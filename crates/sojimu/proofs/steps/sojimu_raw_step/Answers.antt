-- A code that is a side's, and one that is no side's. Assumes nothing.
use Rattle.sojimu.proofs.laws.Parts.{crossed, uncrossed}
use Rattle.sojimu.proofs.steps.sojimu_raw_step.Goals as goal

pub returns-in_default : goal.returns-in_default
returns-in_default c =
    let a = c.args in
    uncrossed _ _ a.side a.state.now a.counts.now a.message.now a.out.now _ _ c.state_in-s.ensures c.in_default.ensures c.unspoken.ensures c.from.ensures

pub returns : goal.returns
returns c =
    let a = c.args in
    crossed _ _ a.side _ a.state.now a.counts.now a.message.now a.out.now _ _ _ _ _ c.state_in-s.ensures c.in-Some.ensures c.step-r.ensures
    c.keep.ensures c.from-2.ensures
