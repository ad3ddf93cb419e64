use Rattle.std.proofs.Common.{refl}
use Rattle.conversation.specs.Step.{told, blaming, judging, outcome}
use Rattle.conversation.specs.Counts.{raised_by}
use Rattle.monitor.specs.inner.Leaves.{judgement, judged_branch}
use Rattle.monitor.proofs.settle.Goals as goal

pub take-requires : goal.take-requires
unfolding judged_branch
take-requires c = let p = c.requires in (p.follows _ (rw c.in-Ok.is), p.eight, p.holds)

pub returns-in-Ok : goal.returns-in-Ok
unfolding judgement judging judged_branch raised_by
returns-in-Ok c = rw c.in-Ok.is c.take.ensures

pub returns-in-Err : goal.returns-in-Err
unfolding outcome told judgement judging blaming judged_branch raised_by
returns-in-Err c = rw (c.blamed.ensures, c.in-Err.is) (refl, refl)
