-- `message::fields::scan`: each field passed is legal, and its text is counted.
use Rattle.std.proofs.Common.{arith}
use Rattle.message.proofs.laws.Fields.{passed_none, passed_more, passed_not, passed_all}
use Rattle.message.proofs.fields.scan.Goals as goal

pub loop-f-init : goal.loop-f-init
loop-f-init c = passed_none _

pub returns-then-not-within_kind-clause-legal : goal.returns-then-not-within_kind-clause-legal
returns-then-not-within_kind-clause-legal c = passed_not _ _ _ c.requires.0 _ c.loop-f.invariant (omega arith) c.loop-f-test.true (grind arith)

pub loop-f-preserved : goal.loop-f-preserved
loop-f-preserved c = passed_more _ _ _ c.requires.0 _ c.loop-f.invariant (grind arith) _ (grind arith)

pub returns-clause-legal : goal.returns-clause-legal
returns-clause-legal c = passed_all _ _ _ c.requires.0 _ c.loop-f.invariant (omega arith) (omega arith)
