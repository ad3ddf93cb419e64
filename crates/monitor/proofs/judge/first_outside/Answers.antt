use Rattle.std.proofs.Common.{ap, ◌∙◌, not, below_more, arith}
use Rattle.monitor.proofs.laws.Leaves.{inside_read}
use Rattle.monitor.proofs.judge.first_outside.Goals as goal

pub returns-then-not-within : goal.returns-then-not-within
returns-then-not-within c =
    let e = inside_read _ _ _ c.loop-f.f c.within.ensures (omega arith) c.number-number.ensures (omega arith) in
    (omega arith, record { within = omega arith; before = c.loop-f.invariant; there = λ _. ap not (e ∙ c.if-not-within.true) })

pub loop-f-preserved : goal.loop-f-preserved
loop-f-preserved c =
    below_more _ _ c.loop-f.invariant
    (ap not (inside_read _ _ _ c.loop-f.f c.within.ensures (omega arith) c.number-number.ensures (omega arith) ∙ c.if-not-within.false))
