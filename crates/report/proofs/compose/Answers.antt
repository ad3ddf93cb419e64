-- `report::compose` meets its contract.
use Rattle.table.proofs.laws.View.{sound_facts}
use Rattle.grammar.proofs.laws.Refused.{small}
use Rattle.report.specs.Report.{refused_line}
use Rattle.report.proofs.laws.Reported.{sound_of_is, reported_protocol, reported_device, reported_compared}
use Rattle.report.proofs.compose.Goals as goal

pub overflow_cast-p : goal.overflow_cast-p
overflow_cast-p c = record { fits = (small _ _ c.read-p.ensures).0 }

pub overflow_cast-p-then-p-ne0 : goal.overflow_cast-p-then-p-ne0
overflow_cast-p-then-p-ne0 c = record { fits = (small _ _ c.read-p.ensures).1 }

pub returns-then-p-ne0 : goal.returns-then-p-ne0
unfolding refused_line
returns-then-p-ne0 c =
    let a = c.args in rw (c.refused.ensures, c.requires) (reported_protocol a.protocol.now a.device.now _ c.read-p.ensures c.if-p-ne0.true)

pub overflow_cast-d : goal.overflow_cast-d
overflow_cast-d c = record { fits = (small _ _ c.read-d.ensures).0 }

pub overflow_cast-d-then-d-ne0 : goal.overflow_cast-d-then-d-ne0
overflow_cast-d-then-d-ne0 c = record { fits = (small _ _ c.read-d.ensures).1 }

pub returns-then-d-ne0 : goal.returns-then-d-ne0
unfolding refused_line
returns-then-d-ne0 c =
    let a = c.args in
    rw (c.refused-then-d-ne0.ensures, c.requires)
    (reported_device a.protocol.now a.device.now _ c.read-p.ensures c.if-p-ne0.false _ c.read-d.ensures c.if-d-ne0.true)

pub invariant_of-machine : goal.invariant_of-machine
invariant_of-machine c =
    let e = sound_of_is _ _ c.read-d.ensures c.if-d-ne0.false in
    record { sound = e; few = (sound_facts _ e).room }

pub invariant_of-machine-2 : goal.invariant_of-machine-2
invariant_of-machine-2 c =
    let e = sound_of_is _ _ c.read-p.ensures c.if-p-ne0.false in
    record { sound = e; few = (sound_facts _ e).room }

pub returns : goal.returns
returns c =
    let a = c.args in
    reported_compared a.protocol.now a.device.now _ c.read-p.ensures c.if-p-ne0.false _ c.read-d.ensures c.if-d-ne0.false c.compare.ensures
