use Rattle.std.proofs.Common.{arith}
use Rattle.table.proofs.laws.View.{sound_facts}
use Rattle.monitor.proofs.laws.Carried.{straight}
use Rattle.monitor.proofs.straight.look_ahead.Goals as goal

pub find-requires : goal.find-requires
find-requires c = (sound_facts _ c.requires).room

pub returns : goal.returns
returns c =
    let a = c.args in
    let f = c.in_ok-branch.ensures in
    straight a.t.now c.requires a.bytes.now (omega arith) a.position c.in_ok-branch.branch f.1 f.0
    _ c.in_ok-length.ensures a.room c.if-room-length.false
