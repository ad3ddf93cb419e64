-- `report::report` meets its contract.
use Rattle.std.proofs.Common.{length, ap, arith}
use Rattle.report.proofs.laws.Reported.{written_not, written_whole}
use Rattle.report.proofs.report.Goals as goal

pub returns-then-out-n : goal.returns-then-out-n
returns-then-out-n c =
    let a = c.args in
    let w = c.bytes-bytes.ensures in
    written_not a.protocol.now a.device.now a.out.now c.compose.ensures w.most (omega (arith, c.if-out-n.true, ap length w.whole))

pub returns : goal.returns
returns c =
    let a = c.args in
    let w = c.bytes-bytes.ensures in
    rw (c.copy_from_slice.ensures.after, w.whole)
    (written_whole a.protocol.now a.device.now a.out.now c.compose.ensures w.most (omega (arith, c.if-out-n.false, ap length w.whole)))
