use Rattle.std.proofs.Common.{sym, ◌∙◌, arith}
use Rattle.monitor.proofs.laws.Carried.{straight_alone}
use Rattle.monitor.proofs.straight.takes.Goals as goal

pub returns : goal.returns
returns c =
    let a = c.args in
    straight_alone a.t.now a.position a.message.now a.room _ _ c.in_ok-first.ensures (omega arith) a.sort a.side
    (sym c.has_turn.ensures ∙ c.if-not-has_turn.false)
