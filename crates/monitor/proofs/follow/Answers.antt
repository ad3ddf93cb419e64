use Rattle.std.proofs.Common.{arith}
use Rattle.table.proofs.laws.View.{sound_facts}
use Rattle.monitor.proofs.follow.Goals as goal

pub overflow_cast-result : goal.overflow_cast-result
overflow_cast-result c =
    let f = sound_facts _ c.requires.sound in
    record { fits = omega (arith, f.targets _ c.requires.there, f.few) }
