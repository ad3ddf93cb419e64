use Rattle.std.proofs.Common.{◌≡◌, true, arith}
use Rattle.table.specs.View.{sound_of}
use Rattle.table.proofs.laws.View.{sound_facts}
use Rattle.table.proofs.checked.Sound.of.Goals as goal

pub invariant_of-result : goal.invariant_of-result
invariant_of-result c =
    let e : sound_of c.args.t.now ≡ true = grind arith in
    record { sound = e; few = (sound_facts _ e).room }
