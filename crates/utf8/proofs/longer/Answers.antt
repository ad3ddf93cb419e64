-- Too few bytes are left, or those that are due decide.
use Rattle.std.proofs.Common.{arith}
use Rattle.std.proofs.lemmas.Bool.Decides.{nat_tests}
use Rattle.utf8.proofs.laws.Characters.{width_cut, width_longer}
use Rattle.utf8.proofs.longer.Goals as goal

pub returns-then-bytes-at : goal.returns-then-bytes-at
returns-then-bytes-at c = width_cut c.args.bytes.now c.args.at c.requires.0 (omega arith)

pub returns : goal.returns
returns c =
    rw c.then_some.ensures
    (width_longer c.args.bytes.now c.args.at c.requires.0 c.args.n c.requires.1 (omega arith) c.requires.2 c.if-tail.whole (grind (arith, nat_tests)))
