-- A number that no field has: 254 is another. Assumes nothing.
use Rattle.std.proofs.Common.{◌<◌, arith}
use borrow.Author.Tests.{ne_eqb}
use Rattle.message.specs.Make.{high_of}
use Rattle.codes.proofs.laws.Wide.{same_field}
use Rattle.codes.proofs.messages.high_of.Goals as goal

pub returns-in-Err : goal.returns-in-Err
unfolding high_of
returns-in-Err c =
    let wide : 255 < c.args.named = omega (arith, c.in-Err.ensures) in
    rw (ne_eqb c.args.named 255 (omega arith)) (same_field _ _ (omega arith) (omega arith))
