-- The zeros below the lowest bit.
use Rattle.bits.proofs.laws.Digits.{zeros_first}
use Rattle.bits.proofs.lowest.Goals as goal

pub returns : goal.returns
returns c = zeros_first 32 c.args.s
