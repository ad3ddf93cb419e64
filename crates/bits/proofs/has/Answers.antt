-- The lowest bit of what is left is the digit.
use Rattle.std.proofs.Common.{◌/◌, ◌%◌, ◌^◌}
use lib.Bits.{and_mask}
use Rattle.bits.specs.Digits.{digit}
use Rattle.bits.proofs.has.Goals as goal

pub returns : goal.returns
unfolding digit
returns c = rw (and_mask (c.args.s / 2 ^ (c.args.j % 32)) 1)
