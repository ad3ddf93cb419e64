-- The ones among the bits.
use Rattle.bits.proofs.laws.Digits.{ones_is}
use Rattle.bits.proofs.size.Goals as goal

pub returns : goal.returns
returns c = ones_is 32 c.args.s c.ranges.s.fits
