-- Bit j, taken out by `&`.
use Rattle.std.proofs.Common.{◌%◌, arith}
use Rattle.bits.proofs.laws.Digits.{shl_one, and_without}
use Rattle.bits.proofs.without.Goals as goal

pub returns : goal.returns
returns c = rw (shl_one 32 (c.args.j % 32) (omega arith)) (and_without 32 c.args.s (c.args.j % 32) c.ranges.s.fits (omega arith))
