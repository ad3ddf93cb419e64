-- Bit j, put in by `|`.
use Rattle.std.proofs.Common.{◌%◌, arith}
use Rattle.bits.proofs.laws.Digits.{shl_one, or_with}
use Rattle.bits.proofs.with.Goals as goal

pub returns : goal.returns
returns c = rw (shl_one 32 (c.args.j % 32) (omega arith)) (or_with c.args.s (c.args.j % 32))
