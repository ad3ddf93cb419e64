use Rattle.std.proofs.Common.{arith}
use Rattle.std.proofs.lemmas.Grind.{common_steps}
use Rattle.report.proofs.laws.Written.{decimal_last, decimal_tens}
use Rattle.report.proofs.write.Report.+number.Goals.{then-n-ge10, else-n-ge10}
use Rattle.report.proofs.write.Report.+number.Goals as goal

pub number-requires : goal.number-requires
number-requires t c = (omega (arith, c.decreases), grind (arith, common_steps, c.requires, decimal_tens c.args.n c.if-n-ge10.true (omega arith)))

pub word-requires : goal.word-requires
word-requires t c = elim c.if-n-ge10.branch [
  | then-n-ge10 w ↦ grind (arith, common_steps, c.requires, w.self-is, w.number.ensures, decimal_tens c.args.n w.if-n-ge10.true (omega arith))
  | else-n-ge10 w ↦ grind (arith, common_steps, c.requires, w.self-is, decimal_last c.args.n (omega (arith, w.if-n-ge10.false)))
]

pub returns : goal.returns
returns t c = elim c.if-n-ge10.branch [
  | then-n-ge10 w ↦ grind (arith, common_steps, c.word.ensures, w.self-is, w.number.ensures, decimal_tens c.args.n w.if-n-ge10.true (omega arith))
  | else-n-ge10 w ↦ grind (arith, common_steps, c.word.ensures, w.self-is, decimal_last c.args.n (omega (arith, w.if-n-ge10.false)))
]
