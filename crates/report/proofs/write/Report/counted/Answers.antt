use Rattle.std.proofs.Common.{arith}
use Rattle.std.proofs.lemmas.Grind.{common_steps}
use Rattle.report.specs.Report as R
use Rattle.report.proofs.laws.Written.{number_few}
use Rattle.report.proofs.write.Report.counted.Goals as goal

pub numbered-requires : goal.numbered-requires
numbered-requires c = omega (arith, number_few c.args.n, c.requires)

pub word-requires : goal.word-requires
word-requires c = grind (arith, common_steps, number_few c.args.n, c.requires, c.numbered.ensures)

pub returns : goal.returns
unfolding R.line
returns c = grind (arith, common_steps, c.numbered.ensures, c.word.ensures)
