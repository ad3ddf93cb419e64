use Rattle.std.proofs.Common.{arith}
use Rattle.std.proofs.lemmas.Grind.{common_steps}
use Rattle.report.specs.Report as R
use Rattle.report.proofs.laws.Written.{number_few}
use Rattle.report.proofs.write.Report.refused.Goals as goal

pub numbered-requires : goal.numbered-requires
numbered-requires c =
    grind (arith, common_steps, number_few c.args.question, c.requires, c.word.ensures)

pub numbered-requires-2 : goal.numbered-requires-2
numbered-requires-2 c =
    grind (arith, common_steps, number_few c.args.question, number_few c.args.place, c.requires, c.word.ensures, c.numbered.ensures)

pub word-requires-2 : goal.word-requires-2
word-requires-2 c =
    grind (arith, common_steps, number_few c.args.question, number_few c.args.place, c.requires, c.word.ensures, c.numbered.ensures, c.numbered-2.ensures)

pub returns : goal.returns
unfolding R.line
returns c = grind (arith, common_steps, c.word.ensures, c.numbered.ensures, c.numbered-2.ensures, c.word-2.ensures)
