use Rattle.std.proofs.Common.{arith, ap, length, length-append}
use Rattle.std.proofs.lemmas.Grind.{common_steps}
use Rattle.message.specs.Make.{high_of}
use Rattle.report.specs.Report as R
use Rattle.report.specs.inner.Lines.{label_line}
use Rattle.report.proofs.laws.Written.{number_few, direction_few, label_few, line_low}
use Rattle.report.proofs.write.Report.move_line.Goals.{in-Some, in_default}
use Rattle.report.proofs.write.Report.move_line.Goals as goal

pub word-requires : goal.word-requires
word-requires c = omega (arith, c.requires, direction_few c.args.side, ap length c.direction.ensures)

pub letters-requires : goal.letters-requires
letters-requires c =
    grind (arith, common_steps, c.requires, direction_few c.args.side, label_few c.args.label, c.direction.ensures, c.word.ensures)

pub numbered-requires : goal.numbered-requires
numbered-requires c =
    grind (arith, common_steps, c.requires, direction_few c.args.side, label_few c.args.label, number_few c.from.result c.from.type_inv, c.direction.ensures, c.word.ensures, c.letters.ensures)

pub word-requires-2 : goal.word-requires-2
word-requires-2 c = elim c.match-high.branch [
  | in-Some w ↦ grind (arith, common_steps, c.requires, direction_few c.args.side, label_few c.args.label, number_few w.from.result w.from.type_inv, c.direction.ensures, c.word.ensures, c.letters.ensures, w.numbered.ensures, w.self-is)
  | in_default w ↦ grind (arith, common_steps, c.requires, direction_few c.args.side, label_few c.args.label, c.direction.ensures, c.word.ensures, c.letters.ensures, w.self-is)
]

pub returns-clause-written : goal.returns-clause-written
unfolding R.line R.high_part high_of
returns-clause-written c = elim c.match-high.branch [
  | in-Some w ↦ rw w.in-Some.is (grind (arith, common_steps, c.direction.ensures, c.word.ensures, c.letters.ensures, w.numbered.ensures, w.from.ensures, w.self-is, c.word-2.ensures))
  | in_default w ↦ grind (arith, common_steps, c.direction.ensures, c.word.ensures, c.letters.ensures, w.self-is, c.word-2.ensures, w.in_default.is)
]

pub returns-clause-most : goal.returns-clause-most
returns-clause-most c = elim c.match-high.branch [
  | in-Some w ↦ grind (arith, common_steps, direction_few c.args.side, label_few c.args.label, number_few w.from.result w.from.type_inv, c.direction.ensures, c.word.ensures, c.letters.ensures, w.numbered.ensures, w.self-is, c.word-2.ensures)
  | in_default w ↦ grind (arith, common_steps, direction_few c.args.side, label_few c.args.label, c.direction.ensures, c.word.ensures, c.letters.ensures, w.self-is, c.word-2.ensures)
]

pub returns-clause-most_low : goal.returns-clause-most_low
returns-clause-most_low c =
    let a = c.args in
    λ e. omega (arith, ap length (returns-clause-written c), length-append a.self.now (label_line a.side a.label a.high), line_low a.side a.label (high_of a.high) e)
