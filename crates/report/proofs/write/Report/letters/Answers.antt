use Rattle.std.proofs.Common.{arith, ap, length, ◌∙◌, ◌++◌}
use Rattle.report.proofs.laws.Written.{letters_taken}
use Rattle.report.proofs.write.Report.letters.Goals as goal

pub word-requires : goal.word-requires
word-requires c =
    omega (arith, c.requires, ap length (letters_taken c.args.label _ _ _ c.to_be_bytes-bytes.ensures c.first_zero.ensures c.unwrap_or-n.ensures))

pub returns : goal.returns
returns c =
    c.word.ensures
    ∙ ap (λ l. c.args.self.now ++ l) (letters_taken c.args.label _ _ _ c.to_be_bytes-bytes.ensures c.first_zero.ensures c.unwrap_or-n.ensures)
