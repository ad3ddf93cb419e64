-- `report::play::say` meets its contract.
use Rattle.std.proofs.Common.{List, ℕ, ap, sym, ◌∙◌, ◌++◌, arith}
use Rattle.table.specs.View.{word_at}
use Rattle.message.specs.Make.{high_of, made_numbers}
use Rattle.report.proofs.laws.Lines.{branch_few, line_shown, full, short, message_is, is_made}
use Rattle.report.proofs.play.say.Goals as goal

pub bounds-t-b : goal.bounds-t-b
bounds-t-b c = omega (arith, c.from-b.ensures, branch_few c.args.t.words.now c.args.t.sound c.args.k (high_of c.args.named) c.requires.0)

pub bounds-t-b-2 : goal.bounds-t-b-2
bounds-t-b-2 c = omega (arith, c.from-b.ensures, branch_few c.args.t.words.now c.args.t.sound c.args.k (high_of c.args.named) c.requires.0)

pub unwrap-n-requires : goal.unwrap-n-requires
unwrap-n-requires c =
    let a = c.args in
    is_made a.t.words.now c.args.t.sound a.k (high_of a.named) c.requires.0 a.message.now _ c.requires.2 c.make.ensures.out_after _ c.make.ensures.result_value

pub returns : goal.returns
unfolding made_numbers
returns c =
    let a = c.args in
    let h = high_of a.named in
    let e = ap (λ (n : ℕ). (0, n)) c.from.ensures ∙ ap made_numbers (sym c.unwrap-n.ensures) ∙ c.make.ensures.result_value in
    let f = c.make.ensures.out_after in
    let l = line_shown a.t.words.now c.args.t.sound a.k h c.requires.0 a.side (c.label_word-label.ensures ∙ ap (λ b. word_at a.t.words.now b) c.from-b.ensures) in
    record {
      full = full a.t.words.now c.args.t.sound a.k h c.requires.0 a.message.now _ c.requires.2 f;
      short = short a.t.words.now c.args.t.sound a.k h c.requires.0 a.message.now _ c.requires.2 f e;
      message_is = message_is a.t.words.now c.args.t.sound a.k h c.requires.0 a.message.now _ c.requires.2 f e;
      written = c.move_line.ensures.written ∙ ap (λ (l : List ℕ). a.report.now ++ l) l;
      most = c.move_line.ensures.most;
      most_low = c.move_line.ensures.most_low;
    }
