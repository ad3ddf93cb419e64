-- A part more is ASCII.
use Rattle.std.proofs.Common.{◌∙◌, sym}
use Rattle.utf8.proofs.laws.Characters.{ascii_part, ascii_behind}
use Rattle.utf8.proofs.blocks.Goals as goal

pub loop-part-preserved : goal.loop-part-preserved
loop-part-preserved c =
    let s = c.in-Some.ensures.steps in
    let v = c.loop-part.invariant in
    let q = v.rest ∙ s.1.0 in
    let n = s.1.1 ∙ v.size in
    record {
      low = ascii_part c.args.bytes.now c.loop-part.i 32 _ _ q n v.low.inside v.low (c.block.ensures c.if-not-block.false);
      rest = sym (ascii_behind c.args.bytes.now c.loop-part.i 32 _ _ q n);
      size = s.0 ∙ v.size;
    }
