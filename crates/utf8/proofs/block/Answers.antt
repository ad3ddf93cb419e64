-- Where no bit is set in four words together, none is in any.
use borrow.Author.Tests.{eqb-true}
use Rattle.utf8.proofs.laws.Characters.{neither_bits, ascii_on}
use Rattle.utf8.proofs.block.Goals as goal

pub returns : goal.returns
returns c e =
    let b = c.args.bytes.now in
    let n = neither_bits _ _ (eqb-true _ _ e) in
    let f = neither_bits _ _ n.0 in
    let g = neither_bits _ _ n.1 in
    ascii_on (ascii_on (ascii_on (c.high.ensures f.0) (c.high-2.ensures f.1)) (c.high-3.ensures g.0)) (c.high-4.ensures g.1)
