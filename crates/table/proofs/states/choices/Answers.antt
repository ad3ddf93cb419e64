-- One state more, from the last on.
use Rattle.std.proofs.Common.{sym, arith}
use borrow.Author.Tests.{lt-leb}
use Rattle.table.proofs.laws.Lists.{all_no}
use Rattle.table.proofs.laws.Scans.{from_none, from_more, from_end, from_choices, from_codes, from_small}
use Rattle.table.proofs.states.choices.Goals as goal

pub loop-k-init : goal.loop-k-init
loop-k-init c = from_none _ _

pub returns-then-sort-gt2 : goal.returns-then-sort-gt2
returns-then-sort-gt2 c = all_no _ _ _ (omega arith) (lt-leb _ 2 c.if-sort-gt2.true)

pub overflow_mul-set : goal.overflow_mul-set
overflow_mul-set c =
    record { fits = omega (arith, from_small _ _ c.loop-k.k c.loop-k.set (omega arith) c.loop-k.invariant c.requires (omega arith)) }

pub overflow_add-set-in-loop-k : goal.overflow_add-set-in-loop-k
overflow_add-set-in-loop-k c =
    record { fits = omega (arith, from_small _ _ c.loop-k.k c.loop-k.set (omega arith) c.loop-k.invariant c.requires (omega arith)) }

pub loop-k-preserved : goal.loop-k-preserved
loop-k-preserved c = from_more _ _ c.loop-k.k c.loop-k.set (omega arith) c.loop-k.invariant c.if-sort-gt2.false (omega arith)

pub returns : goal.returns
returns c =
    let f = from_end _ _ c.loop-k.k c.loop-k.set c.loop-k.invariant (omega arith) in
    (sym (from_codes _ _ _ f), from_choices _ _ _ f)
