-- One share more.
use Rattle.std.proofs.Common.{sym, arith}
use borrow.Author.Tests.{lt-leb}
use Rattle.table.specs.View.{share_at}
use Rattle.table.proofs.laws.Lists.{refuted, never}
use Rattle.table.proofs.laws.SharesRight.{share_most, owner_small, summed_none, sum_most, summed_more, summed_all}
use Rattle.table.proofs.shares.right.Goals as goal

pub loop-k-init : goal.loop-k-init
loop-k-init c = summed_none _

pub returns-then-share-gt1000 : goal.returns-then-share-gt1000
returns-then-share-gt1000 c =
    sym (refuted _ (λ e. never (share_most _ _ c.requires e c.loop-k.k (omega arith)) (lt-leb (share_at c.args.t.now c.loop-k.k) 1000 (omega arith))))

pub overflow_add-sums-in-loop-k : goal.overflow_add-sums-in-loop-k
overflow_add-sums-in-loop-k c =
    omega (arith, sum_most _ _ _ c.loop-k.invariant _ (owner_small _ _ _ c.loop-k.k c.requires (omega arith)), c.weight.ensures.1, c.requires.room)

pub loop-k-preserved : goal.loop-k-preserved
loop-k-preserved c =
    summed_more _ _ _ c.loop-k.invariant (omega arith) (owner_small _ _ _ c.loop-k.k c.requires (omega arith)) _ c.weight.ensures.0

pub returns : goal.returns
returns c = summed_all _ _ _ c.loop-k.invariant _ _ c.requires (omega arith) c.all_right.ensures
