-- One sum more.
use Rattle.std.proofs.Common.{refl, sym, arith}
use Rattle.table.specs.inner.Scans.{all}
use Rattle.table.proofs.laws.Lists.{all_yes, all_no}
use Rattle.table.proofs.laws.SharesRight.{empty_sum, full_sum, wrong_sum}
use Rattle.table.proofs.shares.all_right.Goals as goal

pub loop-sum-init : goal.loop-sum-init
unfolding all
loop-sum-init c = refl

pub returns-then-sum-ne1000 : goal.returns-then-sum-ne1000
returns-then-sum-ne1000 c = sym (all_no _ _ c.loop-sum.sum-index (omega arith) (wrong_sum _ (omega arith) (omega arith)))

pub loop-sum-preserved : goal.loop-sum-preserved
loop-sum-preserved c = all_yes _ c.loop-sum.sum-index c.loop-sum.invariant (grind (arith, full_sum, empty_sum))
