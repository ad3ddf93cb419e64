-- What the sum says at the end. Assumes nothing.
use Rattle.std.proofs.Common.{◌||◌, eqb, ap, ◌∙◌, arith}
use Rattle.table.specs.inner.Scans.{right_sum}
use Rattle.table.proofs.laws.SharesRight.{empty_sum}
use borrow.Author.Tests.{ne_eqb, eq-eqb}
use Rattle.text.proofs.laws.FindIn.{adds_all}
use Rattle.text.proofs.build.shares_right.Goals as goal

pub returns-then-sum-eq0 : goal.returns-then-sum-eq0
returns-then-sum-eq0 c = eq-eqb _ _ c.if-sum-eq0.true ∙ adds_all _ _ _ _ c.loop-k.invariant _ (omega arith) c.requires (empty_sum _ c.if-sum-eq0.true)

pub returns-else-sum-eq0 : goal.returns-else-sum-eq0
unfolding right_sum
returns-else-sum-eq0 c =
    adds_all _ _ _ _ c.loop-k.invariant _ (omega arith) c.requires
    (ap (λ b. b || eqb c.loop-k.sum 1000) (ne_eqb _ _ c.if-sum-eq0.false))
