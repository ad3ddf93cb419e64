-- One range more.
use Rattle.std.proofs.Common.{refl, sym, ◌∙◌, arith}
use Rattle.table.specs.inner.Scans.{all}
use Rattle.table.proofs.laws.Lists.{all_yes, all_no}
use Rattle.table.proofs.branches.ranges_legal.Goals as goal

pub loop-f-init : goal.loop-f-init
unfolding all
loop-f-init c = refl

pub returns-then-not-range_legal : goal.returns-then-not-range_legal
returns-then-not-range_legal c = sym (all_no _ _ c.loop-f.f (omega arith) (sym c.range_legal.ensures ∙ c.if-not-range_legal.true))

pub loop-f-preserved : goal.loop-f-preserved
loop-f-preserved c = all_yes _ c.loop-f.f c.loop-f.invariant (sym c.range_legal.ensures ∙ c.if-not-range_legal.false)
