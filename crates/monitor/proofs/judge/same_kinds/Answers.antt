use Rattle.std.proofs.Common.{refl, sym, ◌∙◌, arith}
use Rattle.table.specs.inner.Scans.{all}
use Rattle.table.proofs.laws.Lists.{all_yes, all_no}
use Rattle.monitor.proofs.laws.Leaves.{kind_yes, kind_no}
use Rattle.monitor.proofs.judge.same_kinds.Goals as goal

pub loop-f-init : goal.loop-f-init
unfolding all
loop-f-init c = refl

pub returns-then-from-t : goal.returns-then-from-t
returns-then-from-t c = sym (all_no _ _ c.loop-f.f (omega arith) (kind_no _ _ _ _ (λ e. c.if-from-t.true (c.from.ensures ∙ e))))

pub loop-f-preserved : goal.loop-f-preserved
loop-f-preserved c = all_yes _ c.loop-f.f c.loop-f.invariant (kind_yes _ _ _ _ (sym c.from.ensures ∙ c.if-from-t.false))
