-- The places as `twins` has them.
use Rattle.std.proofs.Common.{◌≡◌, true, false, not, refl, sym, ap, arith}
use Rattle.std.proofs.lemmas.Bool.Decides.{nat_tests}
use Rattle.table.specs.inner.Scans.{all, twins}
use Rattle.table.proofs.laws.Lists.{all_yes, all_no}
use Rattle.table.proofs.apart.is_alone.Goals as goal

pub loop-k-init : goal.loop-k-init
unfolding all
loop-k-init c = refl

pub returns-then-t-k : goal.returns-then-t-k
unfolding twins
returns-then-t-k c =
    let h : twins c.args.t.now c.args.i c.loop-k.k ≡ true = grind (arith, nat_tests) in
    sym (all_no _ _ c.loop-k.k (omega arith) (ap not h))

pub loop-k-preserved : goal.loop-k-preserved
unfolding twins
loop-k-preserved c =
    let h : twins c.args.t.now c.args.i c.loop-k.k ≡ false = grind (arith, nat_tests) in
    all_yes _ c.loop-k.k c.loop-k.invariant (ap not h)
