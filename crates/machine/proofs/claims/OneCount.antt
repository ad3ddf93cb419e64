-- The number of reachable pairs is one number.
-- Assumes nothing.
use mathlib.Core.Path.{sym, ◌∙◌}
use lib.ListN.{length}
use Rattle.machine.specs.Answer.{OneCount}
use Rattle.table.proofs.laws.Lists.{alike}
use Rattle.machine.proofs.laws.Count.{pairs_same}

-- the count is determined
pub one_count : OneCount
one_count d p c e x y =
    x.is
    ∙ pairs_same x.met y.met (length d.sorts) (length p.sorts)
    (λ i j k l.
    let a = x.met_exactly i j k l in
    let b = y.met_exactly i j k l in
    alike (x.met i j) (y.met i j) (λ q. b.1 (a.0 q)) (λ q. a.1 (b.0 q)))
    ∙ sym y.is
