-- One sort more.
use Rattle.std.proofs.Common.{◌+◌, get_or, set, ap, ◌∙◌}
use Rattle.table.specs.View.{opposite_of}
use Rattle.table.proofs.laws.DualOf.{turn_none, turn_more}
use Rattle.table.proofs.turn.Goals as goal

pub loop-k-init : goal.loop-k-init
loop-k-init c = turn_none _

pub loop-k-preserved : goal.loop-k-preserved
loop-k-preserved c =
    let l = c.loop-k in
    ap (λ r. set l.t (2 + l.k) r) c.opposite_sort.ensures ∙ ap (λ x. set x (2 + l.k) (opposite_of (get_or x (2 + l.k) 0))) l.invariant ∙ turn_more l.k _
