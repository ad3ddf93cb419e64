-- Labels first, then places.
use Rattle.table.proofs.laws.View.{unnamed, placed}
use Rattle.table.proofs.branches.owners.Goals as goal

pub returns-then-not-labels : goal.returns-then-not-labels
returns-then-not-labels c = unnamed _ _ _ c.if-not-labels.ensures

pub returns : goal.returns
returns c = placed _ _ _ _ c.places.ensures c.if-not-labels.ensures
