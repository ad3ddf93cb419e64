-- The sorts before the place are turned.
use Rattle.std.proofs.Common.{◌≡◌}
use Rattle.table.specs.View.{turned_to}
use Rattle.table.proofs.turn.Given as goal

abbrev pub invariant-loop-k : goal.invariant-loop-k
invariant-loop-k l = l.t ≡ turned_to l.k l.initial.t
