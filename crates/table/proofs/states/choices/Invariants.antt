-- The states from the place on are looked at.
use Rattle.table.proofs.laws.Scans.{From}
use Rattle.table.proofs.states.choices.Given as goal

abbrev pub invariant-loop-k : goal.invariant-loop-k
invariant-loop-k l = From l.t l.k l.n l.set
