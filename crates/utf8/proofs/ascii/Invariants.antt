-- All before the place is ASCII.
use Rattle.std.proofs.Common.{◌-◌, length}
use Rattle.utf8.specs.inner.Characters.{Ascii}
use Rattle.utf8.proofs.ascii.Given as goal

abbrev pub invariant-loop-i : goal.invariant-loop-i
invariant-loop-i l = Ascii l.bytes l.from l.i

abbrev pub decreases-loop-i : goal.decreases-loop-i
decreases-loop-i l = length l.bytes - l.i
