-- All before the place is ASCII.
use Rattle.utf8.specs.inner.Characters.{Ascii}
use Rattle.utf8.proofs.letters.Given as goal

abbrev pub invariant-loop-i : goal.invariant-loop-i
invariant-loop-i l = Ascii l.bytes l.from l.i
