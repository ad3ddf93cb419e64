-- Up to the place there are whole characters, and what is behind it decides.
use Rattle.std.proofs.Common.{◌-◌, length}
use Rattle.utf8.specs.inner.Characters.{WholeChars}
use Rattle.utf8.proofs.is_utf8.Given as goal

abbrev pub invariant-loop-i : goal.invariant-loop-i
invariant-loop-i l = WholeChars l.bytes 0 l.i

abbrev pub decreases-loop-i : goal.decreases-loop-i
decreases-loop-i l = length l.bytes - l.i
