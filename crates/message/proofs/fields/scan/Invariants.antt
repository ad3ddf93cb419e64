-- The fields before f are legal, and announce the bytes of text that are counted.
use Rattle.message.proofs.laws.Fields.{Passed}
use Rattle.message.proofs.fields.scan.Given as goal

abbrev pub invariant-loop-f : goal.invariant-loop-f
invariant-loop-f l = Passed l.bytes l.f l.texts
