-- What the texts from field f on still have to say.
use Rattle.std.proofs.Common.{◌≡◌}
use Rattle.message.specs.Message.{legal_texts}
use Rattle.message.proofs.laws.LegalTexts.{left_legal}
use Rattle.message.proofs.fields.texts.Given as goal

abbrev pub invariant-loop-f : goal.invariant-loop-f
invariant-loop-f l = legal_texts l.bytes ≡ left_legal l.bytes l.f l.rest
