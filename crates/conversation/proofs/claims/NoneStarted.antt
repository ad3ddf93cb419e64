-- A start that was refused leaves counts that 9 refuses ever after.
-- Assumes nothing.
use mathlib.Core.Path.{ap, ◌∙◌}
use Rattle.conversation.specs.Counts.{counts_sound}
use Rattle.conversation.specs.Counting.{NoneStarted}
use Rattle.conversation.proofs.laws.Counts.{refused_start, unstarted}

pub none_started : NoneStarted
none_started t u z n = ap (counts_sound u) (refused_start t z n) ∙ unstarted u
