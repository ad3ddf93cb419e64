-- `text::read`: the table that is given is the one that was read, or the empty one. Assumes nothing.
use Rattle.std.proofs.Common.{refl}
use Rattle.table.proofs.laws.Question.{number_no_zero}
use Rattle.text.proofs.laws.ReadText.{filled_read, filled_refused, place_fits}
use Rattle.text.proofs.read.Goals as goal

pub overflow_cast-question : goal.overflow_cast-question
overflow_cast-question c = record { fits = place_fits _ _ _ c.in-Err.ensures }

pub returns-in-Ok : goal.returns-in-Ok
returns-in-Ok c = filled_read _ _ _ c.in-Ok.ensures refl

pub returns-in-Err : goal.returns-in-Err
returns-in-Err c = rw (c.from.ensures, c.empty-t-in-Err.ensures) (filled_refused _ _ _ c.in-Err.ensures (number_no_zero _))
