-- A sound table fits itself.
-- Assumes nothing.
use Rattle.table.specs.View.{view}
use Rattle.machine.specs.Answer.{FitsItself}
use Rattle.machine.proofs.laws.Itself.{table_fits_itself}

pub fits_itself : FitsItself
fits_itself t e = table_fits_itself (view t)
