-- A batch is its single calls, and those come to an end.
-- Assumes nothing.
use mathlib.Core.Path.{sym, ◌∙◌}
use native.Mathlib.Omega.{arith}
use Rattle.conversation.specs.Batches.{BatchSingly}
use Rattle.conversation.proofs.laws.Batch.{enough_turns, let_in}
use Rattle.conversation.proofs.laws.Singles.{listed, turns_singly}

pub batch_singly : BatchSingly
batch_singly t s c l q = (
  listed t (enough_turns l) s l (omega arith),
  λ events x. sym (let_in t l s c q) ∙ turns_singly t (enough_turns l) s c l (omega arith) events x,
)
