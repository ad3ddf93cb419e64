-- `text::types::read_end`: the test says which case holds. Assumes nothing.
use Rattle.std.proofs.Common.{refl}
use Rattle.text.proofs.laws.HeadAt.{end_full, end_read}
use Rattle.text.proofs.types.read_end.Goals as goal

pub returns-then-t-ge-STATES-clause-is : goal.returns-then-t-ge-STATES-clause-is
returns-then-t-ge-STATES-clause-is c = λ T H. rw c.new.ensures (end_full _ T H _ _ _ c.if-t-ge-STATES.true refl)

pub returns-clause-is : goal.returns-clause-is
returns-clause-is c = λ T H. end_read _ T H _ _ _ c.if-t-ge-STATES.false c.add_state.ensures refl
