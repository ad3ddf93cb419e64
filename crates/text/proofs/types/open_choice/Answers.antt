-- `text::types::open_choice`: the tests on the way say which case holds. Assumes nothing.
use Rattle.std.proofs.Common.{refl}
use Rattle.table.proofs.laws.Question.{number_no_zero}
use Rattle.text.proofs.laws.HeadAt.{open_full, open_wrong, open_read}
use Rattle.text.proofs.laws.Told.{left}
use Rattle.text.proofs.types.open_choice.Goals as goal

pub returns-then-t-ge-STATES-clause-is : goal.returns-then-t-ge-STATES-clause-is
returns-then-t-ge-STATES-clause-is c = λ T H. rw c.new.ensures (open_full _ T H _ _ _ _ c.if-t-ge-STATES.true refl)

pub returns-in_err-expect_sign-clause-is : goal.returns-in_err-expect_sign-clause-is
returns-in_err-expect_sign-clause-is c =
    λ T H. rw (left _ c.from_residual.ensures.1) (open_wrong _ T H _ _ _ _ c.if-t-ge-STATES.false c.in_err-expect_sign.ensures.is (number_no_zero _))

pub returns-clause-is : goal.returns-clause-is
returns-clause-is c = λ T H. open_read _ T H _ _ _ _ _ c.if-t-ge-STATES.false c.in_ok-expect_sign.ensures.is refl c.sort_of.ensures c.add_state.ensures
