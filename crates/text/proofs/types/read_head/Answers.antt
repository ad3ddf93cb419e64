-- `text::types::read_head`: the steps on the way say which case holds. Assumes nothing.
use Rattle.std.proofs.Common.{refl}
use Rattle.table.proofs.laws.Question.{number_no_zero}
use Rattle.text.specs.inner.Recursive.{no_fields}
use Rattle.text.proofs.laws.HeadAt.{head_wrong, head_full, head_label, head_fields, head_share, head_done}
use Rattle.text.proofs.laws.Told.{left}
use Rattle.text.proofs.types.read_head.Goals as goal

pub returns-in_err-expect_sign-clause-is : goal.returns-in_err-expect_sign-clause-is
returns-in_err-expect_sign-clause-is c =
    λ T H. rw (left _ c.from_residual.ensures.1) (head_wrong _ T H _ _ _ _ _ c.in_err-expect_sign.ensures.is _ (number_no_zero _))

pub returns-then-m-ge-BRANCHES-clause-is : goal.returns-then-m-ge-BRANCHES-clause-is
returns-then-m-ge-BRANCHES-clause-is c =
    λ T H. rw c.new.ensures (head_full _ T H _ _ _ _ _ c.in_ok-expect_sign.ensures.is refl _ _ _ c.token-k.ensures.is c.if-m-ge-BRANCHES.true refl)

pub returns-in_err-label-clause-is : goal.returns-in_err-label-clause-is
returns-in_err-label-clause-is c =
    let b = c.in_ok-expect_sign.ensures in
    let l = rw b.same at c.in_err-label.ensures.is in
    λ T H. rw (left _ c.from_residual-in_err-label.ensures.1)
    (head_label _ T H _ _ _ _ _ b.is refl c.if-m-ge-BRANCHES.false _ l _ _ (number_no_zero _) refl)

pub returns-in_err-fields-clause-is : goal.returns-in_err-fields-clause-is
unfolding no_fields
returns-in_err-fields-clause-is c =
    let b = c.in_ok-expect_sign.ensures in
    let l = rw b.same at c.in_ok-label.ensures.is in
    let f = rw (c.in_ok-label.ensures.same, b.same) at c.in_err-fields.ensures.is in
    λ T H. rw (left _ c.from_residual-in_err-fields.ensures.1)
    (head_fields _ T H _ _ _ _ _ b.is refl c.if-m-ge-BRANCHES.false _ l refl _ f _ _ (number_no_zero _) refl)

pub returns-in_err-share-clause-is : goal.returns-in_err-share-clause-is
returns-in_err-share-clause-is c =
    let b = c.in_ok-expect_sign.ensures in
    let l = rw b.same at c.in_ok-label.ensures.is in
    let f = rw (c.in_ok-label.ensures.same, b.same) at c.in_ok-fields.ensures.is in
    let w = rw (c.in_ok-fields.ensures.same, c.in_ok-label.ensures.same, b.same) at c.in_err-share.ensures.is in
    λ T H. rw (left _ c.from_residual-in_err-share.ensures.1)
    (head_share _ T H _ _ _ _ _ b.is refl c.if-m-ge-BRANCHES.false _ l refl _ f refl _ w _ _ (number_no_zero _) refl)

pub returns-clause-is : goal.returns-clause-is
returns-clause-is c =
    let b = c.in_ok-expect_sign.ensures in
    let l = rw b.same at c.in_ok-label.ensures.is in
    let f = rw (c.in_ok-label.ensures.same, b.same) at c.in_ok-fields.ensures.is in
    let w = rw (c.in_ok-fields.ensures.same, c.in_ok-label.ensures.same, b.same) at c.in_ok-share.ensures.is in
    λ T H. head_done _ T H _ _ _ _ _ b.is refl c.if-m-ge-BRANCHES.false _ l refl _ f refl _ w _ _ _ refl refl c.add_branch.ensures refl
