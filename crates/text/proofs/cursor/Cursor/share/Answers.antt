-- `text::cursor::Cursor::share`: the tokens that were passed over, or not, say which case holds. Assumes nothing.
use Rattle.std.proofs.Common.{refl, sym, ◌∙◌}
use borrow.Author.Tests.{ne_eqb}
use Rattle.table.proofs.laws.Question.{number_no_zero}
use Rattle.text.specs.inner.Recursive.{passed, then_dot, dotted, shared_at}
use Rattle.text.proofs.laws.ExpectAt.{expect_yes, expect_no}
use Rattle.text.proofs.laws.Told.{asked, left, no_answer, on_no_answer}
use Rattle.text.proofs.cursor.Cursor.share.Goals as goal

pub returns-in_err-expect_sign-clause-is : goal.returns-in_err-expect_sign-clause-is
unfolding shared_at dotted passed
returns-in_err-expect_sign-clause-is c =
    let stays = on_no_answer _ (sym c.is_ok.ensures.value ∙ c.if-is_ok.false) c.expect_dot.ensures.stays in
    let x = expect_no _ _ _ _ c.expect_dot.ensures.is (no_answer _ _ (sym c.is_ok.ensures.value ∙ c.if-is_ok.false)) in
    let y = expect_no _ _ _ _ (rw stays at c.in_err-expect_sign.ensures.is) (number_no_zero _) in
    rw (left _ c.from_residual.ensures.1, ne_eqb _ _ x.0, ne_eqb _ _ y.0, ← y.1)

pub returns-in_err-share-clause-is : goal.returns-in_err-share-clause-is
unfolding shared_at dotted then_dot
returns-in_err-share-clause-is c =
    let stays = on_no_answer _ (sym c.is_ok.ensures.value ∙ c.if-is_ok.false) c.expect_dot.ensures.stays in
    let x = expect_yes _ _ _ _ (rw stays at c.in_ok-expect_sign.ensures.is) refl in
    let n = rw (c.in_ok-expect_sign.ensures.same, stays) at c.in_err-share.ensures.is in
    rw (left _ c.from_residual-in_err-share.ensures.1, x.0, ← x.1, ← n, asked _)

pub returns-in_err-expect_dot-clause-is : goal.returns-in_err-expect_dot-clause-is
unfolding shared_at dotted then_dot
returns-in_err-expect_dot-clause-is c =
    let stays = on_no_answer _ (sym c.is_ok.ensures.value ∙ c.if-is_ok.false) c.expect_dot.ensures.stays in
    let x = expect_yes _ _ _ _ (rw stays at c.in_ok-expect_sign.ensures.is) refl in
    let n = rw (c.in_ok-expect_sign.ensures.same, stays) at c.in_ok-share.ensures.is in
    let d = rw (c.in_ok-share.ensures.same, c.in_ok-expect_sign.ensures.same, stays) at c.in_err-expect_dot.ensures.is in
    rw (left _ c.from_residual-in_err-expect_dot.ensures.1, x.0, ← x.1, ← n, ← d, asked _)
