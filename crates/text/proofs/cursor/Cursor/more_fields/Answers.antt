-- `text::cursor::Cursor::more_fields`: a field and what follows it say which case holds. Assumes nothing.
use Rattle.std.proofs.Common.{◌≡◌, ◌+◌, ◌-◌, refl, sym, ◌∙◌, arith}
use borrow.Author.Tests.{eq-eqb, ne_eqb}
use Rattle.table.proofs.laws.Question.{number_no_zero}
use Rattle.text.specs.inner.Recursive.{no_fields, placed, field_then, end_of_field}
use Rattle.text.proofs.laws.NumberRead.{turn, no_turn}
use Rattle.text.proofs.laws.ExpectAt.{next_no, next_last, next_more}
use Rattle.text.proofs.laws.Told.{asked, left}
use Rattle.text.proofs.cursor.Cursor.more_fields.Goals as goal

pub returns-in_err-field-clause-is : goal.returns-in_err-field-clause-is
unfolding no_fields field_then
returns-in_err-field-clause-is c =
    let i = c.loop.invariant in
    let g = rw i.same at c.in_err-field.ensures.is in
    rw (left _ c.from_residual.ensures.1) (sym (i.to_come ∙ turn _ _ _ (omega arith) ∙ simp (← g, asked)))

pub returns-in_err-next_part-clause-is : goal.returns-in_err-next_part-clause-is
unfolding field_then end_of_field
returns-in_err-next_part-clause-is c =
    let i = c.loop.invariant in
    let g = rw i.same at c.in_ok-field.ensures.is in
    let k = next_no _ _ _ _ (rw (c.in_ok-field.ensures.same, i.same) at c.in_err-next_part.ensures.is) (number_no_zero _) in
    rw (left _ c.from_residual-in_err-next_part.ensures.1)
    (sym (i.to_come ∙ turn _ _ _ (omega arith) ∙ simp (← g, ne_eqb _ _ k.0, ne_eqb _ _ k.1, ← k.2)))

pub returns-then-not-branch-clause-is : goal.returns-then-not-branch-clause-is
unfolding field_then end_of_field placed
returns-then-not-branch-clause-is c =
    let i = c.loop.invariant in
    let g = rw i.same at c.in_ok-field.ensures.is in
    let k = next_last _ _ _ _ (rw (c.in_ok-field.ensures.same, i.same) at c.in_ok-next_part.ensures.is) refl c.if-not-branch.true in
    sym (i.to_come ∙ turn _ _ _ (omega arith) ∙ simp (← g, eq-eqb _ _ k.0, ← k.1))

pub loop-preserved : goal.loop-preserved
unfolding field_then end_of_field placed
loop-preserved c =
    let i = c.loop.invariant in
    let g = rw i.same at c.in_ok-field.ensures.is in
    let k = next_more _ _ _ _ (rw (c.in_ok-field.ensures.same, i.same) at c.in_ok-next_part.ensures.is) refl c.if-not-branch.false in
    let z : 5 - (c.loop.counter + 1) ≡ 5 - c.loop.counter - 1 = omega arith in
    record {
      same = c.in_ok-next_part.ensures.same ∙ c.in_ok-field.ensures.same ∙ i.same;
      to_come = rw z (i.to_come ∙ turn _ _ _ (omega arith) ∙ simp (← g, ne_eqb _ _ k.0, eq-eqb _ _ k.1, ← k.2));
    }

pub returns-clause-is : goal.returns-clause-is
returns-clause-is c = rw c.new.ensures (sym (c.loop.invariant.to_come ∙ no_turn _ _ _ (omega arith)))
