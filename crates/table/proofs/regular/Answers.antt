-- Where states and branches are in order, the two sets and the shares are left.
use Rattle.std.proofs.Common.{sym, refl, ◌∙◌, arith, eq-eqb, ne_eqb}
use Rattle.table.proofs.laws.Lists.{never, left_fails, left_passes}
use Rattle.table.proofs.laws.View.{not_regular, codes_all, order_all, passed}
use Rattle.table.proofs.laws.SharesRight.{none_kept}
use Rattle.table.proofs.regular.Goals.{then-m-eq0-via-then-m-eq0, then-m-eq0-via-else-m-eq0+then-m-gt32, then-m-eq0-via-else-m-eq0+else-m-gt32+then-n-gt128}
use Rattle.table.proofs.regular.Goals as goal

pub returns-then-m-eq0 : goal.returns-then-m-eq0
returns-then-m-eq0 c =
    not_regular _
    (λ f. elim c.then-m-eq0.branch [
      | then-m-eq0-via-then-m-eq0 w ↦ omega (arith, f.some, w.if-m-eq0.true)
      | then-m-eq0-via-else-m-eq0+then-m-gt32 w ↦ omega (arith, f.few, w.if-m-gt32.true)
      | then-m-eq0-via-else-m-eq0+else-m-gt32+then-n-gt128 w ↦ omega (arith, f.room, w.if-n-gt128.true)
    ])

pub returns-in_default : goal.returns-in_default
returns-in_default c = not_regular _ (λ f. never (codes_all _ f) c.in_default.ensures)

pub returns-in_default-owners : goal.returns-in_default-owners
returns-in_default-owners c = not_regular _ (λ f. never (order_all _ f) c.in_default-owners.ensures)

pub returns-then-owners-eq0 : goal.returns-then-owners-eq0
returns-then-owners-eq0 c =
    let s = c.in-Some.ensures in
    let o = c.in-Some-owners.ensures in
    eq-eqb _ 0 c.if-owners-eq0.true
    ∙ sym (passed _ _ _ c.if-m-eq0.false c.if-m-gt32.false c.if-n-gt128.false s.0 s.1 o
    ∙ left_passes _ (eq-eqb _ _ c.if-owners-choices.true) ∙ none_kept _ _ refl _ o.shares c.if-owners-eq0.true)

pub returns-else-owners-eq0 : goal.returns-else-owners-eq0
returns-else-owners-eq0 c =
    let s = c.in-Some.ensures in
    c.right.ensures
    ∙ sym (passed _ _ _ c.if-m-eq0.false c.if-m-gt32.false c.if-n-gt128.false s.0 s.1 c.in-Some-owners.ensures
    ∙ left_passes _ (eq-eqb _ _ c.if-owners-choices.true))

pub returns-else-owners-choices : goal.returns-else-owners-choices
returns-else-owners-choices c =
    let s = c.in-Some.ensures in
    let n = ne_eqb _ _ c.if-owners-choices.false in
    n ∙ sym (passed _ _ _ c.if-m-eq0.false c.if-m-gt32.false c.if-n-gt128.false s.0 s.1 c.in-Some-owners.ensures ∙ left_fails _ n)
