-- The first that is not in order decides.
use Rattle.std.proofs.Common.{refl, sym, ap, ◌∙◌, subst, not-suc-le-zero, below_more, arith}
use Rattle.bits.proofs.laws.Digits.{with_below}
use Rattle.table.specs.Table.{legal_label}
use Rattle.table.specs.View.{label_of}
use Rattle.table.specs.inner.Scans.{all, in_order, named, Word}
use Rattle.table.proofs.laws.Lists.{all_yes, all_no, left_fails, right_fails}
use Rattle.table.proofs.laws.Scans.{members_none, members_more}
use Rattle.table.proofs.laws.SharesRight.{none_more}
use Rattle.table.proofs.laws.View.{in_place_parts, in_order_by}
use Rattle.table.proofs.branches.few.Goals.{then-not-in_place-via-then-not-in_place, then-not-in_place-via-else-not-in_place+then-not-label_legal, then-not-in_place-via-else-not-in_place+else-not-label_legal+then-not-is_alone}
use Rattle.table.proofs.branches.few.Goals as goal

pub loop-k-init : goal.loop-k-init
unfolding all
loop-k-init c = record { ordered = refl; owners = members_none _; shares = refl; words = λ i l. absurd (not-suc-le-zero l) }

pub returns-then-not-in_place : goal.returns-then-not-in_place
unfolding in_order named
returns-then-not-in_place c =
    all_no _ _ c.loop-k.k (omega arith)
    (elim c.then-not-in_place.branch [
      | then-not-in_place-via-then-not-in_place w ↦ left_fails _ (sym c.in_place.ensures ∙ w.if-not-in_place.true)
      | then-not-in_place-via-else-not-in_place+then-not-label_legal w ↦
          right_fails _ (left_fails _ (ap (λ w. legal_label (label_of w)) (sym w.label.ensures.0) ∙ sym w.label_legal.ensures ∙ w.if-not-label_legal.true))
      | then-not-in_place-via-else-not-in_place+else-not-label_legal+then-not-is_alone w ↦
          right_fails _ (right_fails _ (sym w.is_alone.ensures ∙ w.if-not-is_alone.true))
    ])

pub loop-k-preserved : goal.loop-k-preserved
loop-k-preserved c =
    let i = c.loop-k.invariant in
    let l = c.label.ensures.0 in
    let p = sym c.in_place.ensures ∙ c.if-not-in_place.false in
    let q = ap (λ w. legal_label (label_of w)) (sym l) ∙ sym c.label_legal.ensures ∙ c.if-not-label_legal.false in
    record {
      ordered = all_yes _ c.loop-k.k i.ordered (in_order_by _ _ _ p q (sym c.is_alone.ensures ∙ c.if-not-is_alone.false));
      owners = members_more _ _ _ _ i.owners (with_below (omega (arith, (in_place_parts _ _ _ p).0, c.requires.1)) c.with-set.ensures);
      shares = none_more c.args.t.now c.loop-k.k c.loop-k.shares i.shares;
      words = below_more _ _ i.words (subst Word l c.label.ensures.1);
    }
