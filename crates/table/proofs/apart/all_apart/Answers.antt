-- A branch whose mark is new is alone; the others are looked at.
use Rattle.std.proofs.Common.{◌≡◌, ℕ, ◌%◌, ◌<◌, refl, sym, ap, ◌∙◌, arith}
use lib.ListN.{length-replicate}
use Rattle.bits.proofs.laws.Digits.{with_below}
use Rattle.table.specs.inner.Scans.{all, mark_of}
use Rattle.table.proofs.laws.Lists.{all_yes, all_no}
use Rattle.table.proofs.laws.Twins.{filter_none, filter_more, changed}
use Rattle.table.proofs.apart.all_apart.Goals.{else-after-before-via-then-after-before+else-not-is_alone, else-after-before-via-else-after-before}
use Rattle.table.proofs.apart.all_apart.Goals as goal

pub loop-k-init : goal.loop-k-init
unfolding all
loop-k-init c = record { filled = filter_none (length-replicate {A = ℕ} 128 0); alone = refl }

pub returns-then-not-is_alone : goal.returns-then-not-is_alone
returns-then-not-is_alone c = sym (all_no _ _ c.loop-k.k (omega arith) (sym c.is_alone.ensures ∙ c.if-not-is_alone.true))

pub loop-k-preserved : goal.loop-k-preserved
loop-k-preserved c =
    let i = c.loop-k.invariant in
    let e : c.mark-m.result ≡ mark_of _ _ = c.mark-m.ensures.0 ∙ ap (mark_of _) c.label.ensures.0 in
    let b : c.mark-m.result % 32 < 32 = omega arith in
    let put = with_below b c.with-after.ensures in
    record {
      filled = filter_more _ _ _ i.filled c.mark-m.result e _ put;
      alone =
          all_yes _ c.loop-k.k i.alone
          (elim c.else-after-before.branch [
            | else-after-before-via-then-after-before+else-not-is_alone w ↦ sym w.is_alone.ensures ∙ w.if-not-is_alone.false
            | else-after-before-via-else-after-before w ↦ changed _ _ _ i.filled c.mark-m.result _ e put w.if-after-before.false
          ]);
    }
