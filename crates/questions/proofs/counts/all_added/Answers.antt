use Rattle.std.proofs.Common.{◌≡◌, sym, false, ◌∙◌}
use Rattle.std.proofs.lemmas.Bool.{eq-eqb, not-true}
use Rattle.table.proofs.laws.Lists.{never, all_no}
use Rattle.conversation.specs.inner.Keeping.{sums_to}
use Rattle.questions.proofs.laws.SumsTo.{sums_over, sums_other}
use Rattle.questions.proofs.counts.all_added.Goals as goal
use Rattle.questions.proofs.counts.all_added.Goals.{then-n-gt-MOST, else-n-gt-MOST}

pub returns-then-sums-i : goal.returns-then-sums-i
returns-then-sums-i c =
    let a = c.args in
    let i = c.loop-i.i in
    let no : sums_to a.t.now a.c.now a.sums.now i ≡ false = elim c.if-n-gt-MOST.branch [
      | then-n-gt-MOST w ↦ sums_over _ _ _ i c.if-t-i-ne0.true w.if-n-gt-MOST.true
      | else-n-gt-MOST w ↦ sums_other _ _ _ i c.if-t-i-ne0.true (λ e. never (eq-eqb _ _ (e ∙ sym w.from.ensures)) (not-true _ (sym w.value-is ∙ c.if-sums-i.true)))
    ] in
    sym (all_no _ _ i c.loop-i-test.true no)
