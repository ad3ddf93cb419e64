use Rattle.std.proofs.Common.{ap, sym, ◌∙◌, below_more, arith}
use Rattle.message.specs.Message.{has_label}
use Rattle.monitor.proofs.laws.Leaves.{named_by_label, named_other_owner}
use Rattle.monitor.proofs.judge.find.Goals as goal
use Rattle.monitor.proofs.judge.find.Goals.{then-t-k+else-has_label, else-t-k}

pub returns-then-has_label : goal.returns-then-has_label
returns-then-has_label c =
    let named = named_by_label _ _ _ _ (c.if-t-k.true ∙ c.from-owner.ensures) ∙ ap (has_label c.args.bytes.now) (sym c.label_word-label.ensures) ∙ sym c.has_label.ensures in
    (c.loop-k-test.true, record { within = omega arith; before = c.loop-k.invariant; there = λ _. named ∙ c.if-has_label.true })

pub loop-k-preserved : goal.loop-k-preserved
loop-k-preserved c =
    below_more _ _ c.loop-k.invariant
    (elim c.if-t-k.branch [
      | then-t-k+else-has_label w ↦
          named_by_label _ _ _ _ (w.if-t-k.true ∙ c.from-owner.ensures) ∙ ap (has_label c.args.bytes.now) (sym w.label_word-label.ensures) ∙ sym w.has_label.ensures ∙ w.if-has_label.false
      | else-t-k w ↦ named_other_owner _ _ _ _ (λ e. w.if-t-k.false (e ∙ sym c.from-owner.ensures))
    ])
