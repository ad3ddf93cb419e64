use Rattle.std.proofs.Common.{ap, sym, ◌∙◌}
use Rattle.table.specs.Table.{speaker, is_party}
use Rattle.message.proofs.laws.Judge.{none_some}
use Rattle.conversation.specs.Step.{reason, outside}
use Rattle.monitor.specs.inner.Leaves.{judgement, judged_branch}
use Rattle.conversation.proofs.laws.Step.{said_in_turn, said_early}
use Rattle.monitor.proofs.judge.judge_said.Goals as goal

pub returns-then-not-has_turn : goal.returns-then-not-has_turn
unfolding judgement judged_branch reason outside
returns-then-not-has_turn c =
    let turn = ap (λ x. is_party c.args.side (speaker x)) c.requires.2 ∙ sym c.has_turn.ensures in
    (sym (said_early _ _ _ (turn ∙ c.if-not-has_turn.true)), λ b h. none_some h)

pub returns : goal.returns
returns c =
    let turn = ap (λ x. is_party c.args.side (speaker x)) c.requires.2 ∙ sym c.has_turn.ensures in
    let j = c.judge.ensures in
    (j.0 ∙ sym (said_in_turn _ _ _ (turn ∙ c.if-not-has_turn.false)), λ b h. sym j.1 ∙ h)
