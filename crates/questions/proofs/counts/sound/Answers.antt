use Rattle.std.proofs.Common.{sym, ap, ◌∙◌}
use Rattle.table.proofs.laws.Lists.{left_passes}
use Rattle.conversation.specs.Counts.{legal_setting}
use Rattle.conversation.proofs.laws.Counts.{counts_by}
use Rattle.questions.proofs.counts.sound.Goals as goal

pub returns : goal.returns
returns c =
    let legal = sym (c.setting_legal.ensures ∙ ap legal_setting c.from.ensures) ∙ c.if-not-setting_legal.false in
    c.all_added.ensures ∙ sym (counts_by _ _ c.requires _ c.add_up.ensures ∙ left_passes _ legal)
