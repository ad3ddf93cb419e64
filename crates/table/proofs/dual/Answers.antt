-- The table is sound, or it is not.
use Rattle.std.proofs.Common.{sym, ap, ap₂, ◌∙◌}
use Rattle.table.specs.View.{dual_answer, dual_of}
use Rattle.table.proofs.dual.Goals as goal

pub returns-then-not-sound : goal.returns-then-not-sound
unfolding dual_of
returns-then-not-sound c =
    ap₂ (λ q x. record { question = q; table = x }) c.from.ensures c.empty.ensures
    ∙ sym (ap (dual_answer c.args.t.now) (sym c.sound.ensures ∙ c.if-not-sound.true))

pub returns : goal.returns
unfolding dual_of
returns c =
    ap (λ x. record { question = 0; table = x }) c.turn.ensures
    ∙ sym (ap (dual_answer c.args.t.now) (sym c.sound.ensures ∙ c.if-not-sound.false))
