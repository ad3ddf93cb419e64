use Rattle.std.proofs.Common.{ap, refl, sym, ◌∙◌, arith}
use Rattle.message.proofs.laws.Message.{whole_parts}
use Rattle.conversation.specs.Step.{told, Outcome, refusing, outcome}
use Rattle.conversation.specs.Counts.{counted}
use Rattle.conversation.proofs.laws.Step.{judged_as}
use Rattle.conversation.proofs.laws.Batch.{due_broken, due_full, due_sound, due_yes, due_whole, due_judged}
use Rattle.monitor.proofs.laws.CountedStep.{settles, settled_counted}
use Rattle.monitor.proofs.lane.heard.Goals as goal

pub returns-then-not-legal_texts : goal.returns-then-not-legal_texts
unfolding outcome refusing told counted
returns-then-not-legal_texts c = rw c.refused.ensures (sym (due_broken _ _ _ _ _ c.requires.0 (sym c.legal_texts.ensures ∙ c.if-not-legal_texts.true)), refl)

pub returns-then-out-message : goal.returns-then-out-message
unfolding outcome refusing told counted
returns-then-out-message c =
    rw c.refused-then-out-message.ensures
    (sym (due_full _ _ _ _ _ c.requires.0 (sym c.legal_texts.ensures ∙ c.if-not-legal_texts.false) c.if-out-message.true), refl)

pub judge-judged-requires : goal.judge-judged-requires
judge-judged-requires c = (
  due_sound _ _ _ _ c.args.out.now c.requires.0,
  due_whole _ _ _ _ c.args.out.now c.requires.0 (sym c.legal_texts.ensures ∙ c.if-not-legal_texts.false) c.if-out-message.false,
)

pub settle-requires : goal.settle-requires
settle-requires c =
    let out = c.args.out.now in
    let p = c.requires in
    let w = due_whole _ _ _ _ out p.0 (sym c.legal_texts.ensures ∙ c.if-not-legal_texts.false) c.if-out-message.false in
    settles _ _ _ _ _ _ (due_sound _ _ _ _ out p.0) p.1 (omega (arith, (whole_parts _ w).nine)) c.if-out-message.false
    _ (λ b h. sym c.judge-judged.ensures.1 ∙ h)

pub returns : goal.returns
unfolding outcome
returns c =
    let x = c.settle.ensures in
    let j = c.judge-judged.ensures in (
      x.0 ∙ sym (judged_as _ _ _ _ _ _ (due_yes _ _ _ _ c.args.out.now c.requires.0 (sym c.legal_texts.ensures ∙ c.if-not-legal_texts.false) c.if-out-message.false)
          (due_judged _ _ _ _ c.args.out.now c.requires.0 ∙ sym j.0)),
      x.1 ∙ settled_counted _ _ _ _ _ c.args.out.now _ (λ b h. sym j.1 ∙ h) _ (ap (λ (y : Outcome). y.verdict) x.0),
    )
