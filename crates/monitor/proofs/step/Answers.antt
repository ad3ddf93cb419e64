use Rattle.std.proofs.Common.{sym, ◌∙◌, arith}
use Rattle.table.proofs.laws.View.{sort_of_is}
use Rattle.table.proofs.laws.Question.{number_no_zero}
use Rattle.message.proofs.laws.Message.{whole_parts}
use Rattle.conversation.specs.Step.{told, refusing, outcome}
use Rattle.conversation.proofs.laws.Step.{opened, ready, asked_message, nine_yes}
use Rattle.conversation.proofs.laws.Counts.{sound_rising}
use Rattle.monitor.proofs.laws.CountedStep.{together, settles, way_unasked, way_refused, way_forwards, way_settled}
use Rattle.monitor.proofs.step.Goals as goal

pub returns-in-Err : goal.returns-in-Err
unfolding outcome refusing told
returns-in-Err c = rw c.refused.ensures (way_unasked _ _ _ _ _ _ _ c.in-Err.ensures (number_no_zero c.in-Err.question))

pub takes-requires : goal.takes-requires
takes-requires c = (opened _ _ (nine_yes _ _ (sym c.in_default.ensures)).1).sound

pub take-requires : goal.take-requires
take-requires c =
    let asked = nine_yes _ _ (sym c.in_default.ensures) in
    let sound = (opened _ _ asked.1).sound in
    let x = c.in-Some.ensures in
    let r = ready 1 _ _ _ _ (x.asked 1) in (
      record { sound = sound; there = x.by_branch.there; owned = x.by_branch.owned; rising = sound_rising _ _ sound asked.0 },
      omega (arith, (whole_parts _ r.whole_there).nine),
      r.fits,
    )

pub returns-in-Some : goal.returns-in-Some
returns-in-Some c =
    let asked = nine_yes _ _ (sym c.in_default.ensures) in
    together c.take.ensures.0 c.take.ensures.1 ∙ way_forwards _ _ _ _ _ _ asked.0 asked.1 _ c.in-Some.ensures

pub returns-in-Err-of_message : goal.returns-in-Err-of_message
unfolding outcome refusing told
returns-in-Err-of_message c =
    let asked = nine_yes _ _ (sym c.in_default.ensures) in
    rw c.refused-in-Err-of_message.ensures
    (way_refused _ _ _ _ _ _ asked.0 _ (asked_message _ _ _ _ _ asked.1 ∙ sym c.in-Err-of_message.ensures) (number_no_zero c.in-Err-of_message.question))

pub judge_said-judged-requires : goal.judge_said-judged-requires
judge_said-judged-requires c =
    let o = opened _ _ (nine_yes _ _ (sym c.in_default.ensures)).1 in
    (o.sound, (ready _ _ _ _ _ (sym c.in_default-of_message.ensures)).whole_there, sort_of_is _ _ o.below)

pub settle-requires : goal.settle-requires
settle-requires c =
    let asked = nine_yes _ _ (sym c.in_default.ensures) in
    let sound = (opened _ _ asked.1).sound in
    let r = ready _ _ _ _ _ (sym c.in_default-of_message.ensures) in
    settles _ _ _ _ _ _ sound (sound_rising _ _ sound asked.0) (omega (arith, (whole_parts _ r.whole_there).nine)) r.fits _ c.judge_said-judged.ensures.1

pub returns : goal.returns
returns c =
    let asked = nine_yes _ _ (sym c.in_default.ensures) in
    let j = c.judge_said-judged.ensures in
    together c.settle.ensures.0 c.settle.ensures.1
    ∙ way_settled _ _ _ _ _ _ asked.0 (asked_message _ _ _ _ _ asked.1 ∙ sym c.in_default-of_message.ensures) _ j.0 j.1
