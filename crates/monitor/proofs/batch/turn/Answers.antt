use Rattle.std.proofs.Common.{ap, refl, sym, ◌∙◌}
use Rattle.table.specs.declared.Party.TheVariants.{Device, Host}
use Rattle.conversation.specs.Batch.{at_side, lent, took, set_side, turn_of, last_of, batched}
use Rattle.conversation.proofs.laws.Batch.{ended_turn, devices_turn, hosts_turn, turn_is}
use Rattle.monitor.proofs.laws.CountedStep.{together}
use Rattle.monitor.proofs.batch.turn.Goals as goal

pub returns-then-sort-eq0 : goal.returns-then-sort-eq0
unfolding batched last_of turn_of
returns-then-sort-eq0 c = let p = c.requires in sym (turn_is _ _ _ _ (ended_turn _ _ p.within.sound p.running c.if-sort-eq0.true))

pub take-x-requires : goal.take-x-requires
unfolding batched lent at_side
take-x-requires c =
    let p = c.requires in
    (devices_turn _ _ p.within.sound p.running c.if-sort-eq0.false c.if-sort-eq1.true, p.rising, p.within.inside Device)

pub returns-then-sort-eq1 : goal.returns-then-sort-eq1
unfolding batched lent at_side took set_side turn_of
returns-then-sort-eq1 c =
    let a = c.args in
    let b = batched a.b a.c.now a.to_device.now a.to_host.now in
    together refl (c.after_turn.ensures _ _ _) ∙ ap (λ x. took Device x b) c.take-x.ensures
    ∙ sym (turn_is _ _ b _ (devices_turn _ _ c.requires.within.sound c.requires.running c.if-sort-eq0.false c.if-sort-eq1.true))

pub take-x-requires-2 : goal.take-x-requires-2
unfolding batched lent at_side
take-x-requires-2 c =
    let p = c.requires in
    (hosts_turn _ _ p.within.sound p.running c.if-sort-eq0.false c.if-sort-eq1.false, p.rising, p.within.inside Host)

pub returns : goal.returns
unfolding batched lent at_side took set_side turn_of
returns c =
    let a = c.args in
    let b = batched a.b a.c.now a.to_device.now a.to_host.now in
    together refl (c.after_turn-2.ensures _ _ _) ∙ ap (λ x. took Host x b) c.take-x-2.ensures
    ∙ sym (turn_is _ _ b _ (hosts_turn _ _ c.requires.within.sound c.requires.running c.if-sort-eq0.false c.if-sort-eq1.false))
