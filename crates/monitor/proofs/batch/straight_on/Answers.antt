use Rattle.std.proofs.Common.{refl, sym, ◌∙◌}
use Rattle.table.specs.declared.Party.TheVariants.{Device, Host}
use Rattle.conversation.specs.Batch.{at_side, set_side, lent, took, batched}
use Rattle.monitor.specs.inner.Lanes.{no_turn, a_turn}
use Rattle.conversation.proofs.laws.Batch.{sound_parts, devices_turn, hosts_turn}
use Rattle.monitor.proofs.laws.Led.{turn_less, turn_straight, led_on}
use Rattle.monitor.proofs.laws.CountedStep.{together}
use Rattle.monitor.proofs.batch.straight_on.Goals as goal

pub loop-p-init : goal.loop-p-init
loop-p-init c = no_turn

pub pass-requires : goal.pass-requires
unfolding batched lent at_side
pass-requires c =
    let o = led_on _ _ _ c.requires c.loop-p.invariant in
    ((sound_parts _ _ o.within.sound).0, o.rising, o.within.inside Device)

pub loop-p-smaller-then-sort-eq1 : goal.loop-p-smaller-then-sort-eq1
unfolding batched lent at_side set_side took
loop-p-smaller-then-sort-eq1 c =
    let o = led_on _ _ _ c.requires c.loop-p.invariant in
    let due = devices_turn _ _ o.within.sound o.running c.if-sort-eq0.false c.if-sort-eq1.true in
    turn_less _ _ _ _ o (turn_straight _ _ _ Device due _ _ _ c.in-Some.ensures ∙ together refl (sym (c.after_turn-b.ensures _ _ _)))

pub loop-p-preserved-then-sort-eq1 : goal.loop-p-preserved-then-sort-eq1
unfolding batched lent at_side set_side took
loop-p-preserved-then-sort-eq1 c =
    let o = led_on _ _ _ c.requires c.loop-p.invariant in
    let due = devices_turn _ _ o.within.sound o.running c.if-sort-eq0.false c.if-sort-eq1.true in
    a_turn c.loop-p.invariant (turn_straight _ _ _ Device due _ _ _ c.in-Some.ensures ∙ together refl (sym (c.after_turn-b.ensures _ _ _)))

pub pass-requires-else-sort-eq1 : goal.pass-requires-else-sort-eq1
unfolding batched lent at_side
pass-requires-else-sort-eq1 c =
    let o = led_on _ _ _ c.requires c.loop-p.invariant in
    ((sound_parts _ _ o.within.sound).0, o.rising, o.within.inside Host)

pub loop-p-smaller : goal.loop-p-smaller
unfolding batched lent at_side set_side took
loop-p-smaller c =
    let o = led_on _ _ _ c.requires c.loop-p.invariant in
    let due = hosts_turn _ _ o.within.sound o.running c.if-sort-eq0.false c.if-sort-eq1.false in
    turn_less _ _ _ _ o (turn_straight _ _ _ Host due _ _ _ c.in-Some-pass.ensures ∙ together refl (sym (c.after_turn-b-else-sort-eq1.ensures _ _ _)))

pub loop-p-preserved : goal.loop-p-preserved
unfolding batched lent at_side set_side took
loop-p-preserved c =
    let o = led_on _ _ _ c.requires c.loop-p.invariant in
    let due = hosts_turn _ _ o.within.sound o.running c.if-sort-eq0.false c.if-sort-eq1.false in
    a_turn c.loop-p.invariant (turn_straight _ _ _ Host due _ _ _ c.in-Some-pass.ensures ∙ together refl (sym (c.after_turn-b-else-sort-eq1.ensures _ _ _)))
