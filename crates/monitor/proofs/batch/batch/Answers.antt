use Rattle.std.proofs.Common.{◌≡◌, sym, ◌∙◌, List, ℕ, arith}
use Rattle.table.specs.Lists.{first_no}
use Rattle.table.specs.View.{Words}
use Rattle.table.proofs.laws.Question.{number_no_zero}
use Rattle.conversation.specs.declared.State.{State}
use Rattle.std.specs.Prelude.{None}
use Rattle.conversation.specs.Counts.{Counts}
use Rattle.conversation.specs.Step.{told}
use Rattle.conversation.specs.Batch.{at_side, each_side, lent, batch_questions, begun, last_of, batched}
use Rattle.monitor.specs.inner.Lanes.{bytes_waiting, On, no_turn, a_turn, none_passed}
use Rattle.conversation.proofs.laws.Batch.{kept_out, let_in}
use Rattle.monitor.proofs.laws.Led.{begun_on, turn_less, turn_forwarded, led_further, led_on, led_less, led_over, same_turns}
use Rattle.monitor.proofs.batch.batch.Goals as goal

-- where the loop begins, turns may go on: 9 and 10 got a yes
begun-so : (t : Words) (s : State) (c : Counts) (device host to_device to_host : List ℕ) → 0 ≡ first_no (batch_questions t s c)
    → On t (bytes_waiting device host) (batched (none_passed s None) c to_device to_host)
unfolding batched begun last_of lent at_side each_side
begun-so t s c device host to_device to_host e = begun_on t (bytes_waiting device host) (lent device host to_device to_host) s c (sym e)

pub returns-in-Err : goal.returns-in-Err
unfolding batched begun last_of told lent at_side each_side
returns-in-Err c =
    let a = c.args in
    rw c.begun.ensures
    (kept_out a.t.now (lent a.device.now a.host.now a.to_device.now a.to_host.now) a.s a.c.now _ c.in-Err.ensures (number_no_zero c.in-Err.question))

pub loop-x-init : goal.loop-x-init
loop-x-init c = rw c.begun-b.ensures no_turn

pub straight_on-far-requires : goal.straight_on-far-requires
straight_on-far-requires c =
    let a = c.args in
    led_on _ _ _ (begun-so _ a.s a.c.now _ _ _ _ (omega arith)) c.loop-x.invariant

pub turn-x-requires : goal.turn-x-requires
turn-x-requires c =
    let a = c.args in
    led_on _ _ _ (begun-so _ a.s a.c.now _ _ _ _ (omega arith)) (led_further _ _ c.loop-x.invariant c.straight_on-far.ensures)

pub returns-then-not-is_forwarded : goal.returns-then-not-is_forwarded
unfolding batched begun last_of told lent at_side each_side
returns-then-not-is_forwarded c =
    let a = c.args in
    let l = led_further _ _ c.loop-x.invariant c.straight_on-far.ensures in
    let asked = sym (omega arith) in
    led_over _ _ _ (begun-so _ a.s a.c.now _ _ _ _ (omega arith)) l _ c.turn-x.ensures
    (sym c.is_forwarded.ensures ∙ c.if-not-is_forwarded.true)
    ∙ same_turns _ _ _ _ _ _ _ ∙ let_in _ _ _ _ asked

pub loop-x-smaller : goal.loop-x-smaller
loop-x-smaller c =
    let a = c.args in
    let o = led_on _ _ _ (begun-so _ a.s a.c.now _ _ _ _ (omega arith)) c.loop-x.invariant in
    let far = c.straight_on-far.ensures in
    let e = turn_forwarded _ _ _ _ c.turn-x.ensures (sym c.is_forwarded.ensures ∙ c.if-not-is_forwarded.false) in
    omega (arith, led_less _ _ _ o far, turn_less _ _ _ _ (led_on _ _ _ o far) e)

pub loop-x-preserved : goal.loop-x-preserved
loop-x-preserved c =
    a_turn (led_further _ _ c.loop-x.invariant c.straight_on-far.ensures)
    (turn_forwarded _ _ _ _ c.turn-x.ensures (sym c.is_forwarded.ensures ∙ c.if-not-is_forwarded.false))
