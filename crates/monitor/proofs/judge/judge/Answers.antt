use Rattle.std.proofs.Common.{sym, ◌∙◌, le_refl, arith}
use Rattle.table.specs.View.{branches_of, view}
use Rattle.table.proofs.laws.View.{sound_facts}
use Rattle.message.specs.Message.{count_of}
use Rattle.message.specs.Judge.{selected, judge}
use Rattle.message.proofs.laws.Message.{whole_parts}
use Rattle.conversation.specs.Step.{reason, outside}
use Rattle.monitor.specs.inner.Leaves.{judgement, judged_branch}
use Rattle.conversation.proofs.laws.Conversation.{forbidden_chosen}
use Rattle.monitor.proofs.laws.Judgement.{no_label_here, other_count, other_kinds_here, outside_here, allowed_here, chosen_here}
use Rattle.monitor.proofs.judge.judge.Goals as goal
use Rattle.monitor.proofs.judge.judge.Goals.{then-message-count-via-then-message-count, then-message-count-via-else-message-count+then-not-same_kinds}

pub find-requires : goal.find-requires
find-requires c = (sound_facts _ c.requires.0).room

pub returns-in_default : goal.returns-in_default
unfolding judgement judged_branch judge view reason outside
returns-in_default c =
    let a = c.args in
    let t = a.t.now in
    forbidden_chosen t c.requires.0 a.position _ _ _
    (no_label_here t (branches_of t) a.position a.message.now (whole_parts _ c.requires.1) (branches_of t) c.in_default.ensures (omega arith))

pub bounds-t-b : goal.bounds-t-b
bounds-t-b c = omega (arith, (sound_facts _ c.requires.0).room, c.in-Some.ensures.0)

pub overflow_cast-count : goal.overflow_cast-count
overflow_cast-count c = record { fits = omega (arith, (sound_facts _ c.requires.0).counts _ c.in-Some.ensures.0) }

pub bounds-message-8 : goal.bounds-message-8
bounds-message-8 c = omega (arith, (whole_parts _ c.requires.1).nine)

pub returns-then-message-count : goal.returns-then-message-count
unfolding judgement judged_branch judge view reason outside
returns-then-message-count c =
    let a = c.args in
    let t = a.t.now in
    let f = c.in-Some.ensures in
    let w = whole_parts _ c.requires.1 in
    forbidden_chosen t c.requires.0 a.position _ _ _
    (elim c.then-message-count.branch [
      | then-message-count-via-then-message-count v ↦
          other_count t (branches_of t) a.position a.message.now w c.in-Some.b f.1 f.0 v.if-message-count.true
      | then-message-count-via-else-message-count+then-not-same_kinds v ↦
          other_kinds_here t (branches_of t) a.position a.message.now w c.in-Some.b f.1 f.0 v.if-message-count.false
          (sym v.same_kinds.ensures ∙ v.if-not-same_kinds.true)
    ])

pub same_kinds-requires : goal.same_kinds-requires
unfolding count_of
same_kinds-requires c =
    let k = sound_facts _ c.requires.0 in (
      omega (arith, k.room, c.in-Some.ensures.0),
      k.counts _ c.in-Some.ensures.0,
      omega (arith, (whole_parts _ c.requires.1).arrays, c.if-message-count.false),
    )

pub first_outside-requires : goal.first_outside-requires
unfolding count_of
first_outside-requires c =
    let k = sound_facts _ c.requires.0 in
    (omega (arith, k.room, c.in-Some.ensures.0), k.counts _ c.in-Some.ensures.0, sym c.if-message-count.false)

pub returns-in-Some-first_outside : goal.returns-in-Some-first_outside
unfolding judgement judged_branch judge view reason outside
returns-in-Some-first_outside c =
    let a = c.args in
    let t = a.t.now in
    let f = c.in-Some.ensures in
    let out = c.in-Some-first_outside.ensures in
    forbidden_chosen t c.requires.0 a.position _ _ _
    (outside_here t (branches_of t) a.position a.message.now (whole_parts _ c.requires.1) c.in-Some.b f.1 f.0 c.if-message-count.false
    (sym c.same_kinds.ensures ∙ c.if-not-same_kinds.false) _ out.1 out.0)

pub returns : goal.returns
unfolding judgement judged_branch judge selected view
returns c =
    let a = c.args in
    let t = a.t.now in
    let f = c.in-Some.ensures in
    let w = whole_parts _ c.requires.1 in
    let kinds = sym c.same_kinds.ensures ∙ c.if-not-same_kinds.false in
    let none = c.in_default-first_outside.ensures in (
      sym (allowed_here t (branches_of t) a.position a.message.now w c.in-Some.b f.1 f.0 c.if-message-count.false kinds _ none (le_refl _)),
      sym (chosen_here t (branches_of t) a.position a.message.now w c.in-Some.b f.1 f.0 c.if-message-count.false kinds _ none (le_refl _)),
    )
