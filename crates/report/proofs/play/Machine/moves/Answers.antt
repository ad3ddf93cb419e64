-- `report::play::Machine::moves` meets its contract.
use Rattle.std.proofs.Common.{ap, ◌∙◌, arith}
use Rattle.message.specs.Make.{high_of}
use Rattle.report.proofs.laws.Playing.{shows_start, shows_ready, shows_more, shows_end, none_high, last_high}
use Rattle.report.proofs.play.Machine.moves.Goals as goal
use Rattle.report.proofs.play.Machine.moves.Goals.{then-n-moves, else-n-moves}

pub loop-n-init : goal.loop-n-init
loop-n-init c = shows_start _ _ c.args.self.d.sound c.args.self.p.sound _ _ c.requires.0 c.args.report.now

pub turn-pair-requires : goal.turn-pair-requires
unfolding high_of
turn-pair-requires c =
    let g = c.loop-n.invariant in
    let l = c.loop-n-test.true in
    let m = c.args.self in
    elim c.if-n-moves.branch [
      | then-n-moves w ↦ (shows_ready _ _ m.d.sound m.p.sound _ _ c.requires.0 g l (ap high_of w.field-is ∙ none_high _ _ _ w.if-n-moves.true), omega (arith, g.bound_low l, c.requires.0.few, c.requires.1))
      | else-n-moves w ↦ (shows_ready _ _ m.d.sound m.p.sound _ _ c.requires.0 g l (ap high_of w.field-is ∙ last_high _ _ _ w.if-n-moves.false), omega (arith, g.bound_low l, c.requires.0.few, c.requires.1))
    ]

pub loop-n-preserved : goal.loop-n-preserved
unfolding high_of
loop-n-preserved c =
    let g = c.loop-n.invariant in
    let l = c.loop-n-test.true in
    let m = c.args.self in
    elim c.if-n-moves.branch [
      | then-n-moves w ↦ shows_more _ _ m.d.sound m.p.sound _ _ c.requires.0 g l (ap high_of w.field-is ∙ none_high _ _ _ w.if-n-moves.true) c.turn-pair.ensures
      | else-n-moves w ↦ shows_more _ _ m.d.sound m.p.sound _ _ c.requires.0 g l (ap high_of w.field-is ∙ last_high _ _ _ w.if-n-moves.false) c.turn-pair.ensures
    ]

pub ending-requires : goal.ending-requires
ending-requires c = omega (arith, c.loop-n.invariant.bound, c.loop-n.invariant.most, c.requires.0.few, c.requires.1)

pub returns : goal.returns
returns c = shows_end _ _ c.args.self.d.sound c.args.self.p.sound _ _ c.requires.0 c.loop-n.invariant c.loop-n-test.false c.ending.ensures
