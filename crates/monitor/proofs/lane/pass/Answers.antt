use Rattle.std.proofs.Common.{refl, sym, arith}
use Rattle.conversation.specs.Step.{told}
use Rattle.conversation.specs.Batch.{used_by, written_by, last_of, lane_of}
use Rattle.monitor.proofs.laws.PassedOn.{ahead_size, ahead_fits, ahead_within, passed_on}
use Rattle.monitor.proofs.lane.pass.Goals as goal

pub slice_bounds-to_front-end : goal.slice_bounds-to_front-end
slice_bounds-to_front-end c =
    let a = c.args in
    ahead_size _ a.s a.c.now _ (lane_of a.lane a.out.now) c.requires.2 _ _ c.in_ok-first.ensures

pub to_front-requires : goal.to_front-requires
to_front-requires c =
    let a = c.args in
    ahead_fits _ a.s a.c.now _ (lane_of a.lane a.out.now) c.requires.2 _ _ c.in_ok-first.ensures

pub after-requires : goal.after-requires
unfolding told used_by written_by
after-requires c =
    let a = c.args in
    let w = ahead_within _ a.s a.c.now a.bytes.now (lane_of a.lane a.out.now) c.requires.2 _ _ c.in_ok-first.ensures in
    (omega (arith, w.0, c.well_formed), omega (arith, w.1, c.well_formed))

pub returns : goal.returns
unfolding last_of told used_by written_by
returns c =
    let a = c.args in
    record {
      forwards = refl;
      turn = λ side h.
          rw (c.follow.ensures.0, c.follow.ensures.1, c.after.ensures)
          (sym (passed_on _ a.s a.c.now _ (lane_of a.lane a.out.now) c.requires.2 _ _ c.in_ok-first.ensures _ c.to_front.ensures side h));
    }
