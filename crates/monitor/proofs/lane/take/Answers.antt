use Rattle.std.proofs.Common.{arith}
use Rattle.conversation.specs.Batch.{last_of, lane_of}
use Rattle.monitor.proofs.laws.Led.{cut_length, got_none, got_due, got_used, got_written, got_one}
use Rattle.monitor.proofs.lane.take.Goals as goal

pub returns-then-n-eq0 : goal.returns-then-n-eq0
unfolding last_of
returns-then-n-eq0 c =
    let a = c.args in
    got_none _ _ _ _ a.bytes.now (lane_of a.lane a.out.now) c.requires.0 c.requires.2 _ c.first_length-n.ensures c.if-n-eq0.true

pub slice_bounds-heard-end : goal.slice_bounds-heard-end
slice_bounds-heard-end c = cut_length _ _ c.first_length-n.ensures

pub heard-x-requires : goal.heard-x-requires
heard-x-requires c =
    let a = c.args in (
      got_due _ _ a.c.now _ a.bytes.now (lane_of a.lane a.out.now) c.requires.0 c.requires.2 _ c.first_length-n.ensures c.if-n-eq0.false,
      c.requires.1,
    )

pub after-requires : goal.after-requires
after-requires c =
    let a = c.args in
    let l = lane_of a.lane a.out.now in
    let n = c.first_length-n.ensures in
    let u = got_used _ a.s a.c.now a.side a.bytes.now l c.requires.0 c.requires.2 _ n c.if-n-eq0.false _ _ c.heard-x.ensures.0 in
    let w = got_written _ a.s a.c.now a.side a.bytes.now l c.requires.0 c.requires.2 _ n c.if-n-eq0.false _ _ c.heard-x.ensures.0 in
    (omega (arith, u, c.well_formed), omega (arith, w, c.well_formed))

pub returns : goal.returns
unfolding last_of
returns c =
    let a = c.args in
    let x = c.heard-x.ensures in
    rw c.after.ensures
    (got_one _ _ _ _ a.bytes.now (lane_of a.lane a.out.now) c.requires.0 c.requires.2 _ c.first_length-n.ensures c.if-n-eq0.false _ _ x.0 _ x.1)
