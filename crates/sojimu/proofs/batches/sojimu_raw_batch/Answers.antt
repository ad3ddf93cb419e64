-- What a batch's parts give together. Assumes nothing.
use Rattle.sojimu.proofs.laws.Parts.{batch_crossed}
use Rattle.sojimu.proofs.batches.sojimu_raw_batch.Goals as goal

pub returns : goal.returns
returns c =
    let a = c.args in
    batch_crossed _ _ a.state.now a.counts.now _ _ _ _ _ _ _ c.state_in-s.ensures c.batch-r.ensures c.renew.ensures c.from.ensures
