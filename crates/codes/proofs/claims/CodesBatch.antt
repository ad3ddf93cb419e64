-- Over the codes of a state, a batch is the monitor's own, in codes; one that is refused leaves every lent byte.
-- Assumes nothing.
use lib.ListN.{get_or}
use Rattle.conversation.specs.Batch.{at_side, each_side, begun, batching}
use Rattle.conversation.proofs.laws.Batch.{kept_out}
use Rattle.codes.specs.Codes.{state_in}
use Rattle.codes.specs.Calls.{batch_crossing, batching_codes, CodesBatch, BatchRefused}
use Rattle.codes.proofs.laws.Codes.{state_same}
use Rattle.codes.proofs.laws.BatchingCodes.{bytes_left, kept_bytes, own_bytes}

pub codes_batch : CodesBatch
unfolding batching_codes batch_crossing
codes_batch t s c l = rw (state_same s, kept_bytes s (batching t s c l).state)

pub batch_refused : BatchRefused
unfolding batching_codes batch_crossing begun at_side each_side
batch_refused t bytes c l q e n =
    let s = state_in bytes in
    rw (← kept_out t l s c q e n, ← bytes_left s bytes (own_bytes (get_or bytes 0 0) (get_or bytes 1 0)))
