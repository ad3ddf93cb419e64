-- A batch over codes loses no byte.
-- Assumes nothing.
use Rattle.table.specs.declared.Party.TheVariants.{Device, Host}
use Rattle.conversation.specs.Batch.{at_side, lent}
use Rattle.conversation.proofs.claims.NothingLost.{nothing_lost}
use Rattle.codes.specs.Codes.{state_in}
use Rattle.codes.specs.Calls.{batch_codes, batch_crossing, batching_codes}
use Rattle.codes.specs.RawPrograms.{RawNothingLost}

pub raw_nothing_lost : RawNothingLost
unfolding at_side lent batch_codes batch_crossing batching_codes
raw_nothing_lost t bytes c device host to_device to_host =
    let x = nothing_lost t (state_in bytes) c (lent device host to_device to_host) in (x.accounted Device, x.accounted Host)
