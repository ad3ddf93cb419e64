-- Counts tally after every beginning of every conversation.
-- Assumes nothing.
use Rattle.conversation.specs.Counting.{CountsTally}
use Rattle.conversation.proofs.laws.Counts.{legal}
use Rattle.conversation.proofs.laws.Tallied.{tallied}

pub counts_tally : CountsTally
counts_tally t z sound low high sent earlier later e = tallied t sound z (legal z low high) earlier
