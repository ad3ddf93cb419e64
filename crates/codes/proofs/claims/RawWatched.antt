-- A program in codes is one of the monitor's own calls, with the numbers of document 01.
-- Assumes nothing.
use Rattle.table.specs.View.{view}
use Rattle.message.specs.Rules.{table_rules}
use Rattle.conversation.proofs.claims.CallsWatched.{calls_watched}
use Rattle.codes.specs.RawPrograms.{calls_of, RawWatched}
use Rattle.codes.proofs.laws.RawPrograms.{watched_raw}

pub raw_watched : RawWatched
raw_watched t z sound low high raws = watched_raw t (table_rules (view t)) z raws (calls_watched t z sound low high (calls_of raws))
