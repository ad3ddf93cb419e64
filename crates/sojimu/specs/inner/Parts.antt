-- What the parts of a call say. It need not be believed: laws tie it to Calls (proofs/laws/Parts).
-- Assumes nothing.
use Rattle.conversation.specs.Step.{Told, refused}
use Rattle.conversation.specs.Due.{Awaited, of_side}
use Rattle.conversation.specs.Due as Due

-- the answer to what no side says, by whose turn it is
unfoldable pub unspoken : Awaited → Told
unspoken (Due.refused q) = refused q
unspoken (of_side side) = refused 12
