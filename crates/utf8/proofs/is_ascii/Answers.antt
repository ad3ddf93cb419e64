-- ASCII to the end, or to a byte that is none.
use Rattle.utf8.proofs.laws.Characters.{ascii_to, all_ascii}
use Rattle.utf8.proofs.is_ascii.Goals as goal

pub returns : goal.returns
returns c = all_ascii _ _ (ascii_to c.blocks-from.ensures c.ascii.ensures)
