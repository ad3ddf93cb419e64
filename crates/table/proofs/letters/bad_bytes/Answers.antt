-- The sums of bytes are as the law takes them.
use Rattle.std.proofs.Common.{refl}
use Rattle.table.proofs.laws.LegalLabel.{label_word}
use Rattle.table.proofs.letters.bad_bytes.Goals as goal

pub returns : goal.returns
returns c = label_word _ _ _ _ _ _ (record { a_is = refl; b_is = refl; d_is = refl; e_is = refl; s_is = refl })
