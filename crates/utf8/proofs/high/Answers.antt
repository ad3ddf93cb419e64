-- The word has no high bit exactly where its bytes have none.
use Rattle.std.proofs.lemmas.Result.{MatchResult-at_ok}
use Rattle.utf8.proofs.laws.Characters.{ascii_word}
use Rattle.utf8.proofs.high.Goals as goal

pub returns : goal.returns
returns c e =
    let whole = MatchResult-at_ok _ _ _ c.unwrap.ensures c.try_from.ensures.1 in
    ascii_word c.args.bytes.now c.args.at _ c.requires whole.same (λ k. (c.type_inv.bytes k).fits) (rw c.from_le_bytes-word.ensures at e)
