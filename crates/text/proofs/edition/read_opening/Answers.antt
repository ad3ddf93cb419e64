-- `text::edition::read_opening`: the first token says whether there is an opening. Assumes nothing.
use Rattle.std.proofs.Common.{◌≡◌, ap, set, rules}
use Rattle.text.specs.inner.Kinds.{number_of_kind}
use Rattle.text.proofs.laws.ReadText.{opening_read, opening_none}
use Rattle.text.proofs.edition.read_opening.Goals as goal

pub returns-then-eq-clause-is : goal.returns-then-eq-clause-is
returns-then-eq-clause-is c =
    let e : number_of_kind c.token-k.result.kind ≡ 69 = search rules in
    opening_read _ _ (rw c.requires.start at c.token-k.ensures.is) e _ _ c.read_edition.ensures.is

pub returns-clause-is : goal.returns-clause-is
returns-clause-is c = rw c.requires.start (opening_none _ _ (rw c.requires.start at c.token-k.ensures.is) (λ e. search rules) _ (ap (λ w. set w 2338 1) c.requires.empty))
