-- Demand 2 by the protocol's rules in place of the table's.
-- Assumes nothing.
use Rattle.spelling.proofs.laws.TextOf.{its_protocol}
use Rattle.types.specs.Headline.{Headline}
use Rattle.types.proofs.laws.Headline.{type_demand}

pub headline : Headline
headline s h = let r = its_protocol s h in (r.0, r.1, λ sent. type_demand s r.0 r.1 sent)
