-- Over the codes of a state and a side, a step is the monitor's own, in codes.
-- Assumes nothing.
use mathlib.Core.Path.{ap}
use mathlib.Core.List.{List}
use Prim.Native.Nat.{ℕ}
use Rattle.conversation.specs.Counts.{counted_step}
use Rattle.codes.specs.Codes.{verdict_codes}
use Rattle.codes.specs.Calls.{stepping_as, crossing, step_codes, CodesStep}
use Rattle.codes.proofs.laws.Codes.{counted_same, party_same, state_same}

pub codes_step : CodesStep
unfolding step_codes crossing stepping_as
codes_step t s c side message out =
    let x = counted_step t s c side message out in
    rw (party_same side, state_same s)
    (ap (λ (b : List ℕ). (verdict_codes x.0.verdict, b, x.1, x.0.output)) (counted_same t s side message out c))
