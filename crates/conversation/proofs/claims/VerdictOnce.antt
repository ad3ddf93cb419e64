-- A verdict is known by document 01's numbers: the promises, which speak of these, leave no other.
-- Assumes nothing.
use mathlib.Core.Path.{◌≡◌, refl, ap}
use mathlib.Core.Option.{Option, none, some}
use Prim.Native.Nat.{ℕ, zero, suc}
use Rattle.conversation.specs.declared.Reason.{Reason}
use Rattle.conversation.specs.declared.Reason.TheVariants.{NoLabel, OtherKinds, OutOfRange, Early}
use Rattle.conversation.specs.declared.Verdict.TheVariants.{Refused, Blamed, Forwarded}
use Rattle.table.proofs.laws.Question.{number_once}
use Rattle.conversation.specs.Step.{told, reason, outside, VerdictOnce}

unfoldable reason_by : ℕ → Option ℕ → Reason
reason_by zero f = NoLabel
reason_by (suc zero) f = NoLabel
reason_by (suc (suc n)) (some f) = OutOfRange f
reason_by (suc (suc zero)) none = OtherKinds
reason_by (suc (suc (suc n))) none = Early

reason_known : (r : Reason) → reason_by (reason r) (outside r) ≡ r
unfolding reason_by reason outside
reason_known NoLabel = refl
reason_known OtherKinds = refl
reason_known (OutOfRange f) = refl
reason_known Early = refl

pub verdict_once : VerdictOnce
unfolding told
verdict_once (Refused p) (Refused q) e = ap Refused (number_once p q cc)
verdict_once (Refused p) (Blamed side why) e = cc
verdict_once (Refused p) Forwarded e = cc
verdict_once (Blamed side why) (Refused q) e = cc
verdict_once (Blamed side why) (Blamed other because) e = cc (reason_known why, reason_known because)
verdict_once (Blamed side why) Forwarded e = cc
verdict_once Forwarded (Refused q) e = cc
verdict_once Forwarded (Blamed side why) e = cc
verdict_once Forwarded Forwarded e = refl
