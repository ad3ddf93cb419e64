-- Codes of sides, standings and states are those of one only; and the bytes of a state after a step.
-- Assumes nothing.
use mathlib.Core.Path.{◌≡◌, refl, ap}
use mathlib.Core.Bool.{Bool, true, false, cond}
use mathlib.Core.List.{List}
use mathlib.Core.Option.{some}
use Prim.Native.Nat.{ℕ}
use Rattle.table.specs.View.{Words}
use Rattle.table.specs.declared.Party.{Party}
use Rattle.table.specs.declared.Party.TheVariants.{Device, Host}
use Rattle.conversation.specs.declared.Standing.{Standing}
use Rattle.conversation.specs.declared.Standing.TheVariants.{Running, DeviceBlamed, HostBlamed}
use Rattle.conversation.specs.declared.State.{State}
use Rattle.conversation.specs.declared.Reason.{Reason}
use Rattle.conversation.specs.declared.Verdict.TheVariants.{Blamed}
use Rattle.conversation.specs.Step.{told, Outcome, refusing, blaming, forwarding, stepping}
use Rattle.conversation.specs.Counts.{Counts, counts_sound, counted, counted_step}
use Rattle.conversation.proofs.laws.Step.{Way, refuses, forwards, blames, way}
use Rattle.codes.specs.Codes.{code_side, party_code, standing_code, standing_of, state_of, state_bytes}
use Rattle.codes.specs.Calls.{bytes_after}

pub party_same : (side : Party) → code_side (party_code side) ≡ some side
party_same Device = refl
party_same Host = refl

pub standing_same : (x : Standing) → standing_of (standing_code x) ≡ x
standing_same Running = refl
standing_same DeviceBlamed = refl
standing_same HostBlamed = refl

pub state_same : (s : State) → state_of s.position (standing_code s.standing) ≡ s
state_same s = ap (λ (x : Standing). let r : State = record { position = s.position; standing = x } in r) (standing_same s.standing)

-- a blame is kept, whatever its reason
pub blame_kept : (side : Party) (why : Reason) (s : State) (bytes : List ℕ) → bytes_after (told (Blamed side why)) s bytes ≡ state_bytes s
unfolding bytes_after told
blame_kept side why s bytes = refl

module _ (t : Words) (s : State) (side : Party) (message out : List ℕ) where
  -- a refusal leaves the state as it was, so its bytes are those of the state after it, too
  bytes_same : (r : Outcome) → Way t s side message out r → bytes_after r.verdict r.state (state_bytes s) ≡ state_bytes r.state
  unfolding bytes_after refusing blaming forwarding
  bytes_same r (refuses q e n) = refl
  bytes_same r (forwards e j h) = refl
  bytes_same r (blames e n f h) = refl

  pub counted_same : (c : Counts) → let x = counted_step t s c side message out in
      bytes_after x.0.verdict x.0.state (state_bytes s) ≡ state_bytes x.0.state
  unfolding counted_step bytes_after refusing
  counted_same c = by (counts_sound t c)
    where
      by : (b : Bool) → let x = stepping t s side message out in
          let y : Outcome × Counts = cond b (x, counted t s message x.verdict c) (refusing 9 s out, c) in
          bytes_after y.0.verdict y.0.state (state_bytes s) ≡ state_bytes y.0.state
      by true = bytes_same (stepping t s side message out) (way t s side message out)
      by false = refl
