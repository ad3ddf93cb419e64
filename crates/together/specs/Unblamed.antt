-- A device that fits and keeps to its description is never blamed, over whole conversations of the monitor's steps and under either edition:
-- whatever the host says, early or in turn, and whatever comes damaged or without room.
-- Assumes nothing.
use Rattle.std.specs.Prelude.{◌≡◌, ◌↔◌, true, List, ◌∷◌, ◌++◌, ℕ, ◌≤◌}
use Rattle.std.proofs.Math.Option.{Option, some}
use Rattle.table.specs.View.{Words, view, sound_of}
use Rattle.table.specs.declared.Party.TheVariants.{Device}
use Rattle.message.specs.Rules.{Rules, table_rules, next, led}
use Rattle.conversation.specs.Step.{Told, blamed}
use Rattle.conversation.specs.Conversation.{Sent, Event, conversation, said_by, forwarded_ones, blamed_first, Judgeable}
use Rattle.conversation.specs.Programs.{Call, Given, by_step, by_batch, run_from, CallsFrom, messages_of}
use Rattle.machine.specs.Machine.{Safe}

module _ {D : Type 0} (d : Rules D) (p : Words) where
  -- The device keeps to its description: each time it is listened to, which under edition 2 is out of turn, too, what it sends well formed
  -- and with room is a message that the description has there. The description's place is followed over the forwarded messages
  abbrev pub Keeps : List Sent → Type 0
  Keeps sent =
      (earlier : List Event) (e : Event) (later : List Event) → conversation p sent ≡ earlier ++ (e ∷ later)
      → e.sent.side ≡ Device → Judgeable (table_rules (view p)) earlier e.met.position e.sent
      → (x : D) → led d (forwarded_ones earlier) ≡ some x → (y : D) × (next d x (said_by e.sent) ≡ some y)

  pub record Unblamed (sent : List Sent) : Type 0 where
    -- the device is never blamed
    pub never : blamed_first (conversation p sent) ≡ some Device → ⊥
    -- each forwarded message, the host's too, is one that the description has or takes there: so they lead somewhere in it
    pub followed : (x : D) × (led d (forwarded_ones (conversation p sent)) ≡ some x)

-- where no list of moves on the machine ends badly
abbrev pub FitsUnblamed : Type 1
FitsUnblamed =
    (D : Type 0) (d : Rules D) (p : Words) → sound_of p ≡ true → Safe d (table_rules (view p))
    → (sent : List Sent) → Keeps d p sent → Unblamed d p sent

-- no answer of a call blames the device: a step's, or a batch's last
unfoldable pub told_last : Given → Option Told
told_last (by_step (x, c)) = some x.verdict
told_last (by_batch b) = b.last

abbrev pub NoneBlames : List Given → Type 0
NoneBlames answers =
    (earlier : List Given) (g : Given) (later : List Given) → answers ≡ earlier ++ (g ∷ later)
    → (r : ℕ) (f : Option ℕ) → told_last g ≡ some (blamed Device r f) → ⊥

-- of calls of a conversation that is started with the setting z, and the steps that they come to
pub record UnblamedBy {D : Type 0} (d : Rules D) (p : Words) (z : ℕ) (calls : List Call) (events : List Event) : Type 0 where
  pub unblamed : Unblamed d p (messages_of events)
  pub none_blames : NoneBlames (run_from p z calls).gives

-- and so of programs: of all calls, in any order, with every setting from 1 to 1000
abbrev pub CallsUnblamed : Type 1
CallsUnblamed =
    (D : Type 0) (d : Rules D) (p : Words) → sound_of p ≡ true → Safe d (table_rules (view p)) → (z : ℕ) → 1 ≤ z → z ≤ 1000
    → (calls : List Call) (events : List Event) → CallsFrom p z calls events
    → Keeps d p (messages_of events) → UnblamedBy d p z calls events

-- a device whose description is the protocol itself keeps to it exactly in the conversations in which it is not blamed
abbrev pub KeepsExactly : Type 0
KeepsExactly =
    (p : Words) → sound_of p ≡ true → (sent : List Sent)
    → Keeps (table_rules (view p)) p sent ↔ (blamed_first (conversation p sent) ≡ some Device → ⊥)
