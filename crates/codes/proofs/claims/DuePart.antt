-- The side and the length that are told as due are the due part itself.
-- Assumes nothing.
use mathlib.Core.Path.{◌≡◌, refl}
use Rattle.table.specs.declared.Party.TheVariants.{Device, Host}
use Rattle.conversation.specs.Due.{Awaited, refused, of_side, due_at}
use Rattle.conversation.specs.Counts.{counted_turn, counted_due}
use Rattle.codes.specs.Calls.{due_codes, waiting, part_told, DuePart}

pub due_part : DuePart
unfolding counted_due due_at due_codes waiting part_told
due_part t s c device host = by (counted_turn t s c)
  where
    by : (turn : Awaited) → part_told (due_codes turn device.now host.now) device host ≡ due_at turn device host
    by (of_side Device) = refl
    by (of_side Host) = refl
    by (refused q) = refl
