-- At an end a host move changes nothing.
-- Assumes nothing.
use mathlib.Core.Path.{◌≡◌, ap}
use mathlib.Core.Bool.{Bool, true, false, ◌&&◌, cond}
use lib.Dec.{eqb}
use Rattle.table.specs.Table.{sort_code, same_sort}
use Rattle.message.specs.Message.{well_formed}
use Rattle.machine.specs.Machine.{host_blamed, nothing, halt, host_early, by_side, effect, after, while_running, does, move, EndsUnmoved}
use Rattle.machine.proofs.laws.Reachable.{quiet}

pub ends_unmoved : EndsUnmoved
unfolding move does effect by_side host_early after same_sort sort_code
ends_unmoved D P d p m v q h = rw (h, q) (go (well_formed v.bytes) (eqb p.edition 2))
  where
    go : (w z : Bool) → after d p m (while_running m.standing (cond w (cond (z && false) (halt host_blamed) nothing) nothing)) ≡ m
    go true true = ap (after d p m) (quiet m.standing)
    go true false = ap (after d p m) (quiet m.standing)
    go false z = ap (after d p m) (quiet m.standing)
