use Rattle.conversation.specs.Batch.{batched}
use Rattle.conversation.proofs.laws.Batch.{left}
use Rattle.std.specs.Prelude.{None}
use Rattle.monitor.specs.inner.Lanes.{bytes_waiting, Led, none_passed}
use Rattle.monitor.proofs.batch.batch.Given as goal

abbrev pub invariant-loop-x : goal.invariant-loop-x
invariant-loop-x l =
    Led l.t (bytes_waiting l.device l.host) (batched (none_passed l.fn.s None) l.fn.c l.fn.to_device l.fn.to_host) (batched l.b l.c l.to_device l.to_host)

-- the bytes that are left
abbrev pub decreases-loop-x : goal.decreases-loop-x
decreases-loop-x l = left (bytes_waiting l.device l.host) (batched l.b l.c l.to_device l.to_host).lanes
