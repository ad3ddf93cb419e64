use Rattle.conversation.specs.Batch.{batched}
use Rattle.conversation.proofs.laws.Batch.{left}
use Rattle.monitor.specs.inner.Lanes.{bytes_waiting, Led}
use Rattle.monitor.proofs.batch.straight_on.Given as goal

abbrev pub invariant-loop-p : goal.invariant-loop-p
invariant-loop-p l =
    Led l.t (bytes_waiting l.device l.host) (batched l.fn.from l.fn.c l.fn.to_device l.fn.to_host) (batched l.b l.c l.to_device l.to_host)

-- the bytes that are left
abbrev pub decreases-loop-p : goal.decreases-loop-p
decreases-loop-p l = left (bytes_waiting l.device l.host) (batched l.b l.c l.to_device l.to_host).lanes
