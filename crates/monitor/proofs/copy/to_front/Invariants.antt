use Rattle.std.proofs.Common.{◌≡◌, ◌-◌, ◌≤◌, length}
use Rattle.monitor.proofs.laws.Copied.{front}
use Rattle.monitor.proofs.copy.to_front.Given as goal

-- the first `done` bytes are copied
abbrev pub invariant-loop-done : goal.invariant-loop-done
invariant-loop-done l = record {
  within : l.done ≤ length l.message;
  copied : l.out ≡ front l.message l.fn.out l.done;
}

abbrev pub decreases-loop-done : goal.decreases-loop-done
decreases-loop-done l = length l.message - l.done
