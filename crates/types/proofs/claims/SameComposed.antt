-- A monitor composed with a process does what it does between two black boxes; and the process that says and takes anything brings about
-- whatever the monitor does there.
-- Assumes nothing.
use mathlib.Core.List.{List}
use Rattle.message.specs.Message.{Message}
use Rattle.message.specs.Rules.{Said}
use Rattle.table.specs.declared.Party.TheVariants.{Device, Host}
use Rattle.types.specs.Monitor.{Mon, Runs, rest, alone, on_hearing, on_telling}
use Rattle.types.specs.Composite.{Composite, unmoved, isnd, ircv, iout, iin, iproc, imon}
use Rattle.types.specs.Verdicts.{SameComposed}
use Rattle.types.proofs.claims.SameVerdicts.{same_verdicts}

-- what the monitor does in a composed system, it does between two black boxes
pub composite_runs : {P : Type 0} {Alone : P → P → Type 0} {Says Takes : P → Message → P → Type 0} {p r : P}
    {M K : Mon} {heard told : List Said} → Composite Alone Says Takes p M heard told r K → Runs M heard told K
composite_runs unmoved = rest
composite_runs (isnd s m r) = on_hearing m (composite_runs r)
composite_runs (ircv t m r) = on_telling m (composite_runs r)
composite_runs (iout m r) = on_telling m (composite_runs r)
composite_runs (iin m r) = on_hearing m (composite_runs r)
composite_runs (iproc a r) = composite_runs r
composite_runs (imon m r) = alone m (composite_runs r)

-- so whatever the process, the composed system comes to a verdict only where the monitor of messages blames
pub same_composed : SameComposed
same_composed s t text sent P Alone Says Takes x y side told i c = (same_verdicts s t text sent side told i).0 (composite_runs c)

-- the process that says and takes anything
abbrev Never : Unit {0} → Unit {0} → Type 0
Never p q = ⊥

abbrev Any : Unit {0} → Message → Unit {0} → Type 0
Any p m q = Unit {0}

pub runs_composite : {M K : Mon} {heard told : List Said} → Runs M heard told K → Composite Never Any Any tt M heard told tt K
runs_composite rest = unmoved
runs_composite (alone m r) = imon m (runs_composite r)
runs_composite (on_telling {s = Device} m r) = ircv {q = tt} tt m (runs_composite r)
runs_composite (on_telling {s = Host} m r) = iout m (runs_composite r)
runs_composite (on_hearing {s = Device} m r) = isnd {q = tt} tt m (runs_composite r)
runs_composite (on_hearing {s = Host} m r) = iin m (runs_composite r)
