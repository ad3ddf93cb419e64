-- `text::scope::Env::find`: the bindings from i on do not have the name. Assumes nothing.
use Rattle.std.proofs.Common.{◌≡◌}
use Rattle.text.specs.inner.Recursive.{find_in, find}
use Rattle.text.proofs.scope.Env.find.Given as goal

abbrev pub invariant-loop-i : goal.invariant-loop-i
invariant-loop-i l = find l.self l.name ≡ find_in l.self l.i l.name
