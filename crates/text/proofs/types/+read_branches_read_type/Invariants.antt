-- A type is read with 2d for its measure, d being the depth that is left, and branches with 2d + 1. The loop's invariant: the words hold a
-- table, into which the branches from here on are those from the start on.
use Rattle.std.proofs.Common.{◌≡◌, ◌+◌, ◌-◌}
use Rattle.table.specs.Table.{Table}
use Rattle.grammar.specs.inner.Holds.{Holds}
use Rattle.text.specs.inner.Recursive.{read_type, branches_read}
use Rattle.text.proofs.types.+read_branches_read_type.Given as goal

abbrev pub decreases-read_branches : goal.decreases-read_branches
decreases-read_branches l = l.depth + l.depth + 1

abbrev pub decreases-read_type : goal.decreases-read_type
decreases-read_type l = l.depth + l.depth

abbrev pub invariant-read_branches-loop : goal.invariant-read_branches-loop
invariant-read_branches-loop l = record {
  same : l.c.text ≡ l.initial.c.text;
  to_come : (T₀ : Table) → Holds l.initial.t T₀
      → (T : Table) × Holds l.t T
      × (branches_read (read_type l.depth l.initial.c.text.now) l.initial.c.text.now l.sign l.state l.env 129 l.initial.c.at T₀
      ≡ branches_read (read_type l.depth l.initial.c.text.now) l.initial.c.text.now l.sign l.state l.env (129 - l.counter) l.c.at T);
}
