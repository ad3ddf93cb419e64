-- `text::build::add_branch`: the first k fields are stored. Assumes nothing.
use Rattle.std.proofs.Common.{◌≡◌}
use Rattle.table.specs.View.{branches_of}
use Rattle.text.proofs.laws.Entries.{field_entries}
use Rattle.text.proofs.build.add_branch.Given as goal

abbrev pub invariant-loop-k : goal.invariant-loop-k
invariant-loop-k l = l.t ≡ field_entries l.initial.t (branches_of l.fn.t) l.fn.b.fields.list l.k
