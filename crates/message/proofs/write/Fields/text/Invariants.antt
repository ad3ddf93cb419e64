-- The texts before f are counted.
use Rattle.std.proofs.Common.{◌≡◌, ◌+◌, ◌*◌, ◌≤◌}
use Rattle.table.specs.View.{kind_at}
use Rattle.message.specs.Make.{high_of}
use Rattle.message.specs.inner.Layout.{number_chosen, text_at, total}
use Rattle.message.proofs.write.Fields.text.Given as goal

abbrev pub invariant-loop-f : goal.invariant-loop-f
invariant-loop-f l = record {
  counted : l.text ≡ total l.f (λ f. text_at (kind_at l.self.t.now (l.self.from + f)) (number_chosen (high_of l.self.named) l.self.t.now l.self.from f));
  bounded : l.text ≤ 2147483647 * l.f;
}
