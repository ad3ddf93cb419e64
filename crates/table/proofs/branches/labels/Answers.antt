-- Both passes together.
use Rattle.std.proofs.Common.{refl, sym, ◌∙◌}
use Rattle.table.proofs.laws.Lists.{never, left_fails, left_passes}
use Rattle.table.proofs.laws.View.{labels_many}
use Rattle.table.proofs.branches.labels.Goals as goal

pub returns-then-all_legal : goal.returns-then-all_legal
returns-then-all_legal c =
    record {
      tells = sym (left_passes _ c.if-all_legal.true) ∙ labels_many _ _ c.all_legal.ensures.0 c.all_apart.ensures;
      words = λ e. c.all_legal.ensures.1;
    }

pub returns-else-all_legal : goal.returns-else-all_legal
returns-else-all_legal c =
    record {
      tells = c.if-all_legal.false ∙ sym (left_fails _ c.if-all_legal.false) ∙ labels_many _ _ c.all_legal.ensures.0 refl;
      words = λ e. never e c.if-all_legal.false;
    }
