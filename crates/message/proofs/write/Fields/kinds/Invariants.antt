-- The kinds before f stand in their place.
use Rattle.std.proofs.Common.{◌≡◌, ◌+◌, [], ◌∷◌}
use Rattle.table.specs.View.{kind_at}
use Rattle.message.specs.inner.Layout.{put_at, in_a_row}
use Rattle.message.proofs.write.Fields.kinds.Given as goal

abbrev pub invariant-loop-f : goal.invariant-loop-f
invariant-loop-f l = l.out ≡ put_at l.at (in_a_row l.f (λ f. kind_at l.self.t.now (l.self.from + f) ∷ [])) l.fn.out
