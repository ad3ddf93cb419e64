-- The numbers before f stand in their place.
use Rattle.std.proofs.Common.{◌≡◌}
use Rattle.message.specs.Make.{four_bytes, high_of}
use Rattle.message.specs.inner.Layout.{put_at, in_a_row, number_chosen}
use Rattle.message.proofs.write.Fields.numbers.Given as goal

abbrev pub invariant-loop-f : goal.invariant-loop-f
invariant-loop-f l = l.out ≡ put_at l.at (in_a_row l.f (λ f. four_bytes (number_chosen (high_of l.self.named) l.self.t.now l.self.from f))) l.fn.out
