use Rattle.table.proofs.laws.SharesRight.{Adds}
use Rattle.table.proofs.laws.View.{Facts}
use Rattle.conversation.specs.Counts.{k_at}
use Rattle.questions.proofs.counts.add_up.Given as goal

abbrev pub invariant-loop-k : goal.invariant-loop-k
invariant-loop-k l = Facts l.fn.t × Adds l.fn.t l.sums (k_at l.fn.c) l.k
