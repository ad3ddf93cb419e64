-- After n moves the lines so far and those of the moves that are left are all lines.
use Rattle.message.specs.Make.{high_of}
use Rattle.report.proofs.laws.Playing.{Playing}
use Rattle.report.proofs.play.Machine.moves.Given as goal

abbrev pub invariant-loop-n : goal.invariant-loop-n
invariant-loop-n l = Playing l.self.d.words.now l.self.p.words.now l.moves (high_of l.named) l.fn.report l.report l.pair l.n
