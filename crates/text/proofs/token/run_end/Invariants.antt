-- The loop of `run_end`: from i on the run ends where it ends from the start on. Assumes nothing.
use Rattle.std.proofs.Common.{◌≡◌, ℕ, ◌<◌, ◌≤◌, Bool, max, length}
use Rattle.std.specs.Fn.{FnReturnsAt}
use Rattle.grammar.specs.inner.Scanner.{run_end}
use Rattle.text.proofs.token.run_end.Given as goal

abbrev pub invariant-loop-i : goal.invariant-loop-i
invariant-loop-i g l = record {
  within : l.i ≤ max l.p (length l.s);
  same_end : (test : ℕ → Bool) → ((b : ℕ) (r : Bool) → b < 256 → FnReturnsAt g.F.Fn l.passes b r → r ≡ test b) → run_end test l.s l.p ≡ run_end test l.s l.i;
}
