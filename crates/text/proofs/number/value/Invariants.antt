-- The loop of `value`: the digits to come give the value from what has been read. Assumes nothing.
use Rattle.std.proofs.Common.{◌≡◌, ◌≤◌, min, drop}
use Rattle.grammar.specs.Number.{value_of}
use Rattle.text.proofs.number.value.Given as goal

abbrev pub invariant-loop-b : goal.invariant-loop-b
invariant-loop-b l = record {
  most : l.v ≤ 8589934592;
  to_come : min (value_of 0 l.w) 8589934592 ≡ min (value_of l.v (drop l.b-index l.w)) 8589934592;
}
