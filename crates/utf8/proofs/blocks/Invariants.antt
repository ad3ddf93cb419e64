-- All before the place is ASCII, and the rest is still to come.
use Rattle.std.proofs.Common.{◌≡◌, drop}
use Rattle.utf8.specs.inner.Characters.{Ascii}
use Rattle.utf8.proofs.blocks.Given as goal

abbrev pub invariant-loop-part : goal.invariant-loop-part
invariant-loop-part l = record {
  low : Ascii l.bytes 0 l.i;
  rest : drop l.i l.bytes ≡ l.part-iterator.rest.now;
  size : l.part-iterator.size ≡ 32;
}
