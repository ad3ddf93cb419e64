-- The byte at i goes on the run or ends it, as the test says there. Assumes nothing.
use Rattle.std.proofs.Common.{◌≡◌, not, ap, arith, refl, ◌∙◌}
use Rattle.std.proofs.lemmas.Fn.{says_at}
use Rattle.grammar.proofs.laws.RunOf.{loop_on, loop_off, loop_out}
use Rattle.text.proofs.token.run_end.Goals as goal

pub returns-then-not-passes-clause-run : goal.returns-then-not-passes-clause-run
returns-then-not-passes-clause-run g c = λ test h.
    loop_off test _ _ _ (c.loop-i.invariant.same_end test h) c.passes.result c.loop-i-test.true (h _ _ (omega (arith, c.type_inv.s c.loop-i.i)) (says_at g.F.Fn c.passes.ensures refl)) (ap not c.if-not-passes.true)

pub loop-i-preserved : goal.loop-i-preserved
loop-i-preserved g c = record {
  within = omega arith;
  same_end = λ test h.
      loop_on test _ _ _ (c.loop-i.invariant.same_end test h) c.passes.result c.loop-i-test.true (h _ _ (omega (arith, c.type_inv.s c.loop-i.i)) (says_at g.F.Fn c.passes.ensures refl)) (ap not c.if-not-passes.false);
}

pub returns-clause-run : goal.returns-clause-run
returns-clause-run g c = λ test h.
    let e : c.max.result ≡ c.loop-i.i = omega (arith, c.loop-i.invariant.within) in
    e ∙ loop_out test _ _ _ (c.loop-i.invariant.same_end test h) c.loop-i-test.false
