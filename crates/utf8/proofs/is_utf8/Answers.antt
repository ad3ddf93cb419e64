-- ASCII is whole characters, and at the end nothing is behind them.
use Rattle.utf8.proofs.laws.Characters.{ascii_spans, span_on, span_all}
use Rattle.utf8.proofs.is_utf8.Goals as goal

pub loop-i-init : goal.loop-i-init
loop-i-init c = ascii_spans _ c.ascii-i.ensures.run

pub loop-i-preserved-then-n-eq1 : goal.loop-i-preserved-then-n-eq1
loop-i-preserved-then-n-eq1 c =
    span_on c.loop-i.invariant (span_on c.in-Some.ensures.1 (ascii_spans _ c.ascii-i-then-n-eq1.ensures.run))

pub returns : goal.returns
returns c = span_all _ _ c.loop-i.invariant c.loop-i-test.false
