use Rattle.std.proofs.Common.{arith, subst, sym}
use Rattle.table.proofs.laws.View.{sound_facts}
use Rattle.table.proofs.laws.SharesRight.{Adds, adds_none, adds_more}
use Rattle.conversation.specs.Counts.{k_at}
use Rattle.questions.proofs.counts.add_up.Goals as goal

pub loop-k-init : goal.loop-k-init
loop-k-init c =
    let t = c.args.t.now in
    let k = k_at c.args.c.now in
    (sound_facts t c.requires.sound, subst (λ s. Adds t s k 0) (sym c.requires.empty) (adds_none t k))

pub loop-k-preserved : goal.loop-k-preserved
loop-k-preserved c =
    let i = c.loop-k.invariant in
    (i.0, adds_more _ _ _ c.loop-k.k i.1 (omega (arith, i.0.owners c.loop-k.k c.loop-k-test.true)) _ c.from.ensures)
