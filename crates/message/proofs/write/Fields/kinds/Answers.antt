-- `message::write::Fields::kinds`: one kind more in each turn.
use Rattle.std.proofs.Common.{ℕ, ◌+◌, List, [], ◌∷◌, refl, sym, ap, arith}
use Rattle.table.specs.View.{kind_at}
use Rattle.message.specs.inner.Layout.{in_a_row}
use Rattle.message.proofs.laws.Layout.{put_none, run_length, set_more}
use Rattle.message.proofs.write.Fields.kinds.Goals as goal

pub loop-f-init : goal.loop-f-init
unfolding in_a_row
loop-f-init c = put_none _ _

pub loop-f-preserved : goal.loop-f-preserved
loop-f-preserved c =
    let a = c.args in
    let p : ℕ → List ℕ = λ f. kind_at a.self.now.t.now (a.self.now.from + f) ∷ [] in
    let sized = run_length p 1 (λ f. refl) c.loop-f.f in
    set_more p a.at c.loop-f.f a.out.now (omega arith) c.loop-f.out (a.at + c.from.result) _ (omega arith) (omega arith)
    (ap (λ k. k ∷ []) (sym c.kind.ensures)) c.loop-f.invariant

pub returns : goal.returns
returns c = grind (arith, c.loop-f.invariant)
