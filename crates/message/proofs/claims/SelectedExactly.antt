-- The branch that a message chooses is one of the state's, carries it, and leads where the state allows it to.
-- Assumes nothing.
use Rattle.std.proofs.Common.{◌≡◌, ◌<◌, true, length, sym, ◌∙◌, subst, zero-add}
use mathlib.Core.Option.{some}
use Rattle.message.specs.Judge.{carries, allows, selected}
use Rattle.message.specs.Make.{branch}
use Rattle.message.specs.MessageTheorems.{SelectedExactly}
use Rattle.message.proofs.laws.Selected.{chosen_at, none_chosen, none_goes}

pub selected_exactly : SelectedExactly
unfolding selected allows branch
selected_exactly t i m = (
  λ k e.
      let x = chosen_at i m t.branches _ 0 k e in
      let p : x.place ≡ k = sym (x.counted ∙ zero-add x.place) in
      record {
        there = subst (λ n. n < length t.branches) p x.there;
        carried = subst (λ n. carries i m (branch t n) ≡ true) p x.carried;
        leads = subst (λ n. allows t i m ≡ some (branch t n).target) p x.leads;
      },
  (none_goes i m t.branches 0, none_chosen i m t.branches 0),
)
