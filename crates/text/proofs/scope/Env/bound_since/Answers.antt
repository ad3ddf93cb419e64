-- The bindings from `from` on. Assumes nothing.
use Rattle.std.proofs.Common.{◌-◌, eqb, refl, ◌∙◌, rules, tests}
use Rattle.std.proofs.lemmas.Iterator.{YieldsList-from_range}
use Rattle.std.proofs.lemmas.Iterator.Search.{any_from_yields_List}
use Rattle.text.specs.inner.Recursive.{bound_in, name_in}
use Rattle.text.proofs.laws.FindIn.{any_since}
use Rattle.text.proofs.scope.Env.bound_since.Goals as goal

pub returns : goal.returns
returns c =
    let e = c.args.self.now in
    any_from_yields_List (λ i. eqb (name_in e i) c.args.name) _ _ _ c.any.ensures.ran (YieldsList-from_range c.args.from (bound_in e) (bound_in e - c.args.from) refl refl) (λ x b q k. search (rules, tests)) ∙ any_since e c.args.from c.args.name (bound_in e)
