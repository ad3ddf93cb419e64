use Rattle.std.proofs.Common.{◌≡◌, ◌+◌, ◌/◌, ◌%◌, arith, rules, ◌&&◌, eqb, refl, ◌∙◌, tests, slice_index}
use Rattle.std.proofs.lemmas.Iterator.{YieldsList-from_range}
use Rattle.std.proofs.lemmas.Iterator.Search.{any_from_yields_List}
use Rattle.table.specs.View.{owner_at, word_at}
use Rattle.text.proofs.laws.FindIn.{any_labels, halves}
use Rattle.text.proofs.build.label_taken.Goals as goal

pub returns : goal.returns
returns c =
    let t = c.args.t.now in
    any_from_yields_List (λ k. eqb (owner_at t k) c.args.owner && eqb (word_at t k) c.args.label) _ _ _ c.any.ensures.ran (YieldsList-from_range 0 c.args.n c.args.n refl (omega arith)) (λ x b q k. (
      search rules,
      let h : b ≡ (eqb (slice_index t (418 + x)) (c.args.label / 4294967296) && eqb (owner_at t x) c.args.owner && eqb (slice_index t (546 + x)) (c.args.label % 4294967296)) = search (rules, tests) in
          h ∙ halves (slice_index t (418 + x)) (slice_index t (546 + x)) c.args.label (eqb (owner_at t x) c.args.owner) (c.fits-t (546 + x)),
    )) ∙ any_labels t c.args.owner c.args.label c.args.n
