-- `text::build::add_branch`: the words are those of the columns, and then those of the fields. Assumes nothing.
use Rattle.std.proofs.Common.{◌≡◌, sym, ◌∙◌, arith}
use Rattle.text.specs.inner.Stores.{set_head, store_at, put_branch}
use Rattle.text.proofs.laws.Entries.{field_entries, no_entries, all_entries, one_entered}
use Rattle.text.proofs.build.add_branch.Goals as goal

pub loop-k-init : goal.loop-k-init
unfolding field_entries
loop-k-init c = sym (no_entries _ _ _ _ _)

pub loop-k-preserved : goal.loop-k-preserved
loop-k-preserved c = one_entered _ _ _ c.loop-k.k c.loop-k-test.true c.requires c.loop-k.invariant

pub returns : goal.returns
unfolding put_branch store_at set_head field_entries
returns c =
    let z : c.loop-k.k ≡ 4 = omega arith in
    c.loop-k.invariant ∙ rw z (all_entries _ _ _ _ _)
