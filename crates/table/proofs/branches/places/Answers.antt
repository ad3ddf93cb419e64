-- One branch more.
use Rattle.std.proofs.Common.{refl, sym, ◌∙◌, arith}
use Rattle.bits.proofs.laws.Digits.{with_below}
use Rattle.table.specs.inner.Scans.{all}
use Rattle.table.proofs.laws.Lists.{all_yes, all_no}
use Rattle.table.proofs.laws.Scans.{members_none, members_more}
use Rattle.table.proofs.laws.SharesRight.{none_more}
use Rattle.table.proofs.laws.View.{in_place_parts}
use Rattle.table.proofs.branches.places.Goals as goal

pub loop-k-init : goal.loop-k-init
unfolding all
loop-k-init c = record { placed = refl; owners = members_none _; shares = refl }

pub returns-then-not-in_place : goal.returns-then-not-in_place
returns-then-not-in_place c = all_no _ _ c.loop-k.k (omega arith) (sym c.in_place.ensures ∙ c.if-not-in_place.true)

pub loop-k-preserved : goal.loop-k-preserved
loop-k-preserved c =
    let i = c.loop-k.invariant in
    let p = sym c.in_place.ensures ∙ c.if-not-in_place.false in
    record {
      placed = all_yes _ c.loop-k.k i.placed p;
      owners = members_more _ _ _ _ i.owners (with_below (omega (arith, (in_place_parts _ _ _ p).0, c.requires.1)) c.with-set.ensures);
      shares = none_more c.args.t.now c.loop-k.k c.loop-k.shares i.shares;
    }
