-- The cycle of calls of `text::types::read_branches` and `read_type`: the tests on the way say which case holds. Assumes nothing.
use Rattle.std.proofs.Common.{◌≡◌, ◌+◌, ◌-◌, refl, sym, subst, ◌∙◌, arith, rules, ap}
use Rattle.table.proofs.laws.Question.{number_no_zero}
use Rattle.text.specs.inner.Kinds.{number_of_kind}
use Rattle.text.specs.inner.Recursive.{Env, Room, read_branches}
use Rattle.grammar.proofs.laws.Holds.{holds_states}
use Rattle.text.proofs.laws.Env.{room_bind, room_less}
use Rattle.text.proofs.laws.Recursive.{at_end, at_name, at_rec_full, at_choice_full, at_other, no_turn}
use Rattle.text.proofs.laws.Gives.{gives_refused, gives_wrong, gives_by}
use Rattle.text.proofs.laws.TypeBy.{rec_refused, rec_read, choice_refused, choice_read, sign_known, head_refused, body_refused, last_read, wrong_refused, more_read}
use Rattle.text.proofs.laws.Told.{left}
use Rattle.text.proofs.types.+read_branches_read_type.Goals as goal

pub read_branches-loop-init : goal.read_branches-loop-init
read_branches-loop-init t c = record { same = refl; to_come = λ T H. (T, H, refl) }

pub read_branches-returns-in_err-read_head-clause-is : goal.read_branches-returns-in_err-read_head-clause-is
unfolding read_branches
read_branches-returns-in_err-read_head-clause-is t c =
    let same = c.loop.invariant.same in
    let h = rw same at c.in_err-read_head.ensures.is in
    λ T H. let i = c.loop.invariant.to_come T H in
    rw (left _ c.from_residual.ensures.1) (gives_by _ _ _ _ i.2 (head_refused _ _ _ _ _ _ _ i.0 (omega arith) _ _ (h i.0 i.1) _ (number_no_zero _)))

pub read_branches-returns-in_err-read_type-clause-is : goal.read_branches-returns-in_err-read_type-clause-is
unfolding read_branches
read_branches-returns-in_err-read_type-clause-is t c =
    let same = c.loop.invariant.same in
    let h = rw same at c.in_ok-read_head.ensures.is in
    let b = rw (c.in_ok-read_head.ensures.same, same) at c.in_err-read_type.ensures.is in
    λ T H. let i = c.loop.invariant.to_come T H in
    let g = h i.0 i.1 in
    rw (left _ c.from_residual-in_err-read_type.ensures.1)
    (gives_by _ _ _ _ i.2 (body_refused _ _ _ _ _ _ _ i.0 (omega arith) _ _ g refl _ _ (b _ (g.table refl)) _ (number_no_zero _)))

pub read_branches-returns-in_err-next_part-clause-is : goal.read_branches-returns-in_err-next_part-clause-is
unfolding read_branches
read_branches-returns-in_err-next_part-clause-is t c =
    let same = c.loop.invariant.same in
    let h = rw same at c.in_ok-read_head.ensures.is in
    let b = rw (c.in_ok-read_head.ensures.same, same) at c.in_ok-read_type.ensures.is in
    let n = rw (c.in_ok-read_type.ensures.same, c.in_ok-read_head.ensures.same, same) at c.in_err-next_part.ensures.is in
    λ T H. let i = c.loop.invariant.to_come T H in
    let g = h i.0 i.1 in
    rw (left _ c.from_residual-in_err-next_part.ensures.1)
    (gives_by _ _ _ _ i.2
    (wrong_refused _ _ _ _ _ _ _ i.0 (omega arith) _ _ g refl _ _ (b _ (g.table refl)) refl _ n (number_no_zero _) _ _ refl))

pub read_branches-returns-then-not-branch-clause-is : goal.read_branches-returns-then-not-branch-clause-is
unfolding read_branches
read_branches-returns-then-not-branch-clause-is t c =
    let same = c.loop.invariant.same in
    let h = rw same at c.in_ok-read_head.ensures.is in
    let b = rw (c.in_ok-read_head.ensures.same, same) at c.in_ok-read_type.ensures.is in
    let n = rw (c.in_ok-read_type.ensures.same, c.in_ok-read_head.ensures.same, same) at c.in_ok-next_part.ensures.is in
    let e = rw (c.in_ok-read_type.ensures.same, c.in_ok-read_head.ensures.same, same) at c.close_choice.ensures in
    λ T H. let i = c.loop.invariant.to_come T H in
    let g = h i.0 i.1 in
    gives_by _ _ _ _ i.2
    (last_read _ _ _ _ _ _ _ i.0 (omega arith) _ _ g refl _ _ (b _ (g.table refl)) refl _ n refl c.if-not-branch.true _ (λ I J. e I _ J))

pub read_branches-loop-preserved : goal.read_branches-loop-preserved
read_branches-loop-preserved t c =
    let same = c.loop.invariant.same in
    let h = rw same at c.in_ok-read_head.ensures.is in
    let b = rw (c.in_ok-read_head.ensures.same, same) at c.in_ok-read_type.ensures.is in
    let n = rw (c.in_ok-read_type.ensures.same, c.in_ok-read_head.ensures.same, same) at c.in_ok-next_part.ensures.is in
    record {
      same = c.in_ok-next_part.ensures.same ∙ c.in_ok-read_type.ensures.same ∙ c.in_ok-read_head.ensures.same ∙ same;
      to_come = λ T H.
          let i = c.loop.invariant.to_come T H in
          let g = h i.0 i.1 in
          let x = b _ (g.table refl) in
          let z : 129 - (c.loop.counter + 1) ≡ 129 - c.loop.counter - 1 = omega arith in (
            _,
            x.table refl,
            rw z (i.2 ∙ more_read _ _ _ _ _ _ _ i.0 (omega arith) _ _ g refl _ _ x refl _ n refl c.if-not-branch.false),
          );
    }

pub read_branches-returns-clause-is : goal.read_branches-returns-clause-is
unfolding read_branches
read_branches-returns-clause-is t c =
    λ T H. let i = c.loop.invariant.to_come T H in
    rw c.new.ensures (gives_refused _ _ _ 8 _ (i.2 ∙ no_turn _ _ _ _ _ _ _ _ (omega arith)) refl (λ z. omega arith))

pub read_type-returns-then-depth-eq0-clause-is : goal.read_type-returns-then-depth-eq0-clause-is
read_type-returns-then-depth-eq0-clause-is t c =
    λ T H. rw c.new.ensures
    (gives_refused _ _ _ 8 _ (at_rec_full _ _ _ _ _ _ _ c.token-k.ensures.is (ap number_of_kind c.in-Rec.is) c.if-depth-eq0.true) refl (λ z. omega arith))

pub read_type-returns-in_err-name-in-Rec-clause-is : goal.read_type-returns-in_err-name-in-Rec-clause-is
read_type-returns-in_err-name-in-Rec-clause-is t c =
    λ T H. rw (left _ c.from_residual.ensures.1)
    (rec_refused _ _ _ _ _ T _ c.token-k.ensures.is c.if-depth-eq0.false _ _ _ (ap number_of_kind c.in-Rec.is) c.in_err-name-in-Rec.ensures.is (number_no_zero _) refl)

pub read_type-read_type-requires : goal.read_type-read_type-requires
read_type-read_type-requires t c = (
  omega (arith, c.decreases, c.if-depth-eq0.false),
  subst (λ (e : Env). Room e (c.args.depth - 1)) (sym c.bind.ensures) (room_bind _ _ _ _ c.if-depth-eq0.false c.requires),
)

pub read_type-returns-then-depth-eq0-2-clause-is : goal.read_type-returns-then-depth-eq0-2-clause-is
read_type-returns-then-depth-eq0-2-clause-is t c =
    λ T H. rw c.new-then-depth-eq0-2.ensures
    (gives_refused _ _ _ 8 _ (at_choice_full _ _ _ _ _ _ _ c.token-k.ensures.is (rw c.in-Sign-eq43.is (rw c.in-Sign-eq43.field-0-is at c.in-Sign-eq43.field-0-test)) c.if-depth-eq0-2.true) refl (λ z. omega arith))

pub read_type-returns-in_err-open_choice-in-Sign-eq43-clause-is : goal.read_type-returns-in_err-open_choice-in-Sign-eq43-clause-is
read_type-returns-in_err-open_choice-in-Sign-eq43-clause-is t c =
    λ T H. rw (left _ c.from_residual-in_err-open_choice-in-Sign-eq43.ensures.1)
    (choice_refused _ _ _ _ _ T _ c.token-k.ensures.is c.if-depth-eq0-2.false _ _ _ (rw c.in-Sign-eq43.is (rw c.in-Sign-eq43.field-0-is at c.in-Sign-eq43.field-0-test)) (c.in_err-open_choice-in-Sign-eq43.ensures.is T H) (number_no_zero _))

pub read_type-read_branches-requires : goal.read_type-read_branches-requires
read_type-read_branches-requires t c =
    (omega (arith, c.decreases, c.if-depth-eq0-2.false), (room_less _ _ c.requires, sign_known _ _ c.sign_of.ensures))

pub read_type-returns-in-End-clause-is : goal.read_type-returns-in-End-clause-is
read_type-returns-in-End-clause-is t c = λ T H. gives_by _ _ _ _ (at_end _ _ _ _ _ _ _ c.token-k.ensures.is (ap number_of_kind c.in-End.is)) (c.read_end.ensures.is T H)

pub read_type-returns-in-Name-clause-is : goal.read_type-returns-in-Name-clause-is
read_type-returns-in-Name-clause-is t c = λ T H. gives_by _ _ _ _ (at_name _ _ _ _ _ _ _ c.token-k.ensures.is (ap number_of_kind c.in-Name.is)) (c.read_name.ensures.is T H)

pub read_type-returns-in_ok-name-in-Rec-clause-is : goal.read_type-returns-in_ok-name-in-Rec-clause-is
read_type-returns-in_ok-name-in-Rec-clause-is t c =
    let r = rw c.in_ok-name-in-Rec.ensures.same at c.read_type.ensures.is in
    λ T H. rec_read _ _ _ _ _ T _ c.token-k.ensures.is c.if-depth-eq0.false _ _ _ _ _ (ap number_of_kind c.in-Rec.is) c.in_ok-name-in-Rec.ensures.is refl (holds_states _ T H)
    c.bind.ensures (r T H)

pub read_type-returns-in_ok-open_choice-in-Sign-eq43-clause-is : goal.read_type-returns-in_ok-open_choice-in-Sign-eq43-clause-is
read_type-returns-in_ok-open_choice-in-Sign-eq43-clause-is t c =
    let r = rw c.in_ok-open_choice-in-Sign-eq43.ensures.same at c.read_branches.ensures.is in
    λ T H. let g = c.in_ok-open_choice-in-Sign-eq43.ensures.is T H in
    choice_read _ _ _ _ _ T _ c.token-k.ensures.is c.if-depth-eq0-2.false _ _ _ _ _ _ (rw c.in-Sign-eq43.is (rw c.in-Sign-eq43.field-0-is at c.in-Sign-eq43.field-0-test)) g refl c.sign_of.ensures (holds_states _ T H)
    (r _ (g.table refl))

pub read_type-returns-in_default-clause-is : goal.read_type-returns-in_default-clause-is
read_type-returns-in_default-clause-is t c =
    λ T H. gives_wrong _ _ _ _ c.unexpected.ensures
    (at_other _ _ _ _ _ _ _ c.token-k.ensures.is (λ e. search rules) (λ e. search rules) (λ e. search rules) (λ e. search rules))
