-- `text::types::read_name`: what the search found says which case holds. Assumes nothing.
use Rattle.std.proofs.Common.{refl, sym}
use Rattle.text.proofs.laws.HeadAt.{name_unbound, name_bare, name_done}
use Rattle.text.proofs.types.read_name.Goals as goal

pub returns-in-None-clause-is : goal.returns-in-None-clause-is
returns-in-None-clause-is c = λ T H. rw c.new.ensures (name_unbound _ T H _ _ _ _ _ _ (rw (← c.word_of-name.ensures) (sym c.in-None.ensures)) refl)

pub returns-then-bound_since-clause-is : goal.returns-then-bound_since-clause-is
returns-then-bound_since-clause-is c =
    λ T H. rw c.new-then-bound_since.ensures
    (name_bare _ T H _ _ _ _ _ c.in-Some.state _ (rw (← c.word_of-name.ensures) (sym c.in-Some.ensures))
    (rw (← c.word_of-name.ensures, ← c.bound_since.ensures) c.if-bound_since.true) refl)

pub returns-else-bound_since-clause-is : goal.returns-else-bound_since-clause-is
returns-else-bound_since-clause-is c =
    λ T H. name_done _ T H _ _ _ _ _ _ _ c.aim_last.ensures (rw (← c.word_of-name.ensures) (sym c.in-Some.ensures))
    (rw (← c.word_of-name.ensures, ← c.bound_since.ensures) c.if-bound_since.false) refl
