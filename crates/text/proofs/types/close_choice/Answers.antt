-- `text::types::close_choice`: what is known of the shares says which case holds. Assumes nothing.
use Rattle.std.proofs.Common.{refl, arith}
use Rattle.grammar.proofs.laws.Holds.{holds_branches}
use Rattle.text.proofs.laws.HeadAt.{close_right, close_wrong}
use Rattle.text.proofs.types.close_choice.Goals as goal
use Rattle.text.proofs.types.close_choice.Goals.{else-m-le-BRANCHES-via-then-m-le-BRANCHES+else-shares_right, else-m-le-BRANCHES-via-else-m-le-BRANCHES}

pub returns-then-shares_right : goal.returns-then-shares_right
returns-then-shares_right c = λ T at H. close_right _ T H _ _ _ _ _ _ c.shares_right.ensures c.if-shares_right.true refl

pub returns : goal.returns
returns c =
    λ T at H. elim c.else-m-le-BRANCHES.branch [
      | else-m-le-BRANCHES-via-then-m-le-BRANCHES+else-shares_right w ↦ rw c.new.ensures (close_wrong _ T H _ _ _ _ _ _ w.shares_right.ensures w.if-shares_right.false _ c.token-k.ensures.is refl)
      | else-m-le-BRANCHES-via-else-m-le-BRANCHES w ↦ absurd (omega (arith, w.if-m-le-BRANCHES.false, holds_branches _ T H, H.branches))
    ]
