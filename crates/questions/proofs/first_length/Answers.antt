use Rattle.conversation.proofs.laws.Due.{first_none, first_all, first_part}
use Rattle.questions.proofs.first_length.Goals as goal

pub returns-in-Ok : goal.returns-in-Ok
returns-in-Ok c = first_all _ _ c.front.ensures _ c.in-Ok.is c.if-n-bytes.true

pub returns-in_default : goal.returns-in_default
returns-in_default c = first_part _ _ c.front.ensures _ c.in-Ok.is c.if-n-bytes.false

pub returns-in_default-2 : goal.returns-in_default-2
returns-in_default-2 c = first_none _ _ c.front.ensures _ c.in_default.is
