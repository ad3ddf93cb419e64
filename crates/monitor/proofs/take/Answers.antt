use Rattle.conversation.specs.Step.{told, forwarding, outcome}
use Rattle.monitor.proofs.take.Goals as goal

pub returns : goal.returns
unfolding outcome forwarding told
returns c = (rw (c.follow-state.ensures.0, c.to_front.ensures), c.follow-state.ensures.1)
