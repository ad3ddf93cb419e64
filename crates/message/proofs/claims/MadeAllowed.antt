-- A made message is well formed, says its branch, and the branch's state allows it.
-- Assumes nothing.
use Rattle.message.specs.MessageTheorems.{MadeAllowed}
use Rattle.message.proofs.laws.BranchMessage.{opens_with}

pub making_allowed : MadeAllowed
making_allowed t k h buffer n e = opens_with t k h buffer n e
