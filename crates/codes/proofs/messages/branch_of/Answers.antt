-- A number that no branch has: 65535 is another. Assumes nothing.
use Rattle.std.proofs.Common.{◌<◌, arith}
use Rattle.codes.proofs.laws.Wide.{same_branch}
use Rattle.codes.proofs.messages.branch_of.Goals as goal

pub returns-in-Err : goal.returns-in-Err
returns-in-Err c = let wide : 65535 < c.args.branch = omega (arith, c.in-Err.ensures) in same_branch _ _ (omega arith) (omega arith)
