-- The digits of the tenth come first.
use Rattle.report.proofs.write.Report.+number.Given as goal

abbrev pub decreases-number : goal.decreases-number
decreases-number l = l.n
