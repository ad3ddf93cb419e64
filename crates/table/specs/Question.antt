-- The questions of documents 01 and 02 by their numbers, and what an answer says of them.
-- Assumes nothing.
use Rattle.std.specs.Prelude.{ℕ, Result, Ok, Err}
use Rattle.table.specs.declared.refusal.Question.{Question}
use Rattle.table.specs.declared.refusal.Question.TheVariants as Q

abbrev pub number : Question → ℕ
number Q.TextTooLong = 1
number Q.BadToken = 2
number Q.Misplaced = 3
number Q.Unbound = 4
number Q.Unguarded = 5
number Q.BadRange = 6
number Q.LabelTwice = 7
number Q.TooMany = 8
number Q.Unsound = 9
number Q.NotRunning = 10
number Q.AtEnd = 11
number Q.OutOfTurn = 12
number Q.BadFront = 13
number Q.BadField = 14
number Q.OtherLength = 15
number Q.OutputTooShort = 16
number Q.ListTooShort = 17
number Q.NoBranch = 18
number Q.BadShare = 19
number Q.BadShares = 20
number Q.BadSetting = 21
number Q.NotUtf8 = 22
number Q.BadEdition = 23

-- the number of the question that got a no, or 0
abbrev pub refused_by : {T : Type 0} → Result T Question → ℕ
refused_by (Ok x) = 0
refused_by (Err q) = number q
