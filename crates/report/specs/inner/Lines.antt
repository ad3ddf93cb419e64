-- What the functions that write the report's lines say. Nothing here need be believed: the contract of `report` cites none of it.
-- Assumes nothing.
use Rattle.std.specs.Prelude.{List, ◌++◌, ℕ, ◌+◌, ◌≤◌, length}
use Rattle.std.specs.Prelude as Std
use Rattle.table.specs.Ascii.{ascii, decimal, letters}
use Rattle.table.specs.View.{label_of}
use Rattle.message.specs.Make.{high_of}
use Rattle.table.specs.declared.Party.{Party}
use Rattle.report.specs.Report as R

-- n bytes more, and 16,384 still hold the report
abbrev pub Room : List ℕ → ℕ → Type 0
Room text n = length text + n ≤ 16384

-- a refused text's line, of the word for it
abbrev pub refusal_line : List ℕ → ℕ → ℕ → List ℕ
refusal_line whose question place = R.line (whose ++ (ascii " refused " ++ (decimal question ++ (ascii " at " ++ decimal place))))

-- a move's line, of its label as one word
abbrev pub label_line : Party → ℕ → Std.Option ℕ → List ℕ
label_line side label high = R.line (R.direction side ++ (letters (label_of label) ++ R.high_part (high_of high)))
