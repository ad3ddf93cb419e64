-- Document 01's "The report program": what it prints, line by line.
-- Assumes nothing.
use Rattle.std.specs.Prelude.{◌≡◌, List, [], ◌∷◌, ◌++◌, ℕ}
use Rattle.std.proofs.Math.Option.{none, some}
use Rattle.table.specs.Ascii.{ascii, decimal}
use Rattle.table.specs.Table as T
use Rattle.table.specs.View.{view}
use Rattle.report.specs.Report as R
use Rattle.examples.specs.Twelve.{table}
use Rattle.examples.specs.TableExamples.{P_seen, E_seen}
use Rattle.examples.specs.MachineExamples.{to_nine, to_ten}

abbrev pub ping : T.Table
ping = view (table "rec X.+{!Ping().&{?Pong().X},!Quit().end}")

abbrev pub busy : T.Table
busy = view (table "+{!Ping().&{?Busy().end}}")

-- a label of eight letters; then a field that the host has one wider
abbrev pub wide : T.Table
wide = view (table "+{!Abcdefg8().&{?B(flag[0..0],int[0..10]).end}}")

abbrev pub narrow : T.Table
narrow = view (table "+{!Abcdefg8().&{?B(flag[0..0],int[0..9]).end}}")

-- "Each line ends in 0x0A."
abbrev pub then_line : List ℕ → List ℕ → List ℕ
then_line a b = a ++ (10 ∷ b)

pub record ReportsPrinted : Type 0 where
  -- document 01's example: "The 2 is K; `in` is a device move, `out` a host move, with its label ..; last `blamed` or `jammed`"
  pub no_fit : R.no_fit busy ping (0 ∷ 1 ∷ []) none
      ≡ then_line (ascii "no fit 2") (then_line (ascii "in Ping") (then_line (ascii "out Pong") (then_line (ascii "jammed") [])))
  -- "(and ` high ` and the field's number where one is high)": of the last move alone
  pub blamed : R.no_fit (to_ten T.sends) (to_nine T.sends) (0 ∷ []) (some 0)
      ≡ then_line (ascii "no fit 1") (then_line (ascii "in A high 0") (then_line (ascii "blamed") []))
  pub jammed_high : R.no_fit narrow wide (0 ∷ 1 ∷ []) (some 1)
      ≡ then_line (ascii "no fit 2") (then_line (ascii "in Abcdefg8") (then_line (ascii "out B high 1") (then_line (ascii "jammed") [])))
  -- "Device `end` against P: K = 0, jammed"
  pub no_moves : R.no_fit E_seen P_seen [] none ≡ then_line (ascii "no fit 0") (then_line (ascii "jammed") [])
  -- "prints `fit 2`, the pairs met"
  pub fits : R.fit 2 ≡ then_line (ascii "fit 2") []
  pub fits_most : R.fit 1024 ≡ then_line (ascii "fit 1024") []
  -- "A refused text prints `protocol refused 3 at 0` (question, place) or the same with `device`"
  pub refused : R.refused_line "protocol" 3 0 ≡ then_line (ascii "protocol refused 3 at 0") []
  pub at_a_place : R.refused_line "device" 23 8190 ≡ then_line (ascii "device refused 23 at 8190") []
  -- numbers of two digits, and the largest of 64 bits
  pub decimals : (decimal 9 ≡ ascii "9") × (decimal 10 ≡ ascii "10") × (decimal 99 ≡ ascii "99") × (decimal 100 ≡ ascii "100")
      × (decimal 18446744073709551615 ≡ ascii "18446744073709551615")
