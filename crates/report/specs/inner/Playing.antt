-- What the functions that play the moves say. Nothing here need be believed: the contract of `report` cites none of it.
-- Assumes nothing.
use Rattle.std.specs.Prelude.{◌≡◌, Bool, true, false, cond, List, ◌++◌, ℕ, ◌+◌, ◌≤◌, ◌<◌, length, take, ltb}
use Rattle.std.specs.Prelude as Std
use Rattle.std.proofs.Math.Option.{Option, none, some}
use Rattle.table.specs.Table.{same_sort, Table, sort, speaker}
use Rattle.table.specs.View.{Words, states_of, view}
use Rattle.message.specs.Message.{count_of, well_formed}
use Rattle.message.specs.Make.{made, branch}
use Rattle.message.specs.Rules.{Rules, table_rules}
use Rattle.table.specs.declared.Party.{Party}
use Rattle.machine.specs.Machine.{Machine, Move, Effect, nothing, forward, halt, Standing, running, device_blamed, host_blamed, jammed, effect, fresh_machine, play, Fewest}
use Rattle.machine.specs.Fit.{spoken, shown, field_named, Failing}
use Rattle.report.specs.Report.{move_line, move_lines, ending}
use Rattle.report.specs.declared.play.Pair.{Pair}
use Rattle.table.specs.declared.Party.TheVariants as P

-- ---- one message at one table

-- at that state of the table it is the side's turn
pub record HasTurn (t : Words) (i : ℕ) (side : Party) : Type 0 where
  pub inside : i < states_of t
  pub turn : speaker (sort (view t) i) ≡ some side

unfoldable pub heard_of : Std.Option ℕ → Option ℕ
heard_of (Std.Some target) = some target
heard_of Std.None = none

-- ---- one message at both

-- the two states, and whether the device is blamed
abbrev pub Stand : Type 0
Stand = ℕ × ℕ × Bool

abbrev pub pair_of : Pair → Stand
pair_of r = (r.state, r.position, r.blamed)

unfoldable pub is_device : Party → Bool
is_device P.Device = true
is_device P.Host = false

-- x and y are where the device and the protocol lead
unfoldable pub settled : ℕ → ℕ → Party → Option ℕ → Option ℕ → Stand
settled i j side none y = (i, j, false)
settled i j side (some x) none = (i, j, is_device side)
settled i j side (some x) (some y) = (x, y, false)

-- ---- a move

-- the machine's effect, as far as it is kept
unfoldable pub blames : Standing → Bool
blames running = false
blames device_blamed = true
blames host_blamed = false
blames jammed = false

unfoldable pub kept : ℕ → ℕ → Effect ℕ ℕ → Stand
kept i j nothing = (i, j, false)
kept i j (forward x y) = (x, y, false)
kept i j (halt s) = (i, j, blames s)

-- what is said: a move's message, n bytes long, and its line
pub record MoveSaid (v : Move) (h : Option ℕ) (message before after : List ℕ) (n : ℕ) : Type 0 where
  pub full : length message ≡ 285
  pub short : n ≤ 285
  pub message_is : take n message ≡ v.bytes
  pub written : after ≡ before ++ move_line v h
  pub most : length after ≤ length before + 24
  pub most_low : h ≡ none → length after ≤ length before + 13

pub record Plays (d p : Table) (i j : ℕ) (v : Move) (h : Option ℕ) (before after : List ℕ) (r : Pair) : Type 0 where
  pub pair_is : pair_of r ≡ kept i j (effect (table_rules d) (table_rules p) i j v)
  pub written : after ≡ before ++ move_line v h
  pub most : length after ≤ length before + 24
  pub most_low : h ≡ none → length after ≤ length before + 13

-- the move of branch k at device state i
abbrev pub move_at : Table → Table → ℕ → ℕ → Option ℕ → Move
move_at d p i k h = spoken d p (sort d i) k h

-- the move of a table's branch k, said by a side
abbrev pub move_of : Table → Party → ℕ → Option ℕ → Move
move_of t side k h = record { side = side; bytes = made (branch t k) h }

-- the branch's message is a move
pub record Speaking (d p : Words) (i k : ℕ) (h : Option ℕ) : Type 0 where
  pub i_inside : i < states_of d
  pub formed : well_formed (move_at (view d) (view p) i k h).bytes ≡ true
  pub field : field_named h (count_of (move_at (view d) (view p) i k h).bytes) ≡ true

-- and the two states are of one sort
pub record Ready (d p : Words) (i j k : ℕ) (h : Option ℕ) : Type 0 where
  pub speaking : Speaking d p i k h
  pub j_inside : j < states_of p
  pub alike : same_sort (sort (view d) i) (sort (view p) j) ≡ true

-- the move is said by the side whose turn it is
pub record MoveSpoken (d p : Table) (i k : ℕ) (h : Option ℕ) (message before after : List ℕ) (side : Party) (n : ℕ) : Type 0 where
  pub said : MoveSaid (move_at d p i k h) h message before after n
  pub turn : speaker (sort d i) ≡ some side
  pub whose : (move_at d p i k h).side ≡ side

-- ---- all moves

-- the field of move n, of as many as K
unfoldable pub high_in : ℕ → ℕ → Option ℕ → Option ℕ
high_in n K h = cond (ltb (n + 1) K) none h

-- the rules of a table's words
abbrev pub rules : Words → Rules ℕ
rules t = table_rules (view t)

-- the lines from the machine m on
unfoldable pub lines_from : Table → Table → Machine ℕ ℕ → List ℕ → Option ℕ → List ℕ
lines_from d p m ks h = move_lines (shown d p m ks h) h ++ ending (play (table_rules d) (table_rules p) m (shown d p m ks h)).standing

-- and from the fresh machine on
abbrev pub all_lines : Table → Table → List ℕ → Option ℕ → List ℕ
all_lines d p ks h = lines_from d p (fresh_machine (table_rules d) (table_rules p)) ks h

-- the moves show a fault, and there are few
pub record ListShows (d p : Words) (ks : List ℕ) (h : Option ℕ) : Type 0 where
  pub few : length ks ≤ 1024
  pub failing : Failing (view d) (view p) ks h
  pub fewest : Fewest (rules d) (rules p) (length ks)
