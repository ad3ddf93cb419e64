-- The program's words against a table of lists that they hold. This need not be believed: what is promised of a text's table is in Filled.
-- Assumes nothing.
use Rattle.std.specs.Prelude.{◌≡◌, List, [], ◌∷◌, ℕ, ◌+◌, ◌≤◌, length, get_or, set}
use Rattle.table.specs.Table.{Branch, Table}
use Rattle.table.specs.View.{label_of}
use Rattle.grammar.specs.Token.{word_of}
use Rattle.grammar.specs.Filled.{filled}

-- at most four fields, and a label that is the eight bytes of its number
pub record Formed (b : Branch) : Type 0 where
  pub few : length b.fields ≤ 4
  pub bytes : label_of (word_of b.label) ≡ b.label

abbrev pub AllFormed : List Branch → Type 0
AllFormed [] = Unit {0}
AllFormed (b ∷ bs) = Formed b × AllFormed bs

-- the words are a table's, which is within its limits
pub record Holds (w : List ℕ) (T : Table) : Type 0 where
  pub words : w ≡ filled T
  pub states : length T.sorts ≤ 32
  pub branches : length T.branches ≤ 128
  pub shares : length T.shares ≡ length T.branches
  pub formed : AllFormed T.branches

-- four words from place k on; what is unused is 0
unfoldable pub set_four : List ℕ → ℕ → List ℕ → List ℕ
set_four t k ys =
    set (set (set (set t k (get_or ys 0 0)) (k + 1) (get_or ys 1 0)) (k + 2) (get_or ys 2 0)) (k + 3) (get_or ys 3 0)
