-- Numbers of branches and fields that stand for one another. It need not be believed: laws tie it to `making` (proofs/laws/Wide).
-- Assumes nothing.
use Rattle.std.specs.Prelude.{◌≡◌, List, ℕ}
use Rattle.std.proofs.Math.Option.{Option}
use Rattle.table.specs.View.{Words}
use Rattle.message.specs.Make.{making}

-- the same message or refusal comes of both numbers of a branch, and of both fields that are named
abbrev pub SameBranch : ℕ → ℕ → Type 0
SameBranch k l = (t : Words) (h : Option ℕ) (out : List ℕ) → making t k h out ≡ making t l h out

abbrev pub SameField : Option ℕ → Option ℕ → Type 0
SameField h i = (t : Words) (k : ℕ) (out : List ℕ) → making t k h out ≡ making t k i out
