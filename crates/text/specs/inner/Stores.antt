-- The program's words while a text is read: what is stored for one state more, one branch more and another target, and the search for
-- a label. This need not be believed.
-- Assumes nothing.
use Rattle.std.specs.Prelude.{Bool, false, ◌&&◌, ◌||◌, cond, List, ℕ, zero, suc, ◌+◌, ◌-◌, ◌*◌, ◌/◌, ◌%◌, leb, ltb, eqb, set}
use Rattle.table.specs.View.{states_of, branches_of, owner_at, word_at}
use Rattle.grammar.specs.inner.Holds.{set_four}
use Rattle.text.specs.inner.Answers.{Raw}

-- a sort is a code: 0 end, 1 sends, 2 receives
unfoldable pub put_state : List ℕ → ℕ → List ℕ
put_state t sort = set (set t (2 + states_of t) sort) 0 (states_of t + 1)

-- the six words of branch n, and the count
unfoldable pub set_head : List ℕ → ℕ → Raw → List ℕ
set_head t n b =
    set
    (set (set (set (set (set (set t 1 (n + 1)) (34 + n) b.owner) (162 + n) b.target) (290 + n) b.count)
    (418 + n) (b.label / 4294967296))
    (546 + n) (b.label % 4294967296))
    (2210 + n) b.share

unfoldable pub store_at : List ℕ → ℕ → Raw → List ℕ
store_at t n b = set_four (set_four (set_four (set_head t n b) (674 + 4 * n) b.kinds) (1186 + 4 * n) b.lows) (1698 + 4 * n) b.highs

unfoldable pub put_branch : List ℕ → Raw → List ℕ
put_branch t b = store_at t (branches_of t) b

-- the target of the last branch, of 1 to 128
unfoldable pub put_target : List ℕ → ℕ → List ℕ
put_target t n = cond (ltb 0 (branches_of t)) (cond (leb (branches_of t) 128) (set t (162 + (branches_of t - 1)) n) t) t

-- one of the first n branches is the owner's and has the label
unfoldable pub any_label : List ℕ → ℕ → ℕ → ℕ → Bool
any_label t zero owner label = false
any_label t (suc i) owner label = (eqb (owner_at t i) owner && eqb (word_at t i) label) || any_label t i owner label
