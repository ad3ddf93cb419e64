-- A table of lists as the program's words: its columns one after the other, each filled up with 0. What is read is such a table.
-- Assumes nothing.
use Rattle.std.specs.Prelude.{List, [], ◌∷◌, ◌++◌, map, ℕ, zero, suc, ◌/◌, ◌%◌, length, get_or}
use Rattle.table.specs.View.{Words, empty_table}
use Rattle.grammar.specs.Token.{word_of}
use Rattle.grammar.specs.Building.{Built}
use Rattle.grammar.specs.declared.Reading.{Reading}
use Rattle.table.specs.Table as T

-- xs, filled up with 0 to n entries
abbrev pub padded : ℕ → List ℕ → List ℕ
padded zero xs = xs
padded (suc n) [] = 0 ∷ padded n []
padded (suc n) (x ∷ xs) = x ∷ padded n xs

-- a sort's code
abbrev pub code_of : T.Sort → ℕ
code_of T.ends = 0
code_of T.sends = 1
code_of T.receives = 2

-- a label's eight bytes are two words
abbrev pub label_high : T.Branch → ℕ
label_high b = word_of b.label / 4294967296

abbrev pub label_low : T.Branch → ℕ
label_low b = word_of b.label % 4294967296

-- one number of each field, four entries to a branch; what is unused is 0
abbrev pub fours : (T.Field → ℕ) → List T.Branch → List ℕ
fours f [] = []
fours f (b ∷ bs) =
    get_or (map f b.fields) 0 0 ∷ get_or (map f b.fields) 1 0 ∷ get_or (map f b.fields) 2 0 ∷ get_or (map f b.fields) 3 0 ∷ fours f bs

-- lists one after the other
abbrev pub joined : List (List ℕ) → List ℕ
joined [] = []
joined (c ∷ cs) = c ++ joined cs

-- the columns; last the edition, and a word that is kept free
abbrev pub columns : T.Table → List (List ℕ)
columns t =
    padded T.states_most (map code_of t.sorts)
    ∷ padded T.branches_most (map (λ b. b.owner) t.branches)
    ∷ padded T.branches_most (map (λ b. b.target) t.branches)
    ∷ padded T.branches_most (map (λ b. length b.fields) t.branches)
    ∷ padded T.branches_most (map label_high t.branches)
    ∷ padded T.branches_most (map label_low t.branches)
    ∷ padded 512 (fours (λ f. f.kind) t.branches)
    ∷ padded 512 (fours (λ f. f.low) t.branches)
    ∷ padded 512 (fours (λ f. f.high) t.branches)
    ∷ padded T.branches_most t.shares
    ∷ (t.edition ∷ 0 ∷ [])
    ∷ []

-- after the counts
unfoldable pub filled : T.Table → Words
filled t = length t.sorts ∷ length t.branches ∷ joined (columns t)

-- ---- what reading comes to, with the table as words

-- a question that got a no, or 0; its place; the table
abbrev pub came_out : ℕ → ℕ → Words → Reading
came_out q at t = record { question = q; at = at; table = t }

abbrev pub written : Built → Reading
written a = came_out a.question a.at (filled a.table)

-- a no
unfoldable pub not_read : ℕ → ℕ → Reading
not_read q at = came_out q at empty_table
