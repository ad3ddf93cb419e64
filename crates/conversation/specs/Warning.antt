-- The warning of a branch that a side picks far too often or too seldom, and the estimate of its share (document 02, request 4).
-- Assumes nothing.
use Rattle.std.specs.Prelude.{◌≡◌, ◌↔◌, ◌⊎◌, Bool, true, false, ◌&&◌, cond, List, [], ◌∷◌, ℕ, zero, suc, ◌+◌, ◌-◌, ◌*◌, ◌/◌, ◌≤◌, ◌<◌, ltb, eqb, None, Some, Result, Ok, Err}
use Rattle.std.specs.Prelude as Std
use Rattle.std.proofs.Math.Option.{Option, none, some}
use Rattle.table.specs.Lists.{first_no}
use Rattle.table.specs.Question.{number}
use Rattle.table.specs.declared.refusal.Question.{Question}
use Rattle.table.specs.Table.{sends, receives, shares_sum, sort, speaker}
use Rattle.table.specs.View.{Words, branches_of, owner_at, share_at, view, sound_at}
use Rattle.table.specs.declared.Party.{Party}
use Rattle.table.specs.declared.Party.TheVariants.{Device, Host}
use Rattle.conversation.specs.declared.State.{State}
use Rattle.conversation.specs.declared.warning.Notice as P
use Rattle.conversation.specs.Counts.{Counts, setting_of, n_at, k_at, counts_sound}

-- ---- the rule

-- the difference of two numbers, whichever is larger
unfoldable pub difference : ℕ → ℕ → ℕ
difference a b = (a - b) + (b - a)

unfoldable pub square : ℕ → ℕ
square a = a * a

-- with the setting z, the share w and the counts n and k; the edge is inside, and a branch without a share never warns
unfoldable pub warns : ℕ → ℕ → ℕ → ℕ → Bool
warns z w n k =
    cond (eqb w 0) false (ltb (square z * w * (shares_sum - w) * n) (10000 * square (difference (1000 * k) (w * n))))

-- 1,000k / n to the nearest whole, halves up
unfoldable pub rounded : ℕ → ℕ → ℕ
rounded n k = (2 * (1000 * k) + n) / (2 * n)

-- none while n is 0
unfoldable pub estimate : ℕ → ℕ → Option ℕ
estimate zero k = none
estimate (suc m) k = some (rounded (suc m) k)

-- ---- the call

-- a refusal's question; or whether the branch warns, the sender of its choice, and the estimate
pub data Notice : Type 0 where
  refused : ℕ → Notice
  tells : Bool → Option Party → Option ℕ → Notice

-- 9 of the table and the state, then 18. Is it a branch of the table?
unfoldable pub warning_questions : Words → State → Counts → ℕ → List (ℕ × Bool)
warning_questions t s c b = (9, sound_at t s.position && counts_sound t c) ∷ (18, ltb b (branches_of t)) ∷ []

unfoldable pub notice : Words → Counts → ℕ → Notice
notice t c b =
    let i = owner_at t b in
    tells (warns (setting_of c) (share_at t b) (n_at c i) (k_at c b)) (speaker (sort (view t) i)) (estimate (n_at c i) (k_at c b))

unfoldable pub warning : Words → State → Counts → ℕ → Notice
warning t s c b = let q = first_no (warning_questions t s c b) in cond (eqb q 0) (notice t c b) (refused q)

-- what the program answers
unfoldable pub estimate_of : Std.Option ℕ → Option ℕ
estimate_of None = none
estimate_of (Some e) = some e

unfoldable pub notice_of : Result P.Notice Question → Notice
notice_of (Err q) = refused (number q)
notice_of (Ok r) = tells r.warns (some r.sender) (estimate_of r.estimate)

-- ---- what is proved

-- there is an estimate exactly while n is above 0, and it is the whole that is nearest, of two as near the upper one: e - 1/2 <= 1,000k / n
-- < e + 1/2
abbrev pub EstimateNearest : Type 0
EstimateNearest =
    (n k : ℕ) → ((estimate n k ≡ none) ↔ (n ≡ 0))
    × ((e : ℕ) → (estimate n k ≡ some e) ↔ ((0 < n) × (2 * e * n ≤ 2 * (1000 * k) + n) × (2 * (1000 * k) + n < 2 * e * n + 2 * n)))

-- d is how far a and b are apart
abbrev pub Apart : ℕ → ℕ → ℕ → Type 0
Apart a b d = (b + d ≡ a) ⊎ (a + d ≡ b)

-- what the call tells of a branch, with the setting z, its share w, and the counts n of its choice and k
pub record NoticeMeans (t : Words) (c : Counts) (b : ℕ) (warned : Bool) (side : Option Party) (e : Option ℕ) : Type 0 where
  -- it warns, picked too often or too seldom, exactly when it has a share and 10,000 x (1,000k - wn)^2 is greater than z^2 x w x (1,000 - w) x n
  pub warned_exactly : let z = setting_of c in let w = share_at t b in let n = n_at c (owner_at t b) in
      (warned ≡ true) ↔ ((w ≡ 0 → ⊥) × (d : ℕ) × Apart (1000 * k_at c b) (w * n) d × (z * z * w * (1000 - w) * n < 10000 * (d * d)))
  -- the sender of its choice
  pub device : sort (view t) (owner_at t b) ≡ sends → side ≡ some Device
  pub host : sort (view t) (owner_at t b) ≡ receives → side ≡ some Host
  pub estimated : e ≡ estimate (n_at c (owner_at t b)) (k_at c b)

-- refused by 9, then by 18; any other answer tells that
pub record WarningMeans (t : Words) (s : State) (c : Counts) (b : ℕ) : Type 0 where
  pub nine : (warning t s c b ≡ refused 9) ↔ ((sound_at t s.position && counts_sound t c) ≡ false)
  pub eighteen : (warning t s c b ≡ refused 18) ↔ ((sound_at t s.position ≡ true) × (counts_sound t c ≡ true) × (branches_of t ≤ b))
  pub no_other : (q : ℕ) → warning t s c b ≡ refused q → (q ≡ 9) ⊎ (q ≡ 18)
  pub means : (w : Bool) (side : Option Party) (e : Option ℕ) → warning t s c b ≡ tells w side e → NoticeMeans t c b w side e

abbrev pub WarningExactly : Type 0
WarningExactly = (t : Words) (s : State) (c : Counts) (b : ℕ) → WarningMeans t s c b

-- of counts that are sound, the estimate is at most 1000, and no side of the comparison is above 10^18
abbrev pub WithinBounds : Type 0
WithinBounds =
    (t : Words) (s : State) (c : Counts) (b : ℕ) → first_no (warning_questions t s c b) ≡ 0
    → let n = n_at c (owner_at t b) in let k = k_at c b in let w = share_at t b in
    (k ≤ n) × (10000 * square (difference (1000 * k) (w * n)) ≤ 1000000000000000000)
    × (square (setting_of c) * w * (shares_sum - w) * n ≤ 1000000000000000000)
    × ((e : ℕ) → estimate n k ≡ some e → e ≤ 1000)

-- a branch of a sound table has a sender
abbrev pub SenderThere : Type 0
SenderThere =
    (t : Words) (s : State) (c : Counts) (b : ℕ) → first_no (warning_questions t s c b) ≡ 0
    → (side : Party) × (speaker (sort (view t) (owner_at t b)) ≡ some side)

-- document 02's example warns, and would up to z = 795: 10,000 x (2,000 - 60)^2 lies between 795^2 x 10 x 990 x 6 and 796^2 x 10 x 990 x 6.
-- At the edge, 10,000 x (4,000 - 2,000)^2 = 200^2 x 500 x 500 x 4, a branch does not, and a hundredth nearer it does
pub record WarningExamples : Type 0 where
  pub example : warns 442 10 6 2 ≡ true
  pub within : warns 795 10 6 2 ≡ true
  pub beyond : warns 796 10 6 2 ≡ false
  pub edge : warns 200 500 4 4 ≡ false
  pub past_edge : warns 199 500 4 4 ≡ true
  -- too seldom, as too often
  pub seldom_edge : warns 200 500 4 0 ≡ false
  pub seldom : warns 199 500 4 0 ≡ true
  -- none of it by a branch without a share
  pub no_share : warns 1 0 10000 10000 ≡ false
