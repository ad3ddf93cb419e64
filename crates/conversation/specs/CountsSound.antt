-- Question 9 on the counts of a conversation, and the questions at its start, said a second time, by places and in numbers (document 02,
-- request 4).
-- Assumes nothing.
use Rattle.std.specs.Prelude.{◌≡◌, ◌↔◌, true, ℕ, ◌≤◌, ◌<◌}
use Rattle.table.specs.View.{Words, states_of, branches_of, sort_at}
use Rattle.table.specs.Sound.{added, Sound}
use Rattle.conversation.specs.Counts.{Counts, setting_of, n_at, k_at, counts_sound, starting}

-- 1 to 1000, in hundredths
abbrev pub Setting : ℕ → Type 0
Setting z = (1 ≤ z) × (z ≤ 1000)

pub record CountsSound (t : Words) (c : Counts) : Type 0 where
  -- z is 1 to 1000
  pub setting : Setting (setting_of c)
  -- each choice's k add up to its n, at most 10,000
  pub adds : (i : ℕ) → i < states_of t → (sort_at t i ≡ 0 → ⊥) → added t (k_at c) i (branches_of t) ≡ n_at c i
  pub most : (i : ℕ) → i < states_of t → (sort_at t i ≡ 0 → ⊥) → n_at c i ≤ 10000

abbrev pub CountsSoundExactly : Type 0
CountsSoundExactly = (t : Words) (c : Counts) → (counts_sound t c ≡ true) ↔ CountsSound t c

-- a conversation is started exactly when the table is sound and z is 1 to 1000; 9 comes before 21
pub record Starts (t : Words) (z : ℕ) : Type 0 where
  pub started : ((starting t z).question ≡ 0) ↔ (Sound t × Setting z)
  pub by_nine : ((starting t z).question ≡ 9) ↔ (Sound t → ⊥)
  pub by_twenty_one : ((starting t z).question ≡ 21) ↔ (Sound t × (Setting z → ⊥))

abbrev pub StartsExactly : Type 0
StartsExactly = (t : Words) (z : ℕ) → Starts t z
