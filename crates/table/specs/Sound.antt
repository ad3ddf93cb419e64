-- Question 9 said a second time, by places and in numbers: document 01's "sound", and what document 02's requests 4 and 7 add to it, sentence
-- by sentence.
-- Assumes nothing.
use Rattle.std.specs.Prelude.{◌≡◌, ℕ, zero, suc, ◌+◌, ◌-◌, ◌*◌, ◌/◌, ◌%◌, ◌^◌, ◌<◌, ◌≤◌, true, cond, ◌⊎◌, ◌↔◌, ◌==◌, ◌≢◌}
use Rattle.table.specs.View.{Words, states_of, branches_of, sort_at, owner_at, target_at, count_at, word_at, kind_at, low_at, high_at, share_at, edition_of, sound_of, sound_at}

-- ---- labels

-- byte j of a label's eight, from 0 on
abbrev pub label_byte : ℕ → ℕ → ℕ
label_byte w j = w / 256 ^ (7 - j) % 256

-- A-Z; A-Z, a-z or 0-9
abbrev pub Capital : ℕ → Type 0
Capital c = (65 ≤ c) × (c ≤ 90)

abbrev pub LetterOrDigit : ℕ → Type 0
LetterOrDigit c = Capital c ⊎ (((97 ≤ c) × (c ≤ 122)) ⊎ ((48 ≤ c) × (c ≤ 57)))

-- A-Z followed by A-Z, a-z, 0-9, one to eight bytes in all, filled up with 0x00
pub record LabelBytes (w : ℕ) : Type 0 where
  pub size : ℕ
  pub some : 1 ≤ size
  pub most : size ≤ 8
  pub first : Capital (label_byte w 0)
  pub letters : (j : ℕ) → j < size → LetterOrDigit (label_byte w j)
  pub filling : (j : ℕ) → size ≤ j → j < 8 → label_byte w j ≡ 0

-- ---- fields

-- the ends of a range, each plus 2^31, by its kind: int, signed 32-bit; text, 0 to 64; flag, 0 or 1. The range is not empty
abbrev pub Bounds : ℕ → ℕ → ℕ → Type 0
Bounds kind low high =
    (low ≤ high)
    × (((kind ≡ 0) × (high < 4294967296))
    ⊎ (((kind ≡ 1) × (2147483648 ≤ low) × (high ≤ 2147483712)) ⊎ ((kind ≡ 2) × (2147483648 ≤ low) × (high ≤ 2147483649))))

-- ---- choices

-- of numbers, one for each branch: those of state i's branches among the first n, added
unfoldable pub added : Words → (ℕ → ℕ) → ℕ → ℕ → ℕ
added t f i zero = 0
added t f i (suc k) = added t f i k + cond (owner_at t k == i) (f k) 0

-- a property of each of state i's branches
abbrev pub OfState : Words → ℕ → (ℕ → Type 0) → Type 0
OfState t i P = (k : ℕ) → k < branches_of t → owner_at t k ≡ i → P k

-- ---- the whole

pub record Sound (t : Words) : Type 0 where
  -- it has 1 to 32 states, each of which ends (0), sends (1) or receives (2), and at most 128 branches
  pub some : 1 ≤ states_of t
  pub few : states_of t ≤ 32
  pub sorts : (i : ℕ) → i < states_of t → sort_at t i ≤ 2
  pub room : branches_of t ≤ 128
  -- an end owns no branch and a choice at least one
  pub ends : (i : ℕ) → i < states_of t → sort_at t i ≡ 0 → OfState t i (λ k. ⊥)
  pub choices : (i : ℕ) → i < states_of t → (sort_at t i ≢ 0) → (k : ℕ) × (k < branches_of t) × (owner_at t k ≡ i)
  -- labels are legal and differ within a state
  pub labels : (k : ℕ) → k < branches_of t → LabelBytes (word_at t k)
  pub differ : (j k : ℕ) → j < k → k < branches_of t → owner_at t j ≡ owner_at t k
      → ((i : ℕ) → i < 8 → label_byte (word_at t j) i ≡ label_byte (word_at t k) i) → ⊥
  -- fields keep the limits, and no range is empty
  pub counts : (k : ℕ) → k < branches_of t → count_at t k ≤ 4
  pub ranges : (k : ℕ) → k < branches_of t → (f : ℕ) → f < count_at t k
      → Bounds (kind_at t (4 * k + f)) (low_at t (4 * k + f)) (high_at t (4 * k + f))
  -- every branch is of one state and every target is a state
  pub owners : (k : ℕ) → k < branches_of t → owner_at t k < states_of t
  pub targets : (k : ℕ) → k < branches_of t → target_at t k < states_of t
  -- the branches of a choice have no share, or each has one, of 1 to 1000, and they add to 1000
  pub shares : (i : ℕ) → i < states_of t
      → OfState t i (λ k. share_at t k ≡ 0)
      ⊎ (OfState t i (λ k. (1 ≤ share_at t k) × (share_at t k ≤ 1000)) × (added t (share_at t) i (branches_of t) ≡ 1000))
  -- the edition is 1 or 2
  pub edition : (edition_of t ≡ 1) ⊎ (edition_of t ≡ 2)

abbrev pub SoundExactly : Type 0
SoundExactly = (t : Words) → (sound_of t ≡ true) ↔ Sound t

-- and a position given with it is one of its states
abbrev pub SoundAtExactly : Type 0
SoundAtExactly = (t : Words) (position : ℕ) → (sound_at t position ≡ true) ↔ (Sound t × (position < states_of t))
