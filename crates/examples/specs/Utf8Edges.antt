-- RFC 3629's well-formed UTF-8 at the edges of every rule (request 6: "lead bytes and continuation ranges included").
-- Assumes nothing.
use Rattle.std.specs.Prelude.{◌≡◌, Bool, true, false, cond, List, [], ◌∷◌, ℕ}
use Rattle.utf8.specs.Utf8.{is_utf8}

-- the bytes of a list that pass a test
abbrev pub those : (ℕ → Bool) → List ℕ → List ℕ
those f [] = []
those f (b ∷ r) = cond (f b) (b ∷ those f r) (those f r)

-- the first and the last byte of each range in section 4, and their neighbours outside
abbrev pub lead_bytes : List ℕ
lead_bytes = 0x00 ∷ 0x7F ∷ 0x80 ∷ 0xBF ∷ 0xC0 ∷ 0xC1 ∷ 0xC2 ∷ 0xDF ∷ 0xE0 ∷ 0xE1 ∷ 0xEC ∷ 0xED ∷ 0xEE ∷ 0xEF ∷ 0xF0 ∷ 0xF1 ∷ 0xF3 ∷ 0xF4 ∷ 0xF5 ∷ 0xFF ∷ []

abbrev pub later_bytes : List ℕ
later_bytes = 0x00 ∷ 0x7F ∷ 0x80 ∷ 0x8F ∷ 0x90 ∷ 0x9F ∷ 0xA0 ∷ 0xBF ∷ 0xC0 ∷ 0xFF ∷ []

pub record LeadBytes : Type 0 where
  -- U+0000 to U+007F in one byte
  pub alone : those (λ b. is_utf8 (b ∷ [])) lead_bytes ≡ 0x00 ∷ 0x7F ∷ []
  -- U+0080 to U+07FF in two: 110xxxxx, and no shorter way
  pub before_one : those (λ b. is_utf8 (b ∷ 0x80 ∷ [])) lead_bytes ≡ 0xC2 ∷ 0xDF ∷ []
  -- U+0800 to U+FFFF in three: not E0 80, which has a shorter way, not ED BF, a surrogate
  pub before_two_low : those (λ b. is_utf8 (b ∷ 0x80 ∷ 0x80 ∷ [])) lead_bytes ≡ 0xE1 ∷ 0xEC ∷ 0xED ∷ 0xEE ∷ 0xEF ∷ []
  pub before_two_high : those (λ b. is_utf8 (b ∷ 0xBF ∷ 0xBF ∷ [])) lead_bytes ≡ 0xE0 ∷ 0xE1 ∷ 0xEC ∷ 0xEE ∷ 0xEF ∷ []
  -- U+10000 to U+10FFFF in four: not F0 80, which has a shorter way, not F4 BF, which is above
  pub before_three_low : those (λ b. is_utf8 (b ∷ 0x80 ∷ 0x80 ∷ 0x80 ∷ [])) lead_bytes ≡ 0xF1 ∷ 0xF3 ∷ 0xF4 ∷ []
  pub before_three_high : those (λ b. is_utf8 (b ∷ 0xBF ∷ 0xBF ∷ 0xBF ∷ [])) lead_bytes ≡ 0xF0 ∷ 0xF1 ∷ 0xF3 ∷ []

pub record LaterBytes : Type 0 where
  -- behind C2, E0, E1, EC, ED, EE, F0, F1, F3 and F4
  pub second_of_two : those (λ b. is_utf8 (0xC2 ∷ b ∷ [])) later_bytes ≡ 0x80 ∷ 0x8F ∷ 0x90 ∷ 0x9F ∷ 0xA0 ∷ 0xBF ∷ []
  pub second_e0 : those (λ b. is_utf8 (0xE0 ∷ b ∷ 0x80 ∷ [])) later_bytes ≡ 0xA0 ∷ 0xBF ∷ []
  pub second_e1 : those (λ b. is_utf8 (0xE1 ∷ b ∷ 0x80 ∷ [])) later_bytes ≡ 0x80 ∷ 0x8F ∷ 0x90 ∷ 0x9F ∷ 0xA0 ∷ 0xBF ∷ []
  pub second_ed : those (λ b. is_utf8 (0xED ∷ b ∷ 0x80 ∷ [])) later_bytes ≡ 0x80 ∷ 0x8F ∷ 0x90 ∷ 0x9F ∷ []
  pub second_ee : those (λ b. is_utf8 (0xEE ∷ b ∷ 0x80 ∷ [])) later_bytes ≡ 0x80 ∷ 0x8F ∷ 0x90 ∷ 0x9F ∷ 0xA0 ∷ 0xBF ∷ []
  pub second_f0 : those (λ b. is_utf8 (0xF0 ∷ b ∷ 0x80 ∷ 0x80 ∷ [])) later_bytes ≡ 0x90 ∷ 0x9F ∷ 0xA0 ∷ 0xBF ∷ []
  pub second_f1 : those (λ b. is_utf8 (0xF1 ∷ b ∷ 0x80 ∷ 0x80 ∷ [])) later_bytes ≡ 0x80 ∷ 0x8F ∷ 0x90 ∷ 0x9F ∷ 0xA0 ∷ 0xBF ∷ []
  pub second_f4 : those (λ b. is_utf8 (0xF4 ∷ b ∷ 0x80 ∷ 0x80 ∷ [])) later_bytes ≡ 0x80 ∷ 0x8F ∷ []
  -- third and fourth
  pub third : those (λ b. is_utf8 (0xE0 ∷ 0xA0 ∷ b ∷ [])) later_bytes ≡ 0x80 ∷ 0x8F ∷ 0x90 ∷ 0x9F ∷ 0xA0 ∷ 0xBF ∷ []
  pub fourth : those (λ b. is_utf8 (0xF4 ∷ 0x80 ∷ 0x80 ∷ b ∷ [])) later_bytes ≡ 0x80 ∷ 0x8F ∷ 0x90 ∷ 0x9F ∷ 0xA0 ∷ 0xBF ∷ []
  -- no more and no fewer than the lead byte says
  pub as_many : (is_utf8 (0xC2 ∷ []) ≡ false) × (is_utf8 (0xE1 ∷ 0x80 ∷ []) ≡ false) × (is_utf8 (0xF1 ∷ 0x80 ∷ 0x80 ∷ []) ≡ false)
      × (is_utf8 (0xC2 ∷ 0x80 ∷ 0x80 ∷ []) ≡ false)
      × (is_utf8 (0xC2 ∷ 0x80 ∷ 0xC2 ∷ 0x80 ∷ []) ≡ true)
      × (is_utf8 [] ≡ true)
