-- RFC 3629's examples (section 7), and what it says is not UTF-8 (sections 3 and 10).
-- Assumes nothing.
use Rattle.std.specs.Prelude.{◌≡◌, true, false, List, [], ◌∷◌, ℕ}
use Rattle.utf8.specs.Utf8.{is_utf8}
use Rattle.utf8.specs.Scalars.{encode_all}

-- the code points are encoded as these bytes, which are well formed
abbrev pub Says : List ℕ → List ℕ → Type 0
Says points bytes = (encode_all points ≡ bytes) × (is_utf8 bytes ≡ true)

pub record Utf8Examples : Type 0 where
  -- `A`, not identical to, capital alpha, a dot
  pub not_identical : Says (0x0041 ∷ 0x2262 ∷ 0x0391 ∷ 0x002E ∷ []) (0x41 ∷ 0xE2 ∷ 0x89 ∷ 0xA2 ∷ 0xCE ∷ 0x91 ∷ 0x2E ∷ [])
  -- Korean: the language
  pub hangugeo : Says (0xD55C ∷ 0xAD6D ∷ 0xC5B4 ∷ []) (0xED ∷ 0x95 ∷ 0x9C ∷ 0xEA ∷ 0xB5 ∷ 0xAD ∷ 0xEC ∷ 0x96 ∷ 0xB4 ∷ [])
  -- Japanese: the language
  pub nihongo : Says (0x65E5 ∷ 0x672C ∷ 0x8A9E ∷ []) (0xE6 ∷ 0x97 ∷ 0xA5 ∷ 0xE6 ∷ 0x9C ∷ 0xAC ∷ 0xE8 ∷ 0xAA ∷ 0x9E ∷ [])
  -- a byte order mark, and Chinese: the stump of a tree
  pub tree_stump : Says (0xFEFF ∷ 0x233B4 ∷ []) (0xEF ∷ 0xBB ∷ 0xBF ∷ 0xF0 ∷ 0xA3 ∷ 0x8E ∷ 0xB4 ∷ [])
  -- U+0000 in two bytes; a dot in two, in `/../`; U+0000 in three
  pub nul_in_two : is_utf8 (0xC0 ∷ 0x80 ∷ []) ≡ false
  pub dot_in_two : is_utf8 (0x2F ∷ 0xC0 ∷ 0xAE ∷ 0x2E ∷ 0x2F ∷ []) ≡ false
  pub nul_in_three : is_utf8 (0xE0 ∷ 0x80 ∷ 0x80 ∷ []) ≡ false
  -- the first surrogate; the first number above U+10FFFF
  pub surrogate : is_utf8 (0xED ∷ 0xA0 ∷ 0x80 ∷ []) ≡ false
  pub too_high : is_utf8 (0xF4 ∷ 0x90 ∷ 0x80 ∷ 0x80 ∷ []) ≡ false
  -- a character cut off; a tail by itself
  pub cut_off : is_utf8 (0x41 ∷ 0xE2 ∷ 0x89 ∷ []) ≡ false
  pub tail_alone : is_utf8 (0x41 ∷ 0x80 ∷ []) ≡ false
