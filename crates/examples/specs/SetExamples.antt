-- Sets of numbers below 32 ("pairs met are one 32-bit set per device state, counted by ones, next one found by trailing zeros").
-- Assumes nothing.
use Rattle.std.specs.Prelude.{◌≡◌}
use Rattle.bits.specs.Digits.{digit, size, with, without, lowest}

-- 5 is the set of 0 and 2, 0x80000001 that of 0 and 31, 0xFFFFFFFF has them all
pub record SetsOfBits : Type 0 where
  pub members : (digit 5 0 ≡ 1) × (digit 5 1 ≡ 0) × (digit 5 2 ≡ 1) × (digit 5 3 ≡ 0) × (digit 0x80000001 31 ≡ 1)
  pub ones : (size 0 ≡ 0) × (size 5 ≡ 2) × (size 0x80000001 ≡ 2) × (size 0xFFFFFFFF ≡ 32)
  pub put_in : (with 5 1 ≡ 7) × (with 5 2 ≡ 5) × (with 1 31 ≡ 0x80000001)
  pub taken_out : (without 5 2 ≡ 1) × (without 5 1 ≡ 5) × (without 0x80000001 31 ≡ 1)
  pub trailing_zeros : (lowest 5 ≡ 0) × (lowest 12 ≡ 2) × (lowest 0x80000000 ≡ 31) × (lowest 0 ≡ 32)
