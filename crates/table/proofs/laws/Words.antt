-- Where a word stands in a table: word a of a column that begins at word b, has w words, and ends within the table's 2,340.
-- Assumes nothing.
use Rattle.std.proofs.Common.{ℕ, ◌+◌, ◌*◌, ◌<◌, T, leb, arith, leb→le, w64, Fits}

module _ (w b a : ℕ) (l : a < w) (m : T (leb (b + w) 2340)) where
  pub word_within : b + a < 2340
  word_within = omega (arith, leb→le (b + w) 2340 m)

  pub word_fits : Fits w64 (b + a)
  word_fits = record { fits = omega (arith, leb→le (b + w) 2340 m) }

  pub bytes_fit : Fits w64 ((b + a) * 4)
  bytes_fit = record { fits = omega (arith, leb→le (b + w) 2340 m) }

-- four words of a column of fields, of branch n
module _ (b n : ℕ) (l : n < 128) (m : T (leb (b + 512) 2340)) where
  pub four_within : b + 4 * n + 3 < 2340
  four_within = omega (arith, leb→le (b + 512) 2340 m)

  pub fields_fit : Fits w64 (4 * n)
  fields_fit = record { fits = omega arith }

  pub field_fits : Fits w64 (b + 4 * n)
  field_fits = record { fits = omega (arith, leb→le (b + 512) 2340 m) }
