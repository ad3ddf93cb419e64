-- The examples, computed. Printed by `tests/pins --proofs SetExamples`. Assumes nothing.
use mathlib.Core.Path.{refl}
use Rattle.examples.specs.SetExamples.{SetsOfBits}
use Rattle.bits.specs.Digits as BitsDigits

pub sets_of_bits : SetsOfBits
unfolding BitsDigits.digit BitsDigits.first_one BitsDigits.sum BitsDigits.with BitsDigits.without
sets_of_bits =
    record {
      members = (refl, refl, refl, refl, refl);
      ones = (refl, refl, refl, refl);
      put_in = (refl, refl, refl);
      taken_out = (refl, refl, refl);
      trailing_zeros = (refl, refl, refl, refl);
    }
