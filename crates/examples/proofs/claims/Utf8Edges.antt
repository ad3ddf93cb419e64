-- The examples, computed. Printed by `tests/pins --proofs Utf8Edges`. Assumes nothing.
use mathlib.Core.Path.{refl}
use Rattle.examples.specs.Utf8Edges.{LeadBytes, LaterBytes}
use Rattle.utf8.specs.Utf8 as Utf8Utf8

pub lead_bytes : LeadBytes
unfolding Utf8Utf8.is_utf8 Utf8Utf8.octets Utf8Utf8.some_row Utf8Utf8.utf8_char Utf8Utf8.within
lead_bytes =
    record {
      alone = refl;
      before_one = refl;
      before_two_low = refl;
      before_two_high = refl;
      before_three_low = refl;
      before_three_high = refl;
    }

pub later_bytes : LaterBytes
unfolding Utf8Utf8.is_utf8 Utf8Utf8.octets Utf8Utf8.some_row Utf8Utf8.utf8_char Utf8Utf8.within
later_bytes =
    record {
      second_of_two = refl;
      second_e0 = refl;
      second_e1 = refl;
      second_ed = refl;
      second_ee = refl;
      second_f0 = refl;
      second_f1 = refl;
      second_f4 = refl;
      third = refl;
      fourth = refl;
      as_many = (refl, refl, refl, refl, refl, refl);
    }
