-- RFC 3629's examples hold: each is computed. Assumes nothing.
use mathlib.Core.Path.{refl}
use Rattle.utf8.specs.Utf8.{within, utf8_char, some_row, octets, is_utf8}
use Rattle.utf8.specs.Scalars.{encode, encode_all}
use Rattle.utf8.specs.Utf8Examples.{Utf8Examples}

pub examples : Utf8Examples
unfolding within utf8_char some_row octets is_utf8 encode encode_all
examples =
    record {
      not_identical = (refl, refl);
      hangugeo = (refl, refl);
      nihongo = (refl, refl);
      tree_stump = (refl, refl);
      nul_in_two = refl;
      dot_in_two = refl;
      nul_in_three = refl;
      surrogate = refl;
      too_high = refl;
      cut_off = refl;
      tail_alone = refl;
    }
