-- Each text of a well-formed message is an encoding, and one behind the other they are all that stands behind the arrays.
-- Assumes nothing.
use Rattle.std.proofs.Common.{◌≡◌, ◌+◌, ◌*◌, [], length, get_or, drop, arith, length-drop, eqb-true}
use Rattle.utf8.proofs.claims.EncodedExactly.{encoded_exactly}
use Rattle.message.specs.Message.{count_of, values_of, text_bytes, announced, texts_of, exact, legal_texts}
use Rattle.message.specs.MessageTheorems.{EachTextEncoded, TextsApart}
use Rattle.message.proofs.laws.Message.{well_formed_exactly, framed_parts, formed_framed}
use Rattle.message.proofs.laws.LegalTexts.{cut_joined, cut_lengths, each_every, every_one}

pub each_text_encoded : EachTextEncoded
unfolding legal_texts
each_text_encoded bytes = (
  λ e f l. (encoded_exactly (get_or (texts_of bytes) f [])).0 (every_one (texts_of bytes) e f l),
  λ h. each_every (texts_of bytes) (λ f l. (encoded_exactly (get_or (texts_of bytes) f [])).1 (h f l)),
)

pub texts_apart : TextsApart
unfolding texts_of announced exact
texts_apart bytes e =
    let framed = formed_framed bytes ((well_formed_exactly bytes).0 e) in
    let size = eqb-true (length bytes) (announced bytes) (framed_parts bytes framed).2 in
    let texts = drop (9 + 5 * count_of bytes) bytes in
    let rest : text_bytes (values_of bytes) ≡ length texts = omega (arith, size, length-drop (9 + 5 * count_of bytes) bytes) in
    (cut_lengths (values_of bytes) texts rest, cut_joined (values_of bytes) texts rest)
