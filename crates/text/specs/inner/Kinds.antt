-- The kinds of tokens, as the program has them and as the theory counts them. This need not be believed.
-- Assumes nothing.
use Rattle.std.specs.Prelude.{Bool, true, ℕ}
use Rattle.grammar.specs.Token.{one_of}
use Rattle.grammar.specs.inner.Scanner.{signs}
use Rattle.grammar.specs.Kind as K
use Rattle.text.specs.declared.kind.Kind.{Kind}
use Rattle.text.specs.declared.kind.Kind.TheVariants.{TextEnd, Malformed, Name, Number, Edition, End, Rec, Int, Text, Flag, Dot, Dots, Sign}

abbrev pub number_of_kind : Kind → ℕ
number_of_kind TextEnd = K.text_end
number_of_kind Malformed = K.no_token
number_of_kind Name = K.of_name
number_of_kind Number = K.of_number
number_of_kind Edition = K.edition_word
number_of_kind End = K.of "end"
number_of_kind Rec = K.of "rec"
number_of_kind Int = K.of "int"
number_of_kind Text = K.of "text"
number_of_kind Flag = K.of "flag"
number_of_kind Dot = K.of "."
number_of_kind Dots = K.dots
number_of_kind (Sign b) = b

-- a sign is one of the signs
abbrev pub is_kind : Kind → Bool
is_kind TextEnd = true
is_kind Malformed = true
is_kind Name = true
is_kind Number = true
is_kind Edition = true
is_kind End = true
is_kind Rec = true
is_kind Int = true
is_kind Text = true
is_kind Flag = true
is_kind Dot = true
is_kind Dots = true
is_kind (Sign b) = one_of signs b
