-- Protocol texts at the edges of document 01's rules: kinds and their numbers, limits, every byte where a token can begin or go on.
-- Assumes nothing.
use Rattle.std.specs.Prelude.{◌≡◌, Bool, true, ◌&&◌, ◌||◌, cond, List, [], ◌∷◌, ◌++◌, ℕ, ◌+◌, ◌*◌, leb, eqb, replicate}
use Prim.Native.String.{String}
use Rattle.table.specs.Lists.{every, upto, first_no}
use Rattle.table.specs.Ascii.{ascii}
use Rattle.table.specs.View.{view}
use Rattle.grammar.specs.Token.{token}
use Rattle.grammar.specs.Reading.{reads}
use Rattle.grammar.specs.Reading as R
use Rattle.grammar.specs.Kind as K
use Rattle.grammar.specs.Filled as F
use Rattle.table.specs.Table as T
use Rattle.examples.specs.Twelve.{Reads, RefusedAt, table}
use Rattle.examples.specs.Requests.{ReadsAs}

-- ---- kinds and numbers

-- one branch, A, with these fields, and then the end
abbrev pub A_with : List T.Field → T.Table
A_with fs =
    record {
      sorts = T.sends ∷ T.ends ∷ [];
      branches = record { owner = 0; label = 65 ∷ 0 ∷ 0 ∷ 0 ∷ 0 ∷ 0 ∷ 0 ∷ 0 ∷ []; fields = fs; target = 1 } ∷ [];
      shares = 0 ∷ [];
      edition = 1;
    }

-- "A field is `int`, `text` or `flag`, then `[` low `..` high `]`"; "an int (signed 32-bit), the length in bytes of a text (0 to 64), or 0 or 1 for a
-- flag"; question 6, at the number
pub record KindsRead : Type 0 where
  -- kinds 0, 1 and 2, and numbers plus 2^31: -5 and 3, 0 and 64, 0 and 1
  pub three_kinds : ReadsAs "+{!A(int[-5..3],text[0..64],flag[0..1]).end}"
      (A_with (record { kind = 0; low = 2147483643; high = 2147483651 }
      ∷ record { kind = 1; low = 2147483648; high = 2147483712 }
      ∷ record { kind = 2; low = 2147483648; high = 2147483649 }
      ∷ []))
  pub four_fields : ReadsAs "+{!A(int[0..1],int[2..3],int[4..5],int[6..7]).end}"
      (A_with (record { kind = 0; low = 2147483648; high = 2147483649 }
      ∷ record { kind = 0; low = 2147483650; high = 2147483651 }
      ∷ record { kind = 0; low = 2147483652; high = 2147483653 }
      ∷ record { kind = 0; low = 2147483654; high = 2147483655 }
      ∷ []))
  pub all_ints : ReadsAs "+{!A(int[-2147483648..2147483647]).end}" (A_with (record { kind = 0; low = 0; high = 4294967295 } ∷ []))
  pub int_below : RefusedAt "+{!A(int[-2147483649..0]).end}" 6 9
  pub int_far_below : RefusedAt "+{!A(int[-4294967297..0]).end}" 6 9
  pub int_above : RefusedAt "+{!A(int[0..2147483648]).end}" 6 12
  pub text_above : RefusedAt "+{!A(text[0..65]).end}" 6 13
  pub text_below : RefusedAt "+{!A(text[-1..5]).end}" 6 10
  pub flag_above : RefusedAt "+{!A(flag[0..2]).end}" 6 13
  pub flag_below : RefusedAt "+{!A(flag[-1..1]).end}" 6 10
  -- "high not below low (asked at high)", below 0, too
  pub below_zero : RefusedAt "+{!A(int[-4..-5]).end}" 6 13
  pub high_asked_second : RefusedAt "+{!A(flag[2..0]).end}" 6 10

-- ---- limits

-- a text by its bytes: the question that gets a no, and its place; 0 and 0 where it is read
abbrev pub ComesTo : List ℕ → ℕ → ℕ → Type 0
ComesTo bytes q at = ((reads bytes).question ≡ q) × ((reads bytes).at ≡ at)

-- n times the same, and how a type goes on behind it
abbrev pub times_over : ℕ → String → String → List ℕ
times_over n s rest = F.joined (replicate n (ascii s)) ++ ascii rest

-- what is asked at a sign or word, where a token of that kind or a type is expected, one choice is open, and the table so far has n states and m
-- branches
abbrev pub asked_at : String → R.Item → ℕ → ℕ → ℕ
asked_at w i n m =
    let b : T.Branch = record { owner = 0; label = []; fields = []; target = 0 } in
    let t : T.Table = record { sorts = replicate n T.ends; branches = replicate m b; shares = []; edition = 1 } in
    first_no (R.questions (ascii w) (R.state (i ∷ []) (R.a_choice 0 ∷ []) b t) (token (K.of w) 0 1))

-- "1. Is the text at most 8,192 bytes long? (place 0)"; "8. Is the token within 32 states, 128 branches, 4 fields in a branch, and 16 choices and
-- `rec`s open around one another? (States are counted at `+`, `&` or `end`, branches at `!` or `?`, fields at the kind's word, what is open at `+`,
-- `&` or `rec`.)"
pub record LimitsKept : Type 0 where
  pub longest : ComesTo (ascii "end" ++ replicate 8189 0x20) 0 0
  -- ahead of what stands in it
  pub too_long : ComesTo (replicate 8193 0) 1 0
  pub states_32 : (asked_at "end" R.type 31 0 ≡ 0) × (asked_at "+" R.type 31 0 ≡ 0) × (asked_at "&" R.type 31 0 ≡ 0)
  pub states_33 : (asked_at "end" R.type 32 0 ≡ 8) × (asked_at "+" R.type 32 0 ≡ 8) × (asked_at "&" R.type 32 0 ≡ 8)
  pub branches_128 : (asked_at "!" (R.just (K.of "!")) 32 127 ≡ 0) × (asked_at "?" (R.just (K.of "?")) 32 127 ≡ 0)
  pub branches_129 : (asked_at "!" (R.just (K.of "!")) 32 128 ≡ 8) × (asked_at "?" (R.just (K.of "?")) 32 128 ≡ 8)
  pub fields_4 : Reads "+{!A(int[0..0],text[0..0],flag[0..0],int[0..0]).end}"
  pub int_5 : RefusedAt "+{!A(int[0..0],int[0..0],int[0..0],int[0..0],int[0..0]).end}" 8 45
  pub text_5 : RefusedAt "+{!A(int[0..0],int[0..0],int[0..0],int[0..0],text[0..0]).end}" 8 45
  pub flag_5 : RefusedAt "+{!A(int[0..0],int[0..0],int[0..0],int[0..0],flag[0..0]).end}" 8 45
  -- each branch by itself
  pub fields_of_two : Reads "+{!A(int[0..0],int[0..0],int[0..0]).end,!B(int[0..0],int[0..0]).end}"
  pub open_16 : ComesTo (times_over 16 "rec A." "end") 0 0
  pub choices_too : ComesTo (times_over 14 "rec A." "+{!A().&{?B().end}}") 0 0
  pub rec_17 : ComesTo (times_over 17 "rec A." "end") 8 96
  pub choice_17 : ComesTo (times_over 16 "rec A." "+{!A().end}") 8 96
  pub receiving_17 : ComesTo (times_over 16 "rec A." "&{?A().end}") 8 96
  -- closed again, they are not around
  pub not_around : ComesTo (ascii "+{!A()." ++ (times_over 15 "rec A." "end,!B()." ++ times_over 15 "rec A." "end}")) 0 0

-- ---- names and the order of questions

pub record NamesRead : Type 0 where
  -- "A name that outlives its `rec`: `+{!A().rec X.&{?B().X},!C().X}` is 4"
  pub outlives : RefusedAt "+{!A().rec X.&{?B().X},!C().X}" 4 28
  -- "the first state of the body of the innermost `rec` of that name around it": state 1, and not 0
  pub innermost : ReadsAs "rec X.+{!A().rec X.&{?B().X}}"
      (record {
        sorts = T.sends ∷ T.receives ∷ [];
        branches =
            record { owner = 0; label = 65 ∷ 0 ∷ 0 ∷ 0 ∷ 0 ∷ 0 ∷ 0 ∷ 0 ∷ []; fields = []; target = 1 }
            ∷ record { owner = 1; label = 66 ∷ 0 ∷ 0 ∷ 0 ∷ 0 ∷ 0 ∷ 0 ∷ 0 ∷ []; fields = []; target = 1 }
            ∷ [];
        shares = 0 ∷ 0 ∷ [];
        edition = 1;
      })
  -- a name by all of its eight bytes, filled up with 0x00
  pub eight_bytes : (view (table "+{!Zz09Aa8z().end}")).branches
      ≡ record { owner = 0; label = 90 ∷ 122 ∷ 48 ∷ 57 ∷ 65 ∷ 97 ∷ 56 ∷ 122 ∷ []; fields = []; target = 1 } ∷ []
  -- the name of a `rec` is no share, and a name is no label
  pub long_name : Reads "rec Loop.+{!A().Loop}"
  pub like_a_label : Reads "rec A.+{!A().end,!B().A}"
  -- "7. Is the label new in its choice?" In another it is
  pub other_choice : Reads "+{!A().+{!A().end}}"
  -- "+{" has branches with `!`, "&{" with `?`
  pub host_first : (view (table "&{?A().end}")).sorts ≡ T.receives ∷ T.ends ∷ []
  pub sent : RefusedAt "&{!A().end}" 3 2
  pub received : RefusedAt "+{?A().end}" 3 2
  pub both : RefusedAt "+{!A().end,?B().end}" 3 11
  -- "there is at least one", of branches; of fields there may be none, but none follows a comma
  pub no_branch : RefusedAt "+{}" 3 2
  pub comma_brace : RefusedAt "+{!A().end,}" 3 11
  pub comma_field : RefusedAt "+{!A(int[0..1],).end}" 3 15
  pub no_comma : RefusedAt "+{!A(int[0..1] int[0..1]).end}" 3 15
  pub kind_alone : RefusedAt "+{!A(int).end}" 3 8
  pub one_dot : RefusedAt "+{!A(int[0.1]).end}" 3 10
  pub name_for_number : RefusedAt "+{!A(int[A..1]).end}" 3 9
  pub two_types : RefusedAt "end end" 3 4
  pub small_label : RefusedAt "+{!end().end}" 3 3
  pub no_dot : RefusedAt "+{!A()end}" 3 6
  -- the end of the text is asked at its length
  pub cut_off : RefusedAt "+{!A().end" 3 10
  pub cut_off_blank : RefusedAt "+{!A() " 3 7

-- request 4: "19 at a share outside 1 to 1000, after 6"; "20 at a closing brace whose choice mixes branches with and without shares, or whose shares
-- don't add to 1000, after 8"
pub record ShareEdges : Type 0 where
  pub least : Reads "+{!A()@1.end,!B()@999.end}"
  pub whole : Reads "+{!A()@1000.end}"
  pub above : RefusedAt "+{!A()@1001.end}" 19 7
  pub below_zero : RefusedAt "+{!A()@-1.end}" 19 7
  pub too_much : RefusedAt "+{!A()@999.end,!B()@2.end}" 20 25
  -- each choice by itself; the inner brace is asked first
  pub two_choices : Reads "+{!A()@1000.&{?B()@400.end,?C()@600.end}}"
  pub inner_none : Reads "+{!A()@300.&{?B().end},!C()@700.end}"
  pub inner_first : RefusedAt "+{!A()@7.&{?B()@400.end,?C()@599.end}}" 20 36
  -- 20 is asked at the brace, and not before
  pub rec_between : Reads "+{!A()@400.end,!B()@600.rec X.end}"
  pub twice : RefusedAt "+{!A()@500@500.end}" 3 10
  pub no_number : RefusedAt "+{!A()@.end}" 3 7

-- ---- every byte

-- what a byte gets that is all of a text. "A byte that begins nothing named here is a malformed token": 2, and so are a small letter, which is none
-- of the words, and a minus without its number. A capital is a name that is not bound: 4. A blank leaves the text to run out; a digit, a dot or a
-- sign is no type, or the text then runs out: 3
abbrev pub by_itself : ℕ → ℕ
by_itself b =
    cond (leb 65 b && leb b 90) 4
    (cond ((leb 48 b && leb b 57) || eqb b 0x20 || eqb b 0x0A || eqb b 46 || eqb b 33 || eqb b 38 || eqb b 40 || eqb b 41 || eqb b 43 || eqb b 44 || eqb b 63
    || eqb b 64 || eqb b 91 || eqb b 93 || eqb b 123 || eqb b 125) 3 2)

abbrev pub of_a_word : ℕ → Bool
of_a_word b = (leb 65 b && leb b 90) || (leb 97 b && leb b 122) || (leb 48 b && leb b 57)

-- the answer to a text and a byte behind it, as 100 * question + place
abbrev pub with_byte : String → ℕ → ℕ
with_byte s b = 100 * (reads (ascii s ++ (b ∷ []))).question + (reads (ascii s ++ (b ∷ []))).at

-- behind `rec A`: of the name, a dot or a blank, and the text runs out at 6; a sign is 3 at 5, any other byte 2 at 5
abbrev pub behind_a_name : ℕ → ℕ
behind_a_name b = cond (of_a_word b || eqb b 46 || eqb b 0x20 || eqb b 0x0A) 306 (cond (eqb (by_itself b) 3) 305 205)

abbrev pub ForEveryByte : (ℕ → ℕ) → (ℕ → ℕ) → Type 0
ForEveryByte f g = every (λ b. eqb (f b) (g b)) (upto 256 (λ b. b)) ≡ true

pub record EveryByte : Type 0 where
  pub alone : ForEveryByte (λ b. (reads (b ∷ [])).question) by_itself
  pub after_name : ForEveryByte (with_byte "rec A") behind_a_name
  -- "A token that begins with a digit takes digits only": the digits, and what stands next to them
  pub after_number : (with_byte "edition 1" 48 ≡ 2308)
      × (with_byte "edition 1" 57 ≡ 2308)
      × (with_byte "edition 1" 47 ≡ 209)
      × (with_byte "edition 1" 58 ≡ 209)
      × (with_byte "edition 1" 65 ≡ 409)
  -- "words take the longest run": `end0` is one; what stands next to letters and digits is none of it
  pub after_word : (with_byte "end" 48 ≡ 200) × (with_byte "end" 65 ≡ 200) × (with_byte "end" 122 ≡ 200) × (with_byte "end" 123 ≡ 303)
      × (with_byte "end" 0x0A ≡ 0)
  -- "`..` is one token": it is not the dot of a `rec`
  pub after_dot : (with_byte "rec A." 46 ≡ 305) × (with_byte "rec A." 65 ≡ 506) × (with_byte "rec A." 66 ≡ 406)
