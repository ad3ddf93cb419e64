-- Document 01's "Messages": what bytes say, questions 13, 14, 15 and request 6's 22 at their edges and in their order, made messages.
-- Assumes nothing.
use Rattle.std.specs.Prelude.{◌≡◌, true, false, List, [], ◌∷◌, ◌++◌, ℕ, replicate}
use Rattle.std.proofs.Math.Option.{none, some}
use Rattle.table.specs.Table as T
use Rattle.table.specs.View.{Words}
use Rattle.message.specs.Message.{Value, read, number_at, refusal, well_formed, front_of, broken, has_label}
use Rattle.message.specs.Make.{made, making}
use Rattle.examples.specs.Twelve.{ask, table}
use Rattle.examples.specs.TableExamples.{one_letter, branch_to}

-- ---- what bytes say

-- `A` with one field: its kind, the four bytes of its number, the bytes of its text
abbrev pub A_of : ℕ → List ℕ → List ℕ → List ℕ
A_of kind number text = one_letter 65 ++ (1 ∷ kind ∷ (number ++ text))

-- `A` with the ints -2 and 0x01020304
abbrev pub two_ints : List ℕ
two_ints = one_letter 65 ++ (2 ∷ 0 ∷ 0 ∷ 0xFF ∷ 0xFF ∷ 0xFF ∷ 0xFE ∷ 1 ∷ 2 ∷ 3 ∷ 4 ∷ [])

-- `A` with the flag true and a text of two letters
abbrev pub flag_and_text : List ℕ
flag_and_text = one_letter 65 ++ (2 ∷ 2 ∷ 1 ∷ 0 ∷ 0 ∷ 0 ∷ 1 ∷ 0 ∷ 0 ∷ 0 ∷ 2 ∷ 111 ∷ 107 ∷ [])

-- a kind, and a number plus 2^31
abbrev pub value_of_kind : ℕ → ℕ → Value
value_of_kind k n = record { kind = k; number = n }

-- "Label (8 bytes, filled up with 0x00), field count n (1 byte), then two parallel arrays, n kinds (1 byte; 0 int, 1 text, 2 flag) and n numbers (4
-- bytes, two's complement, high byte first), then the texts' bytes in field order."
pub record MessagesRead : Type 0 where
  pub numbers : read two_ints ≡ record { label = one_letter 65; values = value_of_kind 0 2147483646 ∷ value_of_kind 0 2164392708 ∷ [] }
  pub kinds : read flag_and_text ≡ record { label = one_letter 65; values = value_of_kind 2 2147483649 ∷ value_of_kind 1 2147483650 ∷ [] }
  -- a number where it stands; 0 where its four bytes do not all stand there
  pub at_places : (number_at two_ints 11 ≡ 2147483646) × (number_at two_ints 15 ≡ 2164392708) × (number_at two_ints 16 ≡ 0)

-- ---- the questions

-- "13. Are there nine bytes, a legal label, a count of at most 4, and both arrays whole?" "A name or label is A-Z followed by A-Z, a-z, 0-9, one to
-- eight bytes in all."
pub record LabelsAsked : Type 0 where
  pub eight_bytes : refusal (one_letter 65) ≡ 13
  pub nine_bytes : refusal (one_letter 65 ++ (0 ∷ [])) ≡ 0
  -- Z, A, a, z, 0, 9 and what stands next to them
  pub all_classes : refusal (90 ∷ 65 ∷ 97 ∷ 122 ∷ 48 ∷ 57 ∷ 90 ∷ 66 ∷ 0 ∷ []) ≡ 0
  pub first_small : refusal (one_letter 97 ++ (0 ∷ [])) ≡ 13
  pub first_digit : refusal (one_letter 48 ++ (0 ∷ [])) ≡ 13
  pub first_at : refusal (one_letter 64 ++ (0 ∷ [])) ≡ 13
  pub first_bracket : refusal (one_letter 91 ++ (0 ∷ [])) ≡ 13
  pub at_sign : refusal (65 ∷ 64 ∷ 0 ∷ 0 ∷ 0 ∷ 0 ∷ 0 ∷ 0 ∷ 0 ∷ []) ≡ 13
  pub bracket : refusal (65 ∷ 91 ∷ 0 ∷ 0 ∷ 0 ∷ 0 ∷ 0 ∷ 0 ∷ 0 ∷ []) ≡ 13
  pub grave : refusal (65 ∷ 96 ∷ 0 ∷ 0 ∷ 0 ∷ 0 ∷ 0 ∷ 0 ∷ 0 ∷ []) ≡ 13
  pub brace : refusal (65 ∷ 123 ∷ 0 ∷ 0 ∷ 0 ∷ 0 ∷ 0 ∷ 0 ∷ 0 ∷ []) ≡ 13
  pub slash : refusal (65 ∷ 47 ∷ 0 ∷ 0 ∷ 0 ∷ 0 ∷ 0 ∷ 0 ∷ 0 ∷ []) ≡ 13
  pub colon : refusal (65 ∷ 58 ∷ 0 ∷ 0 ∷ 0 ∷ 0 ∷ 0 ∷ 0 ∷ 0 ∷ []) ≡ 13
  -- 0x00 only fills up; so does no other byte
  pub gap : refusal (65 ∷ 0 ∷ 66 ∷ 0 ∷ 0 ∷ 0 ∷ 0 ∷ 0 ∷ 0 ∷ []) ≡ 13
  pub filled_with_one : refusal (65 ∷ 1 ∷ 1 ∷ 1 ∷ 1 ∷ 1 ∷ 1 ∷ 1 ∷ 0 ∷ []) ≡ 13
  pub no_letter : refusal (replicate 9 0) ≡ 13

pub record MessagesAsked : Type 0 where
  -- the rest of 13, ahead of 14: a count of 5, an array that is not whole
  pub five_fields : refusal (one_letter 65 ++ (5 ∷ replicate 25 0)) ≡ 13
  pub four_fields : refusal (one_letter 65 ++ (4 ∷ replicate 20 0)) ≡ 0
  pub half_an_array : refusal (one_letter 65 ++ (1 ∷ 3 ∷ 0 ∷ 0 ∷ 0 ∷ [])) ≡ 13
  -- "14. Is every kind known and every number within its kind?", ahead of 15
  pub kind_three : refusal (A_of 3 (0 ∷ 0 ∷ 0 ∷ 0 ∷ []) (7 ∷ [])) ≡ 14
  pub flag_two : refusal (A_of 2 (0 ∷ 0 ∷ 0 ∷ 2 ∷ []) []) ≡ 14
  pub flag_one : refusal (A_of 2 (0 ∷ 0 ∷ 0 ∷ 1 ∷ []) []) ≡ 0
  pub flag_zero : refusal (A_of 2 (0 ∷ 0 ∷ 0 ∷ 0 ∷ []) []) ≡ 0
  pub flag_below : refusal (A_of 2 (0xFF ∷ 0xFF ∷ 0xFF ∷ 0xFF ∷ []) []) ≡ 14
  pub text_65 : refusal (A_of 1 (0 ∷ 0 ∷ 0 ∷ 65 ∷ []) (replicate 65 32)) ≡ 14
  pub text_64 : refusal (A_of 1 (0 ∷ 0 ∷ 0 ∷ 64 ∷ []) (replicate 64 32)) ≡ 0
  pub text_none : refusal (A_of 1 (0 ∷ 0 ∷ 0 ∷ 0 ∷ []) []) ≡ 0
  pub text_below : refusal (A_of 1 (0xFF ∷ 0xFF ∷ 0xFF ∷ 0xFF ∷ []) []) ≡ 14
  pub int_least : refusal (A_of 0 (0x80 ∷ 0 ∷ 0 ∷ 0 ∷ []) []) ≡ 0
  pub int_most : refusal (A_of 0 (0x7F ∷ 0xFF ∷ 0xFF ∷ 0xFF ∷ []) []) ≡ 0
  -- the second field, too
  pub second_kind : refusal (one_letter 65 ++ (2 ∷ 0 ∷ 3 ∷ replicate 8 0)) ≡ 14
  -- "15. Is the length exactly what this gives?", ahead of 22
  pub too_long : refusal (A_of 1 (0 ∷ 0 ∷ 0 ∷ 1 ∷ []) (0xE9 ∷ 7 ∷ [])) ≡ 15
  pub too_short : refusal (A_of 1 (0 ∷ 0 ∷ 0 ∷ 2 ∷ []) (0xE9 ∷ [])) ≡ 15
  pub two_fields : refusal flag_and_text ≡ 0
  -- 22
  pub no_text : refusal (A_of 1 (0 ∷ 0 ∷ 0 ∷ 1 ∷ []) (0xE9 ∷ [])) ≡ 22
  -- well formed, but for each of the four
  pub formed : (well_formed flag_and_text ≡ true)
      × (well_formed (one_letter 97 ++ (0 ∷ [])) ≡ false)
      × (well_formed (A_of 2 (0 ∷ 0 ∷ 0 ∷ 2 ∷ []) []) ≡ false)
      × (well_formed (A_of 2 (0 ∷ 0 ∷ 0 ∷ 1 ∷ []) (7 ∷ [])) ≡ false)
      × (well_formed (A_of 1 (0 ∷ 0 ∷ 0 ∷ 1 ∷ []) (0xE9 ∷ [])) ≡ false)

-- of a front, which may go on: 13 or 14, or the length that it announces; whether none that follow mend it; request 3: "yes exactly when there are at
-- least eight and the first eight are the branch's label"
pub record FrontsAsked : Type 0 where
  pub announced : front_of (A_of 1 (0 ∷ 0 ∷ 0 ∷ 3 ∷ []) []) ≡ record { question = 0; length = 17 }
  pub no_text : front_of (one_letter 65 ++ (0 ∷ 7 ∷ [])) ≡ record { question = 0; length = 9 }
  pub fourteen : front_of (A_of 2 (0 ∷ 0 ∷ 0 ∷ 3 ∷ []) []) ≡ record { question = 14; length = 0 }
  pub thirteen_first : front_of (one_letter 65 ++ (1 ∷ 3 ∷ 0 ∷ [])) ≡ record { question = 13; length = 0 }
  pub mended : (broken (one_letter 97) ≡ false) × (broken (one_letter 65 ++ (4 ∷ [])) ≡ false) × (broken (one_letter 65 ++ (1 ∷ [])) ≡ false)
  pub never_mended : (broken (one_letter 97 ++ (0 ∷ [])) ≡ true)
      × (broken (one_letter 65 ++ (5 ∷ [])) ≡ true)
      × (broken (A_of 3 (0 ∷ 0 ∷ 0 ∷ 0 ∷ []) []) ≡ true)
  pub label : (has_label (one_letter 65) 0x4100000000000000 ≡ true) × (has_label (ask 5) 0x41736B0000000000 ≡ true)
      × (has_label (ask 5) 0x41736B0000000001 ≡ false)
      × (has_label (ask 5) 0x42736B0000000000 ≡ false)
      × (has_label (65 ∷ 115 ∷ 107 ∷ 0 ∷ 0 ∷ 0 ∷ 0 ∷ []) 0x41736B0000000000 ≡ false)

-- ---- made messages

-- a branch with a range below zero, a text and a flag
abbrev pub three_kinds : Words
three_kinds = table "+{!A(int[-5..3],text[1..2],flag[0..1]).end}"

-- its message, by the last byte of each number and the text; the int is -5 where its first bytes are 0xFF
abbrev pub A_made : ℕ → ℕ → ℕ → ℕ → List ℕ → List ℕ
A_made sign int text flag spaces =
    one_letter 65 ++ (3 ∷ 0 ∷ 1 ∷ 2 ∷ sign ∷ sign ∷ sign ∷ int ∷ 0 ∷ 0 ∷ 0 ∷ text ∷ 0 ∷ 0 ∷ 0 ∷ flag ∷ spaces)

-- `A` with an int of one number, plus 2^31
abbrev pub A_from : ℕ → T.Branch
A_from n = branch_to 0 (one_letter 65) (record { kind = 0; low = n; high = n } ∷ []) 1

-- "every number low, or one named field high, texts filled with 0x20. It asks 9; 18. Does the branch exist, and has it the named field? Then 16. The
-- answer is its length; the rest of the buffer is unchanged." "any count 0"
pub record MessagesMade : Type 0 where
  pub low : making three_kinds 0 none (replicate 26 7) ≡ record { numbers = (0, 25); buffer = A_made 0xFF 0xFB 1 0 (0x20 ∷ 7 ∷ []) }
  pub int_high : making three_kinds 0 (some 0) (replicate 25 7) ≡ record { numbers = (0, 25); buffer = A_made 0 3 1 0 (0x20 ∷ []) }
  pub text_high : making three_kinds 0 (some 1) (replicate 26 7) ≡ record { numbers = (0, 26); buffer = A_made 0xFF 0xFB 2 0 (0x20 ∷ 0x20 ∷ []) }
  pub flag_high : making three_kinds 0 (some 2) (replicate 26 7) ≡ record { numbers = (0, 25); buffer = A_made 0xFF 0xFB 1 1 (0x20 ∷ 7 ∷ []) }
  -- the four bytes of the least int, of -1, of 0, of 0x01000000 and of the most; of 0x01020304
  pub int_edges : (made (A_from 0) none ≡ A_of 0 (0x80 ∷ 0 ∷ 0 ∷ 0 ∷ []) [])
      × (made (A_from 2147483647) none ≡ A_of 0 (0xFF ∷ 0xFF ∷ 0xFF ∷ 0xFF ∷ []) [])
      × (made (A_from 2147483648) none ≡ A_of 0 (0 ∷ 0 ∷ 0 ∷ 0 ∷ []) [])
      × (made (A_from 2164260864) none ≡ A_of 0 (1 ∷ 0 ∷ 0 ∷ 0 ∷ []) [])
      × (made (A_from 4294967295) none ≡ A_of 0 (0x7F ∷ 0xFF ∷ 0xFF ∷ 0xFF ∷ []) [])
  pub four_bytes : made (A_from 2164392708) none ≡ A_of 0 (1 ∷ 2 ∷ 3 ∷ 4 ∷ []) []
  pub no_room : making three_kinds 0 (some 1) (replicate 25 7) ≡ record { numbers = (16, 0); buffer = replicate 25 7 }
  -- 18, ahead of 16; 9, ahead of 18
  pub no_branch : making three_kinds 1 none [] ≡ record { numbers = (18, 0); buffer = [] }
  pub no_field : making three_kinds 0 (some 3) [] ≡ record { numbers = (18, 0); buffer = [] }
  pub no_table : making [] 0 none [] ≡ record { numbers = (9, 0); buffer = [] }
