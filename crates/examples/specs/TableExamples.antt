-- Document 01's "Tables": P as the program's words, when a table is sound (question 9), and the dual.
-- Assumes nothing.
use Rattle.std.specs.Prelude.{◌≡◌, true, false, List, [], ◌∷◌, ◌++◌, ℕ, ◌+◌, ◌/◌, ◌%◌, take, replicate, set}
use Rattle.table.specs.Lists.{upto}
use Rattle.table.specs.Table as T
use Rattle.table.specs.View.{Words, label_of, view, sound_of, sound_at, dual_of}
use Rattle.examples.specs.Twelve.{P, E, table}
use Rattle.examples.specs.Requests.{end_under, Q}

-- ---- P

-- what P is read into, under an edition
abbrev pub P_under : ℕ → T.Table
P_under e =
    record {
      sorts = T.sends ∷ T.receives ∷ T.ends ∷ [];
      branches =
          record {
            owner = 0;
            label = 65 ∷ 115 ∷ 107 ∷ 0 ∷ 0 ∷ 0 ∷ 0 ∷ 0 ∷ [];
            fields = record { kind = 0; low = 2147483648; high = 2147483748 } ∷ [];
            target = 1;
          }
          ∷ record { owner = 1; label = 79 ∷ 107 ∷ 0 ∷ 0 ∷ 0 ∷ 0 ∷ 0 ∷ 0 ∷ []; fields = []; target = 0 }
          ∷ record { owner = 0; label = 81 ∷ 117 ∷ 105 ∷ 116 ∷ 0 ∷ 0 ∷ 0 ∷ 0 ∷ []; fields = []; target = 2 }
          ∷ [];
      shares = 0 ∷ 0 ∷ 0 ∷ [];
      edition = e;
    }

abbrev pub P_seen : T.Table
P_seen = P_under 1

-- and `end`
abbrev pub E_seen : T.Table
E_seen = end_under 1

-- n words in all: those given, then zeros
abbrev pub column : ℕ → List ℕ → List ℕ
column n ws = take n (ws ++ replicate n 0)

abbrev pub end_to_end : List (List ℕ) → List ℕ
end_to_end [] = []
end_to_end (c ∷ cs) = c ++ end_to_end cs

-- P's words, with the sorts that are given: how many states and branches, sorts, owners, targets, field counts, the labels' first and last four
-- bytes, kinds, lows, highs, shares, edition
abbrev pub P_words : List ℕ → ℕ → Words
P_words sorts e =
    3 ∷ 3
    ∷ end_to_end
    (column 32 sorts
    ∷ column 128 (0 ∷ 1 ∷ 0 ∷ [])
    ∷ column 128 (1 ∷ 0 ∷ 2 ∷ [])
    ∷ column 128 (1 ∷ 0 ∷ 0 ∷ [])
    ∷ column 128 (0x41736B00 ∷ 0x4F6B0000 ∷ 0x51756974 ∷ [])
    ∷ column 128 []
    ∷ column 512 []
    ∷ column 512 (2147483648 ∷ [])
    ∷ column 512 (2147483748 ∷ [])
    ∷ column 128 []
    ∷ column 2 (e ∷ [])
    ∷ [])

abbrev pub P1 : Words
P1 = P_words (1 ∷ 2 ∷ 0 ∷ []) 1

abbrev pub P2 : Words
P2 = P_words (1 ∷ 2 ∷ 0 ∷ []) 2

-- a second branch with a label of eight letters and two fields; four entries belong to each branch, and the share to its own
abbrev pub second_words : Words
second_words =
    2 ∷ 2
    ∷ end_to_end
    (column 32 (2 ∷ 0 ∷ [])
    ∷ column 128 (0 ∷ 0 ∷ [])
    ∷ column 128 (1 ∷ 0 ∷ [])
    ∷ column 128 (0 ∷ 2 ∷ [])
    ∷ column 128 (0x41000000 ∷ 0x42636465 ∷ [])
    ∷ column 128 (0 ∷ 0x66676869 ∷ [])
    ∷ column 512 (0 ∷ 0 ∷ 0 ∷ 0 ∷ 2 ∷ 1 ∷ [])
    ∷ column 512 (0 ∷ 0 ∷ 0 ∷ 0 ∷ 2147483648 ∷ 2147483651 ∷ [])
    ∷ column 512 (0 ∷ 0 ∷ 0 ∷ 0 ∷ 2147483649 ∷ 2147483652 ∷ [])
    ∷ column 128 (400 ∷ 600 ∷ [])
    ∷ column 2 (1 ∷ [])
    ∷ [])

pub record TableWords : Type 0 where
  pub first_edition : P ≡ P1
  pub second_edition : Q ≡ P2
  pub seen : view P1 ≡ P_seen
  pub end_seen : view E ≡ E_seen
  pub two_fields_read : table "rec X.&{?A()@400.end,?Bcdefghi(flag[0..1],text[3..4])@600.X}" ≡ second_words
  pub two_fields_seen : view second_words
      ≡ record {
        sorts = T.receives ∷ T.ends ∷ [];
        branches =
            record { owner = 0; label = 65 ∷ 0 ∷ 0 ∷ 0 ∷ 0 ∷ 0 ∷ 0 ∷ 0 ∷ []; fields = []; target = 1 }
            ∷ record {
              owner = 0;
              label = 66 ∷ 99 ∷ 100 ∷ 101 ∷ 102 ∷ 103 ∷ 104 ∷ 105 ∷ [];
              fields = record { kind = 2; low = 2147483648; high = 2147483649 } ∷ record { kind = 1; low = 2147483651; high = 2147483652 } ∷ [];
              target = 0;
            }
            ∷ [];
        shares = 400 ∷ 600 ∷ [];
        edition = 1;
      }

-- "Label (8 bytes ..)": a label is kept as one number, high byte first
pub record LabelWords : Type 0 where
  pub bytes : label_of 0x0102030405060708 ≡ 1 ∷ 2 ∷ 3 ∷ 4 ∷ 5 ∷ 6 ∷ 7 ∷ 8 ∷ []
  pub largest : label_of 0xFFFFFFFFFFFFFFFF ≡ replicate 8 255

-- ---- sound

-- a label of one letter, filled up
abbrev pub one_letter : ℕ → List ℕ
one_letter c = c ∷ 0 ∷ 0 ∷ 0 ∷ 0 ∷ 0 ∷ 0 ∷ 0 ∷ []

abbrev pub branch_to : ℕ → List ℕ → List T.Field → ℕ → T.Branch
branch_to o l fs t = record { owner = o; label = l; fields = fs; target = t }

abbrev pub of_states : List T.Sort → List T.Branch → T.Table
of_states ss bs = record { sorts = ss; branches = bs; shares = []; edition = 1 }

-- two states, the first of which sends
abbrev pub two_states : List T.Branch → T.Table
two_states bs = of_states (T.sends ∷ T.ends ∷ []) bs

-- one branch, A, with one field, of a state and then the end
abbrev pub one_range : T.Sort → ℕ → ℕ → ℕ → T.Table
one_range s k l h = of_states (s ∷ T.ends ∷ []) (branch_to 0 (one_letter 65) (record { kind = k; low = l; high = h } ∷ []) 1 ∷ [])

-- n branches of 32 states, one for each state, then a second, and so on
abbrev pub grid : ℕ → T.Table
grid n = of_states (replicate 32 T.sends) (upto n (λ k. branch_to (k % 32) (one_letter (65 + k / 32)) [] 0))

-- one state with two branches, and their shares
abbrev pub of_shares : ℕ → ℕ → T.Table
of_shares v w =
    record {
      sorts = T.sends ∷ [];
      branches = branch_to 0 (one_letter 65) [] 0 ∷ branch_to 0 (one_letter 66) [] 0 ∷ [];
      shares = v ∷ w ∷ [];
      edition = 1;
    }

-- "A table is sound when it has 1 to 32 states and at most 128 branches; an end owns no branch and a choice at least one; labels are legal and differ
-- within a state; fields keep the limits above and no range is empty; every branch is of one state and every target is a state."
pub record SoundTables : Type 0 where
  pub sound : T.sound (two_states (branch_to 0 (one_letter 65) [] 1 ∷ [])) ≡ true
  pub states : (T.sound (of_states [] []) ≡ false)
      × (T.sound (of_states (replicate 32 T.ends) []) ≡ true)
      × (T.sound (of_states (replicate 33 T.ends) []) ≡ false)
  pub branches : (T.sound (grid 128) ≡ true) × (T.sound (grid 129) ≡ false)
  -- an end that owns a branch; a choice that owns none, of either sort, and the second of two; a branch of no state
  pub owners : (T.sound (two_states (branch_to 0 (one_letter 65) [] 1 ∷ branch_to 1 (one_letter 65) [] 1 ∷ [])) ≡ false)
      × (T.sound (two_states []) ≡ false)
      × (T.sound (of_states (T.receives ∷ []) []) ≡ false)
      × (T.sound (of_states (T.sends ∷ T.sends ∷ []) (branch_to 0 (one_letter 65) [] 1 ∷ [])) ≡ false)
      × (T.sound (two_states (branch_to 0 (one_letter 65) [] 1 ∷ branch_to 2 (one_letter 65) [] 1 ∷ [])) ≡ false)
  pub targets : (T.sound (two_states (branch_to 0 (one_letter 65) [] 0 ∷ [])) ≡ true)
      × (T.sound (two_states (branch_to 0 (one_letter 65) [] 2 ∷ [])) ≡ false)
  -- not legal; of seven and of nine bytes
  pub legal_labels : (T.sound (two_states (branch_to 0 (one_letter 97) [] 1 ∷ [])) ≡ false)
      × (T.sound (two_states (branch_to 0 (65 ∷ 0 ∷ 0 ∷ 0 ∷ 0 ∷ 0 ∷ 0 ∷ []) [] 1 ∷ [])) ≡ false)
      × (T.sound (two_states (branch_to 0 (one_letter 65 ++ (0 ∷ [])) [] 1 ∷ [])) ≡ false)
      × (T.sound (two_states (branch_to 0 [] [] 1 ∷ [])) ≡ false)
  -- of one state two, of which another stands between; of two states
  pub differ : (T.sound (two_states (branch_to 0 (one_letter 65) [] 1 ∷ branch_to 0 (one_letter 66) [] 1 ∷ [])) ≡ true)
      × (T.sound (two_states (branch_to 0 (one_letter 65) [] 1 ∷ branch_to 0 (one_letter 66) [] 1 ∷ branch_to 0 (one_letter 65) [] 1 ∷ [])) ≡ false)
      × (T.sound (two_states (branch_to 0 (one_letter 66) [] 1 ∷ branch_to 0 (one_letter 65) [] 1 ∷ branch_to 0 (one_letter 65) [] 1 ∷ [])) ≡ false)
      × (T.sound (of_states (T.sends ∷ T.receives ∷ []) (branch_to 0 (one_letter 65) [] 1 ∷ branch_to 1 (one_letter 65) [] 0 ∷ [])) ≡ true)
  pub fields : (T.sound (two_states (branch_to 0 (one_letter 65) (replicate 4 (record { kind = 0; low = 5; high = 5 })) 1 ∷ [])) ≡ true)
      × (T.sound (two_states (branch_to 0 (one_letter 65) (replicate 5 (record { kind = 0; low = 5; high = 5 })) 1 ∷ [])) ≡ false)
  -- an empty range; each kind's numbers plus 2^31, and one beyond on either side; a fourth kind
  pub ranges : (T.sound (one_range T.sends 0 5 4) ≡ false)
      × (T.sound (one_range T.sends 0 0 4294967295) ≡ true)
      × (T.sound (one_range T.sends 0 0 4294967296) ≡ false)
      × (T.sound (one_range T.sends 0 4294967296 4294967296) ≡ false)
  pub text_ranges : (T.sound (one_range T.sends 1 2147483648 2147483712) ≡ true) × (T.sound (one_range T.sends 1 2147483648 2147483713) ≡ false)
      × (T.sound (one_range T.sends 1 2147483647 2147483712) ≡ false)
  pub flag_ranges : (T.sound (one_range T.sends 2 2147483648 2147483649) ≡ true) × (T.sound (one_range T.sends 2 2147483648 2147483650) ≡ false)
      × (T.sound (one_range T.sends 2 2147483647 2147483648) ≡ false)
      × (T.sound (one_range T.sends 3 2147483648 2147483648) ≡ false)
  -- request 4: "Question 9 now also asks that a table's shares keep these rules": none, or each 1 to 1000 and 1000 in all, of each choice by itself
  pub shares : (T.shares_kept (of_shares 10 990) ≡ true) × (T.shares_kept (of_shares 10 989) ≡ false) × (T.shares_kept (of_shares 10 991) ≡ false)
      × (T.shares_kept (of_shares 0 0) ≡ true)
      × (T.shares_kept (of_shares 0 1000) ≡ false)
      × (T.shares_kept (of_shares 1000 0) ≡ false)
  pub two_choices : T.shares_kept
      (record {
        sorts = T.sends ∷ T.receives ∷ [];
        branches = branch_to 0 (one_letter 65) [] 1 ∷ branch_to 1 (one_letter 66) [] 0 ∷ branch_to 0 (one_letter 67) [] 1 ∷ [];
        shares = 1 ∷ 0 ∷ 999 ∷ [];
        edition = 1;
      })
      ≡ true
  -- of words: a code that is no sort's, where it is a state's and where not; an edition that is none (request 7: "9 asks that a table's edition be 1
  -- or 2"); a share beside none
  pub words : (sound_of P1 ≡ true) × (sound_of P2 ≡ true) × (sound_of (set P1 3 3) ≡ false) × (sound_of (set P1 5 3) ≡ true)
      × (sound_of (set P1 2338 0) ≡ false)
      × (sound_of (set P1 2338 3) ≡ false)
      × (sound_of (set P1 2210 1) ≡ false)
      × (sound_of [] ≡ false)
  -- "and a position given with it one of its states"
  pub positions : (sound_at P1 2 ≡ true) × (sound_at P1 3 ≡ false) × (sound_at [] 0 ≡ false)

-- two choices with three branches, the first of which the second owns; the sorts behind them belong to no state
abbrev pub two_choice_words : List ℕ → Words
two_choice_words sorts =
    2 ∷ 3
    ∷ end_to_end
    (column 32 sorts
    ∷ column 128 (1 ∷ 0 ∷ 1 ∷ [])
    ∷ column 128 (0 ∷ 1 ∷ 1 ∷ [])
    ∷ column 128 []
    ∷ column 128 (0x41000000 ∷ 0x41000000 ∷ 0x42000000 ∷ [])
    ∷ column 128 []
    ∷ column 512 []
    ∷ column 512 []
    ∷ column 512 []
    ∷ column 128 []
    ∷ column 2 (1 ∷ [])
    ∷ [])

-- "The dual exchanges sending and receiving; the dual of the dual is the table itself"; "any table then given back is empty"
pub record DualTables : Type 0 where
  pub dual : dual_of P1 ≡ record { question = 0; table = P_words (2 ∷ 1 ∷ 0 ∷ []) 1 }
  pub dual_under_two : dual_of P2 ≡ record { question = 0; table = P_words (2 ∷ 1 ∷ 0 ∷ []) 2 }
  -- to the last of 32 sorts and no further, so that the dual of the dual is the table itself
  pub all_sorts : dual_of (two_choice_words (1 ∷ 2 ∷ 0 ∷ 3 ∷ 4 ∷ replicate 27 1))
      ≡ record { question = 0; table = two_choice_words (2 ∷ 1 ∷ 0 ∷ 3 ∷ 4 ∷ replicate 27 2) }
  pub refused : dual_of [] ≡ record { question = 9; table = replicate 2340 0 }
  pub of_lists : T.dual (of_shares 10 990)
      ≡ record { sorts = T.receives ∷ []; branches = (of_shares 10 990).branches; shares = 10 ∷ 990 ∷ []; edition = 1 }
  pub of_P : (T.dual P_seen).sorts ≡ T.receives ∷ T.sends ∷ T.ends ∷ []
