-- The program's table, one list of 32-bit words, seen as a table of lists; and question 9 of document 01.
-- The layout is told at the constants of src/lib.rt: where each run of words begins is said there, and here in the functions `..-at`; a table
-- that is read is laid out in the same order (grammar/specs/Filled.antt). Only the first `states` and `branches` entries are seen, of branch k the
-- first `fields` at 4 * k.
-- Assumes nothing.
use Rattle.std.specs.Prelude.{◌≡◌, ℕ, zero, suc, ◌+◌, ◌*◌, ◌/◌, ◌%◌, Bool, true, false, ◌&&◌, List, [], ◌∷◌, replicate, nat_le, nat_lt, slice_index}
use Rattle.table.specs.Lists.{every, upto}
use Rattle.table.specs.Table as T
use Rattle.table.specs.declared.Turned.{Turned}

-- a raw table
abbrev pub Words : Type 0
Words = List ℕ

-- ---- the words

abbrev pub states_of : Words → ℕ
states_of t = slice_index t 0

abbrev pub branches_of : Words → ℕ
branches_of t = slice_index t 1

-- a sort's code: 0 end, 1 sends, 2 receives
abbrev pub sort_at : Words → ℕ → ℕ
sort_at t i = slice_index t (2 + i)

abbrev pub owner_at : Words → ℕ → ℕ
owner_at t k = slice_index t (34 + k)

abbrev pub target_at : Words → ℕ → ℕ
target_at t k = slice_index t (162 + k)

-- how many fields
abbrev pub count_at : Words → ℕ → ℕ
count_at t k = slice_index t (290 + k)

-- a label's eight bytes as one number, high byte first, of two words
abbrev pub joined_label : ℕ → ℕ → ℕ
joined_label high low = high * 4294967296 + low

abbrev pub word_at : Words → ℕ → ℕ
word_at t k = joined_label (slice_index t (418 + k)) (slice_index t (546 + k))

abbrev pub kind_at : Words → ℕ → ℕ
kind_at t k = slice_index t (674 + k)

abbrev pub low_at : Words → ℕ → ℕ
low_at t k = slice_index t (1186 + k)

abbrev pub high_at : Words → ℕ → ℕ
high_at t k = slice_index t (1698 + k)

-- a branch's share, 0 for none
abbrev pub share_at : Words → ℕ → ℕ
share_at t k = slice_index t (2210 + k)

-- the edition of the standard
abbrev pub edition_of : Words → ℕ
edition_of t = slice_index t 2338

abbrev pub field_at : Words → ℕ → T.Field
field_at t k = record { kind = kind_at t k; low = low_at t k; high = high_at t k }

-- ---- the table

-- the eight bytes of a label word, high byte first
unfoldable pub label_of : ℕ → List ℕ
label_of w =
    w / 72057594037927936 % 256
    ∷ w / 281474976710656 % 256
    ∷ w / 1099511627776 % 256
    ∷ w / 4294967296 % 256
    ∷ w / 16777216 % 256
    ∷ w / 65536 % 256
    ∷ w / 256 % 256
    ∷ w % 256
    ∷ []

unfoldable pub sort_of : ℕ → T.Sort
sort_of zero = T.ends
sort_of (suc zero) = T.sends
sort_of (suc (suc n)) = T.receives

abbrev pub branch_at : Words → ℕ → T.Branch
branch_at t k =
    record {
      owner = owner_at t k;
      label = label_of (word_at t k);
      fields = upto (count_at t k) (λ f. field_at t (4 * k + f));
      target = target_at t k;
    }

unfoldable pub view : Words → T.Table
view t =
    record {
      sorts = upto (states_of t) (λ i. sort_of (sort_at t i));
      branches = upto (branches_of t) (branch_at t);
      shares = upto (branches_of t) (share_at t);
      edition = edition_of t;
    }

-- what only a raw table can break and `view` does not show: a sort's code that is none
unfoldable pub known : Words → Bool
known t = every (λ c. nat_le c 2) (upto (states_of t) (sort_at t))

-- the table is sound, and its shares keep their rules
unfoldable pub regular_of : Words → Bool
regular_of t = known t && T.sound (view t) && T.shares_kept (view t)

-- question 9: is it so, and its edition 1 or 2?
unfoldable pub sound_of : Words → Bool
sound_of t = T.known_edition (edition_of t) && regular_of t

-- question 9 where a position is given: is it one of the table's states, too?
unfoldable pub sound_at : Words → ℕ → Bool
sound_at t position = sound_of t && nat_lt position (states_of t)

-- two sound tables that differ in shares only
pub record SharesAside (t u : Words) : Type 0 where
  pub one : sound_of t ≡ true
  pub other : sound_of u ≡ true
  pub same : T.unshared (view t) ≡ T.unshared (view u)

-- two sound tables that differ in shares and edition only
pub record EditionAside (t u : Words) : Type 0 where
  pub one : sound_of t ≡ true
  pub other : sound_of u ≡ true
  pub sorts : (view t).sorts ≡ (view u).sorts
  pub branches : (view t).branches ≡ (view u).branches

-- ---- the dual

unfoldable pub empty_table : Words
empty_table = replicate 2340 0

-- 1 and 2 are exchanged
unfoldable pub opposite_of : ℕ → ℕ
opposite_of zero = 0
opposite_of (suc zero) = 2
opposite_of (suc (suc zero)) = 1
opposite_of (suc (suc (suc n))) = suc (suc (suc n))

-- the first n numbers
unfoldable pub opposites : ℕ → List ℕ → List ℕ
opposites zero r = r
opposites (suc n) [] = []
opposites (suc n) (a ∷ r) = opposite_of a ∷ opposites n r

-- the first n sorts
unfoldable pub turned_to : ℕ → Words → Words
turned_to n [] = []
turned_to n (a ∷ []) = a ∷ []
turned_to n (a ∷ b ∷ r) = a ∷ b ∷ opposites n r

abbrev pub turned : Words → Words
turned t = turned_to 32 t

-- 0 and the dual; of a table that is not sound 9 and the empty table
abbrev pub dual_answer : Words → Bool → Turned
dual_answer t true = record { question = 0; table = turned t }
dual_answer t false = record { question = 9; table = empty_table }

unfoldable pub dual_of : Words → Turned
dual_of t = dual_answer t (sound_of t)

-- ---- what is proved of it

-- of a sound table the call gives document 01's dual
abbrev pub DualSeen : Type 0
DualSeen = (t : Words) → sound_of t ≡ true → view (dual_of t).table ≡ T.dual (view t)

-- the dual of the dual is the table itself
abbrev pub DualTwice : Type 0
DualTwice = (t : Words) → sound_of t ≡ true → dual_of (dual_of t).table ≡ record { question = 0; table = t }
