-- What the examples' texts are read into, seen as lists: computed once, so that all else speaks of few numbers.
-- Assumes nothing.
use mathlib.Core.Path.{◌≡◌, refl}
use mathlib.Core.Bool.{true}
use mathlib.Core.List.{[], ◌∷◌}
use Prim.Native.Nat.{ℕ}
use Prim.Native.String.{String}
use Rattle.table.specs.Lists.{every, some_one, matched, same, upto, sum_of, first_no}
use Rattle.table.specs.View.{states_of, branches_of, owner_at, share_at, label_of, sort_of, view, sound_of, empty_table}
use Rattle.grammar.specs.inner.Scanner.{class_of, run_of, run_end, word_kind, word_token, name_token, number_kind, number_token, dots_token, begin_at, token_at, tokens_from, tokens}
use Rattle.grammar.specs.Token.{packed, word_of}
use Rattle.grammar.specs.Number.{value_of, signed_of, offset, in_kind, in_count}
use Rattle.grammar.specs.Building.{set_edition, add_state, add_branch, add_share, label_used, choice_right, denied}
use Rattle.grammar.specs.Filled.{filled, not_read}
use Rattle.grammar.specs.Reading.{meaning, unguarded, closed, token_formed, grammar_allows, edition_known, name_bound, guarded, ranged, share_ranged, new_label, within_limits, shares_add, sign_of, choice_sort, kind_of, target, stored, began, taken, run_tokens, built, reads, questions}
use Rattle.table.specs.Ascii.{ascii}
use Rattle.grammar.proofs.laws.Reads.{read_sound}
use Rattle.examples.specs.Twelve.{P, E, P_text, Reads, RefusedAt, table}
use Rattle.examples.specs.Requests.{NamesAfterRec, shared_text, A_or_B, halves_text, unshared_text, Q_text, Q, EditionsRead}
use Rattle.examples.specs.TableExamples.{P_under, P_seen, E_seen}
use Rattle.table.specs.Table as T

-- a text of one choice with two branches, which have these shares
pub record Shared (s : String) (a b : ℕ) : Type 0 where
  pub is_read : Reads s
  pub seen : view (table s) ≡ record { sorts = A_or_B.sorts; branches = A_or_B.branches; shares = a ∷ b ∷ []; edition = 1 }
  pub states : states_of (table s) ≡ 3
  pub branches : branches_of (table s) ≡ 2
  pub owners : (owner_at (table s) 0 ≡ 0) × (owner_at (table s) 1 ≡ 0)
  pub shares : (share_at (table s) 0 ≡ a) × (share_at (table s) 1 ≡ b)

-- what the texts give
pub record Read : Type 0 where
  pub end_reads : Reads "end" × (states_of E ≡ 1)
  pub empty_text : RefusedAt "" 3 0
  pub unguarded : RefusedAt "rec X.X" 5 6
  pub unbound : RefusedAt "+{!A().X}" 4 7
  pub label_twice : RefusedAt "+{!A().end,!A().end}" 7 12
  pub range_empty : RefusedAt "+{!A(int[5..4]).end}" 6 12
  pub range_of_one : Reads "+{!A(int[5..5]).end}"
  pub P_reads : Reads P_text × (states_of P ≡ 3)
  pub P_view : view P ≡ P_seen
  pub E_view : view E ≡ E_seen
  pub names_after_rec : NamesAfterRec
  pub shared : Shared shared_text 10 990
  pub halves : Shared halves_text 500 500
  pub unshared : Shared unshared_text 0 0
  pub no_sum : RefusedAt "+{!A()@999.end}" 20 14
  pub mixed : RefusedAt "+{!A()@1000.end,!B().end}" 20 24
  pub no_share : RefusedAt "+{!A()@0.end}" 19 7
  pub no_number : RefusedAt "+{!A()@05.end}" 2 7
  pub editions_read : EditionsRead
  pub Q_reads : Reads Q_text × (states_of Q ≡ 3)
  pub Q_view : view Q ≡ P_under 2

pub read : Read
unfolding P E Q every same matched some_one upto sum_of T.within_kind T.of_choice T.shares_right T.known_edition label_of sort_of view empty_table T.letter_or_digit class_of run_of run_end word_kind word_token name_token number_kind number_token dots_token begin_at token_at tokens_from tokens packed word_of value_of signed_of offset in_kind in_count set_edition add_state add_branch add_share label_used choice_right denied not_read filled meaning unguarded closed token_formed grammar_allows edition_known name_bound guarded ranged share_ranged new_label within_limits shares_add first_no questions sign_of choice_sort kind_of target stored began taken run_tokens built reads
read =
    record {
      end_reads = (refl, refl);
      empty_text = refl;
      unguarded = refl;
      unbound = refl;
      label_twice = refl;
      range_empty = refl;
      range_of_one = refl;
      P_reads = (refl, refl);
      P_view = refl;
      E_view = refl;
      names_after_rec =
          record {
            straight = (refl, refl);
            through_several = (refl, refl);
            no_choice = refl;
            choice_outside = refl;
            own_binder = refl;
            four_first = refl;
          };
      shared = record { is_read = refl; seen = refl; states = refl; branches = refl; owners = (refl, refl); shares = (refl, refl) };
      halves = record { is_read = refl; seen = refl; states = refl; branches = refl; owners = (refl, refl); shares = (refl, refl) };
      unshared = record { is_read = refl; seen = refl; states = refl; branches = refl; owners = (refl, refl); shares = (refl, refl) };
      no_sum = refl;
      mixed = refl;
      no_share = refl;
      no_number = refl;
      editions_read =
          record {
            no_opening = (refl, refl);
            first = (refl, refl);
            second = (refl, refl);
            no_blank = refl;
            leading_zero = refl;
            no_number = refl;
            no_type = refl;
            twice = refl;
            elsewhere = refl;
            at_the_end = refl;
            third = refl;
            negative = refl;
            longer = refl;
          };
      Q_reads = (refl, refl);
      Q_view = refl;
    }

pub P_sound : sound_of P ≡ true
unfolding P
P_sound = read_sound (ascii P_text) read.P_reads.0

pub E_sound : sound_of E ≡ true
unfolding E
E_sound = read_sound (ascii "end") read.end_reads.0

pub Q_sound : sound_of Q ≡ true
unfolding Q
Q_sound = read_sound (ascii Q_text) read.Q_reads.0
