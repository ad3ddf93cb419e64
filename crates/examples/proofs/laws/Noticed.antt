-- What the call of a warning tells, over the table of a text with one choice of two branches.
-- Assumes nothing.
use mathlib.Core.Path.{◌≡◌, ◌∙◌}
use mathlib.Core.Bool.{Bool, true, false, ◌&&◌}
use mathlib.Core.Option.{some}
use Prim.Native.Nat.{ℕ, ◌+◌}
use Prim.Native.String.{String}
use lib.Dec.{eqb, leb}
use Rattle.table.specs.Ascii.{ascii}
use Rattle.table.specs.Lists.{every, upto, sum_of, first_no}
use Rattle.table.specs.Table.{is_choice, of_choice, sort, speaker}
use Rattle.table.specs.View.{sound_of, sound_at}
use Rattle.table.specs.declared.Party.TheVariants.{Device}
use Rattle.conversation.specs.Step.{fresh}
use Rattle.conversation.specs.Counts.{legal_setting, adds_up, counts_sound}
use Rattle.conversation.specs.Warning.{warns, estimate, refused, tells, notice, warning_questions, warning}
use Rattle.grammar.proofs.laws.Reads.{read_sound}
use Rattle.examples.specs.Twelve.{table}
use Rattle.examples.specs.Requests.{two_counts, noticed}
use Rattle.examples.proofs.laws.TablesRead as R

module _ (s : String) (a b : ℕ) (x : R.Shared s a b) where
  sound : sound_of (table s) ≡ true
  sound = read_sound (ascii s) x.is_read

  -- 9 on the counts
  abbrev right : ℕ → ℕ → ℕ → ℕ → Bool
  right z n k l = legal_setting z && ((leb n 10000 && eqb (k + (l + 0)) n) && true)

  adds : (z n k l : ℕ) → counts_sound (table s) (two_counts z n k l) ≡ right z n k l
  unfolding counts_sound adds_up every upto is_choice sort of_choice sum_of
  adds z n k l = rw (x.states, x.branches, x.seen)

  module _ (z n k l : ℕ) where
    module _ (yes : right z n k l ≡ true) where
      pub of_first : noticed s (two_counts z n k l) 0 ≡ tells (warns z a n k) (some Device) (estimate n k)
      unfolding warning warning_questions first_no notice sound_at fresh sort speaker
      of_first = rw (sound, adds z n k l ∙ yes, x.states, x.branches, x.owners.0, x.shares.0, x.seen)

      pub of_second : noticed s (two_counts z n k l) 1 ≡ tells (warns z b n l) (some Device) (estimate n l)
      unfolding warning warning_questions first_no notice sound_at fresh sort speaker
      of_second = rw (sound, adds z n k l ∙ yes, x.states, x.branches, x.owners.1, x.shares.1, x.seen)

      pub of_third : noticed s (two_counts z n k l) 2 ≡ refused 18
      unfolding warning warning_questions first_no sound_at fresh
      of_third = rw (sound, adds z n k l ∙ yes, x.states, x.branches)

    pub of_none : right z n k l ≡ false → (i : ℕ) → noticed s (two_counts z n k l) i ≡ refused 9
    unfolding warning warning_questions first_no sound_at fresh
    of_none e i = rw (sound, adds z n k l ∙ e, x.states)
