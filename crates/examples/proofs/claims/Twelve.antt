-- The twelve hold. Texts and steps compute. Of the fit check, P's reachable pairs are those of each state with itself, and the machine
-- of `end` and P is jammed before any move; either settles which answer can be given.
-- Assumes nothing.
use mathlib.Core.Path.{◌≡◌, refl, sym, ap, ap₂, subst, subst₂, ◌∙◌}
use mathlib.Core.Bool.{true, false}
use mathlib.Core.List.{List, [], ◌∷◌}
use mathlib.Core.Option.{Option, none, some}
use Prim.Native.Nat.{ℕ, zero, suc, ◌*◌, ◌≤◌, ◌<◌, zero-le}
use native.Mathlib.Omega.{arith}
use lib.ListN.{length}
use lib.Dec.{eqb}
use borrow.Author.Tests.{eqb-true, eq-eqb, le-leb, ltb-true}
use Rattle.bits.specs.Digits.{sum}
use Rattle.table.specs.Lists.{every, matched, same, first_no}
use Rattle.table.specs.Table.{sort_code, same_sort, sort, within_kind, upper, letter_or_digit, label_rest, legal_label}
use Rattle.table.specs.View.{Words, states_of, view, sound_of}
use Rattle.table.proofs.laws.Lists.{never}
use Rattle.message.specs.Message.{number_of, first_number, pair_up, count_of, values_of, read, text_bytes, announced, whole, legal_value, cut_up, texts_of, legal_values, exact, legal_texts, well_formed}
use Rattle.utf8.specs.Utf8.{octets, is_utf8}
use Rattle.message.specs.Judge.{same_kind, in_range, holds, names, carries, goes, allows}
use Rattle.message.specs.Make.{opening}
use Rattle.message.specs.Rules.{Rules, table_rules}
use Rattle.table.specs.declared.Party.TheVariants.{Device, Host}
use Rattle.conversation.specs.declared.Standing.TheVariants.{Running, DeviceBlamed}
use Rattle.machine.specs.Machine.{jammed, Move, from_device, by_side, effect, arrived, fresh_machine, while_running, does, after, move, moves, play, run, is_forward, all_forwarded, bad, Fewest}
use Rattle.machine.specs.Fit.{both_are, right, Reachable, Fits, pairs, Count, shown, of_speakers, shown_moves, but_last, last_count, field_named}
use Rattle.machine.specs.Answer.{Answer, refused, fits, fails, fit_questions, Answered}
use Rattle.machine.proofs.laws.Safe.{fits_safe}
use Rattle.machine.proofs.claims.OneCount.{one_count}
use Rattle.machine.proofs.claims.FitsItself.{fits_itself}
use Rattle.machine.proofs.laws.Itself.{reachable_itself}
use Rattle.examples.specs.Twelve.{P, E, ask, ok, Answers, Twelve}
use Rattle.table.specs.Table as T
use Rattle.examples.specs.TableExamples.{P_seen}
use Rattle.examples.proofs.laws.StepsOfP.{asks_by, asks_100, asks_101, ok_first}
use Rattle.examples.proofs.laws.FirstStep.{first_refused, first_blamed, first_forwarded}
use Rattle.examples.proofs.laws.TablesRead as R

-- ---- the fit check

all_asked : (d p : Words) (room : ℕ) → sound_of d ≡ true → sound_of p ≡ true → states_of d * states_of p ≤ room
    → first_no (fit_questions d p room) ≡ 0
unfolding fit_questions first_no
all_asked d p room sd sp l = rw (sd, sp, le-leb (states_of d * states_of p) room l)

-- P's rules
abbrev PP : Rules ℕ
PP = table_rules P_seen

-- P's pairs: Ask leads from 0 to 1, Quit from 0 to 2
quit : List ℕ
quit = 81 ∷ 117 ∷ 105 ∷ 116 ∷ 0 ∷ 0 ∷ 0 ∷ 0 ∷ 0 ∷ []

-- a list of moves of P's own, each forwarded, that leads P and P to one state
by_moves : (i : ℕ) (vs : List Move) → all_forwarded PP PP (fresh_machine PP PP) vs ≡ true → (run PP PP vs).state ≡ i
    → (run PP PP vs).position ≡ i
    → Reachable P_seen P_seen i i
by_moves i vs f s p = record { by = vs; forwarded = f; state = s; position = p }

reachable : (i : ℕ) → i < 3 → Reachable P_seen P_seen i i
unfolding quit all_forwarded is_forward run play move after does while_running arrived fresh_machine effect by_side from_device
    same_sort sort_code allows goes carries holds names well_formed sort every matched same within_kind upper letter_or_digit
    label_rest legal_label number_of first_number pair_up count_of values_of read text_bytes announced cut_up texts_of whole legal_value
    legal_values exact octets is_utf8 legal_texts same_kind in_range
reachable zero l = by_moves 0 [] refl refl refl
reachable (suc zero) l = by_moves 1 (record { side = Device; bytes = ask 100 } ∷ []) refl refl refl
reachable (suc (suc zero)) l = by_moves 2 (record { side = Device; bytes = quit } ∷ []) refl refl refl
reachable (suc (suc (suc i))) l = absurd (omega (arith, l))

P_seen_count : Count P_seen P_seen 3
unfolding pairs sum
P_seen_count =
    record {
      met = λ i j. eqb i j;
      met_exactly = λ i j k l. (
        λ e. subst (λ (j : ℕ). Reachable P_seen P_seen i j) (eqb-true i j e) (reachable i k),
        λ r. eq-eqb i j (reachable_itself P_seen r),
      );
      is = refl;
    }

P_count : Count (view P) (view P) 3
P_count = rw (R.read).P_view P_seen_count

P_fits_P : Answers P P (fits 3)
unfolding Answered
P_fits_P list after r room = (only r, λ e. subst₂ (λ (r : Answer) (l : List ℕ). Answered P P list l r) (sym e.0) (sym e.1) answer)
  where
    asked : first_no (fit_questions P P (length list)) ≡ 0
    asked = all_asked P P (length list) R.P_sound R.P_sound room

    only : (r : Answer) → Answered P P list after r → (r ≡ fits 3) × (after ≡ list)
    only (refused q) a = absurd (a.a_no (sym a.question ∙ asked))
    only (fits c) a = (ap fits (one_count (view P) (view P) c 3 a.count P_count), a.unchanged)
    only (fails K h) a =
        never a.failing.ends_badly
        (fits_safe (view P) (view P) (fits_itself P R.P_sound) (shown_moves (view P) (view P) a.numbers h))

    answer : Answered P P list list (fits 3)
    answer = record { asked = asked; it_fits = fits_itself P R.P_sound; count = P_count; unchanged = refl }

-- the sorts differ at (0, 0)
E_jams : (run (table_rules (view E)) (table_rules (view P)) []).standing ≡ jammed
unfolding run play fresh_machine arrived same_sort sort_code sort
E_jams = rw ((R.read).E_view, (R.read).P_view)

E_wrong : right (view E) (view P) 0 0 ≡ false
unfolding right both_are same_sort sort_code sort
E_wrong = rw ((R.read).E_view, (R.read).P_view)

E_bad : bad (run (table_rules (view E)) (table_rules (view P)) []).standing ≡ true
unfolding bad
E_bad = rw E_jams

-- (0, 0) is reachable
at_start : {d p : T.Table} → Reachable d p 0 0
unfolding all_forwarded run play fresh_machine arrived
at_start = record { by = []; forwarded = refl; state = refl; position = refl }

-- no field of no move is named
no_field : (h : Option ℕ) → field_named h 0 ≡ true → h ≡ none
unfolding field_named
no_field none e = refl
no_field (some f) e = absurd (omega (arith, ltb-true f 0 e))

end_against_P : Answers E P (fails 0 none)
unfolding Answered Fits Fewest moves every opening shown of_speakers last_count field_named all_forwarded but_last
end_against_P list after r room =
    (only r, λ e. subst₂ (λ (r : Answer) (l : List ℕ). Answered E P list l r) (sym e.0) (sym e.1) answer)
  where
    asked : first_no (fit_questions E P (length list)) ≡ 0
    asked = all_asked E P (length list) R.E_sound R.P_sound room

    -- no move is shown
    none_shown : (h : Option ℕ) (ks : List ℕ) → length ks ≡ 0 → field_named h (last_count (shown_moves (view E) (view P) ks h)) ≡ true
        → after ≡ opening ks list → (h ≡ none) × (after ≡ list)
    none_shown h [] z n l = (no_field h n, l)
    none_shown h (k ∷ ks) z n l = absurd (omega (arith, z))

    only : (r : Answer) → Answered E P list after r → (r ≡ fails 0 none) × (after ≡ list)
    only (refused q) a = absurd (a.a_no (sym a.question ∙ asked))
    only (fits c) a = never (a.it_fits 0 0 at_start) E_wrong
    only (fails K h) a =
        let z : K ≡ 0 = omega (arith, a.fewest [] refl E_bad) in
        let x = none_shown h a.numbers (a.many ∙ z) a.failing.field_is_there a.list in
        (ap₂ fails z x.0, x.1)

    answer : Answered E P list list (fails 0 none)
    answer =
        record {
          asked = asked;
          numbers = [];
          many = refl;
          played = refl;
          within = zero-le;
          list = refl;
          failing = record { branches = refl; real = refl; forwarded = refl; ends_badly = E_bad; field_is_there = refl };
          fewest = λ vs w b. zero-le;
        }

-- ---- the twelve

pub twelve : Twelve
twelve =
    let P_states = (R.read).P_reads.1 in
    let P_view = (R.read).P_view in
    record {
      end_reads = (R.read).end_reads;
      empty_text = (R.read).empty_text;
      unguarded = (R.read).unguarded;
      unbound = (R.read).unbound;
      label_twice = (R.read).label_twice;
      range_empty = (R.read).range_empty;
      range_of_one = (R.read).range_of_one;
      ask_100 = (
        (R.read).P_reads.0,
        λ out room.
            first_forwarded P R.P_sound Device (ask 100) out 1 Running (opening (ask 100) out) (asks_by P 1 R.P_sound P_states P_view)
            (asks_100 P 1 R.P_sound P_states P_view out room),
      );
      ask_101 = λ out room.
          first_blamed P R.P_sound Device (ask 101) out Device 3 (some 0) 0 DeviceBlamed (asks_101 P 1 R.P_sound P_states P_view out room);
      ok_first = λ out. first_refused P R.P_sound Host ok out 12 0 Running (ok_first P R.P_sound P_states P_view out);
      P_fits_P = P_fits_P;
      end_jams = (end_against_P, E_jams);
    }
