-- Steps at the start of P, under its edition.
-- Assumes nothing.
use mathlib.Core.Path.{◌≡◌, refl, ap, ap₂, ◌∙◌}
use mathlib.Core.Bool.{Bool, true}
use mathlib.Core.List.{List, [], ◌∷◌}
use mathlib.Core.Option.{none, some}
use Prim.Native.Nat.{ℕ, ◌≤◌, ◌<◌}
use native.Mathlib.Omega.{arith}
use lib.ListN.{length}
use lib.Dec.{ltb}
use Rattle.table.specs.Lists.{every, matched, same, first_no}
use Rattle.table.specs.Table.{sends, sort, speaker, is_party, within_kind, upper, letter_or_digit, label_rest, legal_label, is_choice}
use Rattle.table.specs.View.{Words, states_of, view, sound_of, sound_at}
use Rattle.table.proofs.laws.Lists.{join}
use Rattle.utf8.specs.Utf8.{octets, is_utf8}
use Rattle.message.specs.Message.{number_of, first_number, pair_up, count_of, values_of, read, text_bytes, announced, whole, legal_value, cut_up, texts_of, legal_values, exact, legal_texts, refusal}
use Rattle.message.specs.Judge.{same_kind, in_range, holds, names, carries, selected_from, selected, Judgement, allowed, forbidden, first_outside, by_range, by_fields, judge_among, judge}
use Rattle.message.specs.Make.{opening}
use Rattle.message.specs.Rules.{table_rules, judge_said}
use Rattle.table.specs.declared.Party.{Party}
use Rattle.table.specs.declared.Party.TheVariants.{Device, Host}
use Rattle.conversation.specs.declared.Standing.TheVariants.{Running, DeviceBlamed, HostBlamed}
use Rattle.conversation.proofs.laws.Step.{asked_then, all_well, not_formed, no_room, not_its_turn, refused_step, judged_as}
use Rattle.examples.specs.Twelve.{ask, ok, gives}
use Rattle.table.specs.Table as T
use Rattle.conversation.specs.Step as S
use Rattle.examples.specs.TableExamples.{P_under}

-- t is a table of P under the edition e
module _ (t : Words) (e : ℕ) (sound : sound_of t ≡ true) (states : states_of t ≡ 3) (seen : view t ≡ P_under e) where
  -- 9, 10 and 11 get a yes
  P_open : first_no (S.of_state t S.fresh) ≡ 0
  unfolding first_no S.of_state S.fresh S.is_running sound_at sort is_choice
  P_open = ap₂ opened (join sound (ap (λ n. ltb 0 n) states)) seen
    where
      opened : Bool → T.Table → ℕ
      opened b t = first_no ((9, b) ∷ (10, true) ∷ (11, is_choice (sort t 0)) ∷ [])

  -- and then the message is asked of at a state that sends
  P_asked : (side : Party) (message : List ℕ) (room : ℕ)
      → first_no (S.step_questions t S.fresh side message room) ≡ first_no (S.of_message e sends side message room)
  unfolding S.fresh sort
  P_asked side message room =
      asked_then t S.fresh side message room P_open ∙ ap (λ t. first_no (S.of_message t.edition (sort t 0) side message room)) seen

  -- a message that is judged, and one that is refused
  judged : (side : Party) (message out : List ℕ) (j : Judgement ℕ) → S.may_speak e sends side ≡ true → refusal message ≡ 0
      → length message ≤ length out → judge_said (table_rules (P_under e)) 0 (record { side = side; message = read message }) ≡ j
      → S.stepping t S.fresh side message out ≡ S.judging j S.fresh side message out
  unfolding S.fresh
  judged side message out j turn formed room h =
      judged_as t S.fresh side message out j (P_asked side message (length out) ∙ all_well e sends side message (length out) turn formed room)
      (ap (λ t. judge_said (table_rules t) 0 (record { side = side; message = read message })) seen ∙ h)

  turned_away : (side : Party) (message out : List ℕ) (q : ℕ) → first_no (S.of_message e sends side message (length out)) ≡ q → (q ≡ 0 → ⊥)
      → S.stepping t S.fresh side message out ≡ S.refusing q S.fresh out
  turned_away side message out q h n = refused_step t S.fresh side message out q (P_asked side message (length out) ∙ h) n

  -- Ask 100 takes branch 0
  pub asks_by : selected (view t) 0 (read (ask 100)) ≡ some 0
  unfolding selected selected_from carries holds names matched same same_kind in_range number_of first_number pair_up count_of values_of read
  asks_by = ap (λ t. selected t 0 (read (ask 100))) seen

  pub asks_100 : (out : List ℕ) → 14 ≤ length out
      → S.stepping t S.fresh Device (ask 100) out ≡ gives S.forwarded 1 Running (opening (ask 100) out)
  unfolding S.judging S.forwarding S.fresh every matched same within_kind upper letter_or_digit label_rest legal_label number_of
      first_number pair_up count_of values_of read text_bytes announced cut_up texts_of whole legal_value legal_values exact octets is_utf8 legal_texts
      refusal same_kind in_range names first_outside by_range by_fields judge_among judge judge_said first_no sort speaker is_party
  asks_100 out room = judged Device (ask 100) out (allowed 1) refl refl room refl

  pub asks_101 : (out : List ℕ) → 14 ≤ length out
      → S.stepping t S.fresh Device (ask 101) out ≡ gives (S.blamed Device 3 (some 0)) 0 DeviceBlamed out
  unfolding S.judging S.blaming S.blame S.fresh every matched same within_kind upper letter_or_digit label_rest legal_label number_of
      first_number pair_up count_of values_of read text_bytes announced cut_up texts_of whole legal_value legal_values exact octets is_utf8 legal_texts
      refusal same_kind in_range names first_outside by_range by_fields judge_among judge judge_said first_no sort speaker is_party
  asks_101 out room = judged Device (ask 101) out (forbidden 3 (some 0)) refl refl room refl

-- under edition 1 the host's Ok is refused
pub ok_first : (t : Words) → sound_of t ≡ true → states_of t ≡ 3 → view t ≡ P_under 1
    → (out : List ℕ) → S.stepping t S.fresh Host ok out ≡ gives (S.refused 12) 0 Running out
unfolding S.refusing speaker is_party S.fresh
ok_first t sound states seen out =
    turned_away t 1 sound states seen Host ok out 12 (not_its_turn 1 sends Host ok (length out) refl) (λ e. absurd (omega (arith, e)))

-- under edition 2 it is judged
module _ (t : Words) (sound : sound_of t ≡ true) (states : states_of t ≡ 3) (seen : view t ≡ P_under 2) where
  ok_formed : refusal ok ≡ 0
  unfolding every within_kind upper letter_or_digit label_rest legal_label number_of first_number pair_up count_of values_of text_bytes announced
      cut_up texts_of whole legal_value legal_values exact octets is_utf8 legal_texts refusal first_no
  ok_formed = refl

  pub ok_early : (out : List ℕ) → 9 ≤ length out → S.stepping t S.fresh Host ok out ≡ gives (S.blamed Host 4 none) 0 HostBlamed out
  unfolding S.judging S.blaming S.blame S.fresh judge_said sort speaker is_party
  ok_early out room = judged t 2 sound states seen Host ok out (forbidden 4 none) refl ok_formed room refl

  pub ok_no_room : (out : List ℕ) → length out < 9 → S.stepping t S.fresh Host ok out ≡ gives (S.refused 16) 0 Running out
  unfolding S.refusing S.fresh speaker is_party
  ok_no_room out short =
      turned_away t 2 sound states seen Host ok out 16 (no_room 2 sends Host ok (length out) refl ok_formed short) (λ e. absurd (omega (arith, e)))

  pub ok_broken : (out : List ℕ) → S.stepping t S.fresh Host [] out ≡ gives (S.refused 13) 0 Running out
  unfolding S.refusing S.fresh speaker is_party refusal whole announced first_no
  ok_broken out =
      turned_away t 2 sound states seen Host [] out 13 (not_formed 2 sends Host [] (length out) refl 13 refl (λ e. absurd (omega (arith, e))))
      (λ e. absurd (omega (arith, e)))
