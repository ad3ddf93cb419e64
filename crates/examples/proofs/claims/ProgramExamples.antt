-- The examples, computed. Printed by `tests/pins --proofs ProgramExamples`. Assumes nothing.
use mathlib.Core.Path.{refl}
use Rattle.examples.specs.ProgramExamples.{ProgramsRun, ProgramsInCodes}
use Rattle.codes.specs.Calls as CodesCalls
use Rattle.codes.specs.RawPrograms as CodesRawPrograms
use Rattle.conversation.specs.Batch as ConversationBatch
use Rattle.conversation.specs.Counts as ConversationCounts
use Rattle.conversation.specs.Due as ConversationDue
use Rattle.conversation.specs.Programs as ConversationPrograms
use Rattle.conversation.specs.Step as ConversationStep
use Rattle.message.specs.Judge as MessageJudge
use Rattle.message.specs.Make as MessageMake
use Rattle.message.specs.Message as MessageMessage
use Rattle.message.specs.Rules as MessageRules
use Rattle.table.specs.Lists as TableLists
use Rattle.table.specs.Table as TableTable
use Rattle.table.specs.View as TableView
use Rattle.together.specs.Unblamed as TogetherUnblamed
use Rattle.utf8.specs.Utf8 as Utf8Utf8

pub programs_run : ProgramsRun
unfolding ConversationBatch.at_side ConversationBatch.batch_questions ConversationBatch.batching ConversationBatch.begun ConversationBatch.each_side
    ConversationBatch.go_on ConversationBatch.lane_on ConversationBatch.latest ConversationBatch.lent ConversationBatch.one_turn
    ConversationBatch.set_side ConversationBatch.taking ConversationBatch.took ConversationBatch.turn_of ConversationBatch.turns
    ConversationBatch.used_by ConversationBatch.written_by ConversationCounts.adds_up ConversationCounts.counted ConversationCounts.counted_step
    ConversationCounts.counts_sound ConversationCounts.fresh_counts ConversationCounts.legal_setting ConversationCounts.raised
    ConversationCounts.raised_at ConversationCounts.raised_by ConversationCounts.start_questions ConversationCounts.starting ConversationDue.awaited
    ConversationDue.first_length ConversationDue.sender_awaited ConversationPrograms.awaited_by ConversationPrograms.called
    ConversationPrograms.given_counts ConversationPrograms.given_state ConversationPrograms.program ConversationPrograms.run_on ConversationStep.blame
    ConversationStep.blaming ConversationStep.forwarding ConversationStep.fresh ConversationStep.is_running ConversationStep.judging
    ConversationStep.of_message ConversationStep.of_state ConversationStep.refusing ConversationStep.step_questions ConversationStep.stepping
    MessageJudge.allows MessageJudge.by_fields MessageJudge.by_range MessageJudge.carries MessageJudge.first_outside MessageJudge.goes
    MessageJudge.holds MessageJudge.in_range MessageJudge.judge MessageJudge.judge_among MessageJudge.names MessageJudge.same_kind
    MessageJudge.selected MessageJudge.selected_from MessageMake.opening MessageMessage.announced MessageMessage.count_of MessageMessage.cut_up
    MessageMessage.exact MessageMessage.first_number MessageMessage.front MessageMessage.legal_texts MessageMessage.legal_value
    MessageMessage.legal_values MessageMessage.number_of MessageMessage.pair_up MessageMessage.read MessageMessage.text_bytes MessageMessage.texts_of
    MessageMessage.values_of MessageMessage.whole MessageRules.judge_said TableLists.every TableLists.first_no TableLists.matched TableLists.same
    TableLists.some_one TableLists.sum_of TableLists.upto TableTable.choices_own TableTable.clash TableTable.is_choice TableTable.is_party
    TableTable.known_edition TableTable.label_rest TableTable.labels_differ TableTable.legal_branch TableTable.legal_field TableTable.legal_label
    TableTable.letter_or_digit TableTable.of_choice TableTable.shares_kept TableTable.shares_right TableTable.sort TableTable.sound TableTable.speaker
    TableTable.upper TableTable.within_kind TableView.known TableView.label_of TableView.regular_of TableView.sort_of TableView.sound_at
    TableView.sound_of TableView.view TogetherUnblamed.told_last Utf8Utf8.is_utf8 Utf8Utf8.octets Utf8Utf8.some_row Utf8Utf8.utf8_char Utf8Utf8.within
programs_run =
    record {
      mixed = refl;
      turns_by = (refl, refl, refl, refl);
      lasts = (refl, refl, refl);
    }

pub programs_in_codes : ProgramsInCodes
unfolding CodesCalls.batch_codes CodesCalls.batch_crossing CodesCalls.batching_codes CodesCalls.bytes_after CodesCalls.bytes_for CodesCalls.crossing
    CodesCalls.due_codes CodesCalls.stand_for CodesCalls.step_codes CodesCalls.stepping_as CodesRawPrograms.call_of CodesRawPrograms.calls_of
    CodesRawPrograms.kept_after CodesRawPrograms.kept_from CodesRawPrograms.raw_called ConversationBatch.at_side ConversationBatch.batch_questions
    ConversationBatch.batching ConversationBatch.begun ConversationBatch.each_side ConversationBatch.go_on ConversationBatch.lane_on
    ConversationBatch.latest ConversationBatch.lent ConversationBatch.one_turn ConversationBatch.set_side ConversationBatch.taking
    ConversationBatch.took ConversationBatch.turn_of ConversationBatch.turns ConversationBatch.used_by ConversationBatch.written_by
    ConversationCounts.adds_up ConversationCounts.counted ConversationCounts.counted_step ConversationCounts.counted_turn
    ConversationCounts.counts_sound ConversationCounts.fresh_counts ConversationCounts.legal_setting ConversationCounts.raised
    ConversationCounts.raised_at ConversationCounts.raised_by ConversationCounts.start_questions ConversationCounts.starting ConversationDue.awaited
    ConversationDue.first_length ConversationDue.sender_awaited ConversationStep.blame ConversationStep.blaming ConversationStep.forwarding
    ConversationStep.fresh ConversationStep.is_running ConversationStep.judging ConversationStep.of_message ConversationStep.of_state
    ConversationStep.refusing ConversationStep.step_questions ConversationStep.stepping MessageJudge.allows MessageJudge.by_fields
    MessageJudge.by_range MessageJudge.carries MessageJudge.first_outside MessageJudge.goes MessageJudge.holds MessageJudge.in_range
    MessageJudge.judge MessageJudge.judge_among MessageJudge.names MessageJudge.same_kind MessageJudge.selected MessageJudge.selected_from
    MessageMake.opening MessageMessage.announced MessageMessage.count_of MessageMessage.cut_up MessageMessage.exact MessageMessage.first_number
    MessageMessage.front MessageMessage.legal_texts MessageMessage.legal_value MessageMessage.legal_values MessageMessage.number_of
    MessageMessage.pair_up MessageMessage.read MessageMessage.text_bytes MessageMessage.texts_of MessageMessage.values_of MessageMessage.whole
    MessageRules.judge_said TableLists.every TableLists.first_no TableLists.matched TableLists.same TableLists.some_one TableLists.sum_of
    TableLists.upto TableTable.choices_own TableTable.clash TableTable.is_choice TableTable.is_party TableTable.known_edition TableTable.label_rest
    TableTable.labels_differ TableTable.legal_branch TableTable.legal_field TableTable.legal_label TableTable.letter_or_digit TableTable.of_choice
    TableTable.shares_kept TableTable.shares_right TableTable.sort TableTable.sound TableTable.speaker TableTable.upper TableTable.within_kind
    TableView.known TableView.label_of TableView.regular_of TableView.sort_of TableView.sound_at TableView.sound_of TableView.view Utf8Utf8.is_utf8
    Utf8Utf8.octets Utf8Utf8.some_row Utf8Utf8.utf8_char Utf8Utf8.within
programs_in_codes =
    record {
      made_of = refl;
      begins = refl;
      goes_along = refl;
      answers = (refl, refl, refl);
    }
