-- The examples, computed. Printed by `tests/pins --proofs CodeExamples`. Assumes nothing.
use mathlib.Core.Path.{refl}
use Rattle.examples.specs.CodeExamples.{CodesTold, QuestionsNumbered, StepsInCodes, BatchesInCodes}
use Rattle.codes.specs.Calls as CodesCalls
use Rattle.conversation.specs.Batch as ConversationBatch
use Rattle.conversation.specs.Counts as ConversationCounts
use Rattle.conversation.specs.Due as ConversationDue
use Rattle.conversation.specs.Step as ConversationStep
use Rattle.message.specs.Judge as MessageJudge
use Rattle.message.specs.Make as MessageMake
use Rattle.message.specs.Message as MessageMessage
use Rattle.message.specs.Rules as MessageRules
use Rattle.table.specs.Lists as TableLists
use Rattle.table.specs.Table as TableTable
use Rattle.table.specs.View as TableView
use Rattle.utf8.specs.Utf8 as Utf8Utf8

pub codes_told : CodesTold
unfolding CodesCalls.due_codes ConversationDue.first_length MessageMake.high_of MessageMake.made_numbers MessageMessage.announced
    MessageMessage.count_of MessageMessage.first_number MessageMessage.front MessageMessage.legal_value MessageMessage.legal_values
    MessageMessage.number_of MessageMessage.pair_up MessageMessage.text_bytes MessageMessage.values_of MessageMessage.whole TableLists.every
    TableLists.first_no TableTable.label_rest TableTable.legal_label TableTable.letter_or_digit TableTable.upper TableTable.within_kind
codes_told =
    record {
      sides = (refl, refl, refl, refl);
      turns = (refl, refl, refl);
      states = (refl, refl, refl);
      states_in = (refl, refl, refl, refl);
      started = refl;
      verdicts = (refl, refl, refl, refl, refl);
      lasts = (refl, refl);
      warnings = (refl, refl, refl, refl);
      fields = (refl, refl, refl, refl, refl);
      heads = (refl, refl);
      fit_checks = (refl, refl, refl, refl);
      dues = (refl, refl, refl);
      made = (refl, refl, refl, refl);
    }

pub questions_numbered : QuestionsNumbered
unfolding ConversationCounts.started
questions_numbered =
    record {
      text = (refl, refl, refl, refl, refl, refl, refl, refl);
      state = (refl, refl, refl, refl);
      message = (refl, refl, refl);
      room = (refl, refl, refl);
      requests = (refl, refl, refl, refl, refl);
      answers = (refl, refl);
      heads = (refl, refl);
      begun = (refl, refl);
    }

pub steps_in_codes : StepsInCodes
unfolding CodesCalls.bytes_after CodesCalls.crossing CodesCalls.step_codes CodesCalls.stepping_as ConversationCounts.adds_up
    ConversationCounts.counted ConversationCounts.counted_step ConversationCounts.counts_sound ConversationCounts.legal_setting
    ConversationCounts.raised ConversationCounts.raised_at ConversationCounts.raised_by ConversationStep.blame ConversationStep.blaming
    ConversationStep.forwarding ConversationStep.is_running ConversationStep.judging ConversationStep.of_message ConversationStep.of_state
    ConversationStep.refusing ConversationStep.step_questions ConversationStep.stepping MessageJudge.allows MessageJudge.by_fields
    MessageJudge.by_range MessageJudge.carries MessageJudge.first_outside MessageJudge.goes MessageJudge.holds MessageJudge.in_range
    MessageJudge.judge MessageJudge.judge_among MessageJudge.names MessageJudge.same_kind MessageJudge.selected MessageJudge.selected_from
    MessageMake.opening MessageMessage.announced MessageMessage.count_of MessageMessage.cut_up MessageMessage.exact MessageMessage.first_number
    MessageMessage.legal_texts MessageMessage.legal_value MessageMessage.legal_values MessageMessage.number_of MessageMessage.pair_up
    MessageMessage.read MessageMessage.text_bytes MessageMessage.texts_of MessageMessage.values_of MessageMessage.whole MessageRules.judge_said
    TableLists.every TableLists.first_no TableLists.matched TableLists.same TableLists.some_one TableLists.sum_of TableLists.upto
    TableTable.choices_own TableTable.clash TableTable.is_choice TableTable.is_party TableTable.known_edition TableTable.label_rest
    TableTable.labels_differ TableTable.legal_branch TableTable.legal_field TableTable.legal_label TableTable.letter_or_digit TableTable.of_choice
    TableTable.shares_kept TableTable.shares_right TableTable.sort TableTable.sound TableTable.speaker TableTable.upper TableTable.within_kind
    TableView.known TableView.label_of TableView.regular_of TableView.sort_of TableView.sound_at TableView.sound_of TableView.view Utf8Utf8.is_utf8
    Utf8Utf8.octets Utf8Utf8.some_row Utf8Utf8.utf8_char Utf8Utf8.within
steps_in_codes =
    record {
      forwards = refl;
      blames = refl;
      refuses = refl;
      no_side = refl;
      no_side_at_end = refl;
      no_counts = refl;
    }

pub batches_in_codes : BatchesInCodes
unfolding CodesCalls.batch_codes CodesCalls.batch_crossing CodesCalls.batching_codes CodesCalls.bytes_for CodesCalls.stand_for
    ConversationBatch.at_side ConversationBatch.batch_questions ConversationBatch.batching ConversationBatch.begun ConversationBatch.each_side
    ConversationBatch.go_on ConversationBatch.lane_on ConversationBatch.latest ConversationBatch.lent ConversationBatch.one_turn
    ConversationBatch.set_side ConversationBatch.taking ConversationBatch.took ConversationBatch.turn_of ConversationBatch.turns
    ConversationBatch.used_by ConversationBatch.written_by ConversationCounts.adds_up ConversationCounts.counted ConversationCounts.counts_sound
    ConversationCounts.legal_setting ConversationCounts.raised ConversationCounts.raised_at ConversationCounts.raised_by ConversationDue.awaited
    ConversationDue.first_length ConversationDue.sender_awaited ConversationStep.blame ConversationStep.blaming ConversationStep.forwarding
    ConversationStep.is_running ConversationStep.judging ConversationStep.of_message ConversationStep.of_state ConversationStep.refusing
    ConversationStep.step_questions ConversationStep.stepping MessageJudge.allows MessageJudge.by_fields MessageJudge.by_range MessageJudge.carries
    MessageJudge.first_outside MessageJudge.goes MessageJudge.holds MessageJudge.in_range MessageJudge.judge MessageJudge.judge_among
    MessageJudge.names MessageJudge.same_kind MessageJudge.selected MessageJudge.selected_from MessageMake.opening MessageMessage.announced
    MessageMessage.count_of MessageMessage.cut_up MessageMessage.exact MessageMessage.first_number MessageMessage.front MessageMessage.legal_texts
    MessageMessage.legal_value MessageMessage.legal_values MessageMessage.number_of MessageMessage.pair_up MessageMessage.read
    MessageMessage.text_bytes MessageMessage.texts_of MessageMessage.values_of MessageMessage.whole MessageRules.judge_said TableLists.every
    TableLists.first_no TableLists.matched TableLists.same TableLists.some_one TableLists.sum_of TableLists.upto TableTable.choices_own
    TableTable.clash TableTable.is_choice TableTable.is_party TableTable.known_edition TableTable.label_rest TableTable.labels_differ
    TableTable.legal_branch TableTable.legal_field TableTable.legal_label TableTable.letter_or_digit TableTable.of_choice TableTable.shares_kept
    TableTable.shares_right TableTable.sort TableTable.sound TableTable.speaker TableTable.upper TableTable.within_kind TableView.known
    TableView.label_of TableView.regular_of TableView.sort_of TableView.sound_at TableView.sound_of TableView.view Utf8Utf8.is_utf8 Utf8Utf8.octets
    Utf8Utf8.some_row Utf8Utf8.utf8_char Utf8Utf8.within
batches_in_codes =
    record {
      blames_device = refl;
      blames_host = refl;
      blames_in_place = refl;
      refuses = refl;
    }
