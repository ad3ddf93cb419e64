-- The examples, computed. Printed by `tests/pins --proofs BatchExamples`. Assumes nothing.
use mathlib.Core.Path.{refl}
use Rattle.examples.specs.BatchExamples.{BatchesTaken, BatchesAsked}
use Rattle.conversation.specs.Batch as ConversationBatch
use Rattle.conversation.specs.Counts as ConversationCounts
use Rattle.conversation.specs.Due as ConversationDue
use Rattle.conversation.specs.Step as ConversationStep
use Rattle.grammar.specs.Building as GrammarBuilding
use Rattle.grammar.specs.Filled as GrammarFilled
use Rattle.grammar.specs.Number as GrammarNumber
use Rattle.grammar.specs.Reading as GrammarReading
use Rattle.grammar.specs.Token as GrammarToken
use Rattle.grammar.specs.inner.Scanner as GrammarScanner
use Rattle.message.specs.Judge as MessageJudge
use Rattle.message.specs.Make as MessageMake
use Rattle.message.specs.Message as MessageMessage
use Rattle.message.specs.Rules as MessageRules
use Rattle.table.specs.Lists as TableLists
use Rattle.table.specs.Table as TableTable
use Rattle.table.specs.View as TableView
use Rattle.utf8.specs.Utf8 as Utf8Utf8

pub batches_taken : BatchesTaken
unfolding ConversationBatch.at_side ConversationBatch.batch_questions ConversationBatch.batching ConversationBatch.begun ConversationBatch.each_side
    ConversationBatch.go_on ConversationBatch.lane_on ConversationBatch.latest ConversationBatch.lent ConversationBatch.one_turn
    ConversationBatch.set_side ConversationBatch.taking ConversationBatch.took ConversationBatch.turn_of ConversationBatch.turns
    ConversationBatch.used_by ConversationBatch.written_by ConversationCounts.adds_up ConversationCounts.counted ConversationCounts.counts_sound
    ConversationCounts.legal_setting ConversationCounts.raised ConversationCounts.raised_at ConversationCounts.raised_by ConversationDue.awaited
    ConversationDue.first_length ConversationDue.sender_awaited ConversationStep.blame ConversationStep.blaming ConversationStep.forwarding
    ConversationStep.fresh ConversationStep.is_running ConversationStep.judging ConversationStep.of_message ConversationStep.of_state
    ConversationStep.refusing ConversationStep.step_questions ConversationStep.stepping GrammarBuilding.add_branch GrammarBuilding.add_share
    GrammarBuilding.add_state GrammarBuilding.choice_right GrammarBuilding.denied GrammarBuilding.label_used GrammarBuilding.set_edition
    GrammarFilled.filled GrammarNumber.in_count GrammarNumber.in_kind GrammarNumber.offset GrammarNumber.signed_of GrammarNumber.value_of
    GrammarReading.began GrammarReading.built GrammarReading.choice_sort GrammarReading.closed GrammarReading.edition_known
    GrammarReading.grammar_allows GrammarReading.guarded GrammarReading.kind_of GrammarReading.meaning GrammarReading.name_bound
    GrammarReading.new_label GrammarReading.questions GrammarReading.ranged GrammarReading.reads GrammarReading.run_tokens GrammarReading.share_ranged
    GrammarReading.shares_add GrammarReading.sign_of GrammarReading.stored GrammarReading.taken GrammarReading.target GrammarReading.token_formed
    GrammarReading.unguarded GrammarReading.within_limits GrammarToken.packed GrammarToken.word_of GrammarScanner.begin_at GrammarScanner.class_of
    GrammarScanner.dots_token GrammarScanner.name_token GrammarScanner.number_kind GrammarScanner.number_token GrammarScanner.run_end
    GrammarScanner.run_of GrammarScanner.token_at GrammarScanner.tokens GrammarScanner.tokens_from GrammarScanner.word_kind GrammarScanner.word_token
    MessageJudge.allows MessageJudge.by_fields MessageJudge.by_range MessageJudge.carries MessageJudge.first_outside MessageJudge.goes
    MessageJudge.holds MessageJudge.in_range MessageJudge.judge MessageJudge.judge_among MessageJudge.names MessageJudge.same_kind
    MessageJudge.selected MessageJudge.selected_from MessageMake.opening MessageMessage.announced MessageMessage.count_of MessageMessage.cut_up
    MessageMessage.exact MessageMessage.first_number MessageMessage.front MessageMessage.legal_texts MessageMessage.legal_value
    MessageMessage.legal_values MessageMessage.number_of MessageMessage.pair_up MessageMessage.read MessageMessage.text_bytes MessageMessage.texts_of
    MessageMessage.values_of MessageMessage.whole MessageRules.judge_said TableLists.every TableLists.first_no TableLists.matched TableLists.same
    TableLists.some_one TableLists.sum_of TableLists.upto TableTable.choices_own TableTable.clash TableTable.is_choice TableTable.is_party
    TableTable.known_edition TableTable.label_rest TableTable.labels_differ TableTable.legal_branch TableTable.legal_field TableTable.legal_label
    TableTable.letter_or_digit TableTable.of_choice TableTable.shares_kept TableTable.shares_right TableTable.sort TableTable.sound TableTable.speaker
    TableTable.upper TableTable.within_kind TableView.known TableView.label_of TableView.regular_of TableView.sort_of TableView.sound_at
    TableView.sound_of TableView.view Utf8Utf8.is_utf8 Utf8Utf8.octets Utf8Utf8.some_row Utf8Utf8.utf8_char Utf8Utf8.within
batches_taken =
    record {
      blamed_device = refl;
      blamed_host = refl;
      all_forwarded = refl;
      none_due = refl;
      none_early = refl;
      at_an_end = refl;
      no_room = refl;
      no_text = refl;
      device_alone = refl;
      host_alone = refl;
      to_the_end = refl;
    }

pub batches_asked : BatchesAsked
unfolding ConversationBatch.at_side ConversationBatch.batch_questions ConversationBatch.batched ConversationBatch.batching ConversationBatch.begun
    ConversationBatch.each_side ConversationBatch.go_on ConversationBatch.lane_on ConversationBatch.last_of ConversationBatch.latest
    ConversationBatch.lent ConversationBatch.one_turn ConversationBatch.set_side ConversationBatch.taking ConversationBatch.took
    ConversationBatch.turn_of ConversationBatch.turns ConversationBatch.used_by ConversationBatch.written_by ConversationCounts.adds_up
    ConversationCounts.counted ConversationCounts.counts_sound ConversationCounts.legal_setting ConversationCounts.raised ConversationCounts.raised_at
    ConversationCounts.raised_by ConversationDue.awaited ConversationDue.first_length ConversationDue.sender_awaited ConversationStep.blame
    ConversationStep.blaming ConversationStep.forwarding ConversationStep.is_running ConversationStep.judging ConversationStep.of_message
    ConversationStep.of_state ConversationStep.outside ConversationStep.reason ConversationStep.refusing ConversationStep.step_questions
    ConversationStep.stepping ConversationStep.told MessageJudge.allows MessageJudge.by_fields MessageJudge.by_range MessageJudge.carries
    MessageJudge.first_outside MessageJudge.goes MessageJudge.holds MessageJudge.in_range MessageJudge.judge MessageJudge.judge_among
    MessageJudge.names MessageJudge.same_kind MessageJudge.selected MessageJudge.selected_from MessageMake.opening MessageMessage.announced
    MessageMessage.count_of MessageMessage.cut_up MessageMessage.exact MessageMessage.first_number MessageMessage.front MessageMessage.legal_texts
    MessageMessage.legal_value MessageMessage.legal_values MessageMessage.number_of MessageMessage.pair_up MessageMessage.read
    MessageMessage.text_bytes MessageMessage.texts_of MessageMessage.values_of MessageMessage.whole MessageRules.judge_said TableLists.every
    TableLists.first_no TableLists.matched TableLists.same TableLists.some_one TableLists.sum_of TableLists.upto TableTable.choices_own
    TableTable.clash TableTable.is_choice TableTable.is_party TableTable.known_edition TableTable.label_rest TableTable.labels_differ
    TableTable.legal_branch TableTable.legal_field TableTable.legal_label TableTable.letter_or_digit TableTable.of_choice TableTable.shares_kept
    TableTable.shares_right TableTable.sort TableTable.sound TableTable.speaker TableTable.upper TableTable.within_kind TableView.known
    TableView.label_of TableView.regular_of TableView.sort_of TableView.sound_at TableView.sound_of TableView.view Utf8Utf8.is_utf8 Utf8Utf8.octets
    Utf8Utf8.some_row Utf8Utf8.utf8_char Utf8Utf8.within
batches_asked =
    record {
      ten = refl;
      nine = refl;
      nine_of_position = refl;
      answers = (refl, refl);
      numbers = refl;
    }
