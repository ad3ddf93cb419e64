-- The examples, computed. Printed by `tests/pins --proofs CountExamples`. Assumes nothing.
use mathlib.Core.Path.{refl}
use Rattle.examples.specs.CountExamples.{ConversationsStarted, CountsKept, CountsTallied, BranchesWarn, WarningsTold}
use Rattle.conversation.specs.Batches as ConversationBatches
use Rattle.conversation.specs.Conversation as ConversationConversation
use Rattle.conversation.specs.Counting as ConversationCounting
use Rattle.conversation.specs.Counts as ConversationCounts
use Rattle.conversation.specs.Due as ConversationDue
use Rattle.conversation.specs.Step as ConversationStep
use Rattle.conversation.specs.Warning as ConversationWarning
use Rattle.grammar.specs.Building as GrammarBuilding
use Rattle.grammar.specs.Filled as GrammarFilled
use Rattle.grammar.specs.Number as GrammarNumber
use Rattle.grammar.specs.Reading as GrammarReading
use Rattle.grammar.specs.Token as GrammarToken
use Rattle.grammar.specs.inner.Scanner as GrammarScanner
use Rattle.message.specs.Judge as MessageJudge
use Rattle.message.specs.Make as MessageMake
use Rattle.message.specs.Message as MessageMessage
use Rattle.message.specs.Rules as MessageRules
use Rattle.table.specs.Lists as TableLists
use Rattle.table.specs.Table as TableTable
use Rattle.table.specs.View as TableView
use Rattle.utf8.specs.Utf8 as Utf8Utf8

pub conversations_started : ConversationsStarted
unfolding ConversationCounts.fresh_counts ConversationCounts.legal_setting ConversationCounts.start_questions ConversationCounts.starting
    ConversationStep.fresh TableLists.every TableLists.first_no TableLists.matched TableLists.same TableLists.some_one TableLists.sum_of
    TableLists.upto TableTable.choices_own TableTable.clash TableTable.is_choice TableTable.known_edition TableTable.label_rest
    TableTable.labels_differ TableTable.legal_branch TableTable.legal_field TableTable.legal_label TableTable.letter_or_digit TableTable.of_choice
    TableTable.shares_kept TableTable.shares_right TableTable.sort TableTable.sound TableTable.upper TableTable.within_kind TableView.known
    TableView.label_of TableView.regular_of TableView.sort_of TableView.sound_of TableView.view
conversations_started =
    record {
      started = refl;
      least = refl;
      most = refl;
      zero = refl;
      above = refl;
      nine_first = refl;
      fresh_one = refl;
    }

pub counts_kept : CountsKept
unfolding ConversationCounts.adds_up ConversationCounts.counted ConversationCounts.counted_step ConversationCounts.counted_turn
    ConversationCounts.counts_sound ConversationCounts.legal_setting ConversationCounts.raised ConversationCounts.raised_at
    ConversationCounts.raised_by ConversationDue.awaited ConversationDue.sender_awaited ConversationStep.blame ConversationStep.blaming
    ConversationStep.forwarding ConversationStep.fresh ConversationStep.is_running ConversationStep.judging ConversationStep.of_message
    ConversationStep.of_state ConversationStep.refusing ConversationStep.step_questions ConversationStep.stepping MessageJudge.allows
    MessageJudge.by_fields MessageJudge.by_range MessageJudge.carries MessageJudge.first_outside MessageJudge.goes MessageJudge.holds
    MessageJudge.in_range MessageJudge.judge MessageJudge.judge_among MessageJudge.names MessageJudge.same_kind MessageJudge.selected
    MessageJudge.selected_from MessageMake.opening MessageMessage.announced MessageMessage.count_of MessageMessage.cut_up MessageMessage.exact
    MessageMessage.first_number MessageMessage.legal_texts MessageMessage.legal_value MessageMessage.legal_values MessageMessage.number_of
    MessageMessage.pair_up MessageMessage.read MessageMessage.text_bytes MessageMessage.texts_of MessageMessage.values_of MessageMessage.whole
    MessageRules.judge_said TableLists.every TableLists.first_no TableLists.matched TableLists.same TableLists.some_one TableLists.sum_of
    TableLists.upto TableTable.choices_own TableTable.clash TableTable.is_choice TableTable.is_party TableTable.known_edition TableTable.label_rest
    TableTable.labels_differ TableTable.legal_branch TableTable.legal_field TableTable.legal_label TableTable.letter_or_digit TableTable.of_choice
    TableTable.shares_kept TableTable.shares_right TableTable.sort TableTable.sound TableTable.speaker TableTable.upper TableTable.within_kind
    TableView.known TableView.label_of TableView.regular_of TableView.sort_of TableView.sound_at TableView.sound_of TableView.view Utf8Utf8.is_utf8
    Utf8Utf8.octets Utf8Utf8.some_row Utf8Utf8.utf8_char Utf8Utf8.within
counts_kept =
    record {
      first_choice = refl;
      second_choice = refl;
      last_raised = refl;
      no_longer = refl;
      not_blamed = refl;
      not_refused = refl;
      no_sum = refl;
      too_many = (refl, refl);
      each_choice = (refl, refl, refl);
      settings = (refl, refl, refl, refl);
      of_the_end = refl;
      turns = (refl, refl, refl);
    }

pub counts_tallied : CountsTallied
unfolding ConversationBatches.counts_after ConversationConversation.conversation ConversationConversation.event ConversationConversation.is_forwarded
    ConversationConversation.played ConversationCounting.forwarded_at ConversationCounting.picked ConversationCounting.picks
    ConversationCounting.times ConversationCounts.counted ConversationCounts.fresh_counts ConversationCounts.raised ConversationCounts.raised_at
    ConversationCounts.raised_by ConversationStep.blame ConversationStep.blaming ConversationStep.forwarding ConversationStep.fresh
    ConversationStep.is_running ConversationStep.judging ConversationStep.of_message ConversationStep.of_state ConversationStep.refusing
    ConversationStep.step_questions ConversationStep.stepping MessageJudge.allows MessageJudge.by_fields MessageJudge.by_range MessageJudge.carries
    MessageJudge.first_outside MessageJudge.goes MessageJudge.holds MessageJudge.in_range MessageJudge.judge MessageJudge.judge_among
    MessageJudge.names MessageJudge.same_kind MessageJudge.selected MessageJudge.selected_from MessageMake.opening MessageMessage.announced
    MessageMessage.count_of MessageMessage.cut_up MessageMessage.exact MessageMessage.first_number MessageMessage.legal_texts
    MessageMessage.legal_value MessageMessage.legal_values MessageMessage.number_of MessageMessage.pair_up MessageMessage.read
    MessageMessage.text_bytes MessageMessage.texts_of MessageMessage.values_of MessageMessage.whole MessageRules.judge_said TableLists.every
    TableLists.first_no TableLists.matched TableLists.same TableLists.some_one TableLists.sum_of TableLists.upto TableTable.choices_own
    TableTable.clash TableTable.is_choice TableTable.is_party TableTable.known_edition TableTable.label_rest TableTable.labels_differ
    TableTable.legal_branch TableTable.legal_field TableTable.legal_label TableTable.letter_or_digit TableTable.of_choice TableTable.shares_kept
    TableTable.shares_right TableTable.sort TableTable.sound TableTable.speaker TableTable.upper TableTable.within_kind TableView.known
    TableView.label_of TableView.regular_of TableView.sort_of TableView.sound_at TableView.sound_of TableView.view Utf8Utf8.is_utf8 Utf8Utf8.octets
    Utf8Utf8.some_row Utf8Utf8.utf8_char Utf8Utf8.within
counts_tallied =
    record {
      picked = (refl, refl);
      forwarded_ones = (refl, refl, refl);
      counted = refl;
      times = (refl, refl);
    }

pub branches_warn : BranchesWarn
unfolding ConversationWarning.difference ConversationWarning.estimate ConversationWarning.rounded ConversationWarning.square ConversationWarning.warns
branches_warn =
    record {
      seldom = refl;
      nearly = refl;
      close = (refl, refl, refl, refl);
      none_forwarded = refl;
      estimates = (refl, refl, refl, refl, refl, refl, refl);
    }

pub warnings_told : WarningsTold
unfolding ConversationCounts.adds_up ConversationCounts.counts_sound ConversationCounts.legal_setting ConversationStep.fresh
    ConversationWarning.difference ConversationWarning.estimate ConversationWarning.estimate_of ConversationWarning.notice
    ConversationWarning.notice_of ConversationWarning.rounded ConversationWarning.square ConversationWarning.warning
    ConversationWarning.warning_questions ConversationWarning.warns GrammarBuilding.add_branch GrammarBuilding.add_share GrammarBuilding.add_state
    GrammarBuilding.choice_right GrammarBuilding.denied GrammarBuilding.label_used GrammarBuilding.set_edition GrammarFilled.filled
    GrammarNumber.in_count GrammarNumber.in_kind GrammarNumber.offset GrammarNumber.signed_of GrammarNumber.value_of GrammarReading.began
    GrammarReading.built GrammarReading.choice_sort GrammarReading.closed GrammarReading.edition_known GrammarReading.grammar_allows
    GrammarReading.guarded GrammarReading.kind_of GrammarReading.meaning GrammarReading.name_bound GrammarReading.new_label GrammarReading.questions
    GrammarReading.ranged GrammarReading.reads GrammarReading.run_tokens GrammarReading.share_ranged GrammarReading.shares_add GrammarReading.sign_of
    GrammarReading.stored GrammarReading.taken GrammarReading.target GrammarReading.token_formed GrammarReading.unguarded GrammarReading.within_limits
    GrammarToken.packed GrammarToken.word_of GrammarScanner.begin_at GrammarScanner.class_of GrammarScanner.dots_token GrammarScanner.name_token
    GrammarScanner.number_kind GrammarScanner.number_token GrammarScanner.run_end GrammarScanner.run_of GrammarScanner.token_at GrammarScanner.tokens
    GrammarScanner.tokens_from GrammarScanner.word_kind GrammarScanner.word_token TableLists.every TableLists.first_no TableLists.matched
    TableLists.same TableLists.some_one TableLists.sum_of TableLists.upto TableTable.choices_own TableTable.clash TableTable.is_choice
    TableTable.known_edition TableTable.label_rest TableTable.labels_differ TableTable.legal_branch TableTable.legal_field TableTable.legal_label
    TableTable.letter_or_digit TableTable.of_choice TableTable.shares_kept TableTable.shares_right TableTable.sort TableTable.sound TableTable.speaker
    TableTable.upper TableTable.within_kind TableView.known TableView.label_of TableView.regular_of TableView.sort_of TableView.sound_at
    TableView.sound_of TableView.view
warnings_told =
    record {
      warned = refl;
      by_host = refl;
      nothing_yet = refl;
      no_share = refl;
      other_choice = refl;
      eighteen = refl;
      last_branch = refl;
      nine = (refl, refl);
      answers = (refl, refl, refl);
    }
