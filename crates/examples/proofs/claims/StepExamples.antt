-- The examples, computed. Printed by `tests/pins --proofs StepExamples`. Assumes nothing.
use mathlib.Core.Path.{refl}
use Rattle.examples.specs.StepExamples.{JudgedMessages, StepsAsked, StepsJudged, DueParts, ListsLed, ConversationsHeld}
use Rattle.conversation.specs.Conversation as ConversationConversation
use Rattle.conversation.specs.Due as ConversationDue
use Rattle.conversation.specs.Step as ConversationStep
use Rattle.message.specs.Judge as MessageJudge
use Rattle.message.specs.Make as MessageMake
use Rattle.message.specs.Message as MessageMessage
use Rattle.message.specs.Rules as MessageRules
use Rattle.table.specs.Lists as TableLists
use Rattle.table.specs.Table as TableTable
use Rattle.table.specs.View as TableView
use Rattle.utf8.specs.Utf8 as Utf8Utf8

pub judged_messages : JudgedMessages
unfolding ConversationStep.outside ConversationStep.reason ConversationStep.told MessageJudge.allows MessageJudge.by_fields MessageJudge.by_range
    MessageJudge.carries MessageJudge.first_outside MessageJudge.goes MessageJudge.holds MessageJudge.in_range MessageJudge.judge
    MessageJudge.judge_among MessageJudge.names MessageJudge.same_kind MessageJudge.selected MessageJudge.selected_from TableLists.matched
    TableLists.same
judged_messages =
    record {
      inside = (refl, refl);
      outside = (refl, refl, refl, refl);
      others = (refl, refl, refl, refl);
      no_label = (refl, refl);
      allowed_to = (refl, refl, refl, refl, refl);
      by_number = (refl, refl, refl);
      reasons = (refl, refl, refl, refl, refl, refl);
    }

pub steps_asked : StepsAsked
unfolding ConversationStep.blame ConversationStep.blaming ConversationStep.forwarding ConversationStep.fresh ConversationStep.is_running
    ConversationStep.judging ConversationStep.of_message ConversationStep.of_state ConversationStep.refusing ConversationStep.step_questions
    ConversationStep.stepping MessageJudge.allows MessageJudge.by_fields MessageJudge.by_range MessageJudge.carries MessageJudge.first_outside
    MessageJudge.goes MessageJudge.holds MessageJudge.in_range MessageJudge.judge MessageJudge.judge_among MessageJudge.names MessageJudge.same_kind
    MessageMake.opening MessageMessage.announced MessageMessage.count_of MessageMessage.cut_up MessageMessage.exact MessageMessage.first_number
    MessageMessage.legal_texts MessageMessage.legal_value MessageMessage.legal_values MessageMessage.number_of MessageMessage.pair_up
    MessageMessage.read MessageMessage.text_bytes MessageMessage.texts_of MessageMessage.values_of MessageMessage.whole MessageRules.judge_said
    TableLists.every TableLists.first_no TableLists.matched TableLists.same TableLists.some_one TableLists.sum_of TableLists.upto
    TableTable.choices_own TableTable.clash TableTable.is_choice TableTable.is_party TableTable.known_edition TableTable.label_rest
    TableTable.labels_differ TableTable.legal_branch TableTable.legal_field TableTable.legal_label TableTable.letter_or_digit TableTable.of_choice
    TableTable.shares_kept TableTable.shares_right TableTable.sort TableTable.sound TableTable.speaker TableTable.upper TableTable.within_kind
    TableView.known TableView.label_of TableView.regular_of TableView.sort_of TableView.sound_at TableView.sound_of TableView.view Utf8Utf8.is_utf8
    Utf8Utf8.octets Utf8Utf8.some_row Utf8Utf8.utf8_char Utf8Utf8.within
steps_asked =
    record {
      nine = refl;
      ten = refl;
      ten_device = refl;
      eleven = refl;
      twelve = refl;
      twelve_device = refl;
      thirteen = refl;
      fourteen = refl;
      fifteen = refl;
      twenty_two = refl;
      sixteen = refl;
      eleven_under_two = refl;
      early_fourteen = refl;
      early_sixteen = refl;
    }

pub steps_judged : StepsJudged
unfolding ConversationStep.blame ConversationStep.blaming ConversationStep.forwarding ConversationStep.fresh ConversationStep.is_running
    ConversationStep.judging ConversationStep.of_message ConversationStep.of_state ConversationStep.refusing ConversationStep.step_questions
    ConversationStep.stepping MessageJudge.allows MessageJudge.by_fields MessageJudge.by_range MessageJudge.carries MessageJudge.first_outside
    MessageJudge.goes MessageJudge.holds MessageJudge.in_range MessageJudge.judge MessageJudge.judge_among MessageJudge.names MessageJudge.same_kind
    MessageMake.opening MessageMessage.announced MessageMessage.count_of MessageMessage.cut_up MessageMessage.exact MessageMessage.first_number
    MessageMessage.legal_texts MessageMessage.legal_value MessageMessage.legal_values MessageMessage.number_of MessageMessage.pair_up
    MessageMessage.read MessageMessage.text_bytes MessageMessage.texts_of MessageMessage.values_of MessageMessage.whole MessageRules.judge_said
    TableLists.every TableLists.first_no TableLists.matched TableLists.same TableLists.some_one TableLists.sum_of TableLists.upto
    TableTable.choices_own TableTable.clash TableTable.is_choice TableTable.is_party TableTable.known_edition TableTable.label_rest
    TableTable.labels_differ TableTable.legal_branch TableTable.legal_field TableTable.legal_label TableTable.letter_or_digit TableTable.of_choice
    TableTable.shares_kept TableTable.shares_right TableTable.sort TableTable.sound TableTable.speaker TableTable.upper TableTable.within_kind
    TableView.known TableView.label_of TableView.regular_of TableView.sort_of TableView.sound_at TableView.sound_of TableView.view Utf8Utf8.is_utf8
    Utf8Utf8.octets Utf8Utf8.some_row Utf8Utf8.utf8_char Utf8Utf8.within
steps_judged =
    record {
      on = refl;
      to_the_end = refl;
      no_label = refl;
      other_kind = refl;
      host_blamed = refl;
      device_early = refl;
      in_turn = refl;
    }

pub due_parts : DueParts
unfolding ConversationDue.awaited ConversationDue.first_length ConversationDue.sender_awaited ConversationDue.turn_answer ConversationStep.fresh
    ConversationStep.is_running ConversationStep.of_state MessageMessage.announced MessageMessage.count_of MessageMessage.first_number
    MessageMessage.front MessageMessage.legal_value MessageMessage.legal_values MessageMessage.number_of MessageMessage.pair_up
    MessageMessage.text_bytes MessageMessage.values_of MessageMessage.whole TableLists.every TableLists.first_no TableLists.matched TableLists.same
    TableLists.some_one TableLists.sum_of TableLists.upto TableTable.choices_own TableTable.clash TableTable.is_choice TableTable.known_edition
    TableTable.label_rest TableTable.labels_differ TableTable.legal_branch TableTable.legal_field TableTable.legal_label TableTable.letter_or_digit
    TableTable.of_choice TableTable.shares_kept TableTable.shares_right TableTable.sort TableTable.sound TableTable.speaker TableTable.upper
    TableTable.within_kind TableView.known TableView.label_of TableView.regular_of TableView.sort_of TableView.sound_at TableView.sound_of
    TableView.view
due_parts =
    record {
      turns = (refl, refl);
      no_turn = (refl, refl, refl);
      answers = (refl, refl);
      first = (refl, refl);
      a_part = (refl, refl);
      no_message = (refl, refl);
      by_length = refl;
    }

pub lists_led : ListsLed
unfolding MessageJudge.allows MessageJudge.by_fields MessageJudge.by_range MessageJudge.carries MessageJudge.first_outside MessageJudge.goes
    MessageJudge.holds MessageJudge.in_range MessageJudge.judge MessageJudge.judge_among MessageJudge.names MessageJudge.same_kind
    MessageMessage.count_of MessageMessage.first_number MessageMessage.number_of MessageMessage.pair_up MessageMessage.read MessageMessage.values_of
    MessageRules.allowed_list MessageRules.completed_list MessageRules.leads MessageRules.listens MessageRules.next TableLists.matched TableLists.same
    TableTable.is_choice TableTable.is_party TableTable.sort TableTable.speaker
lists_led =
    record {
      complete = (refl, refl);
      not_complete = (refl, refl, refl, refl);
      not_allowed = (refl, refl, refl, refl);
      listened = (refl, refl, refl, refl);
    }

pub conversations_held : ConversationsHeld
unfolding ConversationConversation.blamed_else ConversationConversation.blamed_first ConversationConversation.conversation
    ConversationConversation.event ConversationConversation.forwarded_ones ConversationConversation.is_forwarded ConversationConversation.nobody
    ConversationConversation.played ConversationConversation.refusal_of ConversationConversation.standing_by ConversationStep.blame
    ConversationStep.blaming ConversationStep.forwarding ConversationStep.fresh ConversationStep.is_running ConversationStep.judging
    ConversationStep.of_message ConversationStep.of_state ConversationStep.refusing ConversationStep.step_questions ConversationStep.stepping
    MessageJudge.allows MessageJudge.by_fields MessageJudge.by_range MessageJudge.carries MessageJudge.first_outside MessageJudge.goes
    MessageJudge.holds MessageJudge.in_range MessageJudge.judge MessageJudge.judge_among MessageJudge.names MessageJudge.same_kind MessageMake.opening
    MessageMessage.announced MessageMessage.count_of MessageMessage.cut_up MessageMessage.exact MessageMessage.first_number MessageMessage.legal_texts
    MessageMessage.legal_value MessageMessage.legal_values MessageMessage.number_of MessageMessage.pair_up MessageMessage.read
    MessageMessage.text_bytes MessageMessage.texts_of MessageMessage.values_of MessageMessage.whole MessageRules.judge_said MessageRules.listens
    TableLists.every TableLists.first_no TableLists.matched TableLists.same TableLists.some_one TableLists.sum_of TableLists.upto
    TableTable.choices_own TableTable.clash TableTable.is_choice TableTable.is_party TableTable.known_edition TableTable.label_rest
    TableTable.labels_differ TableTable.legal_branch TableTable.legal_field TableTable.legal_label TableTable.letter_or_digit TableTable.of_choice
    TableTable.shares_kept TableTable.shares_right TableTable.sort TableTable.sound TableTable.speaker TableTable.upper TableTable.within_kind
    TableView.known TableView.label_of TableView.regular_of TableView.sort_of TableView.sound_at TableView.sound_of TableView.view Utf8Utf8.is_utf8
    Utf8Utf8.octets Utf8Utf8.some_row Utf8Utf8.utf8_char Utf8Utf8.within
conversations_held =
    record {
      verdicts = refl;
      met = refl;
      kept = refl;
      passed = refl;
      blamed_one = (refl, refl, refl);
      stands = (refl, refl);
      refusals = (refl, refl, refl, refl, refl, refl);
    }
