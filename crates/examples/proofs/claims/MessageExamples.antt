-- The examples, computed. Printed by `tests/pins --proofs MessageExamples`. Assumes nothing.
use mathlib.Core.Path.{refl}
use Rattle.examples.specs.MessageExamples.{MessagesRead, LabelsAsked, MessagesAsked, FrontsAsked, MessagesMade}
use Rattle.grammar.specs.Building as GrammarBuilding
use Rattle.grammar.specs.Filled as GrammarFilled
use Rattle.grammar.specs.Number as GrammarNumber
use Rattle.grammar.specs.Reading as GrammarReading
use Rattle.grammar.specs.Token as GrammarToken
use Rattle.grammar.specs.inner.Scanner as GrammarScanner
use Rattle.message.specs.Make as MessageMake
use Rattle.message.specs.Message as MessageMessage
use Rattle.table.specs.Lists as TableLists
use Rattle.table.specs.Table as TableTable
use Rattle.table.specs.View as TableView
use Rattle.utf8.specs.Utf8 as Utf8Utf8

pub messages_read : MessagesRead
unfolding MessageMessage.count_of MessageMessage.first_number MessageMessage.number_at MessageMessage.number_of MessageMessage.pair_up
    MessageMessage.read MessageMessage.values_of
messages_read =
    record {
      numbers = refl;
      kinds = refl;
      at_places = (refl, refl, refl);
    }

pub labels_asked : LabelsAsked
unfolding MessageMessage.announced MessageMessage.count_of MessageMessage.cut_up MessageMessage.exact MessageMessage.first_number
    MessageMessage.legal_texts MessageMessage.legal_value MessageMessage.legal_values MessageMessage.number_of MessageMessage.pair_up
    MessageMessage.refusal MessageMessage.text_bytes MessageMessage.texts_of MessageMessage.values_of MessageMessage.whole TableLists.every
    TableLists.first_no TableTable.label_rest TableTable.legal_label TableTable.letter_or_digit TableTable.upper TableTable.within_kind
    Utf8Utf8.is_utf8 Utf8Utf8.octets Utf8Utf8.some_row Utf8Utf8.utf8_char Utf8Utf8.within
labels_asked =
    record {
      eight_bytes = refl;
      nine_bytes = refl;
      all_classes = refl;
      first_small = refl;
      first_digit = refl;
      first_at = refl;
      first_bracket = refl;
      at_sign = refl;
      bracket = refl;
      grave = refl;
      brace = refl;
      slash = refl;
      colon = refl;
      gap = refl;
      filled_with_one = refl;
      no_letter = refl;
    }

pub messages_asked : MessagesAsked
unfolding MessageMessage.announced MessageMessage.count_of MessageMessage.cut_up MessageMessage.exact MessageMessage.first_number
    MessageMessage.legal_texts MessageMessage.legal_value MessageMessage.legal_values MessageMessage.number_of MessageMessage.pair_up
    MessageMessage.refusal MessageMessage.text_bytes MessageMessage.texts_of MessageMessage.values_of MessageMessage.well_formed MessageMessage.whole
    TableLists.every TableLists.first_no TableTable.label_rest TableTable.legal_label TableTable.letter_or_digit TableTable.upper
    TableTable.within_kind Utf8Utf8.is_utf8 Utf8Utf8.octets Utf8Utf8.some_row Utf8Utf8.utf8_char Utf8Utf8.within
messages_asked =
    record {
      five_fields = refl;
      four_fields = refl;
      half_an_array = refl;
      kind_three = refl;
      flag_two = refl;
      flag_one = refl;
      flag_zero = refl;
      flag_below = refl;
      text_65 = refl;
      text_64 = refl;
      text_none = refl;
      text_below = refl;
      int_least = refl;
      int_most = refl;
      second_kind = refl;
      too_long = refl;
      too_short = refl;
      two_fields = refl;
      no_text = refl;
      formed = (refl, refl, refl, refl, refl);
    }

pub fronts_asked : FrontsAsked
unfolding MessageMessage.announced MessageMessage.broken MessageMessage.count_of MessageMessage.first_number MessageMessage.front
    MessageMessage.front_of MessageMessage.has_label MessageMessage.legal_value MessageMessage.legal_values MessageMessage.number_of
    MessageMessage.opens MessageMessage.pair_up MessageMessage.text_bytes MessageMessage.values_of MessageMessage.whole TableLists.every
    TableLists.first_no TableLists.matched TableLists.same TableTable.label_rest TableTable.legal_label TableTable.letter_or_digit TableTable.upper
    TableTable.within_kind TableView.label_of
fronts_asked =
    record {
      announced = refl;
      no_text = refl;
      fourteen = refl;
      thirteen_first = refl;
      mended = (refl, refl, refl);
      never_mended = (refl, refl, refl);
      label = (refl, refl, refl, refl, refl);
    }

pub messages_made : MessagesMade
unfolding GrammarBuilding.add_branch GrammarBuilding.add_share GrammarBuilding.add_state GrammarBuilding.choice_right GrammarBuilding.denied
    GrammarBuilding.label_used GrammarBuilding.set_edition GrammarFilled.filled GrammarNumber.in_count GrammarNumber.in_kind GrammarNumber.offset
    GrammarNumber.signed_of GrammarNumber.value_of GrammarReading.began GrammarReading.built GrammarReading.choice_sort GrammarReading.closed
    GrammarReading.edition_known GrammarReading.grammar_allows GrammarReading.guarded GrammarReading.kind_of GrammarReading.meaning
    GrammarReading.name_bound GrammarReading.new_label GrammarReading.questions GrammarReading.ranged GrammarReading.reads GrammarReading.run_tokens
    GrammarReading.share_ranged GrammarReading.shares_add GrammarReading.sign_of GrammarReading.stored GrammarReading.taken GrammarReading.target
    GrammarReading.token_formed GrammarReading.unguarded GrammarReading.within_limits GrammarToken.packed GrammarToken.word_of GrammarScanner.begin_at
    GrammarScanner.class_of GrammarScanner.dots_token GrammarScanner.name_token GrammarScanner.number_kind GrammarScanner.number_token
    GrammarScanner.run_end GrammarScanner.run_of GrammarScanner.token_at GrammarScanner.tokens GrammarScanner.tokens_from GrammarScanner.word_kind
    GrammarScanner.word_token MessageMake.branch MessageMake.branch_message MessageMake.chosen MessageMake.exists MessageMake.four_bytes
    MessageMake.made MessageMake.make_questions MessageMake.making MessageMake.names_field MessageMake.numbers_of MessageMake.opening
    MessageMake.write MessageMessage.text_bytes TableLists.every TableLists.first_no TableLists.matched TableLists.same TableLists.some_one
    TableLists.sum_of TableLists.upto TableTable.choices_own TableTable.clash TableTable.is_choice TableTable.known_edition TableTable.label_rest
    TableTable.labels_differ TableTable.legal_branch TableTable.legal_field TableTable.legal_label TableTable.letter_or_digit TableTable.of_choice
    TableTable.shares_kept TableTable.shares_right TableTable.sort TableTable.sound TableTable.upper TableTable.within_kind TableView.known
    TableView.label_of TableView.regular_of TableView.sort_of TableView.sound_of TableView.view
messages_made =
    record {
      low = refl;
      int_high = refl;
      text_high = refl;
      flag_high = refl;
      int_edges = (refl, refl, refl, refl, refl);
      four_bytes = refl;
      no_room = refl;
      no_branch = refl;
      no_field = refl;
      no_table = refl;
    }
