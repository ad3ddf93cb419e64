-- The examples, computed. Printed by `tests/pins --proofs TableExamples`. Assumes nothing.
use mathlib.Core.Path.{refl}
use Rattle.examples.specs.TableExamples.{TableWords, LabelWords, SoundTables, DualTables}
use Rattle.examples.specs.Requests as ExamplesRequests
use Rattle.examples.specs.Twelve as ExamplesTwelve
use Rattle.grammar.specs.Building as GrammarBuilding
use Rattle.grammar.specs.Filled as GrammarFilled
use Rattle.grammar.specs.Number as GrammarNumber
use Rattle.grammar.specs.Reading as GrammarReading
use Rattle.grammar.specs.Token as GrammarToken
use Rattle.grammar.specs.inner.Scanner as GrammarScanner
use Rattle.table.specs.Lists as TableLists
use Rattle.table.specs.Table as TableTable
use Rattle.table.specs.View as TableView

pub table_words : TableWords
unfolding ExamplesRequests.Q ExamplesTwelve.E ExamplesTwelve.P GrammarBuilding.add_branch GrammarBuilding.add_share GrammarBuilding.add_state
    GrammarBuilding.choice_right GrammarBuilding.denied GrammarBuilding.label_used GrammarBuilding.set_edition GrammarFilled.filled
    GrammarNumber.in_count GrammarNumber.in_kind GrammarNumber.offset GrammarNumber.signed_of GrammarNumber.value_of GrammarReading.began
    GrammarReading.built GrammarReading.choice_sort GrammarReading.closed GrammarReading.edition_known GrammarReading.grammar_allows
    GrammarReading.guarded GrammarReading.kind_of GrammarReading.meaning GrammarReading.name_bound GrammarReading.new_label GrammarReading.questions
    GrammarReading.ranged GrammarReading.reads GrammarReading.run_tokens GrammarReading.share_ranged GrammarReading.shares_add GrammarReading.sign_of
    GrammarReading.stored GrammarReading.taken GrammarReading.target GrammarReading.token_formed GrammarReading.unguarded GrammarReading.within_limits
    GrammarToken.packed GrammarToken.word_of GrammarScanner.begin_at GrammarScanner.class_of GrammarScanner.dots_token GrammarScanner.name_token
    GrammarScanner.number_kind GrammarScanner.number_token GrammarScanner.run_end GrammarScanner.run_of GrammarScanner.token_at GrammarScanner.tokens
    GrammarScanner.tokens_from GrammarScanner.word_kind GrammarScanner.word_token TableLists.every TableLists.first_no TableLists.matched
    TableLists.same TableLists.some_one TableLists.sum_of TableLists.upto TableTable.known_edition TableTable.letter_or_digit TableTable.of_choice
    TableTable.shares_right TableTable.within_kind TableView.label_of TableView.sort_of TableView.view
table_words =
    record {
      first_edition = refl;
      second_edition = refl;
      seen = refl;
      end_seen = refl;
      two_fields_read = refl;
      two_fields_seen = refl;
    }

pub label_words : LabelWords
unfolding TableView.label_of
label_words =
    record {
      bytes = refl;
      largest = refl;
    }

pub sound_tables : SoundTables
unfolding TableLists.every TableLists.matched TableLists.same TableLists.some_one TableLists.sum_of TableLists.upto TableTable.choices_own
    TableTable.clash TableTable.is_choice TableTable.known_edition TableTable.label_rest TableTable.labels_differ TableTable.legal_branch
    TableTable.legal_field TableTable.legal_label TableTable.letter_or_digit TableTable.of_choice TableTable.shares_kept TableTable.shares_right
    TableTable.sort TableTable.sound TableTable.upper TableTable.within_kind TableView.known TableView.label_of TableView.regular_of TableView.sort_of
    TableView.sound_at TableView.sound_of TableView.view
sound_tables =
    record {
      sound = refl;
      states = (refl, refl, refl);
      branches = (refl, refl);
      owners = (refl, refl, refl, refl, refl);
      targets = (refl, refl);
      legal_labels = (refl, refl, refl, refl);
      differ = (refl, refl, refl, refl);
      fields = (refl, refl);
      ranges = (refl, refl, refl, refl);
      text_ranges = (refl, refl, refl);
      flag_ranges = (refl, refl, refl, refl);
      shares = (refl, refl, refl, refl, refl, refl);
      two_choices = refl;
      words = (refl, refl, refl, refl, refl, refl, refl, refl);
      positions = (refl, refl, refl);
    }

pub dual_tables : DualTables
unfolding GrammarBuilding.add_branch GrammarBuilding.add_share GrammarBuilding.add_state GrammarBuilding.choice_right GrammarBuilding.denied
    GrammarBuilding.label_used GrammarBuilding.set_edition GrammarFilled.filled GrammarNumber.in_count GrammarNumber.in_kind GrammarNumber.offset
    GrammarNumber.signed_of GrammarNumber.value_of GrammarReading.began GrammarReading.built GrammarReading.choice_sort GrammarReading.closed
    GrammarReading.edition_known GrammarReading.grammar_allows GrammarReading.guarded GrammarReading.kind_of GrammarReading.meaning
    GrammarReading.name_bound GrammarReading.new_label GrammarReading.questions GrammarReading.ranged GrammarReading.reads GrammarReading.run_tokens
    GrammarReading.share_ranged GrammarReading.shares_add GrammarReading.sign_of GrammarReading.stored GrammarReading.taken GrammarReading.target
    GrammarReading.token_formed GrammarReading.unguarded GrammarReading.within_limits GrammarToken.packed GrammarToken.word_of GrammarScanner.begin_at
    GrammarScanner.class_of GrammarScanner.dots_token GrammarScanner.name_token GrammarScanner.number_kind GrammarScanner.number_token
    GrammarScanner.run_end GrammarScanner.run_of GrammarScanner.token_at GrammarScanner.tokens GrammarScanner.tokens_from GrammarScanner.word_kind
    GrammarScanner.word_token TableLists.every TableLists.first_no TableLists.matched TableLists.same TableLists.some_one TableLists.sum_of
    TableLists.upto TableTable.choices_own TableTable.clash TableTable.dual TableTable.is_choice TableTable.known_edition TableTable.label_rest
    TableTable.labels_differ TableTable.legal_branch TableTable.legal_field TableTable.legal_label TableTable.letter_or_digit TableTable.of_choice
    TableTable.opposite TableTable.shares_kept TableTable.shares_right TableTable.sort TableTable.sound TableTable.upper TableTable.within_kind
    TableView.dual_of TableView.empty_table TableView.known TableView.label_of TableView.opposite_of TableView.opposites TableView.regular_of
    TableView.sort_of TableView.sound_of TableView.turned_to TableView.view
dual_tables =
    record {
      dual = refl;
      dual_under_two = refl;
      all_sorts = refl;
      refused = refl;
      of_lists = refl;
      of_P = refl;
    }
