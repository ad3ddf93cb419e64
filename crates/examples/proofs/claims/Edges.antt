-- The examples, computed. Printed by `tests/pins --proofs Edges`. Assumes nothing.
use mathlib.Core.Path.{refl}
use Rattle.examples.specs.Edges.{KindsRead, LimitsKept, NamesRead, ShareEdges, EveryByte}
use Rattle.grammar.specs.Building as GrammarBuilding
use Rattle.grammar.specs.Filled as GrammarFilled
use Rattle.grammar.specs.Number as GrammarNumber
use Rattle.grammar.specs.Reading as GrammarReading
use Rattle.grammar.specs.Token as GrammarToken
use Rattle.grammar.specs.inner.Scanner as GrammarScanner
use Rattle.table.specs.Lists as TableLists
use Rattle.table.specs.Table as TableTable
use Rattle.table.specs.View as TableView

pub kinds_read : KindsRead
unfolding GrammarBuilding.add_branch GrammarBuilding.add_share GrammarBuilding.add_state GrammarBuilding.choice_right GrammarBuilding.denied
    GrammarBuilding.label_used GrammarBuilding.set_edition GrammarFilled.filled GrammarFilled.not_read GrammarNumber.in_count GrammarNumber.in_kind
    GrammarNumber.offset GrammarNumber.signed_of GrammarNumber.value_of GrammarReading.began GrammarReading.built GrammarReading.choice_sort
    GrammarReading.closed GrammarReading.edition_known GrammarReading.grammar_allows GrammarReading.guarded GrammarReading.kind_of
    GrammarReading.meaning GrammarReading.name_bound GrammarReading.new_label GrammarReading.questions GrammarReading.ranged GrammarReading.reads
    GrammarReading.run_tokens GrammarReading.share_ranged GrammarReading.shares_add GrammarReading.sign_of GrammarReading.stored GrammarReading.taken
    GrammarReading.target GrammarReading.token_formed GrammarReading.unguarded GrammarReading.within_limits GrammarToken.packed GrammarToken.word_of
    GrammarScanner.begin_at GrammarScanner.class_of GrammarScanner.dots_token GrammarScanner.name_token GrammarScanner.number_kind
    GrammarScanner.number_token GrammarScanner.run_end GrammarScanner.run_of GrammarScanner.token_at GrammarScanner.tokens GrammarScanner.tokens_from
    GrammarScanner.word_kind GrammarScanner.word_token TableLists.every TableLists.first_no TableLists.matched TableLists.same TableLists.some_one
    TableLists.sum_of TableLists.upto TableTable.known_edition TableTable.letter_or_digit TableTable.of_choice TableTable.shares_right
    TableTable.within_kind TableView.empty_table TableView.label_of TableView.sort_of TableView.view
kinds_read =
    record {
      three_kinds = (refl, refl);
      four_fields = (refl, refl);
      all_ints = (refl, refl);
      int_below = refl;
      int_far_below = refl;
      int_above = refl;
      text_above = refl;
      text_below = refl;
      flag_above = refl;
      flag_below = refl;
      below_zero = refl;
      high_asked_second = refl;
    }

pub limits_kept : LimitsKept
unfolding GrammarBuilding.add_branch GrammarBuilding.add_share GrammarBuilding.add_state GrammarBuilding.choice_right GrammarBuilding.denied
    GrammarBuilding.label_used GrammarBuilding.set_edition GrammarFilled.filled GrammarFilled.not_read GrammarNumber.in_count GrammarNumber.in_kind
    GrammarNumber.offset GrammarNumber.signed_of GrammarNumber.value_of GrammarReading.began GrammarReading.built GrammarReading.choice_sort
    GrammarReading.closed GrammarReading.edition_known GrammarReading.grammar_allows GrammarReading.guarded GrammarReading.kind_of
    GrammarReading.meaning GrammarReading.name_bound GrammarReading.new_label GrammarReading.questions GrammarReading.ranged GrammarReading.reads
    GrammarReading.run_tokens GrammarReading.share_ranged GrammarReading.shares_add GrammarReading.sign_of GrammarReading.stored GrammarReading.taken
    GrammarReading.target GrammarReading.token_formed GrammarReading.unguarded GrammarReading.within_limits GrammarToken.packed GrammarToken.word_of
    GrammarScanner.begin_at GrammarScanner.class_of GrammarScanner.dots_token GrammarScanner.name_token GrammarScanner.number_kind
    GrammarScanner.number_token GrammarScanner.run_end GrammarScanner.run_of GrammarScanner.token_at GrammarScanner.tokens GrammarScanner.tokens_from
    GrammarScanner.word_kind GrammarScanner.word_token TableLists.every TableLists.first_no TableLists.matched TableLists.same TableLists.some_one
    TableLists.sum_of TableTable.known_edition TableTable.letter_or_digit TableTable.of_choice TableTable.shares_right TableTable.within_kind
    TableView.empty_table TableView.label_of
limits_kept =
    record {
      longest = (refl, refl);
      too_long = (refl, refl);
      states_32 = (refl, refl, refl);
      states_33 = (refl, refl, refl);
      branches_128 = (refl, refl);
      branches_129 = (refl, refl);
      fields_4 = refl;
      int_5 = refl;
      text_5 = refl;
      flag_5 = refl;
      fields_of_two = refl;
      open_16 = (refl, refl);
      choices_too = (refl, refl);
      rec_17 = (refl, refl);
      choice_17 = (refl, refl);
      receiving_17 = (refl, refl);
      not_around = (refl, refl);
    }

pub names_read : NamesRead
unfolding GrammarBuilding.add_branch GrammarBuilding.add_share GrammarBuilding.add_state GrammarBuilding.choice_right GrammarBuilding.denied
    GrammarBuilding.label_used GrammarBuilding.set_edition GrammarFilled.filled GrammarFilled.not_read GrammarNumber.in_count GrammarNumber.in_kind
    GrammarNumber.offset GrammarNumber.signed_of GrammarNumber.value_of GrammarReading.began GrammarReading.built GrammarReading.choice_sort
    GrammarReading.closed GrammarReading.edition_known GrammarReading.grammar_allows GrammarReading.guarded GrammarReading.kind_of
    GrammarReading.meaning GrammarReading.name_bound GrammarReading.new_label GrammarReading.questions GrammarReading.ranged GrammarReading.reads
    GrammarReading.run_tokens GrammarReading.share_ranged GrammarReading.shares_add GrammarReading.sign_of GrammarReading.stored GrammarReading.taken
    GrammarReading.target GrammarReading.token_formed GrammarReading.unguarded GrammarReading.within_limits GrammarToken.packed GrammarToken.word_of
    GrammarScanner.begin_at GrammarScanner.class_of GrammarScanner.dots_token GrammarScanner.name_token GrammarScanner.number_kind
    GrammarScanner.number_token GrammarScanner.run_end GrammarScanner.run_of GrammarScanner.token_at GrammarScanner.tokens GrammarScanner.tokens_from
    GrammarScanner.word_kind GrammarScanner.word_token TableLists.every TableLists.first_no TableLists.matched TableLists.same TableLists.some_one
    TableLists.sum_of TableLists.upto TableTable.known_edition TableTable.letter_or_digit TableTable.of_choice TableTable.shares_right
    TableTable.within_kind TableView.empty_table TableView.label_of TableView.sort_of TableView.view
names_read =
    record {
      outlives = refl;
      innermost = (refl, refl);
      eight_bytes = refl;
      long_name = refl;
      like_a_label = refl;
      other_choice = refl;
      host_first = refl;
      sent = refl;
      received = refl;
      both = refl;
      no_branch = refl;
      comma_brace = refl;
      comma_field = refl;
      no_comma = refl;
      kind_alone = refl;
      one_dot = refl;
      name_for_number = refl;
      two_types = refl;
      small_label = refl;
      no_dot = refl;
      cut_off = refl;
      cut_off_blank = refl;
    }

pub share_edges : ShareEdges
unfolding GrammarBuilding.add_branch GrammarBuilding.add_share GrammarBuilding.add_state GrammarBuilding.choice_right GrammarBuilding.denied
    GrammarBuilding.label_used GrammarBuilding.set_edition GrammarFilled.filled GrammarFilled.not_read GrammarNumber.in_count GrammarNumber.in_kind
    GrammarNumber.offset GrammarNumber.signed_of GrammarNumber.value_of GrammarReading.began GrammarReading.built GrammarReading.choice_sort
    GrammarReading.closed GrammarReading.edition_known GrammarReading.grammar_allows GrammarReading.guarded GrammarReading.kind_of
    GrammarReading.meaning GrammarReading.name_bound GrammarReading.new_label GrammarReading.questions GrammarReading.ranged GrammarReading.reads
    GrammarReading.run_tokens GrammarReading.share_ranged GrammarReading.shares_add GrammarReading.sign_of GrammarReading.stored GrammarReading.taken
    GrammarReading.target GrammarReading.token_formed GrammarReading.unguarded GrammarReading.within_limits GrammarToken.packed GrammarToken.word_of
    GrammarScanner.begin_at GrammarScanner.class_of GrammarScanner.dots_token GrammarScanner.name_token GrammarScanner.number_kind
    GrammarScanner.number_token GrammarScanner.run_end GrammarScanner.run_of GrammarScanner.token_at GrammarScanner.tokens GrammarScanner.tokens_from
    GrammarScanner.word_kind GrammarScanner.word_token TableLists.every TableLists.first_no TableLists.matched TableLists.same TableLists.some_one
    TableLists.sum_of TableTable.known_edition TableTable.letter_or_digit TableTable.of_choice TableTable.shares_right TableTable.within_kind
    TableView.empty_table TableView.label_of
share_edges =
    record {
      least = refl;
      whole = refl;
      above = refl;
      below_zero = refl;
      too_much = refl;
      two_choices = refl;
      inner_none = refl;
      inner_first = refl;
      rec_between = refl;
      twice = refl;
      no_number = refl;
    }

pub every_byte : EveryByte
unfolding GrammarBuilding.add_branch GrammarBuilding.add_share GrammarBuilding.add_state GrammarBuilding.choice_right GrammarBuilding.denied
    GrammarBuilding.label_used GrammarBuilding.set_edition GrammarFilled.filled GrammarNumber.in_count GrammarNumber.in_kind GrammarNumber.offset
    GrammarNumber.signed_of GrammarNumber.value_of GrammarReading.began GrammarReading.built GrammarReading.choice_sort GrammarReading.closed
    GrammarReading.edition_known GrammarReading.grammar_allows GrammarReading.guarded GrammarReading.kind_of GrammarReading.meaning
    GrammarReading.name_bound GrammarReading.new_label GrammarReading.questions GrammarReading.ranged GrammarReading.reads GrammarReading.run_tokens
    GrammarReading.share_ranged GrammarReading.shares_add GrammarReading.sign_of GrammarReading.stored GrammarReading.taken GrammarReading.target
    GrammarReading.token_formed GrammarReading.unguarded GrammarReading.within_limits GrammarToken.packed GrammarToken.word_of GrammarScanner.begin_at
    GrammarScanner.class_of GrammarScanner.dots_token GrammarScanner.name_token GrammarScanner.number_kind GrammarScanner.number_token
    GrammarScanner.run_end GrammarScanner.run_of GrammarScanner.token_at GrammarScanner.tokens GrammarScanner.tokens_from GrammarScanner.word_kind
    GrammarScanner.word_token TableLists.every TableLists.first_no TableLists.matched TableLists.same TableLists.some_one TableLists.sum_of
    TableLists.upto TableTable.known_edition TableTable.letter_or_digit TableTable.of_choice TableTable.shares_right TableTable.within_kind
    TableView.label_of
every_byte =
    record {
      alone = refl;
      after_name = refl;
      after_number = (refl, refl, refl, refl, refl);
      after_word = (refl, refl, refl, refl, refl);
      after_dot = (refl, refl, refl);
    }
