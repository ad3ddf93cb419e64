-- The examples, computed. Printed by `tests/pins --proofs MachineExamples`. Assumes nothing.
use mathlib.Core.Path.{refl}
use Rattle.examples.specs.MachineExamples.{MovesPlayed, RightPairs, FitChecked}
use Rattle.bits.specs.Digits as BitsDigits
use Rattle.examples.specs.Twelve as ExamplesTwelve
use Rattle.grammar.specs.Building as GrammarBuilding
use Rattle.grammar.specs.Filled as GrammarFilled
use Rattle.grammar.specs.Number as GrammarNumber
use Rattle.grammar.specs.Reading as GrammarReading
use Rattle.grammar.specs.Token as GrammarToken
use Rattle.grammar.specs.inner.Scanner as GrammarScanner
use Rattle.machine.specs.Answer as MachineAnswer
use Rattle.machine.specs.Fit as MachineFit
use Rattle.machine.specs.Machine as MachineMachine
use Rattle.message.specs.Judge as MessageJudge
use Rattle.message.specs.Make as MessageMake
use Rattle.message.specs.Message as MessageMessage
use Rattle.table.specs.Lists as TableLists
use Rattle.table.specs.Table as TableTable
use Rattle.table.specs.View as TableView
use Rattle.utf8.specs.Utf8 as Utf8Utf8

pub moves_played : MovesPlayed
unfolding MachineMachine.after MachineMachine.all_forwarded MachineMachine.arrived MachineMachine.bad MachineMachine.by_side MachineMachine.does
    MachineMachine.effect MachineMachine.fresh_machine MachineMachine.from_device MachineMachine.from_host MachineMachine.host_early
    MachineMachine.is_forward MachineMachine.move MachineMachine.moves MachineMachine.play MachineMachine.run MachineMachine.while_running
    MessageJudge.allows MessageJudge.by_fields MessageJudge.by_range MessageJudge.carries MessageJudge.first_outside MessageJudge.goes
    MessageJudge.holds MessageJudge.in_range MessageJudge.judge MessageJudge.judge_among MessageJudge.names MessageJudge.same_kind
    MessageMessage.announced MessageMessage.count_of MessageMessage.cut_up MessageMessage.exact MessageMessage.first_number MessageMessage.legal_texts
    MessageMessage.legal_value MessageMessage.legal_values MessageMessage.number_of MessageMessage.pair_up MessageMessage.read
    MessageMessage.text_bytes MessageMessage.texts_of MessageMessage.values_of MessageMessage.well_formed MessageMessage.whole TableLists.every
    TableLists.matched TableLists.same TableTable.label_rest TableTable.legal_label TableTable.letter_or_digit TableTable.same_sort TableTable.sort
    TableTable.sort_code TableTable.upper TableTable.within_kind Utf8Utf8.is_utf8 Utf8Utf8.octets Utf8Utf8.some_row Utf8Utf8.utf8_char Utf8Utf8.within
moves_played =
    record {
      forwarded = refl;
      own_states = refl;
      device_wide = refl;
      no_message_of_it = refl;
      not_sending = refl;
      device_narrow = refl;
      host_wide = refl;
      early = refl;
      at_an_end = refl;
      early_under_two = refl;
      end_under_two = refl;
      device_under_two = refl;
      stays_blamed = refl;
      device_stays_blamed = refl;
      stays_jammed = refl;
      sorts_differ = refl;
      before_any = (refl, refl, refl);
      no_move = refl;
      real_moves = (refl, refl);
      ends_badly = (refl, refl, refl, refl);
      forwards = (refl, refl, refl, refl);
    }

pub right_pairs : RightPairs
unfolding MachineFit.both_are MachineFit.contained MachineFit.covered MachineFit.heard MachineFit.right TableLists.every TableLists.matched
    TableLists.same TableLists.some_one TableTable.same_sort TableTable.sort TableTable.sort_code
right_pairs =
    record {
      sends_less = (refl, refl, refl, refl);
      takes_more = (refl, refl, refl, refl);
      kinds = (refl, refl, refl, refl);
      labels = (refl, refl, refl, refl);
      ends = (refl, refl, refl, refl, refl, refl);
      own_branches = (refl, refl, refl, refl);
      own_numbers = (refl, refl, refl, refl, refl, refl);
    }

pub fit_checked : FitChecked
unfolding BitsDigits.sum ExamplesTwelve.E ExamplesTwelve.P GrammarBuilding.add_branch GrammarBuilding.add_share GrammarBuilding.add_state
    GrammarBuilding.choice_right GrammarBuilding.denied GrammarBuilding.label_used GrammarBuilding.set_edition GrammarFilled.filled
    GrammarNumber.in_count GrammarNumber.in_kind GrammarNumber.offset GrammarNumber.signed_of GrammarNumber.value_of GrammarReading.began
    GrammarReading.built GrammarReading.choice_sort GrammarReading.closed GrammarReading.edition_known GrammarReading.grammar_allows
    GrammarReading.guarded GrammarReading.kind_of GrammarReading.meaning GrammarReading.name_bound GrammarReading.new_label GrammarReading.questions
    GrammarReading.ranged GrammarReading.reads GrammarReading.run_tokens GrammarReading.share_ranged GrammarReading.shares_add GrammarReading.sign_of
    GrammarReading.stored GrammarReading.taken GrammarReading.target GrammarReading.token_formed GrammarReading.unguarded GrammarReading.within_limits
    GrammarToken.packed GrammarToken.word_of GrammarScanner.begin_at GrammarScanner.class_of GrammarScanner.dots_token GrammarScanner.name_token
    GrammarScanner.number_kind GrammarScanner.number_token GrammarScanner.run_end GrammarScanner.run_of GrammarScanner.token_at GrammarScanner.tokens
    GrammarScanner.tokens_from GrammarScanner.word_kind GrammarScanner.word_token MachineAnswer.answer_of MachineAnswer.fit_questions
    MachineFit.both_are MachineFit.but_last MachineFit.contained MachineFit.covered MachineFit.field_named MachineFit.heard MachineFit.last_count
    MachineFit.of_speakers MachineFit.owns MachineFit.pairs MachineFit.right MachineFit.shown MachineFit.speaks MachineFit.spoken MachineMachine.after
    MachineMachine.all_forwarded MachineMachine.arrived MachineMachine.bad MachineMachine.by_side MachineMachine.does MachineMachine.effect
    MachineMachine.fresh_machine MachineMachine.from_device MachineMachine.from_host MachineMachine.host_early MachineMachine.is_forward
    MachineMachine.move MachineMachine.play MachineMachine.run MachineMachine.while_running MessageJudge.allows MessageJudge.by_fields
    MessageJudge.by_range MessageJudge.carries MessageJudge.first_outside MessageJudge.goes MessageJudge.holds MessageJudge.in_range
    MessageJudge.judge MessageJudge.judge_among MessageJudge.names MessageJudge.same_kind MessageMake.branch MessageMake.branch_message
    MessageMake.chosen MessageMake.four_bytes MessageMake.high_of MessageMake.made MessageMake.numbers_of MessageMake.write MessageMessage.announced
    MessageMessage.count_of MessageMessage.cut_up MessageMessage.exact MessageMessage.first_number MessageMessage.legal_texts
    MessageMessage.legal_value MessageMessage.legal_values MessageMessage.number_of MessageMessage.pair_up MessageMessage.read
    MessageMessage.text_bytes MessageMessage.texts_of MessageMessage.values_of MessageMessage.well_formed MessageMessage.whole TableLists.every
    TableLists.first_no TableLists.matched TableLists.same TableLists.some_one TableLists.sum_of TableLists.upto TableTable.choices_own
    TableTable.clash TableTable.is_choice TableTable.known_edition TableTable.label_rest TableTable.labels_differ TableTable.legal_branch
    TableTable.legal_field TableTable.legal_label TableTable.letter_or_digit TableTable.of_choice TableTable.same_sort TableTable.shares_kept
    TableTable.shares_right TableTable.sort TableTable.sort_code TableTable.sound TableTable.upper TableTable.within_kind TableView.known
    TableView.label_of TableView.regular_of TableView.sort_of TableView.sound_of TableView.view Utf8Utf8.is_utf8 Utf8Utf8.octets Utf8Utf8.some_row
    Utf8Utf8.utf8_char Utf8Utf8.within
fit_checked =
    record {
      asked = (refl, refl, refl, refl, refl, refl, refl);
      P_right = (refl, refl, refl);
      P_reached = (refl, refl, refl, refl);
      P_forwarded = (refl, refl);
      P_pairs = refl;
      end_wrong = refl;
      end_bad = refl;
      quit_pairs = refl;
      other_pairs = (refl, refl, refl, refl);
      shown_low = refl;
      shown_high = refl;
      whose_table = (refl, refl);
      of_states_there = (refl, refl, refl, refl, refl);
      of_own_tables = (refl, refl, refl, refl, refl);
      but_the_last = (refl, refl);
      fields_of_last = (refl, refl, refl);
      named = (refl, refl, refl);
      answers = (refl, refl, refl, refl);
    }
