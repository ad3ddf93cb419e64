-- The examples, computed. Printed by `tests/pins --proofs ReportExamples`. Assumes nothing.
use mathlib.Core.Path.{refl}
use Rattle.examples.specs.ReportExamples.{ReportsPrinted}
use Rattle.grammar.specs.Building as GrammarBuilding
use Rattle.grammar.specs.Filled as GrammarFilled
use Rattle.grammar.specs.Number as GrammarNumber
use Rattle.grammar.specs.Reading as GrammarReading
use Rattle.grammar.specs.Token as GrammarToken
use Rattle.grammar.specs.inner.Scanner as GrammarScanner
use Rattle.machine.specs.Fit as MachineFit
use Rattle.machine.specs.Machine as MachineMachine
use Rattle.message.specs.Judge as MessageJudge
use Rattle.message.specs.Make as MessageMake
use Rattle.message.specs.Message as MessageMessage
use Rattle.report.specs.Report as ReportReport
use Rattle.table.specs.Ascii as TableAscii
use Rattle.table.specs.Lists as TableLists
use Rattle.table.specs.Table as TableTable
use Rattle.table.specs.View as TableView
use Rattle.utf8.specs.Utf8 as Utf8Utf8

pub reports_printed : ReportsPrinted
unfolding GrammarBuilding.add_branch GrammarBuilding.add_share GrammarBuilding.add_state GrammarBuilding.choice_right GrammarBuilding.denied
    GrammarBuilding.label_used GrammarBuilding.set_edition GrammarFilled.filled GrammarNumber.in_count GrammarNumber.in_kind GrammarNumber.offset
    GrammarNumber.signed_of GrammarNumber.value_of GrammarReading.began GrammarReading.built GrammarReading.choice_sort GrammarReading.closed
    GrammarReading.edition_known GrammarReading.grammar_allows GrammarReading.guarded GrammarReading.kind_of GrammarReading.meaning
    GrammarReading.name_bound GrammarReading.new_label GrammarReading.questions GrammarReading.ranged GrammarReading.reads GrammarReading.run_tokens
    GrammarReading.share_ranged GrammarReading.shares_add GrammarReading.sign_of GrammarReading.stored GrammarReading.taken GrammarReading.target
    GrammarReading.token_formed GrammarReading.unguarded GrammarReading.within_limits GrammarToken.packed GrammarToken.word_of GrammarScanner.begin_at
    GrammarScanner.class_of GrammarScanner.dots_token GrammarScanner.name_token GrammarScanner.number_kind GrammarScanner.number_token
    GrammarScanner.run_end GrammarScanner.run_of GrammarScanner.token_at GrammarScanner.tokens GrammarScanner.tokens_from GrammarScanner.word_kind
    GrammarScanner.word_token MachineFit.shown MachineFit.spoken MachineMachine.after MachineMachine.arrived MachineMachine.by_side
    MachineMachine.does MachineMachine.effect MachineMachine.fresh_machine MachineMachine.from_device MachineMachine.from_host
    MachineMachine.host_early MachineMachine.move MachineMachine.play MachineMachine.run MachineMachine.while_running MessageJudge.allows
    MessageJudge.by_fields MessageJudge.by_range MessageJudge.carries MessageJudge.first_outside MessageJudge.goes MessageJudge.holds
    MessageJudge.in_range MessageJudge.judge MessageJudge.judge_among MessageJudge.names MessageJudge.same_kind MessageMake.branch
    MessageMake.branch_message MessageMake.chosen MessageMake.four_bytes MessageMake.made MessageMake.numbers_of MessageMake.write
    MessageMessage.announced MessageMessage.count_of MessageMessage.cut_up MessageMessage.exact MessageMessage.first_number MessageMessage.legal_texts
    MessageMessage.legal_value MessageMessage.legal_values MessageMessage.number_of MessageMessage.pair_up MessageMessage.read
    MessageMessage.text_bytes MessageMessage.texts_of MessageMessage.values_of MessageMessage.well_formed MessageMessage.whole ReportReport.direction
    ReportReport.ending ReportReport.fit ReportReport.high_part ReportReport.line ReportReport.move_line ReportReport.move_lines ReportReport.no_fit
    ReportReport.refused_line TableAscii.decimal TableAscii.digits TableAscii.letters TableLists.every TableLists.first_no TableLists.matched
    TableLists.same TableLists.some_one TableLists.sum_of TableLists.upto TableTable.known_edition TableTable.label_rest TableTable.legal_label
    TableTable.letter_or_digit TableTable.of_choice TableTable.same_sort TableTable.shares_right TableTable.sort TableTable.sort_code TableTable.upper
    TableTable.within_kind TableView.label_of TableView.sort_of TableView.view Utf8Utf8.is_utf8 Utf8Utf8.octets Utf8Utf8.some_row Utf8Utf8.utf8_char
    Utf8Utf8.within
reports_printed =
    record {
      no_fit = refl;
      blamed = refl;
      jammed_high = refl;
      no_moves = refl;
      fits = refl;
      fits_most = refl;
      refused = refl;
      at_a_place = refl;
      decimals = (refl, refl, refl, refl, refl);
    }
