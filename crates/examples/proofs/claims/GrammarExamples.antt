-- The examples, computed. Printed by `tests/pins --proofs GrammarExamples`. Assumes nothing.
use mathlib.Core.Path.{refl}
use Rattle.examples.specs.GrammarExamples.{TreesPrinted, TreesMean, TreesAsked, TypesAllow, MonitorMade}
use Rattle.grammar.specs.Grammar as GrammarGrammar
use Rattle.grammar.specs.Number as GrammarNumber
use Rattle.grammar.specs.TokOf as GrammarTokOf
use Rattle.grammar.specs.Token as GrammarToken
use Rattle.grammar.specs.inner.Scanner as GrammarScanner
use Rattle.message.specs.Judge as MessageJudge
use Rattle.message.specs.Message as MessageMessage
use Rattle.message.specs.Rules as MessageRules
use Rattle.table.specs.Lists as TableLists
use Rattle.table.specs.Table as TableTable
use Rattle.table.specs.View as TableView
use Rattle.types.specs.Types as TypesTypes

pub trees_printed : TreesPrinted
unfolding GrammarNumber.signed_of GrammarNumber.value_of GrammarTokOf.tok_of GrammarToken.packed GrammarToken.word_of GrammarScanner.begin_at
    GrammarScanner.class_of GrammarScanner.dots_token GrammarScanner.name_token GrammarScanner.number_kind GrammarScanner.number_token
    GrammarScanner.run_end GrammarScanner.run_of GrammarScanner.token_at GrammarScanner.tokens GrammarScanner.tokens_from GrammarScanner.word_kind
    GrammarScanner.word_token TableLists.matched TableLists.same TableTable.letter_or_digit
trees_printed =
    record {
      stops = refl;
      loops = refl;
      fields = refl;
      shares = refl;
      opening = refl;
    }

pub trees_mean : TreesMean
unfolding GrammarGrammar.bind GrammarGrammar.nothing_bound GrammarGrammar.table_of GrammarNumber.offset GrammarToken.packed GrammarToken.word_of
    TableView.label_of
trees_mean =
    record {
      of_P = refl;
      under_two = refl;
      in_order = refl;
      innermost = refl;
      straight = refl;
      outer_name = refl;
      fields_of = refl;
    }

pub trees_asked : TreesAsked
unfolding GrammarGrammar.range_legal GrammarNumber.in_count GrammarNumber.in_kind GrammarNumber.offset GrammarToken.packed GrammarToken.word_of
    TableLists.every TableLists.sum_of TableTable.known_edition TableTable.shares_right TableTable.within_kind
trees_asked =
    record {
      bound = (refl, refl, refl, refl, refl, refl, refl);
      guarded = (refl, refl, refl, refl, refl, refl, refl, refl, refl, refl);
      own_binder = (refl, refl);
      ranged = (refl, refl, refl, refl, refl, refl, refl, refl);
      four = (refl, refl, refl);
      other_branches = (refl, refl, refl, refl, refl);
      labels = (refl, refl, refl, refl, refl, refl, refl);
      depths = (refl, refl, refl, refl);
      shares = (refl, refl, refl, refl, refl, refl, refl);
      sums = (refl, refl, refl, refl, refl, refl, refl);
      editions = (refl, refl, refl, refl, refl, refl);
    }

pub types_allow : TypesAllow
unfolding GrammarGrammar.bind GrammarGrammar.nothing_bound GrammarGrammar.table_of GrammarNumber.offset GrammarToken.packed GrammarToken.word_of
    MessageJudge.allows MessageJudge.by_fields MessageJudge.by_range MessageJudge.carries MessageJudge.first_outside MessageJudge.goes
    MessageJudge.holds MessageJudge.in_range MessageJudge.names MessageJudge.same_kind MessageMessage.count_of MessageMessage.first_number
    MessageMessage.number_of MessageMessage.pair_up MessageMessage.read MessageMessage.values_of MessageRules.allowed_list MessageRules.completed_list
    MessageRules.leads MessageRules.next TableLists.matched TableLists.same TableTable.dual TableTable.is_choice TableTable.is_party
    TableTable.opposite TableTable.sort TableTable.speaker TableView.label_of TypesTypes.flip TypesTypes.hold TypesTypes.matches TypesTypes.opened
types_allow =
    record {
      completes = (refl, refl, refl);
      forbids = (refl, refl, refl);
      leads_back = refl;
      judges = (refl, refl, refl, refl);
      sorts_of = (refl, refl, refl);
      editions_of = (refl, refl);
      innermost_again = (refl, refl);
      outer_again = (refl, refl);
      duals = (refl, refl, refl);
      other_side = (refl, refl);
    }

pub monitor_made : MonitorMade
unfolding GrammarToken.packed GrammarToken.word_of TableView.label_of
monitor_made =
    record {
      of_P = refl;
    }
