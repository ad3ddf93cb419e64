-- What a text's protocol computes is what the published rules say; a type and its table, and their duals, allow and complete the same lists.
-- Assumes nothing.
use mathlib.Core.Path.{◌≡◌, sym, ap, ◌∙◌}
use mathlib.Core.Logic.{◌↔◌}
use mathlib.Core.Bool.{not}
use mathlib.Core.Option.{some}
use borrow.Author.Tests.{not-false}
use Rattle.table.specs.Table.{is_choice, dual as dual_table}
use Rattle.table.specs.View.{view}
use Rattle.table.proofs.claims.DualTwice.{dual_view}
use Rattle.message.specs.Rules.{table_rules, led}
use Rattle.grammar.specs.Reading.{reads}
use Rattle.grammar.proofs.laws.Reads.{read_sound}
use Rattle.spelling.proofs.laws.TextOf.{is_read}
use Rattle.types.specs.Types.{Steps, opened, sort_opened, protocol_rules}
use Rattle.types.specs.Headline.{ByRules, RulesExactly, SameLists, DualTable, DualLists}
use Rattle.types.proofs.laws.ProtocolRules.{Proper, ends_exactly, step_exactly, turns_exactly, proper_leads, steps_exactly}
use Rattle.types.proofs.laws.Agree.{StandsFor, allowed_alike, completed_alike}
use Rattle.types.proofs.laws.DualType.{dual_table_of, dual_allowed, dual_completed}
use Rattle.types.proofs.laws.TextRules.{end_or_choice, end_sort, proper, text_rules, table, closed}

pub rules_exactly : RulesExactly
unfolding is_choice
rules_exactly s t x vs u = (exactly, λ y. by_rules (exactly.0 y))
  where
    p : Proper t.type
    p = proper s t x

    exactly : Steps t.type vs u ↔ (led (protocol_rules t) vs ≡ some u)
    exactly = steps_exactly t t.type u vs p

    by_rules : led (protocol_rules t) vs ≡ some u → ByRules t u
    by_rules e =
        let q = proper_leads t t.type u vs p e in
        let c = end_or_choice s t x vs u e in
        record {
          steps = λ v w. step_exactly t u v w q;
          turns = λ side. turns_exactly t u side q;
          over = (
            λ f. (ends_exactly u q).1 (not-false _ (sym c ∙ ap is_choice f)),
            λ y. end_sort (sort_opened (opened u)) (c ∙ ap not ((ends_exactly u q).0 y)),
          );
        }

pub same_lists : SameLists
same_lists s t x vs =
    let T = view (reads s).table in
    let g = text_rules s t x in (
      allowed_alike (StandsFor T) (protocol_rules t) (table_rules T) g vs,
      completed_alike (StandsFor T) (protocol_rules t) (table_rules T) g vs,
    )

pub text_dual : DualTable
text_dual s t x = dual_view (reads s).table (read_sound s (is_read s t x)) ∙ ap dual_table (table s t x) ∙ sym (dual_table_of t)

pub dual_lists : DualLists
dual_lists s t x vs =
    let c = closed s t x in
    let g = x.legal.guarded in
    (dual_allowed t c g vs, dual_completed t c g vs)
