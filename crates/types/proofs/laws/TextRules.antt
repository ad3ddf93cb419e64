-- A text that is read: its type is proper and closed, its rules go with its table's, and so they say the same.
-- Assumes nothing.
use mathlib.Core.Path.{◌≡◌, refl, sym, ap, subst}
use mathlib.Core.Bool.{false, not, true≢false}
use mathlib.Core.List.{List}
use mathlib.Core.Option.{Option, some, some-injective}
use Prim.Native.Nat.{ℕ}
use Rattle.table.specs.Table.{Table, Sort, ends, is_choice, sort}
use Rattle.table.specs.Table as Tables
use Rattle.table.specs.View.{view}
use Rattle.message.specs.Rules.{table_rules, Said, led}
use Rattle.message.proofs.laws.Judge.{none_some}
use Rattle.grammar.specs.Grammar.{Ty, table_of, Protocol, edition_named}
use Rattle.grammar.specs.Reading.{reads}
use Rattle.grammar.proofs.laws.Reads.{read_seen}
use Rattle.grammar.proofs.laws.NameToken.{labels_legal}
use Rattle.grammar.proofs.laws.TableOf.{choice_is}
use Rattle.spelling.specs.TextOf.{TextOf}
use Rattle.spelling.proofs.laws.TextOf.{writes}
use Rattle.types.specs.Types.{opened, sort_opened, protocol_rules}
use Rattle.types.proofs.laws.Close.{Closed}
use Rattle.types.proofs.laws.Closed.{bound_closed}
use Rattle.types.proofs.laws.ProtocolRules.{Proper, is_stop}
use Rattle.types.proofs.laws.StandsFor.{Alike, neither, each, Head, an_end, a_choice, head}
use Rattle.types.proofs.laws.Numbering.{at}
use Rattle.types.proofs.laws.Agree.{StandsFor, RulesAlike, rules_alike, led_alike, starts}

module _ (s : List ℕ) (t : Protocol) (x : TextOf s t) where
  pub closed : Closed t.type
  closed = bound_closed t.type x.legal.bound

  pub proper : Proper t.type
  proper =
      record { closed = closed; guard = x.legal.guarded; ranges = x.legal.ranges; labels = x.legal.labels; words = labels_legal s t (writes s t x) }

  pub table : view (reads s).table ≡ table_of t
  table = ((read_seen s (table_of t)).1 (t, writes s t x, x.legal, refl)).1

  abbrev pub T : Table
  T = view (reads s).table

  -- a state stands for each type that the text's type leads to: state 0 for the type itself, and related ones go on together
  pub begins : StandsFor T t.type 0
  begins = subst (λ T. StandsFor T t.type 0) (sym table) (starts t closed x.legal.guarded)

  pub edition_is : edition_named t.opening ≡ T.edition
  unfolding table_of
  edition_is = ap (λ (T : Table). T.edition) (sym table)

  pub text_rules : RulesAlike (StandsFor T) (protocol_rules t) (table_rules T)
  text_rules = rules_alike T t begins edition_is

  stands : (vs : List Said) (u : Ty) → led (protocol_rules t) vs ≡ some u → (n : ℕ) × StandsFor T u n
  stands vs u e = go (led_alike (StandsFor T) (protocol_rules t) (table_rules T) text_rules vs) e
    where
      go : {o : Option Ty} {p : Option ℕ} → Alike (StandsFor T) o p → o ≡ some u → (n : ℕ) × StandsFor T u n
      go neither e = none_some e
      go (each {b = n} r) e = (n, subst (λ u. StandsFor T u n) (some-injective _ _ e) r)

  -- it has come to `end`, or to a choice
  pub end_or_choice : (vs : List Said) (u : Ty) → led (protocol_rules t) vs ≡ some u
      → is_choice (sort_opened (opened u)) ≡ not (is_stop (opened u))
  unfolding is_choice
  end_or_choice vs u e = let r = stands vs u e in go (head (sort T) (at T) r.1)
    where
      go : {n : ℕ} {w : Ty} → Head (sort T) (at T) n w → is_choice (sort_opened w) ≡ not (is_stop w)
      go (an_end e f) = refl
      go (a_choice e ρ s bs w st g c) = choice_is s

pub end_sort : (s : Sort) → is_choice s ≡ false → s ≡ ends
unfolding is_choice
end_sort ends e = refl
end_sort Tables.sends e = absurd (true≢false e)
end_sort Tables.receives e = absurd (true≢false e)
