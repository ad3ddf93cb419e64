-- The claims of texts: reading joins bytes and types, and a type and its table go on together, in conversations and on the machine.
-- Assumes nothing.
use mathlib.Core.Path.{◌≡◌, refl, sym, subst₂, ◌∙◌}
use mathlib.Core.Logic.{◌↔◌}
use mathlib.Core.List.{List}
use Prim.Native.Nat.{ℕ, ◌*◌}
use lib.ListN.{length}
use borrow.Author.Tests.{le-leb}
use Rattle.table.specs.Table.{Table}
use Rattle.table.specs.Lists.{first_no}
use Rattle.table.specs.View.{states_of, view}
use Rattle.table.proofs.laws.Lists.{never}
use Rattle.message.specs.Rules.{Rules, table_rules}
use Rattle.grammar.specs.Grammar.{Ty, Protocol, edition_named}
use Rattle.grammar.specs.Reading.{reads}
use Rattle.grammar.proofs.laws.Reads.{read_sound}
use Rattle.spelling.specs.TextOf.{TextOf}
use Rattle.spelling.proofs.claims.ReadExactly.{protocol_once}
use Rattle.spelling.proofs.laws.TextOf.{is_read, its_protocol}
use Rattle.types.specs.Types.{protocol_rules}
use Rattle.types.proofs.laws.Agree.{StandsFor}
use Rattle.types.proofs.laws.TextRules.{text_rules}
use Rattle.types.proofs.laws.Headline.{type_demand, type_early}
use Rattle.conversation.specs.Conversation.{forwarded_ones, blamed_first}
use Rattle.conversation.specs.Programs.{messages_of}
use Rattle.conversation.proofs.claims.CallsWatched.{calls_watched}
use Rattle.machine.specs.Machine.{Move, Safe, Unsafe, Shortest}
use Rattle.machine.specs.Answer.{Answer, refused, fits, fails, fit_questions, Demand}
use Rattle.machine.proofs.claims.DemandThree.{demand_three}
use Rattle.machine.proofs.laws.Edition.{safe_back}
use Rattle.machine.proofs.claims.FitFewest.{fit_fewest}
use Rattle.together.proofs.claims.CallsUnblamed.{calls_unblamed}
use Rattle.codes.specs.RawPrograms.{calls_of}
use Rattle.codes.proofs.laws.RawPrograms.{watched_raw}
use Rattle.report.proofs.claims.ReportsFit.{reports_fit, reports_no_fit, reports_fewest}
use Rattle.demands.specs.Demands.{ReadOfTexts, OneProtocol, DemandTwoOfTexts, CallsOfTexts, RawOfTexts, EarlyOfTexts, DemandThreeOfTexts, EditionsOfTexts, ReportsOfTexts, FewestOfTexts, ReportsFewestOfTexts, UnblamedOfTexts}
use Rattle.demands.proofs.laws.AwaitedBy.{awaited_alike}
use Rattle.demands.proofs.laws.Likeness.{alike_itself, safe_like, unsafe_like, shortest_like}

-- ---- one text

pub read_of_texts : ReadOfTexts
read_of_texts s = (λ h. its_protocol s h, λ x. is_read s x.0 x.1)

pub one_protocol : OneProtocol
one_protocol s p q x y = protocol_once s p q x.spelt y.spelt

pub demand_two_of_texts : DemandTwoOfTexts
demand_two_of_texts s t x sent = type_demand s t x sent

pub calls_of_texts : CallsOfTexts
calls_of_texts s p x z low high calls =
    let T = view (reads s).table in
    let w = calls_watched (reads s).table z (read_sound s (is_read s p x)) low high calls in
    record {
      starts = w.starts;
      events = w.events;
      answers = w.answers;
      conversing = w.conversing;
      watched = demand_two_of_texts s p x (messages_of w.events);
      awaits =
          awaited_alike (StandsFor T) (protocol_rules p) (table_rules T) (text_rules s p x) (forwarded_ones w.events)
          (blamed_first w.events) _ w.awaits;
      tallied = w.tallied;
    }

pub raw_of_texts : RawOfTexts
raw_of_texts s p x z low high raws =
    watched_raw (reads s).table (protocol_rules p) z raws (calls_of_texts s p x z low high (calls_of raws))

pub early_of_texts : EarlyOfTexts
early_of_texts s p x sent = type_early s p x sent

-- ---- two texts

module _ (protocol device : List ℕ) (p d : Protocol) (x : TextOf protocol p) (y : TextOf device d) where
  abbrev T : Table
  T = view (reads device).table

  abbrev U : Table
  U = view (reads protocol).table

  safe : Safe (protocol_rules d) (protocol_rules p) ↔ Safe (table_rules T) (table_rules U)
  safe =
      safe_like (StandsFor T) (StandsFor U) (protocol_rules d) (table_rules T) (protocol_rules p) (table_rules U) (text_rules device d y)
      (text_rules protocol p x)

  unsafe : Unsafe (protocol_rules d) (protocol_rules p) ↔ Unsafe (table_rules T) (table_rules U)
  unsafe =
      unsafe_like (StandsFor T) (StandsFor U) (protocol_rules d) (table_rules T) (protocol_rules p) (table_rules U) (text_rules device d y)
      (text_rules protocol p x)

  shortest : (K : ℕ) (vs : List Move) → Shortest (protocol_rules d) (protocol_rules p) K vs ↔ Shortest (table_rules T) (table_rules U) K vs
  shortest =
      shortest_like (StandsFor T) (StandsFor U) (protocol_rules d) (table_rules T) (protocol_rules p) (table_rules U) (text_rules device d y)
      (text_rules protocol p x)

  -- the device's type against the protocol's table, which the monitor has
  beside : Safe (protocol_rules d) (protocol_rules p) ↔ Safe (protocol_rules d) (table_rules U)
  beside =
      safe_like (◌≡◌ {A = Ty}) (StandsFor U) (protocol_rules d) (protocol_rules d) (protocol_rules p) (table_rules U) (alike_itself (protocol_rules d))
      (text_rules protocol p x)

safe_unsafe : {D P X : Type 0} (d : Rules D) (p : Rules P) → Safe d p → Unsafe d p → X
unfolding Safe Unsafe
safe_unsafe d p f u = never u.2 (f u.0 u.1)

pub demand_three_of_texts : DemandThreeOfTexts
unfolding fit_questions first_no
demand_three_of_texts protocol device p d x y before after room r answered =
    let a = safe protocol device p d x y in
    let b = unsafe protocol device p d x y in
    let q = demand_three (reads device).table (reads protocol).table before after r answered in
    record {
      passes = (λ h. a.1 ((q.passes h.0).0 h.1).1, λ h. either q (a.0 h));
      fails_exactly = (λ h. b.1 (q.fails_exactly.0 h).1, λ h. q.fails_exactly.1 (yes, b.0 h));
    }
  where
    yes : first_no (fit_questions (reads device).table (reads protocol).table (length before)) ≡ 0
    yes =
        rw (
          read_sound device (is_read device d y),
          read_sound protocol (is_read protocol p x),
          le-leb (states_of (reads device).table * states_of (reads protocol).table) (length before) room,
        )

    -- a safe pair is not refused, and does not fail
    either : Demand (reads device).table (reads protocol).table before after r
        → Safe (table_rules (view (reads device).table)) (table_rules (view (reads protocol).table)) → (c : ℕ) × (r ≡ fits c)
    either q h = go r refl
      where
        go : (a : Answer) → r ≡ a → (c : ℕ) × (r ≡ fits c)
        go (fits c) e = (c, e)
        go (refused n) e = let z = (q.refuses n).0 e in absurd (z.1 (sym z.0 ∙ yes))
        go (fails K f) e = let z = (q.fails_exactly.0 (K, f, e)).1 in safe_unsafe _ _ h z

pub reports_of_texts : ReportsOfTexts
reports_of_texts protocol device p d x y report r =
    let a = safe protocol device p d x y in
    let b = unsafe protocol device p d x y in
    let f = reports_fit protocol device report r (is_read protocol p x) (is_read device d y) in
    let g = reports_no_fit protocol device report r (is_read protocol p x) (is_read device d y) in
    record {
      says_fit = (λ h. a.1 (f.0 h), λ h. f.1 (a.0 h));
      says_no_fit = (λ h. b.1 (g.0 h), λ h. g.1 (b.0 h));
    }

pub editions_of_texts : EditionsOfTexts
editions_of_texts p q d c e f h =
    let n = edition_named q.opening in
    let m = edition_named c.opening in
    subst₂ (λ (t u : Ty). Safe (protocol_rules (record { opening = c.opening; type = u })) (protocol_rules (record { opening = q.opening; type = t }))) e f
    (safe_back (protocol_rules d) (protocol_rules p) m (edition_named d.opening) n (edition_named p.opening) h)

pub fewest_of_texts : FewestOfTexts
fewest_of_texts protocol device p d x y before after r answered =
    let a = shortest protocol device p d x y in
    let q = fit_fewest (reads device).table (reads protocol).table before after r answered in
    record {
      exactly = λ K. (
        λ h. let z = (q.exactly K).0 h in (z.0, z.1, (a K z.1).1 z.2),
        λ h. (q.exactly K).1 (h.0, h.1, (a K h.1).0 h.2),
      );
      shown = λ K h e. let z = q.shown K h e in (z.0, z.1, z.2, (a K _).1 z.3);
    }

pub reports_fewest_of_texts : ReportsFewestOfTexts
reports_fewest_of_texts protocol device p d x y report r u =
    let b = unsafe protocol device p d x y in
    let z = reports_fewest protocol device report r (is_read protocol p x) (is_read device d y) (b.0 u) in
    (z.0, z.1, z.2, (shortest protocol device p d x y (length z.0) _).1 z.3)

pub unblamed_of_texts : UnblamedOfTexts
unblamed_of_texts protocol device p d x y safe =
    calls_unblamed Ty (protocol_rules d) (reads protocol).table (read_sound protocol (is_read protocol p x)) ((beside protocol device p d x y).0 safe)
