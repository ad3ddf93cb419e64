-- Demand 3: refused, fits and fails, each exactly when; under either edition.
-- Assumes nothing.
use mathlib.Core.Path.{refl, sym, ap, ◌∙◌, subst}
use mathlib.Core.List.{List}
use Prim.Native.Nat.{ℕ}
use Rattle.table.specs.View.{view}
use Rattle.message.specs.Rules.{table_rules}
use Rattle.machine.specs.Machine.{Move, Safe, Unsafe}
use Rattle.machine.specs.Fit.{Count, shown_moves}
use Rattle.machine.specs.Answer.{Answer, refused, fits, fails, Answered, SafeTables, DemandThree, PassesUnderEither}
use Rattle.table.proofs.laws.Lists.{never}
use Rattle.machine.proofs.laws.Safe.{fits_safe}
use Rattle.machine.proofs.claims.OneCount.{one_count}
use Rattle.machine.proofs.claims.EditionUnseen.{edition_unseen}
use Rattle.machine.proofs.laws.Answer.{fits_fails, refused_fails, refused_fits, same_count, same_question}

pub demand_three : DemandThree
unfolding Answered Safe Unsafe
demand_three d p before after (refused q) a =
    record {
      refuses = λ r. (
        λ e. (a.question ∙ same_question e, λ z. a.a_no (same_question e ∙ z)),
        λ w. ap refused (sym a.question ∙ w.0),
      );
      passes = λ c. (refused_fits, λ w. absurd (a.a_no (sym a.question ∙ w.0)));
      fails_exactly = (λ x. refused_fails x.2, λ w. absurd (a.a_no (sym a.question ∙ w.0)));
      shows = λ K h. refused_fails;
      unchanged = λ n. a.unchanged;
    }
demand_three d p before after (fits c) a =
    record {
      refuses = λ q. (λ e. refused_fits (sym e), λ w. absurd (w.1 (sym w.0 ∙ a.asked)));
      passes = λ e. (
        λ x. (a.asked, never_blamed, subst (λ (c : ℕ). Count (view d) (view p) c) (same_count x) a.count),
        λ w. ap fits (one_count (view d) (view p) c e a.count w.2),
      );
      fails_exactly = (λ x. fits_fails x.2, λ w. never w.1.2 (never_blamed w.1.0 w.1.1));
      shows = λ K h. fits_fails;
      unchanged = λ n. a.unchanged;
    }
  where
    never_blamed : SafeTables d p
    never_blamed vs w = fits_safe (view d) (view p) a.it_fits vs
demand_three d p before after (fails K h) a =
    record {
      refuses = λ q. (λ e. refused_fails (sym e), λ w. absurd (w.1 (sym w.0 ∙ a.asked)));
      passes = λ c. (λ e. fits_fails (sym e), λ w. never a.failing.ends_badly (w.1 vs a.failing.real));
      fails_exactly = (λ x. (a.asked, (vs, a.failing.real, a.failing.ends_badly)), λ w. (K, h, refl));
      shows = λ L g e. subst (λ (r : Answer). Answered d p before after r) e a;
      unchanged = λ n. absurd (n K h refl);
    }
  where
    vs : List Move
    vs = shown_moves (view d) (view p) a.numbers h

-- a device that passes
pub passes_under_either : PassesUnderEither
unfolding Answered Safe
passes_under_either d p before after c a e =
    (edition_unseen ℕ ℕ (table_rules (view d)) (table_rules (view p)) e).safe.0 (λ vs w. fits_safe (view d) (view p) a.it_fits vs)
