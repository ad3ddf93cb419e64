-- The fewest moves in a failure: an answer says K exactly when the shortest failures have K moves, and shows one.
-- Assumes nothing.
use mathlib.Core.Path.{◌≡◌, sym, ap, ◌∙◌, subst}
use mathlib.Core.List.{List}
use mathlib.Core.Option.{Option}
use Prim.Native.Nat.{ℕ}
use native.Mathlib.Omega.{arith}
use Rattle.table.specs.View.{Words, view}
use Rattle.message.specs.Rules.{Rules, table_rules}
use Rattle.machine.specs.Machine.{Move, Fewest, Shortest}
use Rattle.machine.specs.Fit.{shown_moves}
use Rattle.machine.specs.Answer.{Answer, refused, fits, fails, Failed, Answered, FitFewest}
use Rattle.table.proofs.laws.Lists.{never}
use Rattle.machine.proofs.laws.Safe.{fits_safe}
use Rattle.machine.proofs.laws.Answer.{refused_fails, fits_fails}

-- shortest failures have one number of moves
one_length : {D P : Type 0} {x : Rules D} {y : Rules P} {K L : ℕ} {vs ws : List Move} → Shortest x y K vs → Shortest x y L ws → K ≡ L
unfolding Fewest
one_length {vs = vs} {ws = ws} s t =
    omega (arith, s.many, t.many, s.fewest ws t.real t.ends_badly, t.fewest vs s.real s.ends_badly)

module _ (d p : Words) {before after : List ℕ} where
  -- the moves that a failing answer shows
  shows_shortest : {K : ℕ} {h : Option ℕ} (a : Failed d p before after K h)
      → Shortest (table_rules (view d)) (table_rules (view p)) K (shown_moves (view d) (view p) a.numbers h)
  shows_shortest a = record { many = a.played; real = a.failing.real; ends_badly = a.failing.ends_badly; fewest = a.fewest }

  same_failed : {K L : ℕ} {h g : Option ℕ} → fails K h ≡ fails L g → Failed d p before after K h → Failed d p before after L g
  unfolding Answered
  same_failed e a = subst (λ (r : Answer). Answered d p before after r) e a

pub fit_fewest : FitFewest
unfolding Answered
fit_fewest d p before after (refused q) a =
    record {
      exactly = λ K. (λ x. refused_fails x.1, λ w. absurd (a.a_no (sym a.question ∙ w.0)));
      shown = λ K h. refused_fails;
    }
fit_fewest d p before after (fits c) a =
    record {
      exactly = λ K. (
        λ x. fits_fails x.1,
        λ w. never w.2.ends_badly (fits_safe (view d) (view p) a.it_fits w.1),
      );
      shown = λ K h. fits_fails;
    }
fit_fewest d p before after (fails K h) a =
    record {
      exactly = λ L. (
        λ x. (a.asked, _, shows_shortest d p (same_failed d p x.1 a)),
        λ w. (h, ap (λ n. fails n h) (one_length (shows_shortest d p a) w.2)),
      );
      shown = λ L g e. let b = same_failed d p e a in (b.numbers, b.many, b.list, shows_shortest d p b);
    }
