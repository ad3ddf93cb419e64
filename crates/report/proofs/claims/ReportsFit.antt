-- Where both texts are read, the report says `fit` exactly when no list of moves ends with the device blamed or the machine jammed,
-- and `no fit` exactly when one does, with a shortest one.
-- Assumes nothing.
use mathlib.Core.Path.{◌≡◌, refl, sym, ap}
use mathlib.Core.Logic.{◌↔◌}
use mathlib.Core.List.{List}
use mathlib.Core.Option.{Option}
use Prim.Native.Nat.{ℕ}
use native.Mathlib.Omega.{arith}
use lib.ListN.{get_or}
use Rattle.table.specs.Table.{Table}
use Rattle.table.specs.View.{view}
use Rattle.table.proofs.laws.Lists.{never}
use Rattle.grammar.specs.Reading.{reads}
use Rattle.grammar.proofs.laws.Reads.{read_sound}
use Rattle.message.specs.Rules.{table_rules}
use Rattle.machine.specs.Machine.{run, Safe, Unsafe}
use Rattle.machine.specs.Fit.{shown_moves}
use Rattle.machine.proofs.laws.Branch.{Sound}
use Rattle.fit.proofs.laws.CoveredBy.{view_sound}
use Rattle.machine.proofs.laws.Answer.{fits_exactly}
use Rattle.machine.proofs.laws.Failing.{shown_length}
use Rattle.report.specs.Report.{line, fit, no_fit, Compared, says_fit, says_no_fit, ReportsFit, ReportsNoFit, ShowsFewest, ReportsFewest}

-- the two begin with other letters
apart : {X : Type 0} (d p : Table) (c : ℕ) (ks : List ℕ) (h : Option ℕ) → fit c ≡ no_fit d p ks h → X
unfolding fit no_fit line
apart d p c ks h e = let z : ◌≡◌ {A = ℕ} 102 110 = ap (λ l. get_or l 0 0) e in absurd (omega arith)

module _ (d p : Table) (sd : Sound d) (sp : Sound p) where
  safe_fits : (text : List ℕ) → Compared d p text → ((c : ℕ) × (text ≡ fit c)) ↔ Safe (table_rules d) (table_rules p)
  unfolding Safe run
  safe_fits text (says_fit c f n) = (λ x. (fits_exactly d p sd sp).0 f, λ g. (c, refl))
  safe_fits text (says_no_fit ks h f l m) = (
    λ x. apart d p x.0 ks h (sym x.1),
    λ g. never f.ends_badly (g (shown_moves d p ks h) f.real),
  )

  unsafe_fails : (text : List ℕ) → Compared d p text
      → ((ks : List ℕ) × (h : Option ℕ) × (text ≡ no_fit d p ks h)) ↔ Unsafe (table_rules d) (table_rules p)
  unfolding Safe Unsafe run
  unsafe_fails text (says_fit c f n) = (
    λ x. apart d p c x.0 x.1 x.2,
    λ w. never w.2 ((fits_exactly d p sd sp).0 f w.0 w.1),
  )
  unsafe_fails text (says_no_fit ks h f l m) = (λ x. (shown_moves d p ks h, f.real, f.ends_badly), λ w. (ks, h, refl))

  shows_fewest : (text : List ℕ) → Compared d p text → ShowsFewest (table_rules d) (table_rules p) d p text
  unfolding Safe Unsafe run
  shows_fewest text (says_fit c f n) w = never w.2 ((fits_exactly d p sd sp).0 f w.0 w.1)
  shows_fewest text (says_no_fit ks h f l m) w =
      (ks, h, refl, record { many = shown_length d p _ ks h; real = f.real; ends_badly = f.ends_badly; fewest = m })

pub reports_fit : ReportsFit
reports_fit protocol device text r p d =
    safe_fits (view (reads device).table) (view (reads protocol).table) (view_sound (reads device).table (read_sound device d))
    (view_sound (reads protocol).table (read_sound protocol p)) text (r.compared p d)

pub reports_no_fit : ReportsNoFit
reports_no_fit protocol device text r p d =
    unsafe_fails (view (reads device).table) (view (reads protocol).table) (view_sound (reads device).table (read_sound device d))
    (view_sound (reads protocol).table (read_sound protocol p)) text (r.compared p d)

pub reports_fewest : ReportsFewest
reports_fewest protocol device text r p d =
    shows_fewest (view (reads device).table) (view (reads protocol).table) (view_sound (reads device).table (read_sound device d))
    (view_sound (reads protocol).table (read_sound protocol p)) text (r.compared p d)
