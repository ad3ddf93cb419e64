-- Answers that are `Answered`: a description fits exactly when no list of moves ends badly, and no two answers go together.
-- Assumes nothing.
use mathlib.Core.Path.{◌≡◌}
use mathlib.Core.Logic.{⊎_elim, ◌↔◌}
use mathlib.Core.Option.{Option}
use Prim.Native.Nat.{ℕ}
use native.Mathlib.Omega.{arith}
use Rattle.table.specs.Table.{Table}
use Rattle.message.specs.Rules.{table_rules}
use Rattle.machine.specs.Machine.{Safe, Unsafe}
use Rattle.machine.specs.Fit.{right, Fits}
use Rattle.machine.specs.Answer.{refused, fits, fails}
use Rattle.table.proofs.laws.Lists.{never, decided}
use Rattle.machine.proofs.laws.Branch.{Sound}
use Rattle.machine.proofs.laws.Reachable.{reachable_reached}
use Rattle.machine.proofs.laws.Safe.{fits_safe}
use Rattle.machine.proofs.laws.Failing.{wrong_ends}

-- on the machine's side
pub fits_exactly : (d p : Table) → Sound d → Sound p → Fits d p ↔ Safe (table_rules d) (table_rules p)
unfolding Fits Safe Unsafe
fits_exactly d p sd sp = (
  λ f vs w. fits_safe d p f vs,
  λ g i j r.
      ⊎_elim (λ e. e)
      (λ e. let x = wrong_ends d p sd sp (reachable_reached d p r).1 e in never x.2 (g x.0 x.1))
      (decided (right d p i j)),
)

-- ---- the three cases of an answer differ

pub refused_fits : {X : Type 0} {q c : ℕ} → refused q ≡ fits c → X
refused_fits e = let z : ◌≡◌ {A = ℕ} 0 1 = cc in absurd (omega arith)

pub refused_fails : {X : Type 0} {q K : ℕ} {h : Option ℕ} → refused q ≡ fails K h → X
refused_fails e = let z : ◌≡◌ {A = ℕ} 0 1 = cc in absurd (omega arith)

pub fits_fails : {X : Type 0} {c K : ℕ} {h : Option ℕ} → fits c ≡ fails K h → X
fits_fails e = let z : ◌≡◌ {A = ℕ} 0 1 = cc in absurd (omega arith)

pub same_question : {q r : ℕ} → refused q ≡ refused r → q ≡ r
same_question e = cc

pub same_count : {c e : ℕ} → fits c ≡ fits e → c ≡ e
same_count e = cc
