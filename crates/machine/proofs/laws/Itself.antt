-- A table fits itself, and its reachable pairs are those of each state with itself.
-- Assumes nothing.
use mathlib.Core.Path.{◌≡◌, refl, sym, ◌∙◌, subst}
use mathlib.Core.Logic.{⊎_elim}
use mathlib.Core.Bool.{true, not, ◌&&◌, ◌||◌}
use mathlib.Core.List.{List, [], ◌∷◌}
use Prim.Native.Nat.{ℕ}
use native.Mathlib.Nat.{le_refl}
use lib.Dec.{eqb}
use borrow.Author.Tests.{eq-eqb, le-leb}
use Rattle.table.specs.Lists.{some_one, matched}
use Rattle.table.specs.Table.{Sort, ends, sends, receives, Field, Branch, Table, sort}
use Rattle.machine.specs.Machine.{Move, Effect, forward}
use Rattle.machine.specs.Fit.{contained, covered, heard, right, Reachable, Fits}
use Rattle.machine.specs.inner.Walks.{does_at}
use Rattle.table.proofs.laws.Lists.{never, join, decided}
use Rattle.table.proofs.laws.View.{same_refl}
use Rattle.machine.proofs.laws.At.{not_implied, every_not, some_of}
use Rattle.machine.proofs.laws.Right.{right_ends, right_sends, right_receives}
use Rattle.machine.proofs.laws.Does.{Doing, device_on, host_on, doing}
use Rattle.machine.proofs.laws.Safe.{Closed, closed_reachable, closed_fits}

contained_itself : (fs : List Field) → matched contained fs fs ≡ true
unfolding matched contained
contained_itself [] = refl
contained_itself (f ∷ fs) =
    join (join (eq-eqb f.kind f.kind refl)
    (join (le-leb f.low f.low (le_refl f.low)) (le-leb f.high f.high (le_refl f.high)))) (contained_itself fs)

heard_itself : (bs : List Branch) (i : ℕ) → heard bs i bs i ≡ true
unfolding heard covered
heard_itself bs i =
    ⊎_elim (λ e. e)
    (λ e.
    let x = every_not (λ (b : Branch). not (eqb b.owner i) || some_one (λ (c : Branch). eqb c.owner i && covered b c) bs) bs e in
    let b = x.item in
    let y = not_implied (eqb b.owner i) (some_one (λ (c : Branch). eqb c.owner i && covered b c) bs) x.is in
    never (some_of (λ (c : Branch). eqb c.owner i && covered b c) x.at
    (join y.0 (join (same_refl b.label) (contained_itself b.fields)))) y.1)
    (decided (heard bs i bs i))

module _ (t : Table) where
  right_itself : (i : ℕ) → right t t i i ≡ true
  right_itself i = go (sort t i) refl
    where
      go : (s : Sort) → sort t i ≡ s → right t t i i ≡ true
      go ends e = right_ends t t i i e e
      go sends e = right_sends t t i i e e ∙ heard_itself t.branches i
      go receives e = right_receives t t i i e e ∙ heard_itself t.branches i

  -- both are led by one message to one state
  together : (i x y : ℕ) (v : Move) → does_at t t i i v ≡ forward x y → x ≡ y
  together i x y v e = go (subst (λ (f : Effect ℕ ℕ). Doing t t i i v f) e (doing t t i i v))
    where
      go : Doing t t i i v (forward x y) → x ≡ y
      go (device_on a b f g) = cc
      go (host_on a b f g) = cc

  diagonal : Closed t t (λ i j. i ≡ j)
  diagonal =
      record {
        has_start = refl;
        has_right = λ i j e. subst (λ (j : ℕ). right t t i j ≡ true) e (right_itself i);
        has_next = λ i j x y v e f. together i x y v (subst (λ (j : ℕ). does_at t t i j v ≡ forward x y) (sym e) f);
      }

  pub table_fits_itself : Fits t t
  table_fits_itself = closed_fits t t (λ i j. i ≡ j) diagonal

  pub reachable_itself : {i j : ℕ} → Reachable t t i j → i ≡ j
  reachable_itself r = closed_reachable t t (λ i j. i ≡ j) diagonal r
