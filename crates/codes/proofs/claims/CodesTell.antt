-- The fit check's codes are those of one answer only: a field that is shown high is one of at most four, so its code is not 255. Where they
-- say that it fails, what opens the list is a shortest failure.
-- Assumes nothing.
use mathlib.Core.Path.{◌≡◌, refl, sym, ap, ap₂, subst}
use mathlib.Core.Bool.{true}
use mathlib.Core.List.{List, [], ◌∷◌}
use mathlib.Core.Option.{Option, none, some}
use Prim.Native.Nat.{ℕ, ◌≤◌, ◌<◌}
use native.Mathlib.Omega.{arith}
use borrow.Author.Tests.{ltb-true}
use Rattle.table.specs.Lists.{every}
use Rattle.table.specs.View.{Words}
use Rattle.table.proofs.laws.Lists.{both}
use Rattle.message.specs.Message.{well_formed}
use Rattle.message.proofs.laws.Message.{formed_whole}
use Rattle.machine.specs.Machine.{Move, moves}
use Rattle.machine.specs.Fit.{last_count, field_named}
use Rattle.machine.specs.Answer.{Answer, refused, fits, fails, Failed, Answered}
use Rattle.machine.proofs.claims.FitFewest.{fit_fewest}
use Rattle.codes.specs.declared.fits.Fit.{Fit}
use Rattle.codes.specs.Codes.{high_code, fit_codes}
use Rattle.codes.specs.Calls.{CodesTell, ShownCodes, CodesFewest}

last_few : (vs : List Move) → moves vs ≡ true → last_count vs ≤ 4
unfolding moves every last_count
last_few [] e = omega arith
last_few (v ∷ []) e = (formed_whole v.bytes (both (well_formed v.bytes) true e).0).few
last_few (v ∷ w ∷ vs) e = last_few (w ∷ vs) (both (well_formed v.bytes) (moves (w ∷ vs)) e).1

module _ (d p : Words) (before : List ℕ) where
  high_few : (after : List ℕ) (K f : ℕ) → Failed d p before after K (some f) → f < 4
  unfolding field_named
  high_few after K f x =
      let l = last_few _ x.failing.real in
      let h = ltb-true f _ x.failing.field_is_there in
      omega (arith, l, h)

  same_high : (a b : List ℕ) (K L : ℕ) (h i : Option ℕ) → Failed d p before a K h → Failed d p before b L i → high_code h ≡ high_code i → h ≡ i
  same_high a b K L none none x y e = refl
  same_high a b K L none (some i) x y e = absurd (omega (arith, e, high_few b L i y))
  same_high a b K L (some h) none x y e = absurd (omega (arith, e, high_few a K h x))
  same_high a b K L (some h) (some i) x y e = ap some e

pub codes_tell : CodesTell
unfolding Answered
codes_tell d p before a b (refused q) (refused q') u v e = ap refused (ap (λ (r : Fit). r.question) e)
codes_tell d p before a b (fits c) (fits c') u v e = ap fits (ap (λ (r : Fit). r.count) e)
codes_tell d p before a b (fails K h) (fails K' h') u v e =
    ap₂ fails (ap (λ (r : Fit). r.count) e) (same_high d p before a b K K' h h' u v (ap (λ (r : Fit). r.high) e))
codes_tell d p before a b (refused q) (fits c) u v e = absurd (omega (arith, ap (λ (r : Fit). r.outcome) e))
codes_tell d p before a b (refused q) (fails K h) u v e = absurd (omega (arith, ap (λ (r : Fit). r.outcome) e))
codes_tell d p before a b (fits c) (refused q) u v e = absurd (omega (arith, ap (λ (r : Fit). r.outcome) e))
codes_tell d p before a b (fits c) (fails K h) u v e = absurd (omega (arith, ap (λ (r : Fit). r.outcome) e))
codes_tell d p before a b (fails K h) (refused q) u v e = absurd (omega (arith, ap (λ (r : Fit). r.outcome) e))
codes_tell d p before a b (fails K h) (fits c) u v e = absurd (omega (arith, ap (λ (r : Fit). r.outcome) e))

shown_codes : (d p : Words) (before after : List ℕ) (a : Answer) → Answered d p before after a → (fit_codes a).outcome ≡ 1
    → ShownCodes d p before after (fit_codes a)
shown_codes d p before after (refused q) x e = absurd (omega (arith, e))
shown_codes d p before after (fits c) x e = absurd (omega (arith, e))
shown_codes d p before after (fails K h) x e =
    let z = (fit_fewest d p before after (fails K h) x).shown K h refl in
    record { numbers = z.0; field = h; many = z.1; high_is = refl; list = z.2; shortest = z.3 }

pub codes_fewest : CodesFewest
codes_fewest d p before after r c =
    subst (λ (r : Fit). r.outcome ≡ 1 → ShownCodes d p before after r) (sym c.codes) (shown_codes d p before after c.answer c.answered)
