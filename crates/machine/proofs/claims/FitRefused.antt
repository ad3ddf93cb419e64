-- The fit check is refused by 9 and 17, each exactly when document 01 has it.
-- Assumes nothing.
use mathlib.Core.Path.{◌≡◌, refl, sym, ◌∙◌}
use mathlib.Core.Logic.{◌↔◌, ◌⊎◌, inl, inr}
use mathlib.Core.Bool.{Bool, true, false, ◌&&◌}
use mathlib.Core.List.{[], ◌∷◌}
use Prim.Native.Nat.{ℕ, ◌*◌}
use native.Mathlib.Omega.{arith}
use lib.ListN.{length}
use lib.Dec.{leb}
use borrow.Author.Tests.{leb-false, lt-leb}
use Rattle.table.specs.Lists.{first_no}
use Rattle.table.specs.View.{states_of, sound_of}
use Rattle.table.proofs.laws.Lists.{never}
use Rattle.machine.specs.Answer.{fit_questions, FitRefused}
use Rattle.machine.proofs.laws.Answer.{refused_fails}
use Rattle.machine.proofs.claims.DemandThree.{demand_three}

-- the three questions, by what they get
abbrev asked : Bool → Bool → Bool → ℕ
asked a b c = first_no ((9, a) ∷ (9, b) ∷ (17, c) ∷ [])

nine_by : (a b c : Bool) → (asked a b c ≡ 9) ↔ ((a && b) ≡ false)
unfolding first_no
nine_by true true true = (λ e. absurd (omega (arith, e)), λ e. never refl e)
nine_by true true false = (λ e. absurd (omega (arith, e)), λ e. never refl e)
nine_by true false c = (λ e. refl, λ e. refl)
nine_by false b c = (λ e. refl, λ e. refl)

seventeen_by : (a b c : Bool) → (asked a b c ≡ 17) ↔ ((a ≡ true) × (b ≡ true) × (c ≡ false))
unfolding first_no
seventeen_by true true true = (λ e. absurd (omega (arith, e)), λ x. never refl x.2)
seventeen_by true true false = (λ e. (refl, refl, refl), λ x. refl)
seventeen_by true false c = (λ e. absurd (omega (arith, e)), λ x. never x.1 refl)
seventeen_by false b c = (λ e. absurd (omega (arith, e)), λ x. never x.0 refl)

no_other_by : (a b c : Bool) (q : ℕ) → asked a b c ≡ q → (q ≡ 0 → ⊥) → (q ≡ 9) ⊎ (q ≡ 17)
unfolding first_no
no_other_by true true true q e n = absurd (n (sym e))
no_other_by true true false q e n = inr (sym e)
no_other_by true false c q e n = inl (sym e)
no_other_by false b c q e n = inl (sym e)

pub fit_refused : FitRefused
unfolding fit_questions
fit_refused d p before after r a =
    let x = demand_three d p before after r a in
    let wide = leb (states_of d * states_of p) (length before) in
    let nine = nine_by (sound_of d) (sound_of p) wide in
    let seventeen = seventeen_by (sound_of d) (sound_of p) wide in
    record {
      nine = (λ e. nine.0 ((x.refuses 9).0 e).0, λ f. (x.refuses 9).1 (nine.1 f, λ z. omega arith));
      seventeen = (
        λ e. let y = seventeen.0 ((x.refuses 17).0 e).0 in (y.0, y.1, leb-false (states_of d * states_of p) (length before) y.2),
        λ y. (x.refuses 17).1 (seventeen.1 (y.0, y.1, lt-leb (states_of d * states_of p) (length before) y.2), λ z. omega arith),
      );
      no_other = λ q e. let y = (x.refuses q).0 e in no_other_by (sound_of d) (sound_of p) wide q y.0 y.1;
      unchanged = λ q e. x.unchanged (λ K h f. refused_fails (sym e ∙ f));
    }
