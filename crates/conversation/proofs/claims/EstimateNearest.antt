-- The estimate is the nearest whole, no number of the comparison is too large, every branch has a sender, and document 02's example holds.
-- Assumes nothing.
use mathlib.Core.Path.{◌≡◌, refl, sym, ap, subst, ◌∙◌}
use mathlib.Core.Logic.{◌↔◌, ⊎_elim}
use mathlib.Core.Option.{none, some}
use Prim.Native.Nat.{ℕ, zero, suc, ◌+◌, ◌*◌, ◌/◌, ◌≤◌, ◌<◌}
use native.Mathlib.Nat.{le_refl, mul-le-mul, div-mul-le_self, lt-div-mul-add, mul_assoc, mul_comm}
use native.Mathlib.Omega.{arith}
use lib.Dec.{leb}
use borrow.Author.Tests.{leb-true, leb-false}
use Rattle.table.specs.Table.{speaker}
use Rattle.table.specs.View.{owner_at, share_at, sort_at, sort_of}
use Rattle.table.specs.declared.Party.{Party}
use Rattle.table.specs.declared.Party.TheVariants.{Device, Host}
use Rattle.table.proofs.laws.Lists.{decided}
use Rattle.table.proofs.laws.View.{sort_of_is}
use Rattle.message.proofs.laws.Judge.{none_some, some_eq}
use Rattle.conversation.specs.Counts.{setting_of, n_at, k_at}
use Rattle.conversation.specs.Warning.{difference, square, warns, rounded, estimate, EstimateNearest, WithinBounds, SenderThere, WarningExamples}
use Rattle.conversation.proofs.laws.Warning.{estimate_some, edge_most, far_most, told}

near : (n k e : ℕ) → estimate n k ≡ some e → (0 < n) × (2 * e * n ≤ 2 * (1000 * k) + n) × (2 * (1000 * k) + n < 2 * e * n + 2 * n)
unfolding estimate rounded
near zero k e h = none_some h
near (suc m) k e h =
    let n = suc m in
    let x = 2 * (1000 * k) + n in
    let q : x / (2 * n) ≡ e = some_eq h in
    let d : e * (2 * n) ≡ 2 * e * n = sym (mul_assoc e 2 n) ∙ ap (λ y. y * n) (mul_comm e 2) in
    let a : e * (2 * n) ≤ x = subst (λ y. y * (2 * n) ≤ x) q (div-mul-le_self x (2 * n)) in
    let b : x < e * (2 * n) + 2 * n = subst (λ y. x < y * (2 * n) + 2 * n) q (lt-div-mul-add (omega arith)) in
    (omega arith, omega arith, omega arith)

-- no larger whole is as near
not_above : (n x d e : ℕ) → 2 * e * n ≤ x → x < 2 * d * n + 2 * n → e ≤ d
not_above n x d e l h = ⊎_elim (λ y. leb-true e d y) (λ y. absurd (above (leb-false e d y))) (decided (leb e d))
  where
    above : d < e → ⊥
    above m =
        let y : 2 * d + 2 ≤ 2 * e = omega arith in
        let z : (2 * d + 2) * n ≤ 2 * e * n = mul-le-mul y (le_refl n) in
        omega (arith, l, h, z)

pub estimate_nearest : EstimateNearest
unfolding estimate
estimate_nearest n k = (none_at n, λ e. (near n k e, found n e))
  where
    none_at : (n : ℕ) → (estimate n k ≡ none) ↔ (n ≡ 0)
    none_at zero = (λ h. refl, λ h. refl)
    none_at (suc m) = (λ h. none_some (sym h), λ h. absurd (omega (arith, h)))

    found : (n e : ℕ) → (0 < n) × (2 * e * n ≤ 2 * (1000 * k) + n) × (2 * (1000 * k) + n < 2 * e * n + 2 * n) → estimate n k ≡ some e
    found n e h =
        let x = 2 * (1000 * k) + n in
        let d = rounded n k in
        let s : estimate n k ≡ some d = estimate_some n k (λ z. omega (arith, z, h.0)) in
        let g = near n k d s in
        let a : e ≤ d = not_above n x d e h.1 g.2 in
        let b : d ≤ e = not_above n x e d g.1 h.2 in
        s ∙ ap some (omega arith)

small : (n k : ℕ) → k ≤ n → (e : ℕ) → estimate n k ≡ some e → e ≤ 1000
small n k l e h = ⊎_elim (λ y. leb-true e 1000 y) (λ y. absurd (large (leb-false e 1000 y))) (decided (leb e 1000))
  where
    x : (0 < n) × (2 * e * n ≤ 2 * (1000 * k) + n) × (2 * (1000 * k) + n < 2 * e * n + 2 * n)
    x = near n k e h

    large : 1000 < e → ⊥
    large m =
        let y : 2002 ≤ 2 * e = omega arith in
        let z : 2002 * n ≤ 2 * e * n = mul-le-mul y (le_refl n) in
        omega (arith, x.1, x.2, l, z)

pub within_bounds : WithinBounds
within_bounds t s c b e =
    let x = told t s c b e in
    let n = n_at c (owner_at t b) in
    let k = k_at c b in (
      x.few.taken,
      far_most (setting_of c) (share_at t b) n k x.setting x.share x.few.selected x.few.taken,
      edge_most (setting_of c) (share_at t b) n k x.setting x.share x.few.selected x.few.taken,
      small n k x.few.taken,
    )

pub sender_there : SenderThere
unfolding sort_of speaker
sender_there t s c b e =
    let k = told t s c b e in
    let x = has_sender (sort_at t (owner_at t b)) k.choice in
    (x.0, ap speaker (sort_of_is t (owner_at t b) k.owner) ∙ x.1)
  where
    has_sender : (x : ℕ) → (x ≡ 0 → ⊥) → (side : Party) × (speaker (sort_of x) ≡ some side)
    has_sender zero n = absurd (n refl)
    has_sender (suc zero) n = (Device, refl)
    has_sender (suc (suc x)) n = (Host, refl)

pub warning_examples : WarningExamples
unfolding warns square difference
warning_examples = record { example = refl; within = refl; beyond = refl; edge = refl; past_edge = refl; seldom_edge = refl; seldom = refl; no_share = refl }
