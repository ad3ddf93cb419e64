-- One name more in scope: it is found, also among those bound since a place, and so are those that were bound before it. Assumes nothing.
use mathlib.Core.Path.{◌≡◌, refl, ap, ◌∙◌}
use mathlib.Core.Bool.{true, false, cond}
use mathlib.Core.Option.{some}
use Prim.Native.Nat.{ℕ, zero, suc, ◌+◌, ◌-◌, ◌≤◌, ◌<◌}
use native.Mathlib.Nat.{le_of_lt, le_refl, pos_of_ne-zero}
use native.Mathlib.Numerals.{add-one}
use native.Mathlib.Omega.{arith}
use lib.Dec.{eqb, leb}
use lib.ListN.{length, length-set}
use lib.Seq.{get_or-set_same, get_or-set_other}
use borrow.Author.Tests.{le-leb, lt-leb}
use Rattle.text.specs.declared.scope.Binding.{Binding}
use Rattle.text.specs.inner.Recursive.{Env, bound_in, bind, binding, name_in, Room, empty_env, bind_in, find_in, find, since_in, since}

module _ (e : Env) (x n : ℕ) (room : bound_in e < 16) (long : length e.bound ≡ 16) where
  bind_long : length (bind_in e x n).bound ≡ 16
  unfolding bind_in
  bind_long = length-set e.bound e.count (bind x n) ∙ long

  pub bind_count : bound_in (bind_in e x n) ≡ bound_in e + 1
  unfolding bind_in
  bind_count = refl

  at_new : binding (bind_in e x n) (bound_in e) ≡ bind x n
  unfolding bind_in
  at_new = get_or-set_same e.bound e.count (bind x n) (bind 0 0) (omega (arith, long))

  -- another binding stays as it was
  stays : (j : ℕ) → j < bound_in e → binding (bind_in e x n) j ≡ binding e j
  unfolding bind_in
  stays j h = get_or-set_other e.bound e.count j (bind x n) (bind 0 0) (λ z. omega arith)

  below : (j y : ℕ) → j ≤ bound_in e → find_in (bind_in e x n) j y ≡ find_in e j y
  unfolding find_in
  below zero y h = refl
  below (suc j) y h =
      ap (λ (b : Binding). cond (eqb b.name y) (some b.state) (find_in (bind_in e x n) j y)) (stays j h)
      ∙ ap (cond (eqb (name_in e j) y) (some (binding e j).state)) (below j y (le_of_lt h))

  below_since : (g j y : ℕ) → j ≤ bound_in e → since_in (bind_in e x n) g j y ≡ since_in e g j y
  unfolding since_in
  below_since g zero y h = refl
  below_since g (suc j) y h =
      ap (λ (b : Binding). cond (leb g j) (cond (eqb b.name y) true (since_in (bind_in e x n) g j y)) false) (stays j h)
      ∙ ap (λ r. cond (leb g j) (cond (eqb (name_in e j) y) true r) false) (below_since g j y (le_of_lt h))

  pub bind_find : (y : ℕ) → find (bind_in e x n) y ≡ cond (eqb x y) (some n) (find e y)
  unfolding find_in
  bind_find y =
      ap (λ m. find_in (bind_in e x n) m y) (bind_count ∙ add-one (bound_in e))
      ∙ ap (λ (b : Binding). cond (eqb b.name y) (some b.state) (find_in (bind_in e x n) (bound_in e) y)) at_new
      ∙ ap (cond (eqb x y) (some n)) (below (bound_in e) y (le_refl (bound_in e)))

  pub bind_since : (g y : ℕ) → g ≤ bound_in e → since (bind_in e x n) g y ≡ cond (eqb x y) true (since e g y)
  unfolding since_in
  bind_since g y h =
      ap (λ m. since_in (bind_in e x n) g m y) (bind_count ∙ add-one (bound_in e))
      ∙ ap (λ (b : Binding). cond (leb g (bound_in e)) (cond (eqb b.name y) true (since_in (bind_in e x n) g (bound_in e) y)) false) at_new
      ∙ ap (λ t. cond t (cond (eqb x y) true (since_in (bind_in e x n) g (bound_in e) y)) false) (le-leb g (bound_in e) h)
      ∙ ap (cond (eqb x y) true) (below_since g (bound_in e) y (le_refl (bound_in e)))

-- nothing is bound since now
pub since_now : (e : Env) (y : ℕ) → since e (bound_in e) y ≡ false
unfolding since_in
since_now e y = go (bound_in e)
  where
    go : (i : ℕ) → since_in e i i y ≡ false
    go zero = refl
    go (suc i) = rw (lt-leb (suc i) i (omega arith))

pub room_empty : Room empty_env 16
unfolding empty_env
room_empty = record { long = refl; count = omega arith }

pub room_bind : (e : Env) (x n d : ℕ) → (d ≡ 0 → ⊥) → Room e d → Room (bind_in e x n) (d - 1)
room_bind e x n d z r =
    let c = r.count in
    let p = pos_of_ne-zero z in
    let room : bound_in e < 16 = omega arith in
    record { long = bind_long e x n room r.long; count = rw (bind_count e x n room r.long) (omega arith) }

pub room_less : (e : Env) (d : ℕ) → Room e d → Room e (d - 1)
room_less e d r = let c = r.count in record { long = r.long; count = omega arith }
