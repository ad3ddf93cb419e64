-- Laws of tests over lists, by places: `At k a r` says that a stands at place k of r.
-- Assumes nothing.
use mathlib.Core.Path.{◌≡◌, refl}
use mathlib.Core.Logic.{◌⊎◌, inl, inr, ⊎_elim}
use mathlib.Core.Bool.{Bool, true, false, not, ◌&&◌, ◌||◌, true≢false, false≢true}
use mathlib.Core.List.{List, [], ◌∷◌}
use Prim.Native.Nat.{ℕ, zero, suc, ◌<◌, zero-le, suc-le-suc}
use native.Mathlib.Nat.{not-suc-le-zero, le_of_suc-le-suc}
use lib.ListN.{length, get_or}
use Rattle.table.specs.Lists.{every, some_one, same}
use Rattle.table.proofs.laws.Lists.{never, both, either, neither, decided}
use Rattle.table.proofs.laws.View.{same_refl}

-- ---- conjunctions and disjunctions

-- a conjunction fails at its first part, or at its second after the first passed
pub which_fails : (a b : Bool) → (a && b) ≡ false → (a ≡ false) ⊎ ((a ≡ true) × (b ≡ false))
which_fails true b e = inr (refl, e)
which_fails false b e = inl refl

pub not_implied : (a b : Bool) → (not a || b) ≡ false → (a ≡ true) × (b ≡ false)
not_implied true b e = (refl, e)
not_implied false b e = absurd (true≢false e)

-- ---- places

pub data At {A : Type 0} : ℕ → A → List A → Type 0 where
  here : {a : A} {r : List A} → At zero a (a ∷ r)
  there : {k : ℕ} {a b : A} {r : List A} → At k a r → At (suc k) a (b ∷ r)

module _ {A : Type 0} where
  pub at_place : (r : List A) (d : A) (k : ℕ) → k < length r → At k (get_or r k d) r
  at_place [] d k l = absurd (not-suc-le-zero l)
  at_place (a ∷ r) d zero l = here
  at_place (a ∷ r) d (suc k) l = there (at_place r d k (le_of_suc-le-suc l))

  pub place_within : {k : ℕ} {a : A} {r : List A} → At k a r → k < length r
  place_within (here {r}) = suc-le-suc zero-le
  place_within (there h) = suc-le-suc (place_within h)

  pub place_item : (d : A) {k : ℕ} {a : A} {r : List A} → At k a r → get_or r k d ≡ a
  place_item d here = refl
  place_item d (there h) = place_item d h

-- an element, its place, and a fact of it
pub record Found {A : Type 0} (r : List A) (P : A → Type 0) : Type 0 where
  pub place : ℕ
  pub item : A
  pub at : At place item r
  pub is : P item

pub further : {A : Type 0} {r : List A} {P : A → Type 0} (b : A) → Found r P → Found (b ∷ r) P
further b x = record { place = suc x.place; item = x.item; at = there x.at; is = x.is }

pub first : {A : Type 0} (r : List A) {P : A → Type 0} (b : A) → P b → Found (b ∷ r) P
first r b x = record { place = zero; item = b; at = here; is = x }

-- ---- every, some_one

pub every_at : {A : Type 0} (f : A → Bool) {k : ℕ} {a : A} {r : List A} → every f r ≡ true → At k a r → f a ≡ true
unfolding every
every_at f e (here {a} {r}) = (both (f a) (every f r) e).0
every_at f e (there {b} {r} h) = every_at f (both (f b) (every f r) e).1 h

pub every_not : {A : Type 0} (f : A → Bool) (r : List A) → every f r ≡ false → Found r (λ a. f a ≡ false)
unfolding every
every_not f [] e = absurd (true≢false e)
every_not f (a ∷ r) e =
    ⊎_elim (λ x. first r a x) (λ x. further a (every_not f r x.1)) (which_fails (f a) (every f r) e)

pub some_at : {A : Type 0} (f : A → Bool) (r : List A) → some_one f r ≡ true → Found r (λ a. f a ≡ true)
unfolding some_one
some_at f [] e = absurd (false≢true e)
some_at f (a ∷ r) e = ⊎_elim (λ x. first r a x) (λ x. further a (some_at f r x)) (either (f a) (some_one f r) e)

pub none_at : {A : Type 0} (f : A → Bool) {k : ℕ} {a : A} {r : List A} → some_one f r ≡ false → At k a r → f a ≡ false
unfolding some_one
none_at f e (here {a} {r}) = (neither (f a) (some_one f r) e).0
none_at f e (there {b} {r} h) = none_at f (neither (f b) (some_one f r) e).1 h

pub some_of : {A : Type 0} (f : A → Bool) {k : ℕ} {a : A} {r : List A} → At k a r → f a ≡ true → some_one f r ≡ true
some_of f {r} h e = ⊎_elim (λ x. x) (λ x. never e (none_at f x h)) (decided (some_one f r))

pub eq_same : {xs ys : List ℕ} → xs ≡ ys → same xs ys ≡ true
eq_same {xs} e = rw (← e) (same_refl xs)
