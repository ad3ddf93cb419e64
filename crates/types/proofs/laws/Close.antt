-- Substitution for many names at once, and that to unfold a rec is to give its name a meaning:
-- substitute (close t (hide x ρ)) x u ≡ close t (given x u ρ). So what is closed stays closed.
-- Assumes nothing.
use mathlib.Core.Path.{◌≡◌, refl, sym, ap, ap₂, subst, ◌∙◌, fun_ext}
use mathlib.Core.Bool.{Bool, true, false, ◌||◌, cond}
use mathlib.Core.Option.{Option, none, some, some-injective}
use Prim.Native.Nat.{ℕ}
use lib.Dec.{eqb}
use borrow.Author.Tests.{eqb-true, eq-eqb}
use Rattle.table.proofs.laws.Lists.{never, neither, or_left, or_right}
use Rattle.grammar.specs.Grammar.{Ty, stop, var, loop, choice, Br, last, also}
use Rattle.types.specs.Types.{substitute, substitute_br, unfolded}
use Rattle.message.proofs.laws.Judge.{none_some}

-- ---- names

pub eqb_sym : (x y : ℕ) → eqb x y ≡ eqb y x
eqb_sym x y = go (eqb x y) refl (eqb y x) refl
  where
    go : (b : Bool) → eqb x y ≡ b → (c : Bool) → eqb y x ≡ c → b ≡ c
    go true e true f = refl
    go true e false f = never (eq-eqb _ _ (sym (eqb-true x y e))) f
    go false e true f = never (eq-eqb _ _ (sym (eqb-true y x f))) e
    go false e false f = refl

-- ---- free names

-- x stands in the type, and no `rec` of that name stands around it
abbrev mutual
  pub free : Ty → ℕ → Bool
  free stop x = false
  free (var y) x = eqb y x
  free (loop y t) x = cond (eqb y x) false (free t x)
  free (choice w bs) x = free_br bs x

  pub free_br : Br → ℕ → Bool
  free_br (last l fs sh t) x = free t x
  free_br (also l fs sh t bs) x = free t x || free_br bs x

-- every name is bound by a `rec` around it
abbrev pub Closed : Ty → Type 0
Closed t = (x : ℕ) → free t x ≡ false

pub closed_also : (t : Ty) (bs : Br) → ((x : ℕ) → (free t x || free_br bs x) ≡ false) → Closed t × ((x : ℕ) → free_br bs x ≡ false)
closed_also t bs c = (λ x. (neither (free t x) (free_br bs x) (c x)).0, λ x. (neither (free t x) (free_br bs x) (c x)).1)

-- ---- many names at once

abbrev pub Meaning : Type 0
Meaning = ℕ → Option Ty

unfoldable pub hide : ℕ → Meaning → Meaning
hide x ρ y = cond (eqb x y) none (ρ y)

unfoldable pub given : ℕ → Ty → Meaning → Meaning
given x u ρ y = cond (eqb x y) (some u) (ρ y)

abbrev pub otherwise : Option Ty → Ty → Ty
otherwise none t = t
otherwise (some u) t = u

abbrev mutual
  pub close : Ty → Meaning → Ty
  close stop ρ = stop
  close (var y) ρ = otherwise (ρ y) (var y)
  close (loop y t) ρ = loop y (close t (hide y ρ))
  close (choice w bs) ρ = choice w (close_br bs ρ)

  pub close_br : Br → Meaning → Br
  close_br (last l fs sh t) ρ = last l fs sh (close t ρ)
  close_br (also l fs sh t bs) ρ = also l fs sh (close t ρ) (close_br bs ρ)

-- every type that a name means is closed; every free name of t has a meaning
abbrev pub Shut : Meaning → Type 0
Shut ρ = (y : ℕ) (v : Ty) → ρ y ≡ some v → Closed v

abbrev pub Covers : Ty → Meaning → Type 0
Covers t ρ = (z : ℕ) → free t z ≡ true → ρ z ≡ none → ⊥

abbrev pub CoversBr : Br → Meaning → Type 0
CoversBr bs ρ = (z : ℕ) → free_br bs z ≡ true → ρ z ≡ none → ⊥

-- ---- a name that is not free is not replaced

unless : (b : Bool) {c : Bool} {t v : Ty} → cond b false c ≡ false → (c ≡ false → v ≡ t) → cond b t v ≡ t
unless true h f = refl
unless false h f = f h

mutual
  pub put_free : (t : Ty) (x : ℕ) (u : Ty) → free t x ≡ false → substitute t x u ≡ t
  put_free stop x u h = refl
  put_free (var y) x u h = rw h
  put_free (loop y t) x u h = ap (λ t. loop y t) (unless (eqb y x) h (λ g. put_free t x u g))
  put_free (choice w bs) x u h = ap (λ bs. choice w bs) (put_free_br bs x u h)

  pub put_free_br : (bs : Br) (x : ℕ) (u : Ty) → free_br bs x ≡ false → substitute_br bs x u ≡ bs
  put_free_br (last l fs sh t) x u h = ap (λ t. last l fs sh t) (put_free t x u h)
  put_free_br (also l fs sh t bs) x u h =
      let w = neither (free t x) (free_br bs x) h in
      ap₂ (λ t bs. also l fs sh t bs) (put_free t x u w.0) (put_free_br bs x u w.1)

-- ---- hiding and binding

pub hide_shut : (x : ℕ) (ρ : Meaning) → Shut ρ → Shut (hide x ρ)
unfolding hide
hide_shut x ρ h y v e = go (eqb x y) e
  where
    go : (b : Bool) → cond b none (ρ y) ≡ some v → Closed v
    go true g = none_some g
    go false g = h y v g

pub given_shut : (x : ℕ) (u : Ty) (ρ : Meaning) → Closed u → Shut ρ → Shut (given x u ρ)
unfolding given
given_shut x u ρ c h y v e = go (eqb x y) e
  where
    go : (b : Bool) → cond b (some u) (ρ y) ≡ some v → Closed v
    go true g = subst (λ v. Closed v) (some-injective _ _ g) c
    go false g = h y v g

-- the names in a rec's body mean what they mean around it, but its own: that one is not mentioned, or given a meaning
pub hide_covers : (x : ℕ) (t : Ty) (ρ : Meaning) → free t x ≡ false → Covers (loop x t) ρ → Covers t (hide x ρ)
unfolding hide
hide_covers x t ρ h c z f = go (eqb x z) refl
  where
    go : (b : Bool) → eqb x z ≡ b → cond b none (ρ z) ≡ none → ⊥
    go true e g = never (ap (free t) (eqb-true x z e) ∙ f) h
    go false e g = c z (rw e f) g

pub given_covers : (x : ℕ) (t u : Ty) (ρ : Meaning) → Covers (loop x t) ρ → Covers t (given x u ρ)
unfolding given
given_covers x t u ρ c z f = go (eqb x z) refl
  where
    go : (b : Bool) → eqb x z ≡ b → cond b (some u) (ρ z) ≡ none → ⊥
    go true e h = none_some (sym h)
    go false e h = c z (rw e f) h

hide_bound : (x y : ℕ) (u : Ty) (ρ : Meaning) → eqb y x ≡ true → hide y (hide x ρ) ≡ hide y (given x u ρ)
unfolding hide given
hide_bound x y u ρ e = fun_ext λ z. go z (eqb y z) refl (eqb x z) refl
  where
    go : (z : ℕ) (b : Bool) → eqb y z ≡ b → (c : Bool) → eqb x z ≡ c → cond b none (cond c none (ρ z)) ≡ cond b none (cond c (some u) (ρ z))
    go z true f c g = refl
    go z false f true g = never (eq-eqb _ _ (eqb-true y x e ∙ eqb-true x z g)) f
    go z false f false g = refl

hide_swap : (x y : ℕ) (ρ : Meaning) → hide y (hide x ρ) ≡ hide x (hide y ρ)
unfolding hide
hide_swap x y ρ = fun_ext λ z. go z (eqb y z) (eqb x z)
  where
    go : (z : ℕ) (b c : Bool) → cond b none (cond c none (ρ z)) ≡ cond c none (cond b none (ρ z))
    go z true true = refl
    go z true false = refl
    go z false true = refl
    go z false false = refl

given_hide : (x y : ℕ) (u : Ty) (ρ : Meaning) → eqb y x ≡ false → given x u (hide y ρ) ≡ hide y (given x u ρ)
unfolding hide given
given_hide x y u ρ e = fun_ext λ z. go z (eqb y z) refl (eqb x z) refl
  where
    go : (z : ℕ) (b : Bool) → eqb y z ≡ b → (c : Bool) → eqb x z ≡ c
        → cond c (some u) (cond b none (ρ z)) ≡ cond b none (cond c (some u) (ρ z))
    go z true f true g = never (eq-eqb _ _ (eqb-true y z f ∙ sym (eqb-true x z g))) e
    go z true f false g = refl
    go z false f true g = refl
    go z false f false g = refl

-- ---- to unfold a rec is to bind its name

put_name : (y x : ℕ) (u : Ty) (ρ : Meaning) → Shut ρ → substitute (otherwise (hide x ρ y) (var y)) x u ≡ otherwise (given x u ρ y) (var y)
unfolding hide given
put_name y x u ρ h = go (eqb x y) refl (ρ y) refl
  where
    go : (b : Bool) → eqb x y ≡ b → (o : Option Ty) → ρ y ≡ o
        → substitute (otherwise (cond b none o) (var y)) x u ≡ otherwise (cond b (some u) o) (var y)
    go true e o f = rw (sym (eqb_sym x y) ∙ e)
    go false e none f = rw (sym (eqb_sym x y) ∙ e)
    go false e (some v) f = put_free v x u (h y v f x)

mutual
  pub put_close : (t : Ty) (x : ℕ) (u : Ty) (ρ : Meaning) → Shut ρ → substitute (close t (hide x ρ)) x u ≡ close t (given x u ρ)
  put_close stop x u ρ h = refl
  put_close (var y) x u ρ h = put_name y x u ρ h
  put_close (loop y t) x u ρ h = ap (λ t. loop y t) (go (eqb y x) refl (put_close t x u (hide y ρ) (hide_shut y ρ h)))
    where
      go : (b : Bool) → eqb y x ≡ b → substitute (close t (hide x (hide y ρ))) x u ≡ close t (given x u (hide y ρ))
          → cond b (close t (hide y (hide x ρ))) (substitute (close t (hide y (hide x ρ))) x u) ≡ close t (hide y (given x u ρ))
      go true e i = ap (λ ρ. close t ρ) (hide_bound x y u ρ e)
      go false e i = ap (λ ρ. substitute (close t ρ) x u) (hide_swap x y ρ) ∙ i ∙ ap (λ ρ. close t ρ) (given_hide x y u ρ e)
  put_close (choice w bs) x u ρ h = ap (λ bs. choice w bs) (put_close_br bs x u ρ h)

  pub put_close_br : (bs : Br) (x : ℕ) (u : Ty) (ρ : Meaning) → Shut ρ → substitute_br (close_br bs (hide x ρ)) x u ≡ close_br bs (given x u ρ)
  put_close_br (last l fs sh t) x u ρ h = ap (λ t. last l fs sh t) (put_close t x u ρ h)
  put_close_br (also l fs sh t bs) x u ρ h = ap₂ (λ t bs. also l fs sh t bs) (put_close t x u ρ h) (put_close_br bs x u ρ h)

-- ---- what is closed stays closed

mutual
  unfolding hide

  -- z by z: where z is free in t it has a meaning
  pub close_free : (t : Ty) (z : ℕ) (ρ : Meaning) → Shut ρ → (free t z ≡ true → ρ z ≡ none → ⊥) → free (close t ρ) z ≡ false
  close_free stop z ρ h c = refl
  close_free (var y) z ρ h c = go (ρ y) refl (eqb y z) refl
    where
      go : (o : Option Ty) → ρ y ≡ o → (b : Bool) → eqb y z ≡ b → free (otherwise o (var y)) z ≡ false
      go (some v) e b f = h y v e z
      go none e false f = f
      go none e true f = absurd (c f (ap ρ (sym (eqb-true y z f)) ∙ e))
  close_free (loop y t) z ρ h c = go (eqb y z) refl c (λ k. close_free t z (hide y ρ) (hide_shut y ρ h) k)
    where
      go : (b : Bool) → eqb y z ≡ b → (cond b false (free t z) ≡ true → ρ z ≡ none → ⊥)
          → ((free t z ≡ true → hide y ρ z ≡ none → ⊥) → free (close t (hide y ρ)) z ≡ false)
          → cond b false (free (close t (hide y ρ)) z) ≡ false
      go true e c i = refl
      go false e c i = i (λ f g. c f (sym (ap (λ b. cond b none (ρ z)) e) ∙ g))
  close_free (choice w bs) z ρ h c = close_free_br bs z ρ h c

  pub close_free_br : (bs : Br) (z : ℕ) (ρ : Meaning) → Shut ρ → (free_br bs z ≡ true → ρ z ≡ none → ⊥) → free_br (close_br bs ρ) z ≡ false
  close_free_br (last l fs sh t) z ρ h c = close_free t z ρ h c
  close_free_br (also l fs sh t bs) z ρ h c =
      ap₂ ◌||◌ (close_free t z ρ h (λ f. c (or_left (free_br bs z) f))) (close_free_br bs z ρ h (λ f. c (or_right (free t z) f)))

-- ---- one name alone

unfoldable pub no_meaning : Meaning
no_meaning x = none

hide_none : (x : ℕ) → hide x no_meaning ≡ no_meaning
unfolding hide no_meaning
hide_none x = fun_ext λ y. go (eqb x y)
  where
    go : (b : Bool) → ◌≡◌ {A = Option Ty} (cond b none none) none
    go true = refl
    go false = refl

mutual
  unfolding no_meaning

  pub close_none : (t : Ty) → close t no_meaning ≡ t
  close_none stop = refl
  close_none (var x) = refl
  close_none (loop x t) = ap (λ t. loop x t) (ap (λ ρ. close t ρ) (hide_none x) ∙ close_none t)
  close_none (choice s bs) = ap (λ bs. choice s bs) (close_none_br bs)

  close_none_br : (bs : Br) → close_br bs no_meaning ≡ bs
  close_none_br (last l fs sh t) = ap (λ t. last l fs sh t) (close_none t)
  close_none_br (also l fs sh t bs) = ap₂ (λ t bs. also l fs sh t bs) (close_none t) (close_none_br bs)

pub none_shut : Shut no_meaning
unfolding no_meaning
none_shut y v h = none_some h

pub put_one : (t : Ty) (x : ℕ) (u : Ty) → substitute t x u ≡ close t (given x u no_meaning)
put_one t x u =
    ap (λ t. substitute t x u) (sym (close_none t) ∙ ap (λ ρ. close t ρ) (sym (hide_none x))) ∙ put_close t x u no_meaning none_shut

pub closed_unfolded : (x : ℕ) (t : Ty) → Closed (loop x t) → Closed (unfolded x t)
closed_unfolded x t c z =
    let u = loop x t in
    ap (λ v. free v z) (put_one t x u)
    ∙ close_free t z (given x u no_meaning) (given_shut x u no_meaning c none_shut)
    (given_covers x t u no_meaning (λ y f e. never f (c y)) z)
