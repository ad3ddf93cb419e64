-- What stands at the front of a type, past its recs: `end` or a choice, or a name. At the front of a closed type whose recs are guarded it is
-- no name, and to unfold such a type is to come nearer to it.
-- Assumes nothing.
use mathlib.Core.Path.{◌≡◌, refl, sym, ap, ◌∙◌}
use mathlib.Core.Bool.{Bool, true, false, not, ◌&&◌, cond, true≢false, false≢true}
use Prim.Native.Nat.{ℕ, suc}
use lib.Dec.{eqb}
use borrow.Author.Tests.{not-true, eq-eqb, eqb-true}
use Rattle.table.proofs.laws.Lists.{both, join, never, refuted}
use Rattle.grammar.specs.Grammar.{Ty, stop, var, loop, choice, Br, last, also, bare, recs_guarded}
use Rattle.grammar.proofs.laws.Questions.{recs_guarded_br}
use Rattle.types.specs.Types.{substitute, substitute_br, unfolded, recs, unroll, opened}
use Rattle.types.proofs.laws.Close.{free, Closed, Meaning, hide, given, close, put_free, no_meaning, put_one}

-- a name
abbrev pub named : Ty → Bool
named stop = false
named (var x) = true
named (loop x t) = named t
named (choice w bs) = false

-- no other name is free then
pub named_free : (t : Ty) (x : ℕ) → named t ≡ true → free t x ≡ bare t x
named_free stop x n = refl
named_free (var y) x n = refl
named_free (loop y t) x n = ap (λ b. cond (eqb y x) false b) (named_free t x n)
named_free (choice w bs) x n = absurd (false≢true n)

bare_free : (t : Ty) (x : ℕ) → free t x ≡ false → bare t x ≡ false
bare_free stop x h = refl
bare_free (var y) x h = h
bare_free (loop y t) x h = go (eqb y x) h (λ h. bare_free t x h)
  where
    go : (b : Bool) → cond b false (free t x) ≡ false → (free t x ≡ false → bare t x ≡ false) → cond b false (bare t x) ≡ false
    go true h i = refl
    go false h i = i h
bare_free (choice w bs) x h = refl

-- where recs are guarded, none of them binds the name
its_name : (t : Ty) → named t ≡ true → recs_guarded t ≡ true → (x : ℕ) × (bare t x ≡ true)
its_name stop n g = absurd (false≢true n)
its_name (var y) n g = (y, eq-eqb y y refl)
its_name (loop y t) n g =
    let w = both (not (bare t y)) (recs_guarded t) g in
    let i = its_name t n w.1 in
    let e = refuted (eqb y i.0) (λ e. never (ap (bare t) (eqb-true y i.0 e) ∙ i.1) (not-true (bare t y) w.0)) in
    (i.0, ap (λ b. cond b false (bare t i.0)) e ∙ i.1)
its_name (choice w bs) n g = absurd (false≢true n)

pub closed_no_name : (t : Ty) → Closed t → recs_guarded t ≡ true → named t ≡ false
closed_no_name t c g = refuted (named t) (λ n. let i = its_name t n g in never i.1 (bare_free t i.0 (c i.0)))

-- ---- unfolding

pub recs_close : (t : Ty) (ρ : Meaning) → named t ≡ false → recs (close t ρ) ≡ recs t
recs_close stop ρ a = refl
recs_close (var x) ρ a = absurd (true≢false a)
recs_close (loop x t) ρ a = ap suc (recs_close t (hide x ρ) a)
recs_close (choice s bs) ρ a = refl

pub recs_unfolded : (x : ℕ) (t : Ty) → named t ≡ false → recs (unfolded x t) ≡ recs t
recs_unfolded x t a = ap recs (put_one t x (loop x t)) ∙ recs_close t (given x (loop x t) no_meaning) a

pub opened_rec : (x : ℕ) (t : Ty) → named t ≡ false → opened (loop x t) ≡ opened (unfolded x t)
unfolding opened
opened_rec x t a = ap (λ n. unroll n (unfolded x t)) (sym (recs_unfolded x t a))

-- a rec whose name its body does not mention
pub opened_unused : (x : ℕ) (t : Ty) → free t x ≡ false → opened (loop x t) ≡ opened t
unfolding opened
opened_unused x t h = ap (unroll (recs t)) (put_free t x (loop x t) h)

-- ---- what is guarded stays guarded

bare_put : (t : Ty) (x : ℕ) (u : Ty) (y : ℕ) → bare u y ≡ false → bare t y ≡ false → bare (substitute t x u) y ≡ false
bare_put stop x u y h g = refl
bare_put (var z) x u y h g = go (eqb z x)
  where
    go : (b : Bool) → bare (cond b u (var z)) y ≡ false
    go true = h
    go false = g
bare_put (loop z t) x u y h g = go (eqb z y) (eqb z x) g (λ g. bare_put t x u y h g)
  where
    go : (a b : Bool) → cond a false (bare t y) ≡ false → (bare t y ≡ false → bare (substitute t x u) y ≡ false)
        → cond a false (bare (cond b t (substitute t x u)) y) ≡ false
    go true b g i = refl
    go false true g i = g
    go false false g i = i g
bare_put (choice w bs) x u y h g = refl

mutual
  guarded_put : (t : Ty) (x : ℕ) (u : Ty) → Closed u → recs_guarded u ≡ true → recs_guarded t ≡ true → recs_guarded (substitute t x u) ≡ true
  guarded_put stop x u c h g = refl
  guarded_put (var y) x u c h g = go (eqb y x)
    where
      go : (b : Bool) → recs_guarded (cond b u (var y)) ≡ true
      go true = h
      go false = refl
  guarded_put (loop y t) x u c h g =
      let w = both (not (bare t y)) (recs_guarded t) g in
      go (eqb y x)
      (join (ap not (bare_put t x u y (bare_free u y (c y)) (not-true (bare t y) w.0))) (guarded_put t x u c h w.1))
    where
      go : (b : Bool) → (not (bare (substitute t x u) y) && recs_guarded (substitute t x u)) ≡ true
          → (not (bare (cond b t (substitute t x u)) y) && recs_guarded (cond b t (substitute t x u))) ≡ true
      go true i = g
      go false i = i
  guarded_put (choice w bs) x u c h g = guarded_put_br bs x u c h g

  guarded_put_br : (bs : Br) (x : ℕ) (u : Ty) → Closed u → recs_guarded u ≡ true → recs_guarded_br bs ≡ true
      → recs_guarded_br (substitute_br bs x u) ≡ true
  guarded_put_br (last l fs sh t) x u c h g = guarded_put t x u c h g
  guarded_put_br (also l fs sh t bs) x u c h g =
      let w = both (recs_guarded t) (recs_guarded_br bs) g in
      join (guarded_put t x u c h w.0) (guarded_put_br bs x u c h w.1)

pub guarded_unfolded : (x : ℕ) (t : Ty) → Closed (loop x t) → recs_guarded (loop x t) ≡ true → recs_guarded (unfolded x t) ≡ true
guarded_unfolded x t c g = guarded_put t x (loop x t) c g (both (not (bare t x)) (recs_guarded t) g).1
