-- Where every name is bound by a `rec` around it (question 4), a type is closed.
-- Assumes nothing.
use mathlib.Core.Path.{◌≡◌, refl, sym, ap, ◌∙◌}
use mathlib.Core.Bool.{Bool, true, false, ◌||◌, cond, false≢true}
use mathlib.Core.List.{List, [], ◌∷◌}
use Prim.Native.Nat.{ℕ}
use lib.Dec.{eqb}
use borrow.Author.Tests.{eqb-true}
use Rattle.table.proofs.laws.Lists.{both}
use Rattle.grammar.specs.Token.{one_of}
use Rattle.grammar.specs.Grammar.{Ty, stop, var, loop, choice, Br, last, also, names_bound, names_bound_br}
use Rattle.types.proofs.laws.Close.{free, free_br, Closed, eqb_sym}

mutual
  -- a free name is one of those around
  free_bound : (t : Ty) (x : ℕ) (xs : List ℕ) → names_bound t xs ≡ true → free t x ≡ true → one_of xs x ≡ true
  free_bound stop x xs b f = absurd (false≢true f)
  free_bound (var y) x xs b f = ap (one_of xs) (sym (eqb-true y x f)) ∙ b
  free_bound (loop y t) x xs b f = go (eqb y x) (sym (eqb_sym y x)) f (λ f. free_bound t x (y ∷ xs) b f)
    where
      go : (c : Bool) → eqb x y ≡ c → cond c false (free t x) ≡ true → (free t x ≡ true → cond (eqb x y) true (one_of xs x) ≡ true)
          → one_of xs x ≡ true
      go true e f i = absurd (false≢true f)
      go false e f i = sym (ap (λ c. cond c true (one_of xs x)) e) ∙ i f
  free_bound (choice w bs) x xs b f = free_bound_br bs x xs b f

  free_bound_br : (bs : Br) (x : ℕ) (xs : List ℕ) → names_bound_br bs xs ≡ true → free_br bs x ≡ true → one_of xs x ≡ true
  free_bound_br (last l fs sh t) x xs b f = free_bound t x xs b f
  free_bound_br (also l fs sh t bs) x xs b f =
      let w = both (names_bound t xs) (names_bound_br bs xs) b in
      go (free t x) refl f (λ e. free_bound t x xs w.0 e) (λ e. free_bound_br bs x xs w.1 e)
    where
      go : (c : Bool) → free t x ≡ c → (c || free_br bs x) ≡ true → (free t x ≡ true → one_of xs x ≡ true)
          → (free_br bs x ≡ true → one_of xs x ≡ true) → one_of xs x ≡ true
      go true e f i j = i e
      go false e f i j = j f

pub bound_closed : (t : Ty) → names_bound t [] ≡ true → Closed t
bound_closed t b x = go (free t x) refl
  where
    go : (c : Bool) → free t x ≡ c → c ≡ false
    go true e = absurd (false≢true (free_bound t x [] b e))
    go false e = refl
