-- `read_type` and `branches` unrolled by one level, a lemma for each case of the first token. Assumes nothing.
use mathlib.Core.Path.{◌≡◌, refl, ◌∙◌}
use mathlib.Core.Logic.{inl, inr}
use mathlib.Core.List.{List, [], ◌∷◌}
use Prim.Native.Nat.{ℕ, zero, suc, ◌-◌, ◌≤◌, ◌<◌}
use native.Mathlib.Omega.{arith}
use borrow.Author.Tests.{eq-eqb, ne_eqb}
use Rattle.table.specs.Table.{Table}
use Rattle.grammar.specs.inner.Scanner.{token_at}
use Rattle.grammar.specs.Building.{denied}
use Rattle.text.specs.inner.Recursive.{unexpected_at, open_rec, name_type, end_type, Reader, branch_then, branches_read, choice_type, rec_type, type_by, read_type, Env}
use Rattle.grammar.specs.Token.{Token}
use types.Run.{OneOf}

-- the reader one level down
down : ℕ → List ℕ → Reader
down zero s p g e t = denied 8 p
down (suc d) s p g e t = read_type d s p g e t

unroll : (d : ℕ) (s : List ℕ) (p : ℕ) (g : ℕ) (e : Env) (t : Table) → read_type d s p g e t ≡ type_by d (down d s) s (token_at s p) g e t
unfolding read_type down
unroll zero s p g e t = refl
unroll (suc d) s p g e t = refl

lower : (d : ℕ) (s : List ℕ) → (d ≡ 0 → ⊥) → down d s ≡ read_type (d - 1) s
unfolding down
lower zero s z = absurd (z refl)
lower (suc d) s z = let y : suc d - 1 ≡ d = omega arith in rw y

module _ (d : ℕ) (s : List ℕ) (p : ℕ) (g : ℕ) (e : Env) (t : Table) (k : Token) (q : k ≡ token_at s p) where
  unrolled : read_type d s p g e t ≡ type_by d (down d s) s k g e t
  unrolled = rw q (unroll d s p g e t)

  pub at_end : k.kind ≡ 101 → read_type d s p g e t ≡ end_type k t
  unfolding type_by
  at_end h = unrolled ∙ rw h

  pub at_name : k.kind ≡ 65 → read_type d s p g e t ≡ name_type s k g e t
  unfolding type_by
  at_name h = unrolled ∙ rw h

  pub at_rec_full : k.kind ≡ 114 → d ≡ 0 → read_type d s p g e t ≡ denied 8 k.start
  unfolding type_by
  at_rec_full h z = unrolled ∙ rw (h, eq-eqb d 0 z)

  pub at_rec : k.kind ≡ 114 → (d ≡ 0 → ⊥) → read_type d s p g e t ≡ rec_type (read_type (d - 1) s) (open_rec s k.end) g e t
  unfolding type_by
  at_rec h z = unrolled ∙ rw (h, ne_eqb d 0 z, lower d s z)

  pub at_choice_full : OneOf (38 ∷ 43 ∷ []) k.kind → d ≡ 0 → read_type d s p g e t ≡ denied 8 k.start
  unfolding type_by
  at_choice_full (inl h) z = unrolled ∙ rw (h, eq-eqb d 0 z)
  at_choice_full (inr h) z = unrolled ∙ rw (h, eq-eqb d 0 z)

  pub at_choice : OneOf (38 ∷ 43 ∷ []) k.kind → (d ≡ 0 → ⊥) → read_type d s p g e t ≡ choice_type (read_type (d - 1) s) s k e t
  unfolding type_by
  at_choice (inl h) z = unrolled ∙ rw (h, ne_eqb d 0 z, lower d s z)
  at_choice (inr h) z = unrolled ∙ rw (h, ne_eqb d 0 z, lower d s z)

  pub at_other : (k.kind ≡ 101 → ⊥) → (k.kind ≡ 65 → ⊥) → (k.kind ≡ 114 → ⊥) → (OneOf (38 ∷ 43 ∷ []) k.kind → ⊥)
      → read_type d s p g e t ≡ denied (unexpected_at k).question (unexpected_at k).at
  unfolding type_by
  at_other h₁ h₂ h₃ h₄ =
      unrolled ∙ rw (ne_eqb _ _ h₁, ne_eqb _ _ h₂, ne_eqb _ _ h₃, ne_eqb _ _ (λ x. h₄ (inl x)), ne_eqb _ _ (λ x. h₄ (inr x)))

-- a branch, with one less to come
pub turn : (inner : Reader) (s : List ℕ) (sign owner : ℕ) (e : Env) (n p : ℕ) (t : Table) → 0 < n
    → branches_read inner s sign owner e n p t ≡ branch_then inner s sign owner e p t (branches_read inner s sign owner e (n - 1))
unfolding branches_read
turn inner s sign owner e zero p t h = absurd (omega arith)
turn inner s sign owner e (suc n) p t h = let z : suc n - 1 ≡ n = omega arith in rw z

pub no_turn : (inner : Reader) (s : List ℕ) (sign owner : ℕ) (e : Env) (n p : ℕ) (t : Table) → n ≤ 0
    → branches_read inner s sign owner e n p t ≡ denied 8 p
unfolding branches_read
no_turn inner s sign owner e zero p t h = refl
no_turn inner s sign owner e (suc n) p t h = absurd (omega arith)
