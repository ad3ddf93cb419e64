-- A branch or a field that no table has is refused alike, whatever its number: by 9 where the table is not sound, else by 18. So one
-- such number stands for all that do not fit a narrower type.
-- Assumes nothing.
use mathlib.Core.Path.{◌≡◌, refl, sym, ◌∙◌}
use mathlib.Core.Bool.{Bool, true, false, not, cond}
use mathlib.Core.List.{List}
use mathlib.Core.Option.{Option, some}
use Prim.Native.Nat.{ℕ, ◌≤◌, ◌<◌}
use native.Mathlib.Omega.{arith}
use lib.Dec.{T, ltb, ltb→lt, nltb→le}
use borrow.Author.Tests.{le-ltb}
use Rattle.table.specs.View.{Words, branches_of, view, sound_of}
use Rattle.table.proofs.laws.View.{sound_facts}
use Rattle.message.specs.Make.{exists, Making, making}
use Rattle.message.specs.inner.Layout.{has}
use Rattle.message.proofs.laws.Making.{count, none_there, there, refused, says_9, says_18}
use Rattle.codes.specs.inner.Wide.{SameBranch, SameField}

module _ (t : Words) (out : List ℕ) where
  abbrev unmade : Bool → Making
  unmade sound = refused out (cond sound 18 9)

  -- 9, and then a no to 18
  asked_eighteen : (k : ℕ) (h : Option ℕ) → (sound_of t ≡ true → exists (view t) k h ≡ false) → making t k h out ≡ unmade (sound_of t)
  asked_eighteen k h e = go (sound_of t) refl
    where
      go : (b : Bool) → sound_of t ≡ b → making t k h out ≡ unmade b
      go true s = says_18 t k h out s (e s)
      go false s = says_9 t k h out s

  no_branch : (k : ℕ) (h : Option ℕ) → 128 ≤ k → making t k h out ≡ unmade (sound_of t)
  no_branch k h l = asked_eighteen k h (λ s. none_there t k h (omega (arith, (sound_facts t s).room, l)))

  no_field : (k f : ℕ) → 4 ≤ f → making t k (some f) out ≡ unmade (sound_of t)
  unfolding has
  no_field k f l = asked_eighteen k (some f) (λ s. go s (ltb k (branches_of t)) (ltb→lt k (branches_of t)) (nltb→le k (branches_of t)))
    where
      go : sound_of t ≡ true → (b : Bool) → (T b → k < branches_of t) → (T (not b) → branches_of t ≤ k) → exists (view t) k (some f) ≡ false
      go s true m n = there t k (some f) (m tt) ∙ le-ltb f (count t k) (omega (arith, (sound_facts t s).counts k (m tt), l))
      go s false m n = none_there t k (some f) (n tt)

pub same_branch : (k l : ℕ) → 128 ≤ k → 128 ≤ l → SameBranch k l
same_branch k l a b t h out = no_branch t out k h a ∙ sym (no_branch t out l h b)

pub same_field : (f g : ℕ) → 4 ≤ f → 4 ≤ g → SameField (some f) (some g)
same_field f g a b t k out = no_field t out k f a ∙ sym (no_field t out k g b)
