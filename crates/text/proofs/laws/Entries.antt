-- The entries of a branch's fields, stored field by field, are those of its columns, stored one column after another. Assumes nothing.
use Rattle.std.proofs.Common.{◌≡◌, ◌⊎◌, ℕ, zero, suc, ◌+◌, ◌*◌, ◌<◌, ◌≤◌, List, map, set, get_or, refl, sym, ap, ◌∙◌, arith}
use Rattle.std.proofs.lemmas.List.{set_comm}
use Rattle.grammar.specs.inner.Holds.{set_four}
use mathlib.Core.Logic.{inl, inr}
use native.Mathlib.Numerals.{add-one}
use lib.ListN.{get_or-map}
use Rattle.text.specs.declared.field.Field as G

-- the first k words of a list, from a place on
unfoldable pub laid : List ℕ → ℕ → List ℕ → ℕ → List ℕ
laid t at ys zero = t
laid t at ys (suc k) = set (laid t at ys k) (at + k) (get_or ys k 0)

pub four_laid : (t : List ℕ) (at : ℕ) (ys : List ℕ) → laid t at ys 4 ≡ set_four t at ys
unfolding laid set_four
four_laid t at ys = let z : at + 0 ≡ at = omega arith in rw z

-- a word elsewhere may be stored before them
past : (t : List ℕ) (at : ℕ) (ys : List ℕ) (k i v : ℕ) → (i < at) ⊎ (at + k ≤ i) → set (laid t at ys k) i v ≡ laid (set t i v) at ys k
unfolding laid
past t at ys zero i v h = refl
past t at ys (suc k) i v (inl h) =
    set_comm (laid t at ys k) (at + k) i (get_or ys k 0) v (λ e. omega arith)
    ∙ ap (λ x. set x (at + k) (get_or ys k 0)) (past t at ys k i v (inl h))
past t at ys (suc k) i v (inr h) =
    set_comm (laid t at ys k) (at + k) i (get_or ys k 0) v (λ e. omega arith)
    ∙ ap (λ x. set x (at + k) (get_or ys k 0)) (past t at ys k i v (inr (omega arith)))

module _ (t : List ℕ) (n : ℕ) (ks ls hs : List ℕ) where
  -- of the first k fields
  unfoldable pub entries : ℕ → List ℕ
  entries k = laid (laid (laid t (674 + 4 * n) ks k) (1186 + 4 * n) ls k) (1698 + 4 * n) hs k

  pub no_entries : entries 0 ≡ t
  unfolding entries laid
  no_entries = refl

  pub all_entries : entries 4 ≡ set_four (set_four (set_four t (674 + 4 * n) ks) (1186 + 4 * n) ls) (1698 + 4 * n) hs
  unfolding entries
  all_entries = rw (four_laid t (674 + 4 * n) ks, four_laid _ (1186 + 4 * n) ls, four_laid _ (1698 + 4 * n) hs)

  pub more_entries : (k : ℕ) → k < 4 → n < 128
      → set (set (set (entries k) (674 + 4 * n + k) (get_or ks k 0)) (1186 + 4 * n + k) (get_or ls k 0)) (1698 + 4 * n + k) (get_or hs k 0) ≡ entries (suc k)
  unfolding entries laid
  more_entries k h m =
      ap (λ x. set (set x (1186 + 4 * n + k) (get_or ls k 0)) (1698 + 4 * n + k) (get_or hs k 0))
      (past _ (1698 + 4 * n) hs k (674 + 4 * n + k) (get_or ks k 0) (inl (omega arith))
      ∙ ap (λ x. laid x (1698 + 4 * n) hs k) (past _ (1186 + 4 * n) ls k (674 + 4 * n + k) (get_or ks k 0) (inl (omega arith))))
      ∙ ap (λ x. set x (1698 + 4 * n + k) (get_or hs k 0)) (past _ (1698 + 4 * n) hs k (1186 + 4 * n + k) (get_or ls k 0) (inl (omega arith)))

-- the entries of the program's list
module _ (t : List ℕ) (n : ℕ) (fs : List G.Field) where
  unfoldable pub field_entries : ℕ → List ℕ
  field_entries k = entries t n (map (λ (x : G.Field). x.kind) fs) (map (λ (x : G.Field). x.low) fs) (map (λ (x : G.Field). x.high) fs) k

  abbrev pub none : G.Field
  none = record { kind = 0; low = 0; high = 0 }

  pub one_entered : (k : ℕ) → k < 4 → n < 128 → {x : List ℕ} → x ≡ field_entries k
      → set (set (set x (674 + 4 * n + k) (get_or fs k none).kind) (1186 + 4 * n + k) (get_or fs k none).low) (1698 + 4 * n + k) (get_or fs k none).high
      ≡ field_entries (k + 1)
  unfolding field_entries
  one_entered k h m {x} e =
      let a = sym (get_or-map (λ (x : G.Field). x.kind) fs k none) in
      let b = sym (get_or-map (λ (x : G.Field). x.low) fs k none) in
      let c = sym (get_or-map (λ (x : G.Field). x.high) fs k none) in
      rw (add-one k)
      ((λ i. set (set (set (e i) (674 + 4 * n + k) (a i)) (1186 + 4 * n + k) (b i)) (1698 + 4 * n + k) (c i))
      ∙ more_entries t n _ _ _ k h m)
