-- The fields that were read, four entries to a column, as a list: one field more is one more in the list, and what is unused is 0.
-- Assumes nothing.
use mathlib.Core.Path.{◌≡◌, refl, sym, ap, ◌∙◌}
use mathlib.Core.Bool.{Bool, true, false, cond}
use mathlib.Core.List.{List, [], ◌∷◌, ◌++◌, map}
use Prim.Native.Nat.{ℕ, zero, suc, ◌+◌, ◌≤◌, ◌<◌}
use native.Mathlib.Omega.{arith}
use lib.Dec.{eqb, leb}
use lib.ListN.{length, set, get_or, length-append, length-map, get_or-map}
use borrow.Author.Tests.{leb-false}
use Rattle.table.specs.Table.{Field}
use Rattle.table.specs.Lists.{upto}
use Rattle.grammar.specs.inner.Scanner.{token_at}
use Rattle.grammar.specs.Filled.{padded}
use Rattle.grammar.specs.Reading.{kind_of}
use Rattle.text.specs.inner.Recursive.{unexpected_at, expect_at, range_at, no_fields, with_field, placed, with_range, fielded, read_field, end_of_field, field_then, fields_from, fields_at, field_no, listed}
use Rattle.grammar.specs.Token.{Token}
use Rattle.text.specs.inner.Answers.{Range, Fields}
use Rattle.grammar.proofs.laws.Holds.{no_field}
use Rattle.grammar.proofs.laws.Padded.{map_append, next_set, padded_at, upto_list, upto_length}

-- ---- at most four fields, and zeros after them

pub record Clear (f : Fields) : Type 0 where
  pub few : f.count ≤ 4
  pub kinds : f.kinds ≡ padded 4 (map (λ x. x.kind) (listed f))
  pub lows : f.lows ≡ padded 4 (map (λ x. x.low) (listed f))
  pub highs : f.highs ≡ padded 4 (map (λ x. x.high) (listed f))

pub listed_length : (f : Fields) → length (listed f) ≡ f.count
listed_length f = upto_length f.count (field_no f)

module _ (f : Fields) (c : Clear f) (room : f.count < 4) (at κ l h : ℕ) where
  x : Field
  x = record { kind = κ; low = l; high = h }

  ys : List Field
  ys = listed f ++ (x ∷ [])

  entry : (g : Field → ℕ) (ks : List ℕ) → ks ≡ padded 4 (map g (listed f)) → set ks f.count (g x) ≡ padded 4 (map g ys)
  unfolding ys
  entry g ks e =
      ap (λ ks. set ks f.count (g x)) e
      ∙ next_set 4 f.count (map g (listed f)) (g x) (sym (length-map (listed f) g ∙ listed_length f)) room
      ∙ ap (padded 4) (sym (map_append g (listed f) (x ∷ [])))

  cell : (g : Field → ℕ) → g no_field ≡ 0 → (ks : List ℕ) → ks ≡ padded 4 (map g (listed f)) → (k : ℕ)
      → get_or (set ks f.count (g x)) k 0 ≡ g (get_or ys k no_field)
  cell g z ks e k =
      ap (λ ks. get_or ks k 0) (entry g ks e) ∙ padded_at 4 (map g ys) k ∙ ap (λ d. get_or (map g ys) k d) (sym z) ∙ get_or-map g ys k no_field

  pub with_listed : listed (with_field f at κ l h) ≡ listed f ++ (record { kind = κ; low = l; high = h } ∷ [])
  unfolding with_field ys x
  with_listed =
      let n : f.count + 1 ≡ length ys = omega (arith, length-append (listed f) (x ∷ []), listed_length f) in
      ap (λ n. upto n (field_no (with_field f at κ l h))) n
      ∙ upto_list ys no_field (field_no (with_field f at κ l h)) (λ k q. λ i. record {
        kind = cell (λ x. x.kind) refl f.kinds c.kinds k i;
        low = cell (λ x. x.low) refl f.lows c.lows k i;
        high = cell (λ x. x.high) refl f.highs c.highs k i;
      })

  pub with_clear : Clear (with_field f at κ l h)
  unfolding with_field ys x
  with_clear = record {
    few = omega arith;
    kinds = entry (λ x. x.kind) f.kinds c.kinds ∙ ap (λ zs. padded 4 (map (λ x. x.kind) zs)) (sym with_listed);
    lows = entry (λ x. x.low) f.lows c.lows ∙ ap (λ zs. padded 4 (map (λ x. x.low) zs)) (sym with_listed);
    highs = entry (λ x. x.high) f.highs c.highs ∙ ap (λ zs. padded 4 (map (λ x. x.high) zs)) (sym with_listed);
  }

-- ---- all that is read is so

pub none_clear : (q at : ℕ) → Clear (no_fields q at)
unfolding no_fields upto
none_clear q at = record { few = omega arith; kinds = refl; lows = refl; highs = refl }

pub placed_clear : (f : Fields) (at : ℕ) → Clear f → Clear (placed f at)
unfolding placed
placed_clear f at c = record { few = c.few; kinds = c.kinds; lows = c.lows; highs = c.highs }

cond_clear : (b : Bool) {f g : Fields} → Clear f → Clear g → Clear (cond b f g)
cond_clear true c d = c
cond_clear false c d = d

pub field_clear : (s : List ℕ) (f : Fields) → Clear f → Clear (read_field s f)
unfolding read_field fielded with_range
field_clear s f c =
    cond_clear (eqb (kind_of k.kind) 3) (none_clear (unexpected_at k).question (unexpected_at k).at) (go (leb 4 f.count) refl)
  where
    k : Token
    k = token_at s f.at

    κ : ℕ
    κ = kind_of k.kind

    r : Range
    r = range_at s k.end κ

    go : (b : Bool) → leb 4 f.count ≡ b → Clear (cond b (no_fields 8 k.start) (with_range r f κ))
    go true e = none_clear 8 k.start
    go false e =
        cond_clear (eqb r.question 0) (with_clear f c (leb-false _ _ e) r.at κ r.low r.high) (none_clear r.question r.at)

from_clear : (n : ℕ) (s : List ℕ) (f : Fields) → Clear f → Clear (fields_from s n f)
unfolding fields_from field_then end_of_field
from_clear zero s f c = none_clear 8 f.at
from_clear (suc n) s f c =
    let g = read_field s f in
    let d = field_clear s f c in
    let k = token_at s g.at in
    cond_clear (eqb g.question 0)
    (cond_clear (eqb k.kind 41) (placed_clear g k.end d)
    (cond_clear (eqb k.kind 44) (from_clear n s (placed g k.end) (placed_clear g k.end d)) (none_clear (unexpected_at k).question (unexpected_at k).at)))
    d

pub fields_clear : (s : List ℕ) (p : ℕ) → Clear (fields_at s p)
unfolding fields_at
fields_clear s p =
    let x = expect_at s p 40 in
    let k = token_at s x.at in
    cond_clear (eqb x.question 0)
    (cond_clear (eqb k.kind 41) (none_clear 0 k.end) (from_clear 5 s (no_fields 0 x.at) (none_clear 0 x.at)))
    (none_clear x.question x.at)
