-- Columns one after the other: what stands at a place of a column, and what is stored there. One law serves every column.
-- Assumes nothing.
use mathlib.Core.Path.{◌≡◌, refl, sym, ap, ◌∙◌}
use mathlib.Core.List.{List, [], ◌∷◌, ◌++◌}
use Prim.Native.Nat.{ℕ, zero, suc, ◌+◌, ◌<◌}
use native.Mathlib.Nat.{zero-add, not-suc-le-zero, le_of_suc-le-suc}
use native.Mathlib.Omega.{arith}
use lib.ListN.{length, get_or, set, length-set}
use lib.Seq.{set-append_left}
use Rattle.grammar.specs.Filled.{joined}
use Rattle.grammar.specs.inner.Holds.{set_four}

-- ---- two lists, one after the other

past_get : (x y : List ℕ) (n i : ℕ) → length x ≡ n → get_or (x ++ y) (n + i) 0 ≡ get_or y i 0
past_get x y n i e = ap (λ n. get_or (x ++ y) (n + i) 0) (sym e) ∙ go x
  where
    go : (x : List ℕ) → get_or (x ++ y) (length x + i) 0 ≡ get_or y i 0
    go [] = ap (λ j. get_or y j 0) (zero-add i)
    go (c ∷ x) = let e : suc (length x) + i ≡ suc (length x + i) = omega arith in ap (λ j. get_or (c ∷ (x ++ y)) j 0) e ∙ go x

past_set : (x y : List ℕ) (n i v : ℕ) → length x ≡ n → set (x ++ y) (n + i) v ≡ x ++ set y i v
past_set x y n i v e = ap (λ n. set (x ++ y) (n + i) v) (sym e) ∙ go x
  where
    go : (x : List ℕ) → set (x ++ y) (length x + i) v ≡ x ++ set y i v
    go [] = ap (λ j. set y j v) (zero-add i)
    go (c ∷ x) = let e : suc (length x) + i ≡ suc (length x + i) = omega arith in ap (λ j. set (c ∷ (x ++ y)) j v) e ∙ ap (λ z. c ∷ z) (go x)

left_get : (x y : List ℕ) (i : ℕ) → i < length x → get_or (x ++ y) i 0 ≡ get_or x i 0
left_get [] y i l = absurd (not-suc-le-zero l)
left_get (c ∷ x) y zero l = refl
left_get (c ∷ x) y (suc i) l = left_get x y i (le_of_suc-le-suc l)

-- ---- columns of given widths

abbrev pub Sized : List (List ℕ) → List ℕ → Type 0
Sized [] [] = Unit {0}
Sized [] (w ∷ ws) = ⊥
Sized (c ∷ cs) [] = ⊥
Sized (c ∷ cs) (w ∷ ws) = (length c ≡ w) × Sized cs ws

-- where column j begins; the column; its width
abbrev pub offset : ℕ → List ℕ → ℕ
offset zero ws = 0
offset (suc j) [] = 0
offset (suc j) (w ∷ ws) = w + offset j ws

abbrev pub col : List (List ℕ) → ℕ → List ℕ
col [] j = []
col (c ∷ cs) zero = c
col (c ∷ cs) (suc j) = col cs j

-- the columns with a change to column j
abbrev pub changed : List (List ℕ) → ℕ → (List ℕ → List ℕ) → List (List ℕ)
changed [] j f = []
changed (c ∷ cs) zero f = f c ∷ cs
changed (c ∷ cs) (suc j) f = c ∷ changed cs j f

changed_sized : (cs : List (List ℕ)) (ws : List ℕ) (j : ℕ) (f : List ℕ → List ℕ) → ((c : List ℕ) → length (f c) ≡ length c) → Sized cs ws → Sized (changed cs j f) ws
changed_sized [] [] j f e z = z
changed_sized [] (w ∷ ws) j f e z = absurd z
changed_sized (c ∷ cs) [] j f e z = absurd z
changed_sized (c ∷ cs) (w ∷ ws) zero f e z = (e c ∙ z.0, z.1)
changed_sized (c ∷ cs) (w ∷ ws) (suc j) f e z = (z.0, changed_sized cs ws j f e z.1)

move : (w p i : ℕ) → w + p + i ≡ w + (p + i)
move w p i = omega arith

get_in : (cs : List (List ℕ)) (ws : List ℕ) → Sized cs ws → (j i : ℕ) → i < get_or ws j 0 → get_or (joined cs) (offset j ws + i) 0 ≡ get_or (col cs j) i 0
get_in [] [] z j i q = absurd (not-suc-le-zero q)
get_in [] (w ∷ ws) z j i q = absurd z
get_in (c ∷ cs) [] z j i q = absurd z
get_in (c ∷ cs) (w ∷ ws) z zero i q = ap (λ k. get_or (c ++ joined cs) k 0) (zero-add i) ∙ left_get c (joined cs) i (omega (arith, z.0))
get_in (c ∷ cs) (w ∷ ws) z (suc j) i q =
    ap (λ k. get_or (c ++ joined cs) k 0) (move w (offset j ws) i) ∙ past_get c (joined cs) w (offset j ws + i) z.0 ∙ get_in cs ws z.1 j i q

set_in : (cs : List (List ℕ)) (ws : List ℕ) → Sized cs ws → (j i v : ℕ) → i < get_or ws j 0
    → set (joined cs) (offset j ws + i) v ≡ joined (changed cs j (λ c. set c i v))
set_in [] [] z j i v q = absurd (not-suc-le-zero q)
set_in [] (w ∷ ws) z j i v q = absurd z
set_in (c ∷ cs) [] z j i v q = absurd z
set_in (c ∷ cs) (w ∷ ws) z zero i v q = ap (λ k. set (c ++ joined cs) k v) (zero-add i) ∙ set-append_left c (joined cs) i v (omega (arith, z.0))
set_in (c ∷ cs) (w ∷ ws) z (suc j) i v q =
    ap (λ k. set (c ++ joined cs) k v) (move w (offset j ws) i) ∙ past_set c (joined cs) w (offset j ws + i) v z.0
    ∙ ap (λ x. c ++ x) (set_in cs ws z.1 j i v q)

changed_twice : (cs : List (List ℕ)) (j : ℕ) (f g : List ℕ → List ℕ) → changed (changed cs j f) j g ≡ changed cs j (λ c. g (f c))
changed_twice [] j f g = refl
changed_twice (c ∷ cs) zero f g = refl
changed_twice (c ∷ cs) (suc j) f g = ap (λ x. c ∷ x) (changed_twice cs j f g)

-- ---- after two counts

module _ (ws : List ℕ) (n m : ℕ) where
  abbrev after : List (List ℕ) → List ℕ
  after cs = n ∷ m ∷ joined cs

  two : (p i : ℕ) → 2 + p + i ≡ suc (suc (p + i))
  two p i = omega arith

  pub get : (cs : List (List ℕ)) → Sized cs ws → (j i : ℕ) → i < get_or ws j 0 → get_or (n ∷ m ∷ joined cs) (2 + offset j ws + i) 0 ≡ get_or (col cs j) i 0
  get cs z j i q = ap (λ k. get_or (after cs) k 0) (two (offset j ws) i) ∙ get_in cs ws z j i q

  pub put : (cs : List (List ℕ)) → Sized cs ws → (j i v : ℕ) → i < get_or ws j 0
      → set (n ∷ m ∷ joined cs) (2 + offset j ws + i) v ≡ n ∷ m ∷ joined (changed cs j (λ c. set c i v))
  put cs z j i v q = ap (λ k. set (after cs) k v) (two (offset j ws) i) ∙ ap (λ x. n ∷ m ∷ x) (set_in cs ws z j i v q)

  pub put_sized : (cs : List (List ℕ)) → Sized cs ws → (j i v : ℕ) → Sized (changed cs j (λ c. set c i v)) ws
  put_sized cs z j i v = changed_sized cs ws j (λ c. set c i v) (λ c. length-set c i v) z

  pub four_sized : (cs : List (List ℕ)) → Sized cs ws → (j i : ℕ) (ys : List ℕ) → Sized (changed cs j (λ c. set_four c i ys)) ws
  unfolding set_four
  four_sized cs z j i ys = changed_sized cs ws j (λ c. set_four c i ys) (λ c. simp length-set) z

  pub put_four : (cs : List (List ℕ)) → Sized cs ws → (j i : ℕ) (ys : List ℕ) → i + 3 < get_or ws j 0
      → set_four (n ∷ m ∷ joined cs) (2 + offset j ws + i) ys ≡ n ∷ m ∷ joined (changed cs j (λ c. set_four c i ys))
  unfolding set_four
  put_four cs z j i ys q =
      ap (λ x. set (set (set x (p + i + 1) (v 1)) (p + i + 2) (v 2)) (p + i + 3) (v 3)) (put cs z j i (v 0) (omega arith))
      ∙ ap (λ x. set (set x (p + i + 2) (v 2)) (p + i + 3) (v 3)) (more (λ c. set c i (v 0)) (put_sized cs z j i (v 0)) 1 (omega arith))
      ∙ ap (λ x. set x (p + i + 3) (v 3)) (more (λ c. set (set c i (v 0)) (i + 1) (v 1)) (changed_sized cs ws j _ (λ c. simp length-set) z) 2 (omega arith))
      ∙ more (λ c. set (set (set c i (v 0)) (i + 1) (v 1)) (i + 2) (v 2)) (changed_sized cs ws j _ (λ c. simp length-set) z) 3 (omega arith)
    where
      p : ℕ
      p = 2 + offset j ws

      v : ℕ → ℕ
      v e = get_or ys e 0

      more : (f : List ℕ → List ℕ) → Sized (changed cs j f) ws → (e : ℕ) → i + e < get_or ws j 0
          → set (n ∷ m ∷ joined (changed cs j f)) (p + i + e) (v e) ≡ n ∷ m ∷ joined (changed cs j (λ c. set (f c) (i + e) (v e)))
      more f y e l =
          ap (λ k. set (after (changed cs j f)) k (v e)) (move p i e) ∙ put (changed cs j f) y j (i + e) (v e) l
          ∙ ap (λ x. n ∷ m ∷ joined x) (changed_twice cs j f (λ c. set c (i + e) (v e)))
