-- Lists filled up with zeros: an entry more goes where the list ends. And what is seen of a list by places.
-- Assumes nothing.
use mathlib.Core.Path.{◌≡◌, refl, ap, ap₂, ◌∙◌}
use mathlib.Core.List.{List, [], ◌∷◌, ◌++◌, map, append_assoc}
use Prim.Native.Nat.{ℕ, zero, suc, ◌+◌, ◌≤◌, ◌<◌}
use native.Mathlib.Nat.{le_of_suc-le-suc}
use native.Mathlib.Omega.{arith}
use lib.ListN.{length, set, get_or, length-append}
use Rattle.table.specs.Lists.{upto}
use Rattle.grammar.specs.Filled.{padded}
use Rattle.grammar.specs.inner.Holds.{set_four}

pub map_append : {A B : Type 0} (f : A → B) (xs ys : List A) → map f (xs ++ ys) ≡ map f xs ++ map f ys
map_append f [] ys = refl
map_append f (x ∷ xs) ys = ap (λ r. f x ∷ r) (map_append f xs ys)

padded_set : (n : ℕ) (xs : List ℕ) (v : ℕ) → length xs < n → set (padded n xs) (length xs) v ≡ padded n (xs ++ (v ∷ []))
padded_set zero xs v h = absurd (omega arith)
padded_set (suc n) [] v h = refl
padded_set (suc n) (x ∷ xs) v h = ap (λ r. x ∷ r) (padded_set n xs v (le_of_suc-le-suc h))

pub next_set : (n i : ℕ) (xs : List ℕ) (v : ℕ) → i ≡ length xs → i < n → set (padded n xs) i v ≡ padded n (xs ++ (v ∷ []))
next_set n i xs v e h = ap (λ i. set (padded n xs) i v) e ∙ padded_set n xs v (omega arith)

pub padded_at : (n : ℕ) (xs : List ℕ) (k : ℕ) → get_or (padded n xs) k 0 ≡ get_or xs k 0
padded_at zero xs k = refl
padded_at (suc n) [] zero = refl
padded_at (suc n) [] (suc k) = padded_at n [] k
padded_at (suc n) (x ∷ xs) zero = refl
padded_at (suc n) (x ∷ xs) (suc k) = padded_at n xs k

pub padded_length : (n : ℕ) (w : List ℕ) → length w ≤ n → length (padded n w) ≡ n
padded_length zero [] h = refl
padded_length zero (b ∷ w) h = absurd (omega arith)
padded_length (suc n) [] h = ap suc (padded_length n [] (omega arith))
padded_length (suc n) (b ∷ w) h = ap suc (padded_length n w (le_of_suc-le-suc h))

pub four_set : (n k : ℕ) (xs ys : List ℕ) → k ≡ length xs → k + 3 < n
    → set_four (padded n xs) k ys ≡ padded n (xs ++ (get_or ys 0 0 ∷ get_or ys 1 0 ∷ get_or ys 2 0 ∷ get_or ys 3 0 ∷ []))
unfolding set_four
four_set n k xs ys e h =
    ap (λ zs. set (set (set zs (k + 1) b) (k + 2) c) (k + 3) d) (next_set n k xs a e (omega arith))
    ∙ ap (λ zs. set (set zs (k + 2) c) (k + 3) d) (next_set n (k + 1) (xs ++ (a ∷ [])) b (omega (arith, length-append xs (a ∷ []))) (omega arith))
    ∙ ap (λ zs. set zs (k + 3) d) (ap (λ zs. set (padded n zs) (k + 2) c) (append_assoc xs (a ∷ []) (b ∷ [])) ∙ next_set n (k + 2) (xs ++ (a ∷ b ∷ [])) c (omega (arith, length-append xs (a ∷ b ∷ []))) (omega arith))
    ∙ ap (λ zs. set (padded n zs) (k + 3) d) (append_assoc xs (a ∷ b ∷ []) (c ∷ []))
    ∙ next_set n (k + 3) (xs ++ (a ∷ b ∷ c ∷ [])) d (omega (arith, length-append xs (a ∷ b ∷ c ∷ []))) (omega arith)
    ∙ ap (padded n) (append_assoc xs (a ∷ b ∷ c ∷ []) (d ∷ []))
  where
    a : ℕ
    a = get_or ys 0 0

    b : ℕ
    b = get_or ys 1 0

    c : ℕ
    c = get_or ys 2 0

    d : ℕ
    d = get_or ys 3 0

pub upto_list : {A : Type 0} (xs : List A) (d : A) (g : ℕ → A) → ((k : ℕ) → k < length xs → g k ≡ get_or xs k d) → upto (length xs) g ≡ xs
unfolding upto
upto_list [] d g h = refl
upto_list (x ∷ xs) d g h = ap₂ ◌∷◌ (h 0 (omega arith)) (upto_list xs d (λ k. g (suc k)) (λ k l. h (suc k) (omega arith)))

pub upto_length : {A : Type 0} (n : ℕ) (g : ℕ → A) → length (upto n g) ≡ n
unfolding upto
upto_length zero g = refl
upto_length (suc n) g = ap suc (upto_length n (λ k. g (suc k)))
