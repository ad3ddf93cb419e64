-- `all` over places, and the tests over lists that are made of places.
-- Assumes nothing.
use Rattle.std.proofs.Common.{◌≡◌, ℕ, zero, suc, ◌+◌, ◌<◌, Bool, true, false, not, ◌&&◌, ◌||◌, ◌⊎◌, List, [], ◌∷◌, ◌++◌, length, sym, refl, ap, ◌∙◌, ap₂, inl, inr, ⊎_elim, true≢false, suc-le-suc, zero-le, le_of_suc-le-suc, not-suc-le-zero, add-one, arith}
use mathlib.Core.Bool.{false≢true}
use Rattle.table.specs.Lists.{every, upto, matched}
use Rattle.table.specs.inner.Scans.{all}

pub never : {X : Type 0} {t : Bool} → t ≡ true → t ≡ false → X
never e f = absurd (true≢false (sym e ∙ f))

pub both : (a b : Bool) → (a && b) ≡ true → (a ≡ true) × (b ≡ true)
both true b e = (refl, e)
both false b e = absurd (false≢true e)

pub join : {a b : Bool} → a ≡ true → b ≡ true → (a && b) ≡ true
join e f = ap₂ ◌&&◌ e f

pub left_fails : {a : Bool} (b : Bool) → a ≡ false → (a && b) ≡ false
left_fails b e = ap (λ a. a && b) e

pub left_passes : {a : Bool} (b : Bool) → a ≡ true → (a && b) ≡ b
left_passes b e = ap (λ a. a && b) e

pub right_fails : (a : Bool) {b : Bool} → b ≡ false → (a && b) ≡ false
right_fails true e = e
right_fails false e = refl

pub either : (a b : Bool) → (a || b) ≡ true → (a ≡ true) ⊎ (b ≡ true)
either true b e = inl refl
either false b e = inr e

pub neither : (a b : Bool) → (a || b) ≡ false → (a ≡ false) × (b ≡ false)
neither true b e = absurd (true≢false e)
neither false b e = (refl, e)

pub or_left : {a : Bool} (b : Bool) → a ≡ true → (a || b) ≡ true
or_left b e = ap (λ a. a || b) e

pub or_right : (a : Bool) {b : Bool} → b ≡ true → (a || b) ≡ true
or_right true e = refl
or_right false e = e

pub all_three : (a b c : Bool) → (a && b && c) ≡ true → (a ≡ true) × (b ≡ true) × (c ≡ true)
all_three a b c e =
    let x = both (a && b) c e in
    let y = both a b x.0 in
    (y.0, y.1, x.1)

pub implied : (a b : Bool) → (not a || b) ≡ true → a ≡ true → b ≡ true
implied true b e f = e
implied false b e f = absurd (false≢true f)

pub implies : (a b : Bool) → (a ≡ true → b ≡ true) → (not a || b) ≡ true
implies true b f = f refl
implies false b f = refl

pub decided : (t : Bool) → (t ≡ true) ⊎ (t ≡ false)
decided true = inl refl
decided false = inr refl

-- what would pass if it were true, and is false where it fails
pub refuted : (t : Bool) → (t ≡ true → ⊥) → t ≡ false
refuted true n = absurd (n refl)
refuted false n = refl

-- two tests that pass together are equal
pub alike : (a b : Bool) → (a ≡ true → b ≡ true) → (b ≡ true → a ≡ true) → a ≡ b
alike true b f g = sym (f refl)
alike false b f g = sym (refuted b (λ e. never (g e) refl))

-- ---- all

-- one place more, as a loop takes it
pub all_more : (f : ℕ → Bool) (i : ℕ) → all (i + 1) f ≡ (all i f && f i)
unfolding all
all_more f i = ap (λ n. all n f) (add-one i)

pub all_yes : (f : ℕ → Bool) (i : ℕ) {ok : Bool} → ok ≡ all i f → f i ≡ true → ok ≡ all (i + 1) f
all_yes f i {ok} e h = e ∙ sym (and_true (all i f)) ∙ ap (λ b. all i f && b) (sym h) ∙ sym (all_more f i)
  where
    and_true : (a : Bool) → (a && true) ≡ a
    and_true true = refl
    and_true false = refl

pub all_at : (f : ℕ → Bool) (n : ℕ) → all n f ≡ true → (k : ℕ) → k < n → f k ≡ true
unfolding all
all_at f zero e k l = absurd (not-suc-le-zero l)
all_at f (suc n) e k l =
    let p = both (all n f) (f n) e in
    ⊎_elim (λ (h : k < n). all_at f n p.0 k h) (λ (h : k ≡ n). ap f h ∙ p.1) (split k n l)
  where
    split : (k n : ℕ) → k < suc n → (k < n) ⊎ (k ≡ n)
    split zero zero l = inr refl
    split zero (suc n) l = inl (suc-le-suc zero-le)
    split (suc k) zero l = absurd (not-suc-le-zero (le_of_suc-le-suc l))
    split (suc k) (suc n) l = ⊎_elim (λ h. inl (suc-le-suc h)) (λ h. inr (ap suc h)) (split k n (le_of_suc-le-suc l))

pub all_by : (f : ℕ → Bool) (n : ℕ) → ((k : ℕ) → k < n → f k ≡ true) → all n f ≡ true
unfolding all
all_by f zero h = refl
all_by f (suc n) h = join (all_by f n (λ k l. h k (omega arith))) (h n (omega arith))

pub all_no : (f : ℕ → Bool) (n k : ℕ) → k < n → f k ≡ false → all n f ≡ false
all_no f n k l e = refuted (all n f) (λ h. never (all_at f n h k l) e)

-- two tests at every place
pub all_both : (f g : ℕ → Bool) (n : ℕ) → all n (λ k. f k && g k) ≡ (all n f && all n g)
all_both f g n =
    alike (all n (λ k. f k && g k)) (all n f && all n g)
    (λ e. join (all_by f n (λ k l. (both (f k) (g k) (all_at (λ k. f k && g k) n e k l)).0)) (all_by g n (λ k l. (both (f k) (g k) (all_at (λ k. f k && g k) n e k l)).1)))
    (λ e.
    let h = both (all n f) (all n g) e in
    all_by (λ k. f k && g k) n (λ k l. join (all_at f n h.0 k l) (all_at g n h.1 k l)))

pub all_same : (f g : ℕ → Bool) (n : ℕ) → ((k : ℕ) → k < n → f k ≡ g k) → all n f ≡ all n g
unfolding all
all_same f g zero h = refl
all_same f g (suc n) h = ap₂ ◌&&◌ (all_same f g n (λ k l. h k (omega arith))) (h n (omega arith))

-- the loop is over
pub all_end : (f : ℕ → Bool) (i n : ℕ) {ok : Bool} → ok ≡ all i f → i ≡ n → ok ≡ all n f
all_end f i n e q = e ∙ ap (λ n. all n f) q

-- ---- lists of places

module _ {A : Type 0} where
  pub every_append : (f : A → Bool) (xs ys : List A) → every f xs ≡ true → every f ys ≡ true → every f (xs ++ ys) ≡ true
  unfolding every
  every_append f [] ys h k = k
  every_append f (x ∷ xs) ys h k = let w = both (f x) (every f xs) h in join w.0 (every_append f xs ys w.1 k)

  pub upto_length : (n : ℕ) (g : ℕ → A) → length (upto n g) ≡ n
  unfolding upto
  upto_length zero g = refl
  upto_length (suc n) g = ap suc (upto_length n (λ k. g (suc k)))

  pub every_upto : (f : A → Bool) (n : ℕ) (g : ℕ → A) → every f (upto n g) ≡ true → (k : ℕ) → k < n → f (g k) ≡ true
  unfolding every upto
  every_upto f zero g e k l = absurd (not-suc-le-zero l)
  every_upto f (suc n) g e zero l = (both (f (g zero)) (every f (upto n (λ k. g (suc k)))) e).0
  every_upto f (suc n) g e (suc k) l =
      every_upto f n (λ k. g (suc k)) (both (f (g zero)) (every f (upto n (λ k. g (suc k)))) e).1 k (le_of_suc-le-suc l)

  pub upto_every : (f : A → Bool) (n : ℕ) (g : ℕ → A) → ((k : ℕ) → k < n → f (g k) ≡ true) → every f (upto n g) ≡ true
  unfolding every upto
  upto_every f zero g h = refl
  upto_every f (suc n) g h =
      join (h zero (suc-le-suc zero-le)) (upto_every f n (λ k. g (suc k)) (λ k l. h (suc k) (suc-le-suc l)))

-- ---- two lists of places

module _ {A B : Type 0} (f : A → B → Bool) where
  pub matched_by : (n : ℕ) (g : ℕ → A) (h : ℕ → B) → ((k : ℕ) → k < n → f (g k) (h k) ≡ true) → matched f (upto n g) (upto n h) ≡ true
  unfolding matched upto
  matched_by zero g h p = refl
  matched_by (suc n) g h p =
      join (p zero (suc-le-suc zero-le)) (matched_by n (λ k. g (suc k)) (λ k. h (suc k)) (λ k l. p (suc k) (suc-le-suc l)))
