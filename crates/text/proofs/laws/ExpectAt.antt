-- A sign, one dot or two that stand right at a place are the token there; and what passing over a token says of it.
-- Assumes nothing.
use mathlib.Core.Path.{◌≡◌, refl, sym, ap, ◌∙◌}
use mathlib.Core.Bool.{Bool, true, false, cond, ◌&&◌}
use mathlib.Core.List.{List}
use Prim.Native.Nat.{ℕ, ◌+◌, ◌-◌, ◌<◌}
use native.Mathlib.Omega.{arith}
use lib.Dec.{eqb, ltb}
use lib.ListN.{length, get_or}
use borrow.Author.Tests.{eq-eqb, eqb-true, eqb-false, lt-leb, ltb-true, ltb-false, lt-ltb}
use Rattle.table.proofs.laws.Lists.{both, never}
use Rattle.grammar.specs.Token.{Token, one_of, token}
use Rattle.grammar.specs.inner.Scanner.{signs, is_space, is_dot, class_of, run_end, dots_token, begin_at, token_at}
use Rattle.text.specs.inner.Recursive.{step_answer, unexpected_at, passed, expect_at, is_at, next_token, next_of, next_at}
use Rattle.text.specs.inner.Answers.{Step, Next}
use Rattle.grammar.proofs.laws.ClassOf.{sign_class}
use Rattle.grammar.proofs.laws.RunOf.{run_on, run_off, run_out}
use Rattle.text.proofs.laws.FieldsAt.{no_zero}

-- ---- the token that begins right at a place

module _ (s : List ℕ) where
  pub stands : (p b : ℕ) → is_at s p b ≡ true → (p < length s) × (get_or s p 0 ≡ b)
  stands p b e = let x = both (ltb p (length s)) (eqb (get_or s p 0) b) e in (ltb-true _ _ x.0, eqb-true _ _ x.1)

  -- a byte that is no space begins the token
  begins : (p : ℕ) → p < length s → is_space (get_or s p 0) ≡ false → token_at s p ≡ begin_at s p (class_of (get_or s p 0))
  unfolding token_at
  begins p h e = rw (run_off is_space s p h e, lt-leb (length s) p h)

  sign_here : (p b : ℕ) → is_at s p b ≡ true → one_of signs b ≡ true → token_at s p ≡ token b p (p + 1)
  unfolding begin_at
  sign_here p b e g =
      let x = stands p b e in
      let y = sign_class b g in
      begins p x.0 (ap is_space x.1 ∙ y.1)
      ∙ ap (begin_at s p) (ap class_of x.1 ∙ y.0)
      ∙ ap (λ n. token n p (p + 1)) x.1

  -- the run of dots goes on past a dot, and ends where none stands
  dots_on : (p : ℕ) → is_at s p 46 ≡ true → run_end is_dot s p ≡ run_end is_dot s (p + 1)
  dots_on p e = let x = stands p 46 e in run_on is_dot s p x.0 (eq-eqb _ _ x.1)

  dots_off : (p : ℕ) → is_at s p 46 ≡ false → run_end is_dot s p ≡ p
  dots_off p e = go (ltb p (length s)) refl e
    where
      go : (t : Bool) → ltb p (length s) ≡ t → (t && eqb (get_or s p 0) 46) ≡ false → run_end is_dot s p ≡ p
      go true h e = run_off is_dot s p (ltb-true _ _ h) e
      go false h e = run_out is_dot s p (ltb-false _ _ h)

  dots_begin : (p : ℕ) → is_at s p 46 ≡ true → token_at s p ≡ dots_token s p
  unfolding begin_at class_of
  dots_begin p e =
      let x = stands p 46 e in
      begins p x.0 (ap is_space x.1) ∙ ap (λ b. begin_at s p (class_of b)) x.1

  dot_here : (p : ℕ) → is_at s p 46 ≡ true → is_at s (p + 1) 46 ≡ false → token_at s p ≡ token 46 p (p + 1)
  unfolding dots_token
  dot_here p e f =
      let n : p + 1 - p ≡ 1 = omega arith in
      dots_begin p e ∙ rw (dots_on p e, dots_off (p + 1) f, n)

  dots_here : (p : ℕ) → is_at s p 46 ≡ true → is_at s (p + 1) 46 ≡ true → is_at s (p + 2) 46 ≡ false → token_at s p ≡ token 58 p (p + 2)
  unfolding dots_token
  dots_here p e f g =
      let n : p + 2 - p ≡ 2 = omega arith in
      let m : p + 1 + 1 ≡ p + 2 = omega arith in
      dots_begin p e ∙ rw (dots_on p e, dots_on (p + 1) f, m, dots_off (p + 2) g, n)

  -- ---- passing over it

  pub sign_passed : (p b : ℕ) → is_at s p b ≡ true → one_of signs b ≡ true → step_answer 0 (p + 1) ≡ expect_at s p b
  unfolding expect_at passed
  sign_passed p b e g = rw (sign_here p b e g, eq-eqb b b refl)

  pub dot_passed : (p : ℕ) → is_at s p 46 ≡ true → is_at s (p + 1) 46 ≡ false → step_answer 0 (p + 1) ≡ expect_at s p 46
  unfolding expect_at passed
  dot_passed p e f = rw (dot_here p e f)

  pub dots_passed : (p : ℕ) → is_at s p 46 ≡ true → is_at s (p + 1) 46 ≡ true → is_at s (p + 2) 46 ≡ false → step_answer 0 (p + 2) ≡ expect_at s p 58
  unfolding expect_at passed
  dots_passed p e f g = rw (dots_here p e f g)

  pub last_passed : (p b : ℕ) → is_at s p b ≡ true → one_of signs b ≡ true → next_token 0 (p + 1) false ≡ next_at s p b
  unfolding next_at next_of
  last_passed p b e g = rw (sign_here p b e g, eq-eqb b b refl)

  -- a comma, where the sign that closes the list does not stand
  pub comma_passed : (p b : ℕ) → is_at s p b ≡ false → is_at s p 44 ≡ true → next_token 0 (p + 1) true ≡ next_at s p b
  unfolding next_at next_of
  comma_passed p b e f =
      let x = stands p 44 f in
      let y : eqb 44 b ≡ false = go (ltb p (length s)) (lt-ltb _ _ x.0) (ap (λ (n : ℕ). eqb n b) x.1) e in
      rw (sign_here p 44 f refl, y)
    where
      go : (t : Bool) → t ≡ true → eqb (get_or s p 0) b ≡ eqb 44 b → (t && eqb (get_or s p 0) b) ≡ false → eqb 44 b ≡ false
      go true h g e = sym g ∙ e
      go false h g e = never h refl

  -- ---- what was passed over

  module _ (q n : ℕ) where
    k : Token
    k = token_at s q

    module _ (r : Step) (e : r ≡ expect_at s q n) where
      pub expect_yes : r.question ≡ 0 → ((token_at s q).kind ≡ n) × (r.at ≡ (token_at s q).end)
      unfolding expect_at passed k
      expect_yes z =
          let x = go (eqb k.kind n) refl (ap (λ (r : Step). r.question) (sym e) ∙ z) in
          (x.0, ap (λ (r : Step). r.at) e ∙ x.1)
        where
          go : (t : Bool) → eqb k.kind n ≡ t → (cond t (step_answer 0 k.end) (unexpected_at k)).question ≡ 0
              → (k.kind ≡ n) × ((cond t (step_answer 0 k.end) (unexpected_at k)).at ≡ k.end)
          go true f z = (eqb-true _ _ f, refl)
          go false f z = absurd (eqb-false _ _ (no_zero k) z)

      pub expect_no : (r.question ≡ 0 → ⊥) → ((token_at s q).kind ≡ n → ⊥) × (r ≡ unexpected_at (token_at s q))
      unfolding expect_at passed k
      expect_no z =
          let x = go (eqb k.kind n) refl (λ y. z (ap (λ (r : Step). r.question) e ∙ y)) in
          (x.0, e ∙ x.1)
        where
          go : (t : Bool) → eqb k.kind n ≡ t → ((cond t (step_answer 0 k.end) (unexpected_at k)).question ≡ 0 → ⊥)
              → (k.kind ≡ n → ⊥) × (cond t (step_answer 0 k.end) (unexpected_at k) ≡ unexpected_at k)
          go true f z = absurd (z refl)
          go false f z = (eqb-false _ _ f, refl)

    module _ (r : Next) (e : r ≡ next_at s q n) where
      answer : Bool → Bool → Next
      answer t u = cond t (next_token 0 k.end false) (cond u (next_token 0 k.end true) (next_token (unexpected_at k).question (unexpected_at k).at false))

      answered : r ≡ answer (eqb k.kind n) (eqb k.kind 44)
      unfolding answer next_at next_of k
      answered = e

      pub next_no : (r.question ≡ 0 → ⊥)
          → ((token_at s q).kind ≡ n → ⊥) × ((token_at s q).kind ≡ 44 → ⊥) × (step_answer r.question r.at ≡ unexpected_at (token_at s q))
      unfolding answer k
      next_no z = go (eqb k.kind n) refl (eqb k.kind 44) refl answered
        where
          go : (t : Bool) → eqb k.kind n ≡ t → (u : Bool) → eqb k.kind 44 ≡ u → r ≡ answer t u
              → (k.kind ≡ n → ⊥) × (k.kind ≡ 44 → ⊥) × (step_answer r.question r.at ≡ unexpected_at k)
          go true f u g e = absurd (z (ap (λ (r : Next). r.question) e))
          go false f true g e = absurd (z (ap (λ (r : Next). r.question) e))
          go false f false g e = (eqb-false _ _ f, eqb-false _ _ g, ap (λ (r : Next). step_answer r.question r.at) e)

      module _ (z : r.question ≡ 0) where
        pub next_last : r.more ≡ false → ((token_at s q).kind ≡ n) × (r.at ≡ (token_at s q).end)
        unfolding answer k
        next_last m = go (eqb k.kind n) refl (eqb k.kind 44) answered
          where
            go : (t : Bool) → eqb k.kind n ≡ t → (u : Bool) → r ≡ answer t u → (k.kind ≡ n) × (r.at ≡ k.end)
            go true f u e = (eqb-true _ _ f, ap (λ (r : Next). r.at) e)
            go false f true e = never (ap (λ (r : Next). r.more) e) m
            go false f false e = absurd (eqb-false _ _ (no_zero k) (ap (λ (r : Next). r.question) (sym e) ∙ z))

        pub next_more : r.more ≡ true → ((token_at s q).kind ≡ n → ⊥) × ((token_at s q).kind ≡ 44) × (r.at ≡ (token_at s q).end)
        unfolding answer k
        next_more m = go (eqb k.kind n) refl (eqb k.kind 44) refl answered
          where
            go : (t : Bool) → eqb k.kind n ≡ t → (u : Bool) → eqb k.kind 44 ≡ u → r ≡ answer t u
                → (k.kind ≡ n → ⊥) × (k.kind ≡ 44) × (r.at ≡ k.end)
            go true f u g e = never m (ap (λ (r : Next). r.more) e)
            go false f true g e = (eqb-false _ _ f, eqb-true _ _ g, ap (λ (r : Next). r.at) e)
            go false f false g e = never m (ap (λ (r : Next). r.more) e)
