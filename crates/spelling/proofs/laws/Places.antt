-- The tokens that stand in a text stand further and further on, so its place tells one from the others. Assumes nothing.
use mathlib.Core.Path.{◌≡◌, refl, sym, subst, ap, ◌∙◌}
use mathlib.Core.List.{List, [], ◌∷◌, ◌++◌}
use Prim.Native.Nat.{ℕ, suc, ◌+◌, ◌≤◌}
use native.Mathlib.Omega.{arith}
use lib.ListN.{length, drop}
use Rattle.grammar.specs.Token.{Token}
use Rattle.grammar.proofs.laws.TokenAt.{onward}
use Rattle.spelling.specs.Places.{Placed, ran_out, malformed, a_blank, a_token}
use Rattle.spelling.specs.Refusals.{At}
use Rattle.spelling.proofs.laws.StandsAt.{next_here, past_here, found}
use Rattle.spelling.proofs.laws.Placed.{placed_scanned}

-- each stands at p or later, and after the one before it
abbrev Rising : ℕ → List Token → Type 0
Rising p [] = Unit {0}
Rising p (k ∷ ks) = (p ≤ k.start) × Rising (suc k.start) ks

rising_from : (p q : ℕ) (ks : List Token) → p ≤ q → Rising q ks → Rising p ks
rising_from p q [] h r = tt
rising_from p q (k ∷ ks) h r = let l = r.0 in (omega arith, r.1)

placed_rising : (s : List ℕ) {u : List ℕ} {p : ℕ} {ks : List Token} → Placed u p ks → drop p s ≡ u → Rising p ks
placed_rising s (ran_out {p}) e = (omega arith, tt)
placed_rising s (malformed {p = p} i n) e = (omega arith, tt)
placed_rising s (a_blank {b} {p} {s = v} {ks = ks} i pl) e = rising_from p (p + 1) ks (omega arith) (placed_rising s pl (next_here s p b v e))
placed_rising s (a_token {w = w} {s = r} {p = p} {ks = ks} i o pl) e =
    let f = found s p r i o e in
    (omega arith, rising_from (suc p) (p + length w) ks (omega (arith, f.end, (onward s p f.on).1)) (placed_rising s pl (past_here s p w r e)))

rising_at : (p : ℕ) (ks : List Token) (k : Token) (js : List Token) → Rising p (ks ++ (k ∷ js)) → p ≤ k.start
rising_at p [] k js r = r.0
rising_at p (l ∷ ks) k js r = let h = r.0 in omega (arith, rising_at (suc l.start) ks k js r.1)

split_once : (p : ℕ) (xs ys : List Token) (k j : Token) (us vs : List Token) → Rising p (xs ++ (k ∷ us)) → xs ++ (k ∷ us) ≡ ys ++ (j ∷ vs) → k.start ≡ j.start
    → (xs ≡ ys) × (k ≡ j)
split_once p [] [] k j us vs r e h = (refl, cc)
split_once p [] (y ∷ ys) k j us vs r e h =
    let a : k ≡ y = cc in
    let b : us ≡ ys ++ (j ∷ vs) = cc in
    absurd (omega (arith, rising_at (suc k.start) ys j vs (subst (Rising (suc k.start)) b r.1)))
split_once p (x ∷ xs) [] k j us vs r e h =
    let a : x ≡ j = cc in
    absurd (omega (arith, rising_at (suc x.start) xs k us r.1, ap (λ (t : Token). t.start) a))
split_once p (x ∷ xs) (y ∷ ys) k j us vs r e h =
    let a : x ≡ y = cc in
    let b : xs ++ (k ∷ us) ≡ ys ++ (j ∷ vs) = cc in
    let g = split_once (suc x.start) xs ys k j us vs r.1 b h in
    let g₀ = g.0 in
    (cc, g.1)

-- there is one token at a place
pub at_once : (s : List ℕ) (p : ℕ) (a b : At s p) → (a.before ≡ b.before) × (a.here ≡ b.here)
at_once s p a b =
    split_once 0 a.before b.before a.here b.here a.rest b.rest (placed_rising s a.split refl)
    (sym ((placed_scanned s _).0 a.split) ∙ (placed_scanned s _).0 b.split) (a.place ∙ sym b.place)
