-- A batch over codes: whether two bytes stand for a state, and those of the state after it.
-- Assumes nothing.
use mathlib.Core.Path.{◌≡◌, refl, sym, ap, ap₂, ◌∙◌}
use mathlib.Core.Bool.{Bool, true, false, cond}
use mathlib.Core.List.{List, [], ◌∷◌}
use Prim.Native.Nat.{ℕ}
use lib.ListN.{get_or}
use lib.Dec.{eqb}
use borrow.Author.Tests.{ne_eqb, eq-eqb, eqb-true}
use Rattle.table.proofs.laws.Lists.{both, join, left_fails}
use Rattle.conversation.specs.declared.State.{State}
use Rattle.codes.specs.Codes.{standing_code, standing_of, state_of, state_bytes}
use Rattle.codes.specs.Calls.{stand_for, bytes_for}
use Rattle.codes.proofs.laws.Codes.{standing_same}

-- ---- whether two bytes stand for a state

module _ (p c : ℕ) (s : State) where
  pub other_place : (p ≡ s.position → ⊥) → false ≡ stand_for p c s
  unfolding stand_for
  other_place n = sym (left_fails (eqb (standing_code (standing_of c)) (standing_code s.standing)) (ne_eqb p s.position n))

  pub same_place : p ≡ s.position → eqb (standing_code (standing_of c)) (standing_code s.standing) ≡ stand_for p c s
  unfolding stand_for
  same_place e = rw (eq-eqb p s.position e)

module _ (s : State) (bytes : List ℕ) where
  pub bytes_left : stand_for (get_or bytes 0 0) (get_or bytes 1 0) s ≡ true → bytes ≡ bytes_for s bytes
  unfolding bytes_for
  bytes_left e = rw e

  pub bytes_put : stand_for (get_or bytes 0 0) (get_or bytes 1 0) s ≡ false → state_bytes s ≡ bytes_for s bytes
  unfolding bytes_for
  bytes_put e = rw e

-- ---- over the codes of a state

pub kept_bytes : (s x : State) → bytes_for x (state_bytes s) ≡ state_bytes x
unfolding bytes_for stand_for
kept_bytes s x = by (stand_for s.position (standing_code s.standing) x) refl
  where
    by : (b : Bool) → stand_for s.position (standing_code s.standing) x ≡ b → cond b (state_bytes s) (state_bytes x) ≡ state_bytes x
    by false e = refl
    by true e =
        let p = both (eqb s.position x.position) (eqb (standing_code (standing_of (standing_code s.standing))) (standing_code x.standing)) e in
        ap₂ (λ a c. a ∷ c ∷ []) (eqb-true s.position x.position p.0)
        (sym (ap standing_code (standing_same s.standing)) ∙ eqb-true _ (standing_code x.standing) p.1)

pub own_bytes : (p c : ℕ) → stand_for p c (state_of p c) ≡ true
unfolding stand_for
own_bytes p c = join (eq-eqb p p refl) (eq-eqb (standing_code (standing_of c)) (standing_code (standing_of c)) refl)
