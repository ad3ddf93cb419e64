-- Contractive types. While recs are guarded, each unfolding leaves one less at the front of a closed type, so none goes on for ever without a
-- message. A rec that is not guarded stays where it is under substitution: a path comes to it, and there unfolds for ever.
-- Assumes nothing.
use mathlib.Core.Path.{◌≡◌, refl, sym, ap, subst, ◌∙◌}
use mathlib.Core.Bool.{Bool, true, false, not, ◌&&◌, cond, true≢false, false≢true}
use mathlib.Core.Logic.{◌⊎◌, inl, inr}
use mathlib.Core.List.{List, [], ◌∷◌}
use Prim.Native.Nat.{ℕ, zero, suc}
use native.Mathlib.Omega.{arith}
use lib.Dec.{eqb}
use lib.ListN.{drop}
use borrow.Author.Tests.{eqb-true, eq-eqb, not-true}
use Rattle.table.proofs.laws.Lists.{both, never}
use Rattle.table.specs.Lists.{every}
use Rattle.grammar.specs.Reading.{reads}
use Rattle.grammar.specs.Grammar.{Way, SyntaxField, Ty, stop, var, loop, choice, Br, last, also, bare, recs_guarded}
use Rattle.grammar.proofs.laws.Questions.{recs_guarded_br}
use Rattle.grammar.proofs.laws.Reads.{not_long}
use Rattle.spelling.specs.Refusals.{tests, FailsBy}
use Rattle.spelling.proofs.claims.ReadOrRefused.{questions_mean}
use Rattle.types.specs.Types.{substitute, substitute_br, unfolded, HasBranch, only, first, later, recs}
use Rattle.types.specs.Contractive.{Unfolds, unfolds, Reaches, here, past_rec, past_message, Silent, Contractive, ContractiveExactly, ReadContractive, FiveSilent}
use Rattle.types.proofs.laws.Close.{free_br, Closed, closed_also, closed_unfolded}
use Rattle.types.proofs.laws.Front.{closed_no_name, recs_unfolded, guarded_unfolded}
use Rattle.types.proofs.laws.Closed.{bound_closed}
use Rattle.types.proofs.laws.TextRules.{proper}

-- ---- guarded recs

-- every name is bound, with a choice between it and its binder
abbrev Guarded : Ty → Type 0
Guarded t = Closed t × (recs_guarded t ≡ true)

-- an unfolding keeps that, and leaves one rec less at the front
unfolds_one : {t u : Ty} → Unfolds t u → Guarded t → Guarded u × (recs t ≡ suc (recs u))
unfolds_one (unfolds {x} {t}) g = (
  (closed_unfolded x t g.0, guarded_unfolded x t g.0 g.1),
  ap suc (sym (recs_unfolded x t (closed_no_name (loop x t) g.0 g.1))),
)

branch_guarded : {bs : Br} {l : ℕ} {fs : List SyntaxField} {t : Ty} → HasBranch bs l fs t → ((x : ℕ) → free_br bs x ≡ false)
    → recs_guarded_br bs ≡ true → Guarded t
branch_guarded only c g = (c, g)
branch_guarded (first {t = t} {bs}) c g = ((closed_also t bs c).0, (both (recs_guarded t) (recs_guarded_br bs) g).0)
branch_guarded (later {u = u} {bs} h) c g =
    branch_guarded h (closed_also u bs c).1 (both (recs_guarded u) (recs_guarded_br bs) g).1

reached_guarded : {t u : Ty} → Reaches t u → Guarded t → Guarded u
reached_guarded here g = g
reached_guarded (past_rec h r) g = reached_guarded r (unfolds_one h g).0
reached_guarded (past_message h r) g = reached_guarded r (branch_guarded h g.0 g.1)

never_silent : (n : ℕ) (path : ℕ → Ty) → recs (path 0) ≡ n → Guarded (path 0) → ((k : ℕ) → Unfolds (path k) (path (suc k))) → ⊥
never_silent zero path e g f = omega (arith, (unfolds_one (f 0) g).1)
never_silent (suc n) path e g f =
    let w = unfolds_one (f 0) g in
    never_silent n (λ k. path (suc k)) (omega (arith, w.1)) w.0 (λ k. f (suc k))

guarded_contractive : (t : Ty) → Guarded t → Contractive t
guarded_contractive t g u r s =
    never_silent (recs (s.path 0)) s.path refl (subst Guarded (sym s.begins) (reached_guarded r g)) s.onward

-- ---- a rec that is not guarded

-- recs, one of which binds the name that they lead to
data Endless : Ty → Type 0 where
  binds : {x : ℕ} {t : Ty} → bare t x ≡ true → Endless (loop x t)
  within : {x : ℕ} {t : Ty} → Endless t → Endless (loop x t)

-- a name stays where it is not replaced
bare_stays : (t : Ty) (x : ℕ) (u : Ty) (y : ℕ) → eqb y x ≡ false → bare t y ≡ true → bare (substitute t x u) y ≡ true
bare_stays stop x u y n b = absurd (false≢true b)
bare_stays (var z) x u y n b = rw (ap (λ z. eqb z x) (eqb-true z y b) ∙ n) b
bare_stays (loop z t) x u y n b = go (eqb z y) (eqb z x) b (λ b. bare_stays t x u y n b)
  where
    go : (a c : Bool) → cond a false (bare t y) ≡ true → (bare t y ≡ true → bare (substitute t x u) y ≡ true)
        → cond a false (bare (cond c t (substitute t x u)) y) ≡ true
    go true c b i = absurd (false≢true b)
    go false true b i = b
    go false false b i = i b
bare_stays (choice w bs) x u y n b = absurd (false≢true b)

endless_put : {t : Ty} → Endless t → (x : ℕ) (u : Ty) → Endless (substitute t x u)
endless_put (binds {x = y} {t = t} b) x u = binds (go (eqb y x) refl)
  where
    go : (c : Bool) → eqb y x ≡ c → bare (cond c t (substitute t x u)) y ≡ true
    go true n = b
    go false n = bare_stays t x u y n b
endless_put (within {x = y} {t = t} e) x u = within (go (eqb y x) (endless_put e x u))
  where
    go : (c : Bool) → Endless (substitute t x u) → Endless (cond c t (substitute t x u))
    go true i = e
    go false i = i

-- the name is replaced by an endless type
endless_there : (t : Ty) (x : ℕ) (u : Ty) → bare t x ≡ true → Endless u → Endless (substitute t x u)
endless_there stop x u b e = absurd (false≢true b)
endless_there (var y) x u b e = rw b e
endless_there (loop y t) x u b e = within (go (eqb y x) b (λ b. endless_there t x u b e))
  where
    go : (c : Bool) → cond c false (bare t x) ≡ true → (bare t x ≡ true → Endless (substitute t x u)) → Endless (cond c t (substitute t x u))
    go true b i = absurd (false≢true b)
    go false b i = i b
endless_there (choice w bs) x u b e = absurd (false≢true b)

-- the rec at the front unfolded, if there is one
abbrev once : Ty → Ty
once stop = stop
once (var x) = var x
once (loop x t) = unfolded x t
once (choice w bs) = choice w bs

endless_once : {t : Ty} → Endless t → Endless (once t)
endless_once (binds {x} {t} b) = endless_there t x (loop x t) b (binds b)
endless_once (within {x} {t} e) = endless_put e x (loop x t)

unfolds_once : {t : Ty} → Endless t → Unfolds t (once t)
unfolds_once (binds b) = unfolds
unfolds_once (within e) = unfolds

abbrev unfoldings : Ty → ℕ → Ty
unfoldings t zero = t
unfoldings t (suc n) = unfoldings (once t) n

endless_on : (t : Ty) → Endless t → (n : ℕ) → Unfolds (unfoldings t n) (unfoldings t (suc n))
endless_on t e zero = unfolds_once e
endless_on t e (suc n) = endless_on (once t) (endless_once e) n

endless_silent : {t : Ty} → Endless t → Silent t
endless_silent {t} e = record { path = unfoldings t; begins = refl; onward = endless_on t e }

-- ---- the path to it

-- an endless type stands in the type, n places deep
data Fault : ℕ → Ty → Type 0 where
  at_once : {t : Ty} → Endless t → Fault zero t
  in_rec : {n x : ℕ} {t : Ty} → Fault n t → Fault (suc n) (loop x t)
  in_branch : {n : ℕ} {w : Way} {bs : Br} {l : ℕ} {fs : List SyntaxField} {t : Ty} → HasBranch bs l fs t → Fault n t → Fault (suc n) (choice w bs)

branch_put : {bs : Br} {l : ℕ} {fs : List SyntaxField} {t : Ty} → HasBranch bs l fs t → (x : ℕ) (u : Ty)
    → HasBranch (substitute_br bs x u) l fs (substitute t x u)
branch_put only x u = only
branch_put first x u = first
branch_put (later h) x u = later (branch_put h x u)

fault_put : {n : ℕ} {t : Ty} → Fault n t → (x : ℕ) (u : Ty) → Fault n (substitute t x u)
fault_put (at_once e) x u = at_once (endless_put e x u)
fault_put (in_rec {n = n} {x = y} {t = t} f) x u = in_rec (go (eqb y x) (fault_put f x u))
  where
    go : (b : Bool) → Fault n (substitute t x u) → Fault n (cond b t (substitute t x u))
    go true i = f
    go false i = i
fault_put (in_branch h f) x u = in_branch (branch_put h x u) (fault_put f x u)

abbrev Faulty : Ty → Type 0
Faulty t = (n : ℕ) × Fault n t

abbrev FaultyBr : Br → Type 0
FaultyBr bs = (n : ℕ) × (l : ℕ) × (fs : List SyntaxField) × (t : Ty) × HasBranch bs l fs t × Fault n t

mutual
  fault : (t : Ty) → recs_guarded t ≡ false → Faulty t
  fault stop e = absurd (true≢false e)
  fault (var x) e = absurd (true≢false e)
  fault (loop x t) e = go (bare t x) refl e (λ e. fault t e)
    where
      go : (b : Bool) → bare t x ≡ b → (not b && recs_guarded t) ≡ false → (recs_guarded t ≡ false → Faulty t) → Faulty (loop x t)
      go true b e i = (0, at_once (binds b))
      go false b e i = let f = i e in (suc f.0, in_rec f.1)
  fault (choice w bs) e = let f = fault_br bs e in (suc f.0, in_branch f.4 f.5)

  fault_br : (bs : Br) → recs_guarded_br bs ≡ false → FaultyBr bs
  fault_br (last l fs sh t) e = let f = fault t e in (f.0, l, fs, t, only, f.1)
  fault_br (also l fs sh t bs) e = go (recs_guarded t) refl e (λ e. fault t e) (λ e. fault_br bs e)
    where
      go : (b : Bool) → recs_guarded t ≡ b → (b && recs_guarded_br bs) ≡ false → (recs_guarded t ≡ false → Faulty t)
          → (recs_guarded_br bs ≡ false → FaultyBr bs) → FaultyBr (also l fs sh t bs)
      go true b e i j = let f = j e in (f.0, f.1, f.2, f.3, later f.4, f.5)
      go false b e i j = let f = i b in (f.0, l, fs, t, first, f.1)

-- the path to it, and on
abbrev Diverges : Ty → Type 0
Diverges t = (u : Ty) × Reaches t u × Silent u

fault_reached : (n : ℕ) {t : Ty} → Fault n t → Diverges t
fault_reached zero {t} (at_once e) = (t, here, endless_silent e)
fault_reached (suc n) (in_rec {x = x} {t = t} f) =
    let r = fault_reached n (fault_put f x (loop x t)) in
    (r.0, past_rec unfolds r.1, r.2)
fault_reached (suc n) (in_branch h f) =
    let r = fault_reached n f in
    (r.0, past_message h r.1, r.2)

unguarded_diverges : (t : Ty) → recs_guarded t ≡ false → Diverges t
unguarded_diverges t e = let f = fault t e in fault_reached f.0 f.1

-- no test has the number
other_number : (q : ℕ) (ts : List (ℕ × Bool)) → every (λ t. not (eqb q t.0)) ts ≡ true → FailsBy q ts → ⊥
unfolding every
other_number q [] e x = elim x [ ]
other_number q (t ∷ ts) e (inl x) = never (eq-eqb q t.0 x.0) (not-true (eqb q t.0) (both (not (eqb q t.0)) (every (λ t. not (eqb q t.0)) ts) e).0)
other_number q (t ∷ ts) e (inr f) = other_number q ts (both (not (eqb q t.0)) (every (λ t. not (eqb q t.0)) ts) e).1 f

-- ---- the theorems

pub contractive_exactly : ContractiveExactly
contractive_exactly t b = (λ g. guarded_contractive t (bound_closed t b, g), λ c. go (recs_guarded t) refl c)
  where
    go : (g : Bool) → recs_guarded t ≡ g → Contractive t → g ≡ true
    go true e c = refl
    go false e c = let d = unguarded_diverges t e in absurd (c d.0 d.1 d.2)

pub read_contractive : ReadContractive
read_contractive s t x = let p = proper s t x in guarded_contractive t.type (p.closed, p.guard)

pub five_silent : FiveSilent
unfolding every
five_silent s t sp h = unguarded_diverges t.type (five (questions_mean s t (not_long s (λ e. omega arith)) sp))
  where
    five : ((reads s).question ≡ 0) ⊎ FailsBy (reads s).question (tests t) → recs_guarded t.type ≡ false
    five (inl z) = absurd (omega arith)
    five (inr (inl x)) = absurd (omega (arith, x.0))
    five (inr (inr (inl x))) = x.1
    five (inr (inr (inr f))) = absurd (other_number (reads s).question (drop 2 (tests t)) (rw h) f)
