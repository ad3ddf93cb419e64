-- What reading asks of a type, in the order in which it is read.
-- Assumes nothing.
use mathlib.Core.Path.{◌≡◌, refl, sym, ap, subst}
use mathlib.Core.Bool.{Bool, true, false, not, ◌&&◌, ◌||◌}
use mathlib.Core.List.{List, [], ◌∷◌, ◌++◌}
use Prim.Native.Nat.{ℕ, suc, ◌+◌, ◌≤◌, ◌<◌}
use lib.Dec.{eqb}
use lib.ListN.{length}
use borrow.Author.Tests.{ne_eqb, not-true}
use Rattle.table.specs.Lists.{every, some_one, same}
use Rattle.table.specs.Table.{Branch, Table, of_choice, shares_right}
use Rattle.table.specs.View.{label_of}
use Rattle.table.proofs.laws.Lists.{both, never}
use Rattle.grammar.specs.Building.{label_used}
use Rattle.grammar.specs.Grammar.{SyntaxField, Share, Ty, stop, var, loop, choice, Br, last, also, sorts, first_state, share_of, shares, bare, recs_guarded, range_legal, share_legal, branch_for as row, branches as rows}
use Rattle.grammar.specs.Reading.{Open, a_rec, a_choice, meaning, is_found, unguarded}

-- a branch of the state has the label
abbrev pub has : ℕ → ℕ → List Branch → Bool
has o l [] = false
has o l (r ∷ rs) = (eqb r.owner o && same r.label (label_of l)) || has o l rs

pub has_some : (t : Table) (o l : ℕ) → label_used t o l ≡ has o l t.branches
unfolding label_used some_one
has_some t o l = go t.branches
  where
    go : (rs : List Branch) → some_one (λ b. eqb b.owner o && same b.label (label_of l)) rs ≡ has o l rs
    go [] = refl
    go (r ∷ rs) = ap (λ z. (eqb r.owner o && same r.label (label_of l)) || z) (go rs)

-- which of the tests are meant, by the numbers of their questions: all of them, or those of question q
abbrev pub All : ℕ → Type 0 → Type 0
All n A = A

abbrev pub Only : ℕ → ℕ → Type 0 → Type 0
Only q n A = q ≡ n → A

module _ (M : ℕ → Type 0 → Type 0) where
  abbrev pub GoodFields : List SyntaxField → Type 0
  GoodFields fs = M 6 (every range_legal fs ≡ true) × M 8 (length fs ≤ 4)

  -- a branch of the state o up to its type, after the branches rs
  abbrev pub GoodHead : ℕ → ℕ → List SyntaxField → Share → List Branch → Type 0
  GoodHead o l fs sh rs = M 8 (length rs < 128) × (M 7 (has o l rs ≡ false) × (GoodFields fs × M 19 (share_legal sh ≡ true)))

  -- with O open, n states, the branches rs and their shares ws
  abbrev mutual
    pub Good : Ty → List Open → ℕ → List Branch → List ℕ → Type 0
    Good stop O n rs ws = M 8 (n < 32)
    Good (var x) O n rs ws = M 4 (is_found (meaning O x) ≡ true) × M 5 (unguarded O x ≡ false)
    Good (loop x t) O n rs ws = M 8 (length O < 16) × Good t (a_rec x n ∷ O) n rs ws
    Good (choice w bs) O n rs ws = M 8 ((n < 32) × (length O < 16)) × GoodBr bs (a_choice n ∷ O) n (suc n) rs ws

    pub GoodBr : Br → List Open → ℕ → ℕ → List Branch → List ℕ → Type 0
    GoodBr (last l fs sh t) O o n rs ws =
        GoodHead o l fs sh rs
        × (Good t O n (rs ++ (row o l fs (first_state t (meaning O) n) ∷ [])) (ws ++ (share_of sh ∷ []))
        × M 20 (shares_right (of_choice o ((rs ++ (row o l fs (first_state t (meaning O) n) ∷ [])) ++ rows t (meaning O) n) ((ws ++ (share_of sh ∷ [])) ++ shares t)) ≡ true))
    GoodBr (also l fs sh t bs) O o n rs ws =
        GoodHead o l fs sh rs
        × (Good t O n (rs ++ (row o l fs (first_state t (meaning O) n) ∷ [])) (ws ++ (share_of sh ∷ []))
        × GoodBr bs O o (n + length (sorts t)) ((rs ++ (row o l fs (first_state t (meaning O) n) ∷ [])) ++ rows t (meaning O) n) ((ws ++ (share_of sh ∷ [])) ++ shares t))

-- the tests of every question are all of them
all_head : (o l : ℕ) (fs : List SyntaxField) (sh : Share) (rs : List Branch) → ((q : ℕ) → GoodHead (Only q) o l fs sh rs) → GoodHead All o l fs sh rs
all_head o l fs sh rs h = ((h 8).0 refl, ((h 7).1.0 refl, (((h 6).1.1.0.0 refl, (h 8).1.1.0.1 refl), (h 19).1.1.1 refl)))

mutual
  pub all_good : (t : Ty) (O : List Open) (n : ℕ) (rs : List Branch) (ws : List ℕ) → ((q : ℕ) → Good (Only q) t O n rs ws) → Good All t O n rs ws
  all_good stop O n rs ws h = h 8 refl
  all_good (var x) O n rs ws h = ((h 4).0 refl, (h 5).1 refl)
  all_good (loop x t) O n rs ws h = ((h 8).0 refl, all_good t (a_rec x n ∷ O) n rs ws (λ q. (h q).1))
  all_good (choice w bs) O n rs ws h = ((h 8).0 refl, all_good_br bs (a_choice n ∷ O) n (suc n) rs ws (λ q. (h q).1))

  all_good_br : (bs : Br) (O : List Open) (o n : ℕ) (rs : List Branch) (ws : List ℕ) → ((q : ℕ) → GoodBr (Only q) bs O o n rs ws) → GoodBr All bs O o n rs ws
  all_good_br (last l fs sh t) O o n rs ws h =
      (all_head o l fs sh rs (λ q. (h q).0), (all_good t O n _ _ (λ q. (h q).1.0), (h 20).1.1 refl))
  all_good_br (also l fs sh t bs) O o n rs ws h =
      (all_head o l fs sh rs (λ q. (h q).0), (all_good t O n _ _ (λ q. (h q).1.0), all_good_br bs O o (n + length (sorts t)) _ _ (λ q. (h q).1.1)))

-- a choice stands between each name and its own binder, within the type and from it to what is open
abbrev pub Guarded : Ty → List Open → Type 0
Guarded t O = (recs_guarded t ≡ true) × ((x : ℕ) → bare t x ≡ true → unguarded O x ≡ false)

-- a name that is bare in the body of a guarded `rec` is another than the `rec`'s
pub bare_other : (t : Ty) (x y : ℕ) → not (bare t x) ≡ true → bare t y ≡ true → eqb x y ≡ false
bare_other t x y g b = ne_eqb x y (λ e. never (subst (λ (z : ℕ). bare t z ≡ true) (sym e) b) (not-true (bare t x) g))

pub guarded_body : (x n : ℕ) (t : Ty) (O : List Open) → Guarded (loop x t) O → Guarded t (a_rec x n ∷ O)
unfolding unguarded
guarded_body x n t O g =
    let w = both (not (bare t x)) (recs_guarded t) g.0 in
    (w.1, λ y b. let e = bare_other t x y w.0 b in rw e (g.1 y (rw e b)))
