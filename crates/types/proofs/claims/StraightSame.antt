-- A `rec` straight before a name: by the name's scope it leads where the name leads, and adds no state and no branch.
-- Assumes nothing.
use mathlib.Core.Path.{◌≡◌, refl, sym, ap, ap₂, ◌∙◌}
use mathlib.Core.List.{◌∷◌, ◌++◌}
use Prim.Native.Nat.{ℕ, suc, ◌+◌}
use lib.ListN.{length}
use borrow.Author.Tests.{ne_eqb}
use Rattle.grammar.specs.Grammar.{Ty, Br, way_sort, sorts, sorts_br, Scope, nothing_bound, bind, first_state, branch_for, branches, branches_br, share_of, shares, shares_br, table_of, Protocol, edition_named}
use Rattle.grammar.specs.Filled.{filled}
use Rattle.spelling.proofs.laws.TextOf.{read_into}
use Rattle.grammar.specs.declared.Reading.{Reading}
use Rattle.types.specs.Straight.{Straight, at_end, at_name, before_name, in_rec, in_choice, StraightBr, in_last, in_also, StraightSame}

mutual
  same_sorts : {t u : Ty} → Straight t u → sorts u ≡ sorts t
  same_sorts at_end = refl
  same_sorts at_name = refl
  same_sorts (before_name n s) = same_sorts s
  same_sorts (in_rec s) = same_sorts s
  same_sorts (in_choice {w} s) = ap (λ ss. way_sort w ∷ ss) (same_sorts_br s)

  same_sorts_br : {bs cs : Br} → StraightBr bs cs → sorts_br cs ≡ sorts_br bs
  same_sorts_br (in_last s) = same_sorts s
  same_sorts_br (in_also s r) = ap₂ ◌++◌ (same_sorts s) (same_sorts_br r)

same_first : {t u : Ty} → Straight t u → (e : Scope) (n : ℕ) → first_state u e n ≡ first_state t e n
unfolding bind
same_first at_end e n = refl
same_first at_name e n = refl
same_first (before_name {x} {y} d s) e n = same_first s (bind x n e) n ∙ rw (ne_eqb x y d)
same_first (in_rec {x} s) e n = same_first s (bind x n e) n
same_first (in_choice s) e n = refl

mutual
  same_branches : {t u : Ty} → Straight t u → (e : Scope) (n : ℕ) → branches u e n ≡ branches t e n
  same_branches at_end e n = refl
  same_branches at_name e n = refl
  same_branches (before_name {x} d s) e n = same_branches s (bind x n e) n
  same_branches (in_rec {x} s) e n = same_branches s (bind x n e) n
  same_branches (in_choice s) e n = same_branches_br s e n (suc n)

  same_branches_br : {bs cs : Br} → StraightBr bs cs → (e : Scope) (o n : ℕ) → branches_br cs e o n ≡ branches_br bs e o n
  same_branches_br (in_last {l} {fs} s) e o n = ap₂ (λ k bs. branch_for o l fs k ∷ bs) (same_first s e n) (same_branches s e n)
  same_branches_br (in_also {l} {fs} {t = t} {bs = bs} {cs} s r) e o n =
      ap₂ (λ k bs. branch_for o l fs k ∷ bs) (same_first s e n)
      (ap₂ ◌++◌ (same_branches s e n)
      (ap (λ ss. branches_br cs e o (n + length ss)) (same_sorts s) ∙ same_branches_br r e o (n + length (sorts t))))

mutual
  same_shares : {t u : Ty} → Straight t u → shares u ≡ shares t
  same_shares at_end = refl
  same_shares at_name = refl
  same_shares (before_name n s) = same_shares s
  same_shares (in_rec s) = same_shares s
  same_shares (in_choice s) = same_shares_br s

  same_shares_br : {bs cs : Br} → StraightBr bs cs → shares_br cs ≡ shares_br bs
  same_shares_br (in_last {sh = sh} s) = ap (λ r. share_of sh ∷ r) (same_shares s)
  same_shares_br (in_also {sh = sh} s r) = ap₂ (λ a r. share_of sh ∷ (a ++ r)) (same_shares s) (same_shares_br r)

same_table : (p q : Protocol) → Straight p.type q.type → edition_named p.opening ≡ edition_named q.opening → table_of q ≡ table_of p
unfolding table_of
same_table p q s e = rw (same_sorts s, same_branches s nothing_bound 0, same_shares s, e)

pub straight_same : StraightSame
straight_same s v p q x y d e =
    ap (λ (r : Reading). r.table) (read_into v q y) ∙ ap filled (same_table p q d e)
    ∙ sym (ap (λ (r : Reading). r.table) (read_into s p x))
