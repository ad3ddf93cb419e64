-- Sorts by their codes: two sorts are the same exactly when `same_sort` says so.
-- Assumes nothing.
use Rattle.std.proofs.Common.{◌≡◌, ℕ, zero, suc, ◌≤◌, true, false, eqb, sym, refl, ap, ◌∙◌, ap₂, arith, eq-eqb, ne_eqb, eqb-true}
use Rattle.table.specs.Table.{Sort, ends, sends, receives, sort_code, same_sort}
use Rattle.table.specs.View.{sort_of}

-- a sort from its code, and a code from its sort
pub sort_back : (s : Sort) → sort_of (sort_code s) ≡ s
unfolding sort_of sort_code
sort_back ends = refl
sort_back sends = refl
sort_back receives = refl

pub code_back : (c : ℕ) → c ≤ 2 → sort_code (sort_of c) ≡ c
unfolding sort_of sort_code
code_back zero l = refl
code_back (suc zero) l = refl
code_back (suc (suc c)) l = omega arith

pub same_sort_refl : (s : Sort) → same_sort s s ≡ true
unfolding same_sort
same_sort_refl s = eq-eqb (sort_code s) (sort_code s) refl

pub same_sort_eq : (a b : Sort) → same_sort a b ≡ true → a ≡ b
unfolding same_sort
same_sort_eq a b e = sym (sort_back a) ∙ ap sort_of (eqb-true (sort_code a) (sort_code b) e) ∙ sort_back b

-- codes that differ are of sorts that differ
pub other_sorts : (a b : ℕ) → a ≤ 2 → b ≤ 2 → (a ≡ b → ⊥) → same_sort (sort_of a) (sort_of b) ≡ false
unfolding same_sort
other_sorts a b l m n = ap₂ eqb (code_back a l) (code_back b m) ∙ ne_eqb a b n
