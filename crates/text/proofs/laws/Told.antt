-- What the program answers, against what is defined. Assumes nothing.
use Rattle.std.proofs.lemmas.Result.{err_from_is_err_and}
use Rattle.text.specs.declared.cursor.Refusal.{Refusal}
use Rattle.std.proofs.Common.{Result, Ok, Err, is_ok, OnErr, IsErrAnd, ap, ◌∙◌, ◌≡◌, refl, ℕ, false, eqb, List, map, set}
use Rattle.std.proofs.lemmas.List.{map-set}
use Rattle.text.specs.declared.field.Field as G
use borrow.Author.Tests.{ne_eqb}
use Rattle.table.specs.Question.{number}
use Rattle.table.proofs.laws.Lists.{never}
use Rattle.text.specs.inner.Recursive.{told_step}
use Rattle.table.specs.declared.refusal.Question.{Question}
use Rattle.table.proofs.laws.Question.{number_no_zero}

-- a refusal is none of number 0
pub asked : (q : Question) → eqb (number q) 0 ≡ false
asked q = ne_eqb (number q) 0 (number_no_zero q)

-- what `?` leaves by: the refusal that it found
pub left : {T : Type 0} {r : Result T Refusal} (e : Refusal) → IsErrAnd r (λ y. y ≡ e) → r ≡ Err e
left {r} e h = let p = err_from_is_err_and r h in p.1 ∙ ap Err p.2

-- what a test found to be no answer: a refusal, with what it leaves
pub no_answer : {A : Type 0} (r : Result A Refusal) (at : ℕ) → is_ok r ≡ false → (told_step r at).question ≡ 0 → ⊥
no_answer (Ok x) at e = never refl e
no_answer (Err r) at e = number_no_zero r.question

pub on_no_answer : {A P : Type 0} (r : Result A Refusal) → is_ok r ≡ false → OnErr r P → P
on_no_answer (Ok x) e p = never refl e
on_no_answer (Err r) e p = p

-- a field more in the program's list
pub column_set : (f : G.Field → ℕ) (l : List G.Field) (i : ℕ) (x : G.Field) → map f (set l i x) ≡ set (map f l) i (f x)
column_set f l i x = map-set f l i x
