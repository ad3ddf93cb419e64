-- The codes of a warning are those of one answer only: an estimate is at most 1000, so its code is not 65535.
-- Assumes nothing.
use mathlib.Core.Path.{◌≡◌, refl, sym, ap, ◌∙◌}
use mathlib.Core.Logic.{⊎_elim}
use mathlib.Core.Bool.{Bool, true, false, cond}
use mathlib.Core.Option.{Option, none, some}
use Prim.Native.Nat.{ℕ, ◌≤◌}
use native.Mathlib.Omega.{arith}
use borrow.Author.Tests.{ne_eqb}
use Rattle.table.specs.Lists.{first_no}
use Rattle.table.specs.View.{Words}
use Rattle.table.specs.declared.Party.{Party}
use Rattle.message.proofs.laws.Judge.{some_eq}
use Rattle.conversation.specs.declared.State.{State}
use Rattle.conversation.specs.Counts.{Counts}
use Rattle.conversation.specs.Warning.{Notice, refused, tells, warning_questions, notice, warning}
use Rattle.conversation.proofs.laws.Step.{zero_or}
use Rattle.conversation.proofs.claims.EstimateNearest.{within_bounds, sender_there}
use Rattle.codes.specs.declared.warnings.Warning.{Warning}
use Rattle.codes.specs.Codes.{code_side, party_code, estimate_code, warning_codes}
use Rattle.codes.specs.Calls.{CodesWarn}
use Rattle.codes.proofs.laws.Codes.{party_same}

-- ---- what the call can answer

abbrev Small : Option ℕ → Type 0
Small e = (n : ℕ) → e ≡ some n → n ≤ 1000

data Given : Notice → Type 0 where
  a_no : {q : ℕ} → (q ≡ 0 → ⊥) → Given (refused q)
  a_yes : {w : Bool} {side : Party} {e : Option ℕ} → Small e → Given (tells w (some side) e)

told : (t : Words) (s : State) (c : Counts) (b : ℕ) → first_no (warning_questions t s c b) ≡ 0 → Given (notice t c b)
unfolding notice
told t s c b q = rw (sender_there t s c b q).1 (a_yes (within_bounds t s c b q).3)

given : (t : Words) (s : State) (c : Counts) (b : ℕ) → Given (warning t s c b)
unfolding warning
given t s c b =
    ⊎_elim (λ n. rw (ne_eqb (first_no (warning_questions t s c b)) 0 n) (a_no n)) (λ q. rw q (told t s c b q))
    (zero_or (first_no (warning_questions t s c b)))

-- ---- each code is of one answer

same_warns : (v w : Bool) → ◌≡◌ {A = ℕ} (cond v 1 0) (cond w 1 0) → v ≡ w
same_warns true true e = refl
same_warns false false e = refl
same_warns true false e = absurd (omega (arith, e))
same_warns false true e = absurd (omega (arith, e))

same_side : (p q : Party) → party_code p ≡ party_code q → p ≡ q
same_side p q e = some_eq (sym (party_same p) ∙ ap code_side e ∙ party_same q)

same_estimate : (d e : Option ℕ) → Small d → Small e → estimate_code d ≡ estimate_code e → d ≡ e
same_estimate none none s r e = refl
same_estimate none (some n) s r e = absurd (omega (arith, e, r n refl))
same_estimate (some m) none s r e = absurd (omega (arith, e, s m refl))
same_estimate (some m) (some n) s r e = ap some e

same_answer : {x y : Notice} → Given x → Given y → warning_codes x ≡ warning_codes y → x ≡ y
same_answer (a_no m) (a_no n) e = ap refused (ap (λ (r : Warning). r.question) e)
same_answer (a_no n) (a_yes s) e = absurd (n (ap (λ (r : Warning). r.question) e))
same_answer (a_yes s) (a_no n) e = absurd (n (sym (ap (λ (r : Warning). r.question) e)))
same_answer (a_yes {w = v} {side = p} {e = d} s) (a_yes {w = w} {side = q} {e = f} r) e =
    rw (same_warns v w (ap (λ (r : Warning). r.warns) e), same_side p q (ap (λ (r : Warning). r.sender) e), same_estimate d f s r (ap (λ (r : Warning). r.estimate) e))

pub codes_warn : CodesWarn
codes_warn t u s r c d a b = same_answer (given t s c a) (given u r d b)
