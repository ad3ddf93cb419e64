-- `message::broken` asks of the front's answer whether 14 got the no.
use Rattle.std.specs.Prelude.{Result, Ok, Err, nat_eq}
use Rattle.std.specs.Result.{result_eq}
use Rattle.std.proofs.Common.{◌≡◌, ℕ, eqb, eqb-true, eq-eqb, refl, sym, ap, ◌∙◌}
use denote.Enum.Bare.{same_true, true_same}
use Rattle.table.specs.Question.{number}
use Rattle.table.specs.contracts.refusal.Question as Q
use Rattle.table.specs.contracts.refusal.QuestionPartialEq.TheImpl as E
use Rattle.table.specs.declared.refusal.Question.{Question}
use Rattle.table.specs.declared.refusal.Question.TheVariants.{BadField}
use Rattle.table.proofs.laws.Lists.{alike}
use Rattle.table.proofs.laws.Question.{number_once}
use Rattle.message.specs.Message.{front_of, head_of}
use Rattle.message.proofs.laws.Broken.{broken_fields}
use Rattle.message.proofs.broken.Goals as goal

fields_refused : (r : Result ℕ Question) → result_eq nat_eq E.eq-value.it r (Err BadField) ≡ eqb (head_of r).question 14
fields_refused (Ok n) = refl
fields_refused (Err q) =
    alike (E.eq-value.it q BadField) (eqb (number q) 14)
    (λ e. eq-eqb (number q) 14 (ap number (same_true Q.the_type tt q BadField e)))
    (λ e. true_same Q.the_type q BadField (number_once q BadField (eqb-true (number q) 14 e)))

pub returns-else-not-opens : goal.returns-else-not-opens
unfolding front_of
returns-else-not-opens c =
    c.eq.ensures ∙ fields_refused c.front.result ∙ ap (λ h. eqb h.question 14) c.front.ensures
    ∙ broken_fields _ c.if-bytes-ge9.true (sym c.opens.ensures ∙ c.if-not-opens.false)
