-- Rules that do alike await the same side.
-- Assumes nothing.
use mathlib.Core.Path.{◌≡◌, refl, sym, ap, subst, ◌∙◌}
use mathlib.Core.List.{List}
use mathlib.Core.Option.{Option, none, some}
use Rattle.table.specs.Table.{speaker}
use Rattle.table.specs.declared.Party.{Party}
use Rattle.message.specs.Rules.{Rules, Said, led}
use Rattle.message.proofs.laws.Judge.{none_some, some_eq}
use Rattle.types.proofs.laws.StandsFor.{Alike, neither, each}
use Rattle.types.proofs.laws.Agree.{RulesAlike, led_alike}
use Rattle.conversation.specs.Due.{Awaited, sender_awaited}
use Rattle.conversation.specs.Programs.{awaited_by}

module _ {A B : Type 0} (R : A → B → Type 0) (ra : Rules A) (rb : Rules B) (g : RulesAlike R ra rb) where
  same_awaited : (a : A) (b : B) → R a b → (o : Option Party) → awaited_by rb b o ≡ awaited_by ra a o
  unfolding awaited_by
  same_awaited a b r none = ap (λ s. sender_awaited (speaker s)) (sym (g.sorted a b r))
  same_awaited a b r (some side) = refl

  pub awaited_alike : (vs : List Said) (o : Option Party) (x : Awaited) → ((b : B) → led rb vs ≡ some b → x ≡ awaited_by rb b o)
      → (a : A) → led ra vs ≡ some a → x ≡ awaited_by ra a o
  awaited_alike vs o x h a e = go (led_alike R ra rb g vs) refl e
    where
      go : {p : Option A} {q : Option B} → Alike R p q → led rb vs ≡ q → p ≡ some a → x ≡ awaited_by ra a o
      go neither k i = none_some i
      go (each {a = c} {b = b} r) k i = h b k ∙ same_awaited a b (subst (λ c. R c b) (some_eq i) r) o
