-- Both sides: what is put in a side's place stands there, and the other side's stays.
-- Assumes nothing.
use mathlib.Core.Path.{◌≡◌, refl, sym, ap₂, subst}
use mathlib.Core.Bool.{false}
use mathlib.Core.Option.{some}
use Rattle.table.specs.Table.{is_party}
use Rattle.table.specs.declared.Party.{Party}
use Rattle.table.specs.declared.Party.TheVariants.{Device, Host}
use Rattle.conversation.specs.Batch.{Both, at_side, set_side, each_side}

module _ {A : Type 0} where
  pub at_each : (f : Party → A) (side : Party) → at_side side (each_side f) ≡ f side
  unfolding at_side each_side
  at_each f Device = refl
  at_each f Host = refl

  pub each_by : (P : Party → A → Type 0) (f : Party → A) → ((side : Party) → P side (f side)) → (side : Party) → P side (at_side side (each_side f))
  each_by P f h side = subst (P side) (sym (at_each f side)) (h side)

  pub each_is : {f : Party → A} {x : Both A} → ((side : Party) → f side ≡ at_side side x) → each_side f ≡ x
  unfolding at_side each_side
  each_is h = ap₂ (λ d e. record { device = d; host = e }) (h Device) (h Host)

  pub set_same : (side : Party) (x : Both A) → set_side side (at_side side x) x ≡ x
  unfolding at_side set_side
  set_same Device x = refl
  set_same Host x = refl

  -- of either side: what holds of a side's new one, and of the other's old one
  pub set_by : (P : Party → A → Type 0) (side : Party) (a : A) (x : Both A) → P side a
      → ((other : Party) → is_party other (some side) ≡ false → P other (at_side other x)) → (p : Party) → P p (at_side p (set_side side a x))
  unfolding at_side set_side is_party
  set_by P Device a x h k Device = h
  set_by P Device a x h k Host = k Host refl
  set_by P Host a x h k Device = k Device refl
  set_by P Host a x h k Host = h
