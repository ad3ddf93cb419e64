-- The compare of labels says yes exactly when the first eight bytes are the label.
-- Assumes nothing.
use Rattle.std.proofs.Common.{◌≡◌, true, leb, length, take, subst, le-leb, leb-true}
use Rattle.table.specs.Lists.{same}
use Rattle.table.specs.View.{label_of}
use Rattle.table.proofs.laws.Lists.{both, join}
use Rattle.table.proofs.laws.View.{same_eq, same_refl}
use Rattle.message.specs.Message.{has_label}
use Rattle.message.specs.MessageTheorems.{LabelInPlace}

-- all that compares a message's label with a branch's rests on this
pub label_in_place : LabelInPlace
unfolding has_label
label_in_place bytes label = (
  λ e. let p = both (leb 8 (length bytes)) (same (take 8 bytes) (label_of label)) e in (leb-true 8 (length bytes) p.0, same_eq (take 8 bytes) (label_of label) p.1),
  λ p. join (le-leb 8 (length bytes) p.0) (subst (λ x. same (take 8 bytes) x ≡ true) p.1 (same_refl (take 8 bytes))),
)
