-- The first step of a conversation, with the counts after it.
-- Assumes nothing.
use mathlib.Core.Path.{◌≡◌, refl, ap, ◌∙◌}
use mathlib.Core.Bool.{true}
use mathlib.Core.List.{List}
use mathlib.Core.Option.{Option, some}
use Prim.Native.Nat.{ℕ}
use Rattle.table.specs.View.{Words, view, sound_of}
use Rattle.table.specs.declared.Party.{Party}
use Rattle.message.specs.Message.{read}
use Rattle.message.specs.Judge.{selected}
use Rattle.conversation.specs.declared.Standing.{Standing}
use Rattle.conversation.specs.Step.{refused, blamed, forwarded, Outcome, fresh, stepping}
use Rattle.conversation.specs.Conversation.{event}
use Rattle.conversation.specs.Counts.{Started, legal_setting, fresh_counts, raised, raised_by, raised_at, counted, counted_step}
use Rattle.conversation.proofs.laws.Counts.{starts, fresh_sound, counted_then}
use Rattle.examples.specs.Twelve.{gives, first_step, P_counts}

module _ (t : Words) (sound : sound_of t ≡ true) (side : Party) (message out : List ℕ) where
  first_is : (x : Outcome) → stepping t fresh side message out ≡ x
      → first_step t side message out ≡ (x, counted t fresh message x.verdict (fresh_counts 442))
  unfolding legal_setting event
  first_is x e =
      ap (λ (r : Started). counted_step t r.state r.counts side message out) (starts t 442 sound refl)
      ∙ counted_then t fresh (fresh_counts 442) (record { side = side; bytes = message; buffer = out }) (fresh_sound 442 t refl)
      ∙ ap (λ (x : Outcome). (x, counted t fresh message x.verdict (fresh_counts 442))) e

  -- a refusal and a blame count nothing
  pub first_refused : (q i : ℕ) (s : Standing) → stepping t fresh side message out ≡ gives (refused q) i s out
      → first_step t side message out ≡ (gives (refused q) i s out, P_counts 442 0 0 0 0 0)
  unfolding counted fresh_counts
  first_refused q i s e = first_is (gives (refused q) i s out) e

  pub first_blamed : (p : Party) (r : ℕ) (f : Option ℕ) (i : ℕ) (s : Standing) → stepping t fresh side message out ≡ gives (blamed p r f) i s out
      → first_step t side message out ≡ (gives (blamed p r f) i s out, P_counts 442 0 0 0 0 0)
  unfolding counted fresh_counts
  first_blamed p r f i s e = first_is (gives (blamed p r f) i s out) e

  -- one that is forwarded by branch 0
  pub first_forwarded : (i : ℕ) (s : Standing) (written : List ℕ) → selected (view t) 0 (read message) ≡ some 0
      → stepping t fresh side message out ≡ gives forwarded i s written
      → first_step t side message out ≡ (gives forwarded i s written, P_counts 442 1 0 1 0 0)
  unfolding counted raised_at raised_by raised fresh_counts fresh
  first_forwarded i s written chosen e =
      first_is (gives forwarded i s written) e ∙ ap (λ o. (gives forwarded i s written, raised_by (fresh_counts 442) 0 o)) chosen
