-- Who describes itself by the protocol keeps to it exactly where it is not blamed: a protocol fits itself, and demand 2 has who is blamed.
-- Assumes nothing.
use mathlib.Core.Path.{◌≡◌, refl, sym, ap, subst, ◌∙◌}
use mathlib.Core.Bool.{true}
use mathlib.Core.List.{List}
use mathlib.Core.Option.{some}
use Prim.Native.Nat.{ℕ}
use Rattle.table.specs.View.{Words, view, sound_of}
use Rattle.table.specs.declared.Party.TheVariants.{Device}
use Rattle.message.specs.Rules.{Rules, table_rules, next}
use Rattle.message.proofs.laws.Judge.{some_eq}
use Rattle.conversation.specs.Step.{Told, refused, blamed, forwarded}
use Rattle.conversation.specs.Conversation.{Sent, conversation, said_by, blamed_first, Judgeable, Met, WatchedTable}
use Rattle.conversation.proofs.laws.Conversation.{judgeable_none, blamed_there}
use Rattle.conversation.proofs.claims.DemandTwo.{demand_two}
use Rattle.machine.specs.Machine.{Safe}
use Rattle.machine.proofs.laws.Safe.{fits_safe}
use Rattle.machine.proofs.claims.FitsItself.{fits_itself}
use Rattle.together.specs.Unblamed.{Keeps, KeepsExactly}
use Rattle.together.proofs.claims.FitsUnblamed.{fits_unblamed}

module _ (p : Words) (sound : sound_of p ≡ true) where
  abbrev own : Rules ℕ
  own = table_rules (view p)

  safe_itself : Safe own own
  unfolding Safe
  safe_itself vs real = fits_safe (view p) (view p) (fits_itself p sound) vs

  unblamed_keeps : (sent : List Sent) → (blamed_first (conversation p sent) ≡ some Device → ⊥) → Keeps own p sent
  unblamed_keeps sent free earlier e later q s j x h = by e.done.verdict refl
    where
      w : WatchedTable p sent
      w = demand_two p sound sent

      met : Met own earlier e
      met = w.demand.each earlier e later q

      here : met.place ≡ x
      here = some_eq (sym met.there ∙ h)

      judged : Judgeable own earlier met.place e.sent
      judged = subst (λ (i : ℕ). Judgeable own earlier i e.sent) (some_eq (sym (w.before earlier e later q).position ∙ met.there)) j

      by : (v : Told) → e.done.verdict ≡ v → (y : ℕ) × (next own x (said_by e.sent) ≡ some y)
      by forwarded d =
          let f = (met.handled.forwards.0 d).1 in
          (f.0, subst (λ (i : ℕ). next own i (said_by e.sent) ≡ some f.0) here f.1)
      by (refused r) d =
          let f = (met.handled.refuses r).0 d in
          absurd (f.1 (f.0 ∙ judgeable_none own earlier met.place e.sent judged))
      by (blamed side r g) d =
          absurd (free (blamed_there p sound sent earlier e later q side r g d ∙ ap some (((met.handled.blames side r g).0 d).2 ∙ s)))

pub keeps_exactly : KeepsExactly
keeps_exactly p sound sent = (
  λ keeps. (fits_unblamed ℕ (table_rules (view p)) p sound (safe_itself p sound) sent keeps).never,
  λ free. unblamed_keeps p sound sent free,
)
