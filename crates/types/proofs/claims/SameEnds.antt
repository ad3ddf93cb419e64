-- The published monitor of a text's type comes to 0 exactly on the lists that complete the type.
-- Assumes nothing.
use mathlib.Core.Path.{◌≡◌, refl, sym, ap, subst, ◌∙◌}
use mathlib.Core.Logic.{◌↔◌, ⊎_elim}
use mathlib.Core.Bool.{Bool, true, false, not, cond, true≢false, false≢true}
use mathlib.Core.List.{List, [], ◌∷◌, ◌++◌, map}
use mathlib.Core.Option.{Option, none, some}
use Prim.Native.Nat.{ℕ}
use native.Mathlib.Omega.{arith}
use Rattle.table.specs.Table.{is_choice}
use Rattle.message.specs.Rules.{Said, and_then, is_some, next, leads, led, completed_list}
use Rattle.grammar.specs.Grammar.{Ty, stop, var, loop, choice, Protocol}
use Rattle.table.specs.declared.Party.{Party}
use Rattle.conversation.proofs.laws.Conversation.{leads_more}
use Rattle.spelling.specs.TextOf.{TextOf}
use Rattle.types.specs.Types.{opened, sort_opened, protocol_rules, flip}
use Rattle.types.specs.Monitor.{done, verdict, synth, Runs, rest}
use Rattle.types.specs.Verdicts.{SameEnds}
use Rattle.types.proofs.laws.ProtocolRules.{Proper, is_stop, proper_leads}
use Rattle.types.proofs.laws.TextRules.{proper, end_or_choice}
use Rattle.types.proofs.laws.Monitor.{course, runs_opened, goes_on, onward_is, led_on, led_nowhere}

verdict_done : {X : Type 0} {s : Party} → verdict s ≡ done → X
verdict_done e = let z : ◌≡◌ {A = ℕ} 0 1 = cc in absurd (omega arith)

at_stop : (u : Ty) → is_stop u ≡ true → Runs (synth u) [] [] done
at_stop stop e = rest
at_stop (var x) e = absurd (false≢true e)
at_stop (loop x t) e = absurd (false≢true e)
at_stop (choice w bs) e = absurd (false≢true e)

module _ (s : List ℕ) (t : Protocol) (x : TextOf s t) where
  abbrev at_an_end : Ty → Option Ty
  at_an_end u = cond (is_choice (sort_opened (opened u))) none (some u)

  -- from a type that a list leads to
  abbrev completed_from : Ty → List Said → Bool
  completed_from u vs = is_some (and_then (leads (protocol_rules t) u vs) at_an_end)

  comes : (vs past : List Said) (u : Ty) → led (protocol_rules t) past ≡ some u → (told : List Said)
      → Runs (synth u) vs told done ↔ ((completed_from u vs ≡ true) × (told ≡ map flip vs))
  unfolding leads
  comes [] past u there told = (
    λ r.
        let x = course u (proper_leads t t.type u past (proper s t x) there) r in
        (over.1 x.1, x.0),
    λ x.
        subst (λ l. Runs (synth u) [] l done) (sym x.1) (runs_opened u [] [] done (at_stop (opened u) (over.0 x.0))),
  )
    where
      by : (b c : Bool) → b ≡ not c → (is_some (cond b none (some u)) ≡ true) ↔ (c ≡ true)
      by true true e = absurd (true≢false e)
      by true false e = (λ h. absurd (false≢true h), λ h. absurd (false≢true h))
      by false true e = (λ h. refl, λ h. refl)
      by false false e = absurd (false≢true e)

      over : (is_some (cond (is_choice (sort_opened (opened u))) none (some u)) ≡ true) ↔ (is_stop (opened u) ≡ true)
      over = by (is_choice (sort_opened (opened u))) (is_stop (opened u)) (end_or_choice s t x past u there)
  comes (v ∷ vs) past u there told = go (next (protocol_rules t) u v) refl (λ x there told. comes vs (past ++ (v ∷ [])) x there told)
    where
      p : Proper u
      p = proper_leads t t.type u past (proper s t x) there

      go : (o : Option Ty) → next (protocol_rules t) u v ≡ o
          → ((x : Ty) → led (protocol_rules t) (past ++ (v ∷ [])) ≡ some x → (told : List Said)
          → Runs (synth x) vs told done ↔ ((completed_from x vs ≡ true) × (told ≡ map flip vs)))
          → Runs (synth u) (v ∷ vs) told done
          ↔ ((is_some (and_then (and_then o (λ b. leads (protocol_rules t) b vs)) at_an_end) ≡ true)
          × (told ≡ map flip (v ∷ vs)))
      go none e i = (
        λ r. ⊎_elim (λ m. absurd m) (λ x. verdict_done x.1) (led_nowhere t u v vs told done (course u p r) e).2,
        λ x. absurd (false≢true x.0),
      )
      go (some x) e i =
          let ih = i x (leads_more (protocol_rules t) t.type past u v x there e) in (
            λ r.
                ⊎_elim (λ m. absurd m.2) (λ y. let z = (ih y.0).0 y.2 in (z.0, y.1 ∙ ap (λ l. flip v ∷ l) z.1))
                (led_on t u v vs told done (course u p r) x e),
            λ y.
                subst (λ l. Runs (synth u) (v ∷ vs) l done) (sym y.1)
                (goes_on u v x vs (map flip vs) done (onward_is t u v (some x) e) ((ih (map flip vs)).1 (y.0, refl))),
          )

pub same_ends : SameEnds
unfolding completed_list leads
same_ends s t x vs told = comes s t x vs [] t.type refl told
