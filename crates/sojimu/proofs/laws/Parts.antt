-- What the parts of a call give together: of a step by a code that is a side's, and by one that is no side's, which is refused by 9, on the counts, too,
-- 10, 11 or 12; and of a batch.
-- Assumes nothing.
use mathlib.Core.Path.{◌≡◌, refl, sym, ap, ◌∙◌}
use mathlib.Core.Logic.{⊎_elim}
use mathlib.Core.Bool.{Bool, true, false, cond}
use mathlib.Core.List.{List, [], ◌∷◌, ◌++◌}
use mathlib.Core.Option.{none, some}
use Prim.Native.Nat.{ℕ, zero, suc}
use native.Mathlib.Omega.{arith}
use Rattle.table.specs.View.{Words, sort_at}
use Rattle.table.specs.declared.Party.{Party}
use Rattle.conversation.specs.declared.State.{State}
use Rattle.conversation.specs.declared.Stepped.{Stepped}
use Rattle.conversation.specs.Step.{of_state, Told, refused, told, refusing, outcome}
use Rattle.table.specs.Lists.{first_no}
use Rattle.conversation.specs.Due.{awaited}
use Rattle.conversation.specs.Due as Due
use Rattle.conversation.specs.Counts.{Counts, counts_sound, counted_step, counted_turn}
use Rattle.conversation.proofs.laws.Step.{zero_or, opened, stops_there, goes_on}
use Rattle.conversation.proofs.laws.Due.{refused_turn, device_awaited, host_awaited}
use Rattle.codes.specs.declared.steps.Verdict.{Verdict}
use Rattle.codes.specs.Codes.{code_side, state_in, verdict_codes}
use Rattle.conversation.specs.declared.batch.Batched.{Batched}
use Rattle.conversation.specs.Batch.{Both, Left, Batch, batching, batched}
use Rattle.codes.specs.declared.batches.Batch as C
use Rattle.codes.specs.Calls.{stepping_as, bytes_after, crossing, step_codes, bytes_for, batch_codes, batch_crossing, batching_codes}
use Rattle.codes.specs.inner.Parts.{passed_codes}
use Rattle.sojimu.specs.inner.Parts.{unspoken}

-- 9, 10 and 11, then a no to 12
abbrev out_of_turn : Words → State → ℕ
out_of_turn t s = first_no (of_state t s ++ ((12, false) ∷ []))

module _ (t : Words) (s : State) where
  -- it is somebody's turn, or one of the three refuses
  turn_told : unspoken (awaited t s) ≡ refused (out_of_turn t s)
  unfolding unspoken first_no
  turn_told = ⊎_elim no yes (zero_or (first_no (of_state t s)))
    where
      no : (first_no (of_state t s) ≡ 0 → ⊥) → unspoken (awaited t s) ≡ refused (out_of_turn t s)
      no n =
          rw (refused_turn t s (first_no (of_state t s)) refl n) (ap refused (sym (stops_there t s ((12, false) ∷ []) (first_no (of_state t s)) refl n)))

      somebodys : first_no (of_state t s) ≡ 0 → (n : ℕ) → sort_at t s.position ≡ n → unspoken (awaited t s) ≡ refused 12
      somebodys e zero h = absurd ((opened t s e).choice h)
      somebodys e (suc zero) h = ap unspoken (device_awaited t s e h)
      somebodys e (suc (suc n)) h = ap unspoken (host_awaited t s e (λ z. omega (arith, h, z)))

      yes : first_no (of_state t s) ≡ 0 → unspoken (awaited t s) ≡ refused (out_of_turn t s)
      yes e = somebodys e (sort_at t s.position) refl ∙ ap refused (sym (goes_on t s ((12, false) ∷ []) e))

  refused_unspoken : (c : Counts) → unspoken (counted_turn t s c) ≡ refused (cond (counts_sound t c) (out_of_turn t s) 9)
  unfolding counted_turn unspoken
  refused_unspoken c = by (counts_sound t c)
    where
      by : (b : Bool) → unspoken (cond b (awaited t s) (Due.refused 9)) ≡ refused (cond b (out_of_turn t s) 9)
      by true = turn_told
      by false = refl

-- what a step's parts give together
pub crossed : (t : Words) (s : State) (side : ℕ) (speaker : Party) (bytes : List ℕ) (c : Counts) (message out : List ℕ) (r : Stepped) (verdict : Verdict) (bytes' : List ℕ) (c' : Counts) (out' : List ℕ)
    → s ≡ state_in bytes
    → code_side side ≡ some speaker
    → (outcome r out', c') ≡ counted_step t s c speaker message out
    → bytes' ≡ bytes_after (told r.verdict) r.state bytes
    → verdict ≡ verdict_codes (told r.verdict)
    → (verdict, bytes', c', out') ≡ step_codes t bytes c side message out
unfolding step_codes crossing outcome stepping_as
crossed t s side speaker bytes c message out r verdict bytes' c' out' es ep er eb ev =
    rw (ev, eb, ep) (ap (λ x. crossing x bytes) (er ∙ ap (λ s. counted_step t s c speaker message out) es))

-- and where no side speaks
pub uncrossed : (t : Words) (s : State) (side : ℕ) (bytes : List ℕ) (c : Counts) (message out : List ℕ) (refusal : Told) (verdict : Verdict)
    → s ≡ state_in bytes → code_side side ≡ none → refusal ≡ unspoken (counted_turn t s c) → verdict ≡ verdict_codes refusal
    → (verdict, bytes, c, out) ≡ step_codes t bytes c side message out
unfolding step_codes crossing stepping_as refusing bytes_after
uncrossed t s side bytes c message out refusal verdict es ep er ev =
    rw (ep, ev)
    (ap (λ v. (verdict_codes v, bytes, c, out)) (er ∙ refused_unspoken t s c ∙ ap (λ s. refused (cond (counts_sound t c) (out_of_turn t s) 9)) es))

-- what a batch's parts give together
pub batch_crossed : (t : Words) (s : State) (bytes : List ℕ) (c : Counts) (l : Both Left) (r : Batched) (told : C.Batch) (bytes' : List ℕ) (c' : Counts) (td th : List ℕ)
    → s ≡ state_in bytes
    → batched r c' td th ≡ batching t s c l
    → bytes' ≡ bytes_for r.state bytes
    → told ≡ passed_codes r.passed
    → (told, bytes', c', td, th) ≡ batching_codes t bytes c l
unfolding batching_codes batch_crossing batch_codes batched passed_codes
batch_crossed t s bytes c l r told bytes' c' td th es er eb et =
    rw (eb, et) (ap (λ (b : Batch). batch_crossing b bytes) (er ∙ ap (λ (s : State). batching t s c l) es))
