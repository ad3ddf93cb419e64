-- The questions of a step, and what each way through them gives.
-- Assumes nothing.
use mathlib.Core.Path.{◌≡◌, refl, sym, ap, ap₂, ◌∙◌}
use mathlib.Core.Logic.{◌⊎◌, inl, inr, ⊎_elim}
use mathlib.Core.Bool.{Bool, true, false, ◌&&◌, cond}
use mathlib.Core.List.{List, [], ◌∷◌, ◌++◌}
use mathlib.Core.Option.{Option, none, some}
use Prim.Native.Nat.{ℕ, zero, suc, ◌≤◌, ◌<◌}
use native.Mathlib.Omega.{arith}
use lib.ListN.{length}
use lib.Dec.{leb, ltb, eqb}
use borrow.Author.Tests.{ne_eqb, lt-ltb, ltb-true, le-leb, lt-leb, leb-true}
use Rattle.table.specs.Table.{Sort, is_choice, sort, speaker, is_party}
use Rattle.table.specs.View.{view, sort_of, sound_of, sound_at, Words, states_of, sort_at, edition_of}
use Rattle.table.proofs.laws.Lists.{both, join, decided}
use Rattle.table.proofs.laws.View.{choice_code, code_choice, Facts, sort_of_is, sound_facts}
use Rattle.message.specs.Message.{read, whole, legal_values, exact, legal_texts, refusal}
use Rattle.message.proofs.laws.Message.{framed_parts, formed_framed}
use Rattle.message.specs.Judge.{Judgement, allowed, forbidden}
use Rattle.message.specs.Rules.{Rules, table_rules, Said, turn, judge_said}
use Rattle.table.specs.declared.Party.{Party}
use Rattle.table.specs.declared.Party.TheVariants.{Device, Host}
use Rattle.conversation.specs.declared.State.{State}
use Rattle.conversation.specs.Step.{may_speak, is_running, of_state, of_message, step_questions, Outcome, refusing, blaming, forwarding, judging, stepping}
use Rattle.conversation.specs.Counts.{Counts, counts_sound}
use Rattle.conversation.specs.Batch.{batch_questions}
use Rattle.table.specs.Lists.{first_no}

-- ---- parties

pub turn_its : (side : Party) → is_party side (some side) ≡ true
unfolding is_party
turn_its Device = refl
turn_its Host = refl

-- at a choice that is not the device's
pub host_speaks : (n : ℕ) → (n ≡ 0 → ⊥) → (n ≡ 1 → ⊥) → speaker (sort_of n) ≡ some Host
unfolding speaker sort_of
host_speaks zero a b = absurd (a refl)
host_speaks (suc zero) a b = absurd (b refl)
host_speaks (suc (suc n)) a b = refl

-- ---- two questions

pub two_yes : (p q : ℕ) (a b : Bool) → first_no ((suc p, a) ∷ (suc q, b) ∷ []) ≡ 0 → (a ≡ true) × (b ≡ true)
unfolding first_no
two_yes p q true true e = (refl, refl)
two_yes p q true false e = absurd (omega (arith, e))
two_yes p q false b e = absurd (omega (arith, e))

-- ---- 9 and 10

-- two questions, and what comes of two times yes
abbrev two : Bool → Bool → ℕ → ℕ
two a b n = cond a (cond b n 10) 9

module _ (t : Words) (s : State) (sound : sound_of t ≡ true) (l : s.position < states_of t) where
  here : (sound_of t && ltb s.position (states_of t)) ≡ true
  here = join sound (lt-ltb s.position (states_of t) l)

module _ (t : Words) (s : State) (c : Counts) where
  module _ (sound : sound_of t ≡ true) (l : s.position < states_of t) (counts : counts_sound t c ≡ true) where
    pub not_running : is_running s.standing ≡ false → first_no (batch_questions t s c) ≡ 10
    unfolding first_no batch_questions sound_at
    not_running h = rw (here t s sound l, counts, h)

    pub none_stops : is_running s.standing ≡ true → first_no (batch_questions t s c) ≡ 0
    unfolding first_no batch_questions sound_at
    none_stops h = rw (here t s sound l, counts, h)

  -- where they get a yes
  pub record Entered : Type 0 where
    pub sound : sound_of t ≡ true
    pub below : s.position < states_of t
    pub counts : counts_sound t c ≡ true
    pub running : is_running s.standing ≡ true

  pub entered : first_no (batch_questions t s c) ≡ 0 → Entered
  unfolding batch_questions sound_at
  entered h =
      let e = two_yes 8 9 ((sound_of t && ltb s.position (states_of t)) && counts_sound t c) (is_running s.standing) h in
      let k = both (sound_of t && ltb s.position (states_of t)) (counts_sound t c) e.0 in
      let b = both (sound_of t) (ltb s.position (states_of t)) k.0 in
      record { sound = b.0; below = ltb-true s.position (states_of t) b.1; counts = k.1; running = e.1 }

  -- a no of these is one of 9, on the counts, too, 10 and 11
  pub not_entered : (q : ℕ) → q ≡ first_no (batch_questions t s c) → (q ≡ 0 → ⊥) → cond (counts_sound t c) (first_no (of_state t s)) 9 ≡ q
  unfolding of_state batch_questions first_no
  not_entered q e n =
      by (sound_at t s.position) (counts_sound t c) (is_running s.standing) (cond (is_choice (sort (view t) s.position)) 0 11)
      (λ z. n (e ∙ z))
      ∙ sym e
    where
      by : (a k b : Bool) (n : ℕ) → (two (a && k) b 0 ≡ 0 → ⊥) → cond k (two a b n) 9 ≡ two (a && k) b 0
      by true true true n h = absurd (h refl)
      by true true false n h = refl
      by true false b n h = refl
      by false true b n h = refl
      by false false b n h = refl

-- ---- 9 on the counts, too: before whatever is asked

pub nine_passed : {b : Bool} (n : ℕ) → b ≡ true → cond b n 9 ≡ n
nine_passed n e = ap (λ b. cond b n 9) e

pub nine_yes : (b : Bool) (n : ℕ) → cond b n 9 ≡ 0 → (b ≡ true) × (n ≡ 0)
nine_yes true n e = (refl, e)
nine_yes false n e = absurd (omega (arith, e))

-- by whether 9 or what comes after it says no
pub nine_by : {X : Type 0} (b : Bool) {n q : ℕ} → q ≡ cond b n 9 → (b ≡ true → q ≡ n → X) → (b ≡ false → q ≡ 9 → X) → X
nine_by true e f g = f refl e
nine_by false e f g = g refl e

-- ---- 9, 10, 11

-- three questions, and what comes of three times yes
abbrev three : Bool → Bool → Bool → ℕ → ℕ
three a b c n = two a b (cond c n 11)

module _ (t : Words) (s : State) where
  module _ (sound : sound_of t ≡ true) (l : s.position < states_of t) (on : is_running s.standing ≡ true) where
    pub at_end : sort_at t s.position ≡ 0 → first_no (of_state t s) ≡ 11
    unfolding first_no of_state sound_at sort_of is_choice
    at_end h = rw (here t s sound l, on, sort_of_is t s.position l, h)

    pub at_choice : (sort_at t s.position ≡ 0 → ⊥) → first_no (of_state t s) ≡ 0
    unfolding first_no of_state sound_at
    at_choice h = rw (here t s sound l, on, sort_of_is t s.position l, code_choice (sort_at t s.position) h)

  -- where they get a yes
  pub record Opened : Type 0 where
    pub sound : sound_of t ≡ true
    pub facts : Facts t
    pub below : s.position < states_of t
    pub choice : sort_at t s.position ≡ 0 → ⊥

  pub opened : first_no (of_state t s) ≡ 0 → Opened
  unfolding first_no of_state sound_at
  opened h =
      let e = all_three (sound_of t && ltb s.position (states_of t)) (is_running s.standing) (is_choice (sort (view t) s.position)) h in
      let b = both (sound_of t) (ltb s.position (states_of t)) e.0 in
      let l = ltb-true s.position (states_of t) b.1 in
      let c = choice_code (sort_at t s.position) (ap is_choice (sym (sort_of_is t s.position l)) ∙ e.1) in
      record { sound = b.0; facts = sound_facts t b.0; below = l; choice = c }
    where
      all_three : (a b c : Bool) → three a b c 0 ≡ 0 → (a ≡ true) × (c ≡ true)
      all_three true true true h = (refl, refl)
      all_three true true false h = absurd (omega (arith, h))
      all_three true false c h = absurd (omega (arith, h))
      all_three false b c h = absurd (omega (arith, h))

-- ---- 12, those of a message, 16

module _ (edition : ℕ) (sort : Sort) (side : Party) (message : List ℕ) (room : ℕ) where
  pub not_its_turn : may_speak edition sort side ≡ false → first_no (of_message edition sort side message room) ≡ 12
  unfolding first_no of_message
  not_its_turn h = rw h

  module _ (turn : may_speak edition sort side ≡ true) where
    pub formed_then : first_no (of_message edition sort side message room)
        ≡ cond (eqb (refusal message) 0) (cond (leb (length message) room) 0 16) (refusal message)
    unfolding first_no of_message refusal
    formed_then = rw turn (by (whole message) (legal_values message) (exact message) (legal_texts message) (cond (leb (length message) room) 0 16))
      where
        by : (a b c d : Bool) (n : ℕ)
            → cond a (cond b (cond c (cond d n 22) 15) 14) 13
            ≡ cond (eqb (cond a (cond b (cond c (cond d 0 22) 15) 14) 13) 0) n (cond a (cond b (cond c (cond d 0 22) 15) 14) 13)
        by true true true true n = refl
        by true true true false n = refl
        by true true false d n = refl
        by true false c d n = refl
        by false b c d n = refl

    pub not_formed : (q : ℕ) → q ≡ refusal message → (q ≡ 0 → ⊥) → first_no (of_message edition sort side message room) ≡ q
    not_formed q e n = formed_then ∙ rw (sym e, ne_eqb q 0 n)

    pub no_room : refusal message ≡ 0 → room < length message → first_no (of_message edition sort side message room) ≡ 16
    no_room e h = formed_then ∙ rw (e, lt-leb (length message) room h)

    pub all_well : refusal message ≡ 0 → length message ≤ room → first_no (of_message edition sort side message room) ≡ 0
    all_well e h = formed_then ∙ rw (e, le-leb (length message) room h)

  -- where they get a yes
  pub record Ready : Type 0 where
    pub turn : may_speak edition sort side ≡ true
    pub formed : refusal message ≡ 0
    pub whole_there : whole message ≡ true
    pub fits : length message ≤ room

  pub ready : first_no (of_message edition sort side message room) ≡ 0 → Ready
  ready h = ⊎_elim yes (λ late. absurd (omega (arith, not_its_turn late, h))) (decided (may_speak edition sort side))
    where
      by : (q : ℕ) (fits : Bool) → cond (eqb q 0) (cond fits 0 16) q ≡ 0 → (q ≡ 0) × (fits ≡ true)
      by zero true e = (refl, refl)
      by zero false e = absurd (omega arith)
      by (suc q) fits e = absurd (omega (arith, rw (ne_eqb (suc q) 0 (omega arith)) at e))

      yes : may_speak edition sort side ≡ true → Ready
      yes turn =
          let x = by (refusal message) (leb (length message) room) (sym (formed_then turn) ∙ h) in
          record { turn = turn; formed = x.0; whole_there = (framed_parts message (formed_framed message x.0)).0; fits = leb-true (length message) room x.1 }

-- ---- all of them

pub zero_or : (n : ℕ) → (n ≡ 0 → ⊥) ⊎ (n ≡ 0)
zero_or zero = inr refl
zero_or (suc n) = inl (λ e. omega arith)

-- 9, 10 and 11, and whatever is asked after them
module _ (t : Words) (s : State) (rest : List (ℕ × Bool)) where
  pub stops_there : (q : ℕ) → q ≡ first_no (of_state t s) → (q ≡ 0 → ⊥) → first_no (of_state t s ++ rest) ≡ q
  unfolding of_state first_no
  stops_there q e n =
      by (sound_at t s.position) (is_running s.standing) (is_choice (sort (view t) s.position)) (first_no rest) (λ z. n (e ∙ z))
      ∙ sym e
    where
      by : (a b c : Bool) (n : ℕ) → (three a b c 0 ≡ 0 → ⊥) → three a b c n ≡ three a b c 0
      by true true true n h = absurd (h refl)
      by true true false n h = refl
      by true false c n h = refl
      by false b c n h = refl

  pub goes_on : first_no (of_state t s) ≡ 0 → first_no (of_state t s ++ rest) ≡ first_no rest
  unfolding of_state first_no
  goes_on e = by (sound_at t s.position) (is_running s.standing) (is_choice (sort (view t) s.position)) (first_no rest) e
    where
      by : (a b c : Bool) (n : ℕ) → three a b c 0 ≡ 0 → three a b c n ≡ n
      by true true true n h = refl
      by true true false n h = absurd (omega (arith, h))
      by true false c n h = absurd (omega (arith, h))
      by false b c n h = absurd (omega (arith, h))

pub edition_is : (t : Words) → (view t).edition ≡ edition_of t
unfolding view
edition_is t = refl

module _ (t : Words) (s : State) (side : Party) (message : List ℕ) (room : ℕ) where
  pub asked_first : (q : ℕ) → q ≡ first_no (of_state t s) → (q ≡ 0 → ⊥) → first_no (step_questions t s side message room) ≡ q
  unfolding step_questions
  asked_first = stops_there t s (of_message (view t).edition (sort (view t) s.position) side message room)

  pub asked_then : first_no (of_state t s) ≡ 0
      → first_no (step_questions t s side message room) ≡ first_no (of_message (view t).edition (sort (view t) s.position) side message room)
  unfolding step_questions
  asked_then = goes_on t s (of_message (view t).edition (sort (view t) s.position) side message room)

  -- a message that gets no no is well formed
  pub heard_formed : first_no (step_questions t s side message room) ≡ 0 → refusal message ≡ 0
  heard_formed e =
      ⊎_elim (λ n. absurd (n (sym (asked_first (first_no (of_state t s)) refl n) ∙ e)))
      (λ z. (ready (view t).edition (sort (view t) s.position) side message room (sym (asked_then z) ∙ e)).formed) (zero_or (first_no (of_state t s)))

  -- by the sort's code, and the edition's
  pub asked_message : first_no (of_state t s) ≡ 0
      → first_no (step_questions t s side message room) ≡ first_no (of_message (edition_of t) (sort_of (sort_at t s.position)) side message room)
  asked_message e =
      asked_then e ∙ ap₂ (λ n x. first_no (of_message n x side message room)) (edition_is t) (sort_of_is t s.position (opened t s e).below)

-- ---- a step

-- the judgement on what a side says, in turn and out of turn
pub said_in_turn : {A : Type 0} (r : Rules A) (a : A) (v : Said) → is_party v.side (turn r a) ≡ true
    → judge_said r a v ≡ r.judge a v.message
unfolding judge_said
said_in_turn r a v h = rw h

pub said_early : {A : Type 0} (r : Rules A) (a : A) (v : Said) → is_party v.side (turn r a) ≡ false → judge_said r a v ≡ forbidden 4 none
unfolding judge_said
said_early r a v h = rw h

-- where an allowed message leads
unfoldable pub target_of : Judgement ℕ → Option ℕ
target_of (allowed j) = some j
target_of (forbidden r f) = none

module _ (t : Words) (s : State) (side : Party) (message out : List ℕ) where
  abbrev asking : ℕ
  asking = first_no (step_questions t s side message (length out))

  pub refused_step : (q : ℕ) → asking ≡ q → (q ≡ 0 → ⊥) → stepping t s side message out ≡ refusing q s out
  unfolding stepping
  refused_step q e n = rw (e, ne_eqb q 0 n)

  abbrev pub said_here : Judgement ℕ
  said_here = judge_said (table_rules (view t)) s.position (record { side = side; message = read message })

  pub judged_step : asking ≡ 0 → stepping t s side message out ≡ judging said_here s side message out
  unfolding stepping
  judged_step e = rw e

  pub judged_as : (j : Judgement ℕ) → asking ≡ 0 → said_here ≡ j
      → stepping t s side message out ≡ judging j s side message out
  judged_as j e h = judged_step e ∙ ap (λ j. judging j s side message out) h

  -- every way that a step can go
  pub data Way : Outcome → Type 0 where
    refuses : (q : ℕ) → asking ≡ q → (q ≡ 0 → ⊥) → Way (refusing q s out)
    forwards : asking ≡ 0 → (j : ℕ) → said_here ≡ allowed j → Way (forwarding j message s out)
    blames : asking ≡ 0 → (r : ℕ) (f : Option ℕ) → said_here ≡ forbidden r f → Way (blaming r f s side out)

  pub way : Way (stepping t s side message out)
  unfolding judging
  way = ⊎_elim (λ e. no e) (λ e. yes e) (zero_or asking)
    where
      no : (asking ≡ 0 → ⊥) → Way (stepping t s side message out)
      no n = rw (refused_step asking refl n) (refuses asking refl n)

      by : (j : Judgement ℕ) → asking ≡ 0 → said_here ≡ j → Way (judging j s side message out)
      by (allowed j) e h = forwards e j h
      by (forbidden r f) e h = blames e r f h

      yes : asking ≡ 0 → Way (stepping t s side message out)
      yes e = rw (judged_step e) (by said_here e refl)
