-- Runs of the published monitor of a type: a message that the type takes is heard and told, one that it does not brings the verdict; and
-- what a run begins with is one of these (`Course`), or it stops on the way.
-- Assumes nothing.
use mathlib.Core.Path.{◌≡◌, refl, sym, ap, ap₂, ◌∙◌, subst}
use mathlib.Core.Logic.{◌⊎◌, inl, inr, ⊎_elim}
use mathlib.Core.Bool.{Bool, true, false, ◌&&◌, ◌||◌, cond, true≢false}
use mathlib.Core.List.{List, [], ◌∷◌}
use mathlib.Core.Option.{Option, none, some, some-injective}
use Prim.Native.Nat.{ℕ, zero, suc}
use lib.Dec.{eqb}
use Rattle.table.specs.Lists.{same}
use Rattle.table.specs.View.{label_of}
use Rattle.table.proofs.laws.Lists.{neither}
use Rattle.table.proofs.laws.View.{same_eq}
use Rattle.message.specs.Message.{Value, Message}
use Rattle.grammar.specs.Grammar.{Way, SyntaxField, Ty, stop, var, loop, choice, Br, last, also, Protocol}
use Rattle.message.proofs.laws.Judge.{none_some}
use Rattle.table.specs.declared.Party.{Party}
use Rattle.table.specs.Table.{speaker, is_party}
use Rattle.message.specs.Rules.{Said, turn, next}
use Rattle.types.specs.Types.{side_of, substitute, substitute_br, unfolded, hold, HasBranch, only, first, later, recs, unroll, opened, matches, takes, sort_opened, protocol_rules, other, flip}
use Rattle.types.specs.Monitor.{the, Mon, tell, hear, mu, name, test, done, verdict, one, more, fill, replace, replace_arms, Arm, the_one, this, that, expects, telling, unfolding_rec, hearing, passing, failing, violating, arm, synth, synth_br, Runs, rest, alone, on_hearing, on_telling}
use Rattle.conversation.proofs.laws.Step.{turn_its}
use Rattle.types.proofs.laws.ProtocolRules.{Proper, proper_opened, onward, next_onward, speaker_sort, is_stop, is_loop, opened_no_loop, decides, Taken, taken, said, party_its}

-- ---- synthesis goes with substitution, and binds no payload outside an input

mutual
  pub synth_put : (t : Ty) (x : ℕ) (u : Ty) → synth (substitute t x u) ≡ replace (synth t) x (synth u)
  synth_put stop x u = refl
  synth_put (var y) x u = go (eqb y x)
    where
      go : (b : Bool) → synth (cond b u (var y)) ≡ cond b (synth u) (name y)
      go true = refl
      go false = refl
  synth_put (loop y t) x u = ap (λ M. mu y M) (go (eqb y x) (synth_put t x u))
    where
      go : (b : Bool) → synth (substitute t x u) ≡ replace (synth t) x (synth u)
          → synth (cond b t (substitute t x u)) ≡ cond b (synth t) (replace (synth t) x (synth u))
      go true i = refl
      go false i = i
  synth_put (choice w bs) x u = ap (λ ks. hear (side_of w) ks) (synth_put_br bs (side_of w) x u)

  synth_put_br : (bs : Br) (s : Party) (x : ℕ) (u : Ty) → synth_br (substitute_br bs x u) s ≡ replace_arms (synth_br bs s) x (synth u)
  synth_put_br (last l fs sh t) s x u = ap (λ M. one (label_of l) (arm s (label_of l) fs M)) (synth_put t x u)
  synth_put_br (also l fs sh t bs) s x u =
      ap₂ (λ M ks. more (label_of l) (arm s (label_of l) fs M) ks) (synth_put t x u) (synth_put_br bs s x u)

pub fill_synth : (t : Ty) (v : List Value) → fill (synth t) v ≡ synth t
fill_synth stop v = refl
fill_synth (var x) v = refl
fill_synth (loop x t) v = ap (λ M. mu x M) (fill_synth t v)
fill_synth (choice s bs) v = refl

-- a branch has the label
abbrev spelt : Br → List ℕ → Bool
spelt (last k fs sh t) l = same (label_of k) l
spelt (also k fs sh t bs) l = same (label_of k) l || spelt bs l

expects_label : (bs : Br) (s : Party) (l : List ℕ) → expects (synth_br bs s) l ≡ spelt bs l
expects_label (last k fs sh t) s l = refl
expects_label (also k fs sh t bs) s l = ap (λ b. same (label_of k) l || b) (expects_label bs s l)

not_spelt : (bs : Br) (m : Message) → spelt bs m.label ≡ false → takes bs m ≡ none
unfolding matches
not_spelt (last l fs sh t) m h = rw h
not_spelt (also l fs sh t bs) m h =
    let w = neither (same (label_of l) m.label) (spelt bs m.label) h in
    rw w.0 (not_spelt bs m w.1)

has_arm : {bs : Br} {l : ℕ} {fs : List SyntaxField} {t : Ty} (s : Party) → HasBranch bs l fs t
    → Arm (synth_br bs s) (label_of l) (arm s (label_of l) fs (synth t))
has_arm s only = the_one
has_arm s first = this
has_arm s (later h) = that (has_arm s h)

taken_arm : {bs : Br} {m : Message} {u : Ty} {b : Bool} (s : Party) (w : Taken bs m u b)
    → Arm (synth_br bs s) m.label (arm s m.label w.fields (synth u))
taken_arm {bs} {u = u} s w = subst (λ l. Arm (synth_br bs s) l (arm s l w.fields (synth u))) w.its (has_arm s w.has)

pub record Had (bs : Br) (s : Party) (l : List ℕ) (M : Mon) : Type 0 where
  pub word : ℕ
  pub fields : List SyntaxField
  pub then_type : Ty
  pub has : HasBranch bs word fields then_type
  pub its : label_of word ≡ l
  pub is : M ≡ arm s l fields (synth then_type)

pub arm_has : (bs : Br) (s : Party) {l : List ℕ} {M : Mon} → Arm (synth_br bs s) l M → Had bs s l M
arm_has (last l fs sh t) s the_one = record { word = l; fields = fs; then_type = t; has = only; its = refl; is = refl }
arm_has (also l fs sh t bs) s this = record { word = l; fields = fs; then_type = t; has = first; its = refl; is = refl }
arm_has (also l fs sh t bs) s (that h) =
    let w = arm_has bs s h in
    record { word = w.word; fields = w.fields; then_type = w.then_type; has = later w.has; its = w.its; is = w.is }

-- ---- runs that there are

-- a message that is not taken: no label, or a branch whose ranges do not hold it
untaken : (bs : Br) (m : Message) → takes bs m ≡ none → (spelt bs m.label ≡ false) ⊎ ((u : Ty) × Taken bs m u false)
unfolding matches
untaken (last l fs sh t) m e = go (same (label_of l) m.label) refl (hold fs m.values) refl e
  where
    go : (b : Bool) → same (label_of l) m.label ≡ b → (c : Bool) → hold fs m.values ≡ c → cond (b && c) (some t) none ≡ none
        → (b ≡ false) ⊎ ((u : Ty) × Taken (last l fs sh t) m u false)
    go true f true h e = none_some (sym e)
    go true f false h e = inr (t, record { label = l; fields = fs; has = only; its = same_eq (label_of l) m.label f; held = h })
    go false f c h e = inl refl
untaken (also l fs sh t bs) m e = go (same (label_of l) m.label) refl (hold fs m.values) refl e (λ e. untaken bs m e)
  where
    go : (b : Bool) → same (label_of l) m.label ≡ b → (c : Bool) → hold fs m.values ≡ c → cond (b && c) (some t) (takes bs m) ≡ none
        → (takes bs m ≡ none → (spelt bs m.label ≡ false) ⊎ ((u : Ty) × Taken bs m u false))
        → ((b || spelt bs m.label) ≡ false) ⊎ ((u : Ty) × Taken (also l fs sh t bs) m u false)
    go true f true h e i = none_some (sym e)
    go true f false h e i = inr (t, record { label = l; fields = fs; has = first; its = same_eq (label_of l) m.label f; held = h })
    go false f c h e i =
        ⊎_elim (λ n. inl n)
        (λ x.
        let w = x.1 in
        inr (x.0, record { label = w.label; fields = w.fields; has = later w.has; its = w.its; held = w.held })) (i e)

runs_unrolled : (n : ℕ) (t : Ty) (vs ws : List Said) (K : Mon) → Runs (synth (unroll n t)) vs ws K → Runs (synth t) vs ws K
runs_unrolled zero t vs ws K r = r
runs_unrolled (suc n) stop vs ws K r = r
runs_unrolled (suc n) (var x) vs ws K r = r
runs_unrolled (suc n) (loop x t) vs ws K r =
    alone unfolding_rec (subst (λ M. Runs M vs ws K) (synth_put t x (loop x t)) (runs_unrolled n (unfolded x t) vs ws K r))
runs_unrolled (suc n) (choice s bs) vs ws K r = r

pub runs_opened : (t : Ty) (vs ws : List Said) (K : Mon) → Runs (synth (opened t)) vs ws K → Runs (synth t) vs ws K
unfolding opened
runs_opened t vs ws K r = runs_unrolled (recs t) t vs ws K r

-- a message that is taken is heard and told, then the rest
run_on : (s : Party) (bs : Br) (m : Message) (u : Ty) (vs ws : List Said) (K : Mon) → takes bs m ≡ some u → Runs (synth u) vs ws K
    → Runs (hear s (synth_br bs s)) (said s m ∷ vs) (said (other s) m ∷ ws) K
run_on s bs m u vs ws K e r =
    let w = taken bs m u e in
    on_hearing (hearing (taken_arm s w))
    (alone (passing w.held) (on_telling telling (subst (λ M. Runs M vs ws K) (sym (fill_synth u m.values)) r)))

run_out : (s : Party) (bs : Br) (m : Message) → takes bs m ≡ none → Runs (hear s (synth_br bs s)) (said s m ∷ []) [] (verdict s)
run_out s bs m e =
    ⊎_elim (λ n. on_hearing (violating (expects_label bs s m.label ∙ n)) rest)
    (λ w. on_hearing (hearing (taken_arm s w.1)) (alone (failing w.1.held) rest)) (untaken bs m e)

goes_on_at : (t : Ty) (v : Said) (u : Ty) (vs ws : List Said) (K : Mon) → onward t v ≡ some u → Runs (synth u) vs ws K
    → Runs (synth t) (v ∷ vs) (flip v ∷ ws) K
unfolding flip
goes_on_at stop v u vs ws K e r = none_some e
goes_on_at (var x) v u vs ws K e r = none_some e
goes_on_at (loop x t) v u vs ws K e r = none_some e
goes_on_at (choice q bs) v u vs ws K e r = go (is_party v.side (some (side_of q))) refl e
  where
    s : Party
    s = side_of q

    go : (b : Bool) → is_party v.side (some s) ≡ b → cond b (takes bs v.message) none ≡ some u
        → Runs (hear s (synth_br bs s)) (v ∷ vs) (said (other v.side) v.message ∷ ws) K
    go true f e =
        subst (λ q. Runs (hear s (synth_br bs s)) (said q v.message ∷ vs) (said (other q) v.message ∷ ws) K) (party_its v.side s f)
        (run_on s bs v.message u vs ws K e r)
    go false f e = none_some e

pub goes_on : (t : Ty) (v : Said) (u : Ty) (vs ws : List Said) (K : Mon) → onward (opened t) v ≡ some u → Runs (synth u) vs ws K
    → Runs (synth t) (v ∷ vs) (flip v ∷ ws) K
goes_on t v u vs ws K e r = runs_opened t (v ∷ vs) (flip v ∷ ws) K (goes_on_at (opened t) v u vs ws K e r)

breaks_at : (t : Ty) (v : Said) → onward t v ≡ none → speaker (sort_opened t) ≡ some v.side
    → Runs (synth t) (v ∷ []) [] (verdict v.side)
unfolding speaker
breaks_at stop v e f = none_some f
breaks_at (var x) v e f = none_some f
breaks_at (loop x t) v e f = none_some f
breaks_at (choice q bs) v e f =
    let g : side_of q ≡ v.side = some-injective _ _ (sym (speaker_sort q) ∙ f) in
    subst (λ s. Runs (hear (side_of q) (synth_br bs (side_of q))) (said s v.message ∷ []) [] (verdict s)) g
    (run_out (side_of q) bs v.message (sym (in_turn (ap (λ s. is_party v.side (some s)) g ∙ turn_its v.side)) ∙ e))
  where
    in_turn : is_party v.side (some (side_of q)) ≡ true → onward (choice q bs) v ≡ takes bs v.message
    in_turn h = ap (λ b. cond b (takes bs v.message) none) h

pub breaks : (t : Ty) (v : Said) → onward (opened t) v ≡ none → speaker (sort_opened (opened t)) ≡ some v.side
    → Runs (synth t) (v ∷ []) [] (verdict v.side)
breaks t v e f = runs_opened t (v ∷ []) [] (verdict v.side) (breaks_at (opened t) v e f)

-- ---- what a run begins with

-- a monitor on the way through a `rec`; on the way from hearing to telling
abbrev Unrolling : Mon → Type 0
Unrolling (tell s l a M) = ⊥
Unrolling (hear s ks) = ⊥
Unrolling (mu x M) = Unit {0}
Unrolling (name x) = ⊥
Unrolling (test fs a M N) = ⊥
Unrolling done = ⊥
Unrolling (verdict s) = ⊥

abbrev pub Midway : Mon → Type 0
Midway (tell s l a M) = Unit {0}
Midway (hear s ks) = ⊥
Midway (mu x M) = ⊥
Midway (name x) = ⊥
Midway (test fs a M N) = Unit {0}
Midway done = ⊥
Midway (verdict s) = ⊥

-- at a type that has said nothing more; at `end` this is 0, and never a verdict
abbrev pub Still : Mon → Ty → Type 0
Still (tell s l a M) t = Unit {0}
Still (hear s ks) t = Unit {0}
Still (mu x M) t = Unit {0}
Still (name x) t = Unit {0}
Still (test fs a M N) t = Unit {0}
Still done t = is_stop t ≡ true
Still (verdict s) t = ⊥

-- what comes of the first message, at a type whose recs are unfolded
pub data Begun (t : Ty) (K : Mon) (v : Said) (vs ws : List Said) : Type 0 where
  midway : vs ≡ [] → ws ≡ [] → Midway K → Begun t K v vs ws
  broke : vs ≡ [] → ws ≡ [] → onward t v ≡ none → speaker (sort_opened t) ≡ some v.side → verdict v.side ≡ K → Begun t K v vs ws
  on : (u : Ty) (ms : List Said) → ws ≡ flip v ∷ ms → onward t v ≡ some u → Runs (synth u) vs ms K → Begun t K v vs ws

abbrev pub Course : Ty → Mon → List Said → List Said → Type 0
Course t K [] ws = (ws ≡ []) × Still K t
Course t K (v ∷ vs) ws = Begun t K v vs ws

still : (t : Ty) (K : Mon) (vs ws : List Said) → vs ≡ [] → ws ≡ [] → Still K t → Course t K vs ws
still t K vs ws e f k = subst (λ vs. Course t K vs ws) (sym e) (f, k)

run_done : {vs ws : List Said} {K : Mon} → Runs done vs ws K → (vs ≡ []) × (ws ≡ []) × (done ≡ K)
run_done rest = (refl, refl, refl)
run_done (alone x _) = elim x [ ]
run_done (on_hearing x _) = elim x [ ]
run_done (on_telling x _) = elim x [ ]

run_name : {x : ℕ} {vs ws : List Said} {K : Mon} → Runs (name x) vs ws K → (vs ≡ []) × (ws ≡ []) × (name x ≡ K)
run_name rest = (refl, refl, refl)
run_name (alone x _) = elim x [ ]
run_name (on_hearing x _) = elim x [ ]
run_name (on_telling x _) = elim x [ ]

run_verdict : {q : Party} {vs ws : List Said} {K : Mon} → Runs (verdict q) vs ws K → (vs ≡ []) × (ws ≡ []) × (verdict q ≡ K)
run_verdict rest = (refl, refl, refl)
run_verdict (alone x _) = elim x [ ]
run_verdict (on_hearing x _) = elim x [ ]
run_verdict (on_telling x _) = elim x [ ]

run_mu : {x : ℕ} {M : Mon} {vs ws : List Said} {K : Mon} → Runs (mu x M) vs ws K
    → ((vs ≡ []) × (ws ≡ []) × Unrolling K) ⊎ Runs (replace M x (mu x M)) vs ws K
run_mu rest = inl (refl, refl, tt)
run_mu (alone unfolding_rec r) = inr r
run_mu (on_hearing x _) = elim x [ ]
run_mu (on_telling x _) = elim x [ ]

run_test : {fs : List SyntaxField} {v : List Value} {M N : Mon} {vs ws : List Said} {K : Mon} → Runs (test fs (the v) M N) vs ws K
    → ((vs ≡ []) × (ws ≡ []) × Midway K) ⊎ (((hold fs v ≡ true) × Runs M vs ws K) ⊎ ((hold fs v ≡ false) × Runs N vs ws K))
run_test rest = inl (refl, refl, tt)
run_test (alone (passing h) r) = inr (inl (h, r))
run_test (alone (failing h) r) = inr (inr (h, r))
run_test (on_hearing x _) = elim x [ ]
run_test (on_telling x _) = elim x [ ]

run_tell : {q : Party} {l : List ℕ} {v : List Value} {M : Mon} {vs ws : List Said} {K : Mon} → Runs (tell q l (the v) M) vs ws K
    → ((vs ≡ []) × (ws ≡ []) × Midway K) ⊎ ((bs : List Said) × (ws ≡ said q (record { label = l; values = v }) ∷ bs) × Runs M vs bs K)
run_tell rest = inl (refl, refl, tt)
run_tell (on_telling {told = bs} telling r) = inr (bs, refl, r)
run_tell (alone x _) = elim x [ ]
run_tell (on_hearing x _) = elim x [ ]

-- a choice: what is heard first, and what comes of it
module _ (w : Way) (bs : Br) (p : Proper (choice w bs)) where
  abbrev q : Party
  q = side_of w

  at_choice : (m : Message) (o : Option Ty) → takes bs m ≡ o → onward (choice w bs) (said q m) ≡ o
  at_choice m o e = ap (λ b. cond b (takes bs m) none) (turn_its (side_of w)) ∙ e

  breaks_off : (m : Message) (vs ws : List Said) (K : Mon) → takes bs m ≡ none → (vs ≡ []) × (ws ≡ []) × (verdict q ≡ K)
      → Begun (choice w bs) K (said q m) vs ws
  breaks_off m vs ws K e x = broke x.0 x.1 (at_choice m none e) (speaker_sort w) x.2

  course_arm : (m : Message) (vs ws : List Said) (K M : Mon) → Had bs q m.label M → Runs (fill M m.values) vs ws K
      → Begun (choice w bs) K (said q m) vs ws
  unfolding flip
  course_arm m vs ws K M h r =
      ⊎_elim (λ x. midway x.0 x.1 x.2) (λ x. ⊎_elim passed failed x)
      (run_test (subst (λ N. Runs (fill N m.values) vs ws K) h.is r))
    where
      u : Ty
      u = h.then_type

      taken_if : (b : Bool) → hold h.fields m.values ≡ b → takes bs m ≡ cond b (some u) none
      taken_if b e = decides h.has m h.its p.labels p.words ∙ ap (λ b. cond b (some u) none) e

      passed : (hold h.fields m.values ≡ true)
          × Runs (tell (other q) m.label (the m.values) (fill (synth u) m.values)) vs ws K
          → Begun (choice w bs) K (said q m) vs ws
      passed x =
          ⊎_elim (λ z. midway z.0 z.1 z.2)
          (λ z. on u z.0 z.1 (at_choice m (some u) (taken_if true x.0))
          (subst (λ N. Runs N vs z.0 K) (fill_synth u m.values) z.2))
          (run_tell x.1)

      failed : (hold h.fields m.values ≡ false) × Runs (verdict q) vs ws K → Begun (choice w bs) K (said q m) vs ws
      failed x = breaks_off m vs ws K (taken_if false x.0) (run_verdict x.1)

  course_choice : {vs ws : List Said} {K : Mon} → Runs (hear q (synth_br bs q)) vs ws K → Course (choice w bs) K vs ws
  course_choice rest = (refl, tt)
  course_choice (on_hearing {K = K} {heard = vs} {told = ws} {m = m} (hearing {M = M} h) r) = course_arm m vs ws K M (arm_has bs q h) r
  course_choice (on_hearing {K = K} {heard = vs} {told = ws} {m = m} (violating h) r) =
      breaks_off m vs ws K (not_spelt bs m (sym (expects_label bs q m.label) ∙ h)) (run_verdict r)
  course_choice (alone x _) = elim x [ ]
  course_choice (on_telling x _) = elim x [ ]

course_at : (t : Ty) {vs ws : List Said} {K : Mon} → Proper t → is_loop t ≡ false → Runs (synth t) vs ws K → Course t K vs ws
course_at stop {vs} {ws} {K} p l r = let x = run_done r in still stop K vs ws x.0 x.1 (subst (λ K. Still K stop) x.2 refl)
course_at (var y) {vs} {ws} {K} p l r = let x = run_name r in still (var y) K vs ws x.0 x.1 (subst (λ K. Still K (var y)) x.2 tt)
course_at (loop y t) p l r = absurd (true≢false l)
course_at (choice w bs) p l r = course_choice w bs p r

unrolled : (n : ℕ) (t : Ty) {vs ws : List Said} {K : Mon} → Runs (synth t) vs ws K
    → ((vs ≡ []) × (ws ≡ []) × Unrolling K) ⊎ Runs (synth (unroll n t)) vs ws K
unrolled zero t r = inr r
unrolled (suc n) stop r = inr r
unrolled (suc n) (var x) r = inr r
unrolled (suc n) (loop x t) {vs} {ws} {K} r =
    ⊎_elim (λ y. inl y) (λ y. unrolled n (unfolded x t) (subst (λ M. Runs M vs ws K) (sym (synth_put t x (loop x t))) y)) (run_mu r)
unrolled (suc n) (choice w bs) r = inr r

unrolling_still : (K : Mon) (t : Ty) → Unrolling K → Still K t
unrolling_still (tell s l a M) t u = tt
unrolling_still (hear s ks) t u = tt
unrolling_still (mu x M) t u = tt
unrolling_still (name x) t u = tt
unrolling_still (test fs a M N) t u = tt
unrolling_still done t u = absurd u
unrolling_still (verdict s) t u = u

pub course : (t : Ty) {vs ws : List Said} {K : Mon} → Proper t → Runs (synth t) vs ws K → Course (opened t) K vs ws
unfolding opened
course t {vs} {ws} {K} p r =
    ⊎_elim (λ x. still (opened t) K vs ws x.0 x.1 (unrolling_still K (opened t) x.2))
    (λ x. course_at (opened t) (proper_opened t p) (opened_no_loop t p) x) (unrolled (recs t) t r)

-- ---- by where the rules of a type lead

pub onward_is : (t : Protocol) (u : Ty) (v : Said) (o : Option Ty) → next (protocol_rules t) u v ≡ o → onward (opened u) v ≡ o
onward_is t u v o e = sym (next_onward t u v) ∙ e

pub verdict_eq : {p q : Party} → verdict p ≡ verdict q → p ≡ q
verdict_eq e = cc

-- a run that has heard v, by what its type does with v
module _ (t : Protocol) (u : Ty) (v : Said) (vs ws : List Said) (K : Mon) (r : Begun (opened u) K v vs ws) where
  pub led_on : (w : Ty) → next (protocol_rules t) u v ≡ some w
      → ((vs ≡ []) × (ws ≡ []) × Midway K) ⊎ ((ms : List Said) × (ws ≡ flip v ∷ ms) × Runs (synth w) vs ms K)
  led_on w e = go r
    where
      go : Begun (opened u) K v vs ws
          → ((vs ≡ []) × (ws ≡ []) × Midway K) ⊎ ((ms : List Said) × (ws ≡ flip v ∷ ms) × Runs (synth w) vs ms K)
      go (midway a b m) = inl (a, b, m)
      go (broke a b c d k) = none_some (sym c ∙ onward_is t u v (some w) e)
      go (on x ms a c r) =
          inr (ms, a, subst (λ x. Runs (synth x) vs ms K) (some-injective _ _ (sym c ∙ onward_is t u v (some w) e)) r)

  pub led_nowhere : next (protocol_rules t) u v ≡ none
      → (vs ≡ []) × (ws ≡ []) × (Midway K ⊎ ((turn (protocol_rules t) u ≡ some v.side) × (verdict v.side ≡ K)))
  led_nowhere e = go r
    where
      go : Begun (opened u) K v vs ws
          → (vs ≡ []) × (ws ≡ []) × (Midway K ⊎ ((turn (protocol_rules t) u ≡ some v.side) × (verdict v.side ≡ K)))
      go (midway a b m) = (a, b, inl m)
      go (broke a b c d k) = (a, b, inr (d, k))
      go (on x ms a c r) = none_some (sym (onward_is t u v none e) ∙ c)
