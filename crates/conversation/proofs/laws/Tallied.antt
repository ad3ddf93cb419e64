-- Counts tally: after any events, n and k are the numbers of messages of their choice and branch that were forwarded, each counted while n
-- was below 10,000.
-- Assumes nothing.
use mathlib.Core.Path.{◌≡◌, refl, sym, ap, subst, ◌∙◌}
use mathlib.Core.Logic.{⊎_elim}
use mathlib.Core.Bool.{Bool, true, false, cond}
use mathlib.Core.List.{List, [], ◌∷◌, ◌++◌, append_assoc, append-nil}
use mathlib.Core.Option.{Option, none, some}
use Prim.Native.Nat.{ℕ, suc, ◌+◌, ◌≤◌, ◌<◌}
use native.Mathlib.Omega.{arith}
use lib.ListN.{length, take, length-append, length-take}
use lib.Seq.{take_all, take-append-le}
use lib.Dec.{ltb, eqb}
use borrow.Author.Tests.{ltb-true, ltb-false, eqb-true, eqb-false, eq-eqb, ne_eqb}
use Rattle.table.specs.View.{Words, states_of, branches_of, owner_at, view, sound_of}
use Rattle.table.proofs.laws.Lists.{decided}
use Rattle.table.proofs.laws.View.{Facts, sound_facts}
use Rattle.message.specs.Message.{read}
use Rattle.message.specs.Judge.{selected}
use Rattle.conversation.specs.Step.{Told, refused, blamed, forwarded}
use Rattle.conversation.specs.Conversation.{Event, is_forwarded}
use Rattle.conversation.specs.Counts.{Counts, Started, setting_of, n_at, k_at, counted_most, legal_setting, counts_sound, fresh_counts, starting, raised, raised_by, raised_at, counted}
use Rattle.conversation.specs.Batches.{counts_after}
use Rattle.conversation.specs.Counting.{picked, picks, times, Tallied}
use Rattle.conversation.proofs.laws.Counts.{fresh_n, fresh_k, fresh_length, fresh_sound, raised_full, raised_length, raised_setting, raised_n_other, raised_k_other, raised_n, raised_k, raised_sound, starts, chosen_branch, counted_sound}

-- ---- the first m of a list

module _ (m : ℕ) (xs : List ℕ) (x : ℕ) where
  take_more : length (take m xs) < m → take m (xs ++ (x ∷ [])) ≡ take m xs ++ (x ∷ [])
  take_more l =
      let s : length xs ≤ m = omega (arith, length-take m xs) in
      take_all m (xs ++ (x ∷ [])) (omega (arith, length-take m xs, length-append xs (x ∷ [])))
      ∙ ap (λ l. l ++ (x ∷ [])) (sym (take_all m xs s))

  take_full : m ≤ length (take m xs) → take m (xs ++ (x ∷ [])) ≡ take m xs
  take_full l = take-append-le m xs (x ∷ []) (omega (arith, length-take m xs))

times_append : (b : ℕ) (xs : List ℕ) (x : ℕ) → times b (xs ++ (x ∷ [])) ≡ times b xs + cond (eqb x b) 1 0
unfolding times
times_append b [] x = by (eqb x b)
  where
    by : (y : Bool) → ◌≡◌ {A = ℕ} (cond y 1 0) (0 + cond y 1 0)
    by true = refl
    by false = refl
times_append b (k ∷ r) x = by (eqb k b) (times_append b r x)
  where
    by : (y : Bool) → times b (r ++ (x ∷ [])) ≡ times b r + cond (eqb x b) 1 0
        → cond y (suc (times b (r ++ (x ∷ [])))) (times b (r ++ (x ∷ []))) ≡ cond y (suc (times b r)) (times b r) + cond (eqb x b) 1 0
    by true e = omega (arith, e)
    by false e = e

-- ---- picks

picks_append : (t : Words) (i : ℕ) (a b : List Event) → picks t i (a ++ b) ≡ picks t i a ++ picks t i b
unfolding picks picked
picks_append t i [] b = refl
picks_append t i (e ∷ r) b =
    by (is_forwarded e.done.verdict) (eqb e.met.position i) (selected (view t) i (read e.sent.bytes)) (picks_append t i r b)
  where
    by : (f h : Bool) (o : Option ℕ) → picks t i (r ++ b) ≡ picks t i r ++ picks t i b
        → cond f (cond h (picked o (picks t i (r ++ b))) (picks t i (r ++ b))) (picks t i (r ++ b))
        ≡ cond f (cond h (picked o (picks t i r)) (picks t i r)) (picks t i r) ++ picks t i b
    by true true none e = e
    by true true (some k) e = ap (λ l. k ∷ l) e
    by true false o e = e
    by false h o e = e

module _ (t : Words) (sound : sound_of t ≡ true) where
  f : Facts t
  f = sound_facts t sound

  -- ---- what is kept, over the picks of each choice

  record Kept (z : ℕ) (p : ℕ → List ℕ) (c : Counts) : Type 0 where
    long : length c ≡ 161
    right : counts_sound t c ≡ true
    setting : setting_of c ≡ z
    n_is : (i : ℕ) → i < states_of t → n_at c i ≡ length (take counted_most (p i))
    k_is : (b : ℕ) → b < branches_of t → k_at c b ≡ times b (take counted_most (p (owner_at t b)))

  kept_same : {z : ℕ} (p q : ℕ → List ℕ) {c : Counts} → ((i : ℕ) → q i ≡ p i) → Kept z p c → Kept z q c
  kept_same p q e k =
      record {
        long = k.long;
        right = k.right;
        setting = k.setting;
        n_is = λ i l. k.n_is i l ∙ ap (λ x. length (take counted_most x)) (sym (e i));
        k_is = λ b l. k.k_is b l ∙ ap (λ x. times b (take counted_most x)) (sym (e (owner_at t b)));
      }

  -- branch b of choice i is picked once more
  module _ {z : ℕ} (p q : ℕ → List ℕ) (c : Counts) (i b : ℕ) (l : b < branches_of t) (o : owner_at t b ≡ i)
      (here : q i ≡ p i ++ (b ∷ [])) (other : (j : ℕ) → (j ≡ i → ⊥) → q j ≡ p j) (k : Kept z p c) where
    few : i < 32
    few = omega (arith, o, f.owners b l, f.few)

    below : i < states_of t
    below = subst (λ x. x < states_of t) o (f.owners b l)

    room : b < 128
    room = omega (arith, f.room)

    -- n is 10,000 already
    module _ (full : counted_most ≤ n_at c i) where
      same_take : (j : ℕ) → take counted_most (q j) ≡ take counted_most (p j)
      same_take j =
          ⊎_elim
          (λ e.
          let z = eqb-true j i e in
          subst (λ j. take counted_most (q j) ≡ take counted_most (p j)) (sym z)
          (ap (take counted_most) here ∙ take_full counted_most (p i) b (subst (λ n. counted_most ≤ n) (k.n_is i below) full)))
          (λ e. ap (take counted_most) (other j (eqb-false j i e))) (decided (eqb j i))

      kept_full : Kept z q (raised c i b)
      kept_full =
          subst (Kept z q) (sym (raised_full c i b full))
          (record {
            long = k.long;
            right = k.right;
            setting = k.setting;
            n_is = λ j m. k.n_is j m ∙ ap length (sym (same_take j));
            k_is = λ d m. k.k_is d m ∙ ap (times d) (sym (same_take (owner_at t d)));
          })

    module _ (m : n_at c i < counted_most) where
      one_more : take counted_most (q i) ≡ take counted_most (p i) ++ (b ∷ [])
      one_more = ap (take counted_most) here ∙ take_more counted_most (p i) b (subst (λ n. n < counted_most) (k.n_is i below) m)

      n_more : (j : ℕ) → j < states_of t → n_at (raised c i b) j ≡ length (take counted_most (q j))
      n_more j h = ⊎_elim (λ e. own (eqb-true j i e)) (λ e. foreign (eqb-false j i e)) (decided (eqb j i))
        where
          own : j ≡ i → n_at (raised c i b) j ≡ length (take counted_most (q j))
          own e =
              subst (λ j. n_at (raised c i b) j ≡ length (take counted_most (q j))) (sym e)
              (raised_n c i b k.long few room m
              ∙ omega (arith, k.n_is i below, ap length one_more, length-append (take counted_most (p i)) (b ∷ [])))

          foreign : (j ≡ i → ⊥) → n_at (raised c i b) j ≡ length (take counted_most (q j))
          foreign n =
              raised_n_other c i b k.long few room j (omega (arith, f.few)) n ∙ k.n_is j h
              ∙ ap (λ x. length (take counted_most x)) (sym (other j n))

      -- of a branch of choice i
      more_of : (d : ℕ) → owner_at t d ≡ i
          → times d (take counted_most (q (owner_at t d))) ≡ times d (take counted_most (p (owner_at t d))) + cond (eqb b d) 1 0
      more_of d e =
          subst (λ j. times d (take counted_most (q j)) ≡ times d (take counted_most (p j)) + cond (eqb b d) 1 0) (sym e)
          (ap (times d) one_more ∙ times_append d (take counted_most (p i)) b)

      k_more : (d : ℕ) → d < branches_of t → k_at (raised c i b) d ≡ times d (take counted_most (q (owner_at t d)))
      k_more d h = ⊎_elim (λ e. own (eqb-true d b e)) (λ e. foreign (eqb-false d b e)) (decided (eqb d b))
        where
          own : d ≡ b → k_at (raised c i b) d ≡ times d (take counted_most (q (owner_at t d)))
          own e =
              subst (λ d. k_at (raised c i b) d ≡ times d (take counted_most (q (owner_at t d)))) (sym e)
              (raised_k c i b k.long few room m ∙ omega (arith, k.k_is b l, more_of b o, ap {B = ℕ} (λ y. cond y 1 0) (eq-eqb b b refl)))

          foreign : (d ≡ b → ⊥) → k_at (raised c i b) d ≡ times d (take counted_most (q (owner_at t d)))
          foreign n =
              raised_k_other c i b k.long few room d n ∙ k.k_is d h
              ∙ ⊎_elim
              (λ e. omega (arith, more_of d (eqb-true (owner_at t d) i e), ap {B = ℕ} (λ y. cond y 1 0) (ne_eqb b d (λ x. n (sym x)))))
              (λ e. ap (λ x. times d (take counted_most x)) (sym (other (owner_at t d) (eqb-false (owner_at t d) i e))))
              (decided (eqb (owner_at t d) i))

      kept_more : Kept z q (raised c i b)
      kept_more =
          record {
            long = raised_length c i b ∙ k.long;
            right = raised_sound t c sound k.long k.right b l i o;
            setting = raised_setting c i b k.long few room ∙ k.setting;
            n_is = n_more;
            k_is = k_more;
          }

    kept_raised : Kept z q (raised c i b)
    kept_raised =
        ⊎_elim (λ e. kept_more (ltb-true (n_at c i) counted_most e)) (λ e. kept_full (ltb-false (n_at c i) counted_most e))
        (decided (ltb (n_at c i) counted_most))

  -- ---- one event more

  module _ {z : ℕ} (past : List Event) (c : Counts) (k : Kept z (λ i. picks t i past) c) (e : Event) where
    abbrev after : ℕ → List ℕ
    after i = picks t i (past ++ (e ∷ []))

    abbrev After : Counts → Type 0
    After d = Kept z after d

    no_picks : ((i : ℕ) → picks t i (e ∷ []) ≡ []) → After c
    no_picks n =
        kept_same (λ i. picks t i past) after
        (λ i. picks_append t i past (e ∷ []) ∙ ap (λ l. picks t i past ++ l) (n i) ∙ append-nil (picks t i past)) k

    module _ (on : is_forwarded e.done.verdict ≡ true) where
      abbrev at : ℕ
      at = e.met.position

      picks_here : picks t at (e ∷ []) ≡ picked (selected (view t) at (read e.sent.bytes)) []
      unfolding picks
      picks_here = rw (on, eq-eqb at at refl)

      picks_other : (j : ℕ) → (j ≡ at → ⊥) → picks t j (e ∷ []) ≡ []
      unfolding picks
      picks_other j n = rw (on, ne_eqb at j (λ x. n (sym x)))

      chosen_none : selected (view t) at (read e.sent.bytes) ≡ none → After c
      unfolding picked
      chosen_none h =
          no_picks
          (λ i. ⊎_elim (λ y. subst (λ i. picks t i (e ∷ []) ≡ []) (sym (eqb-true i at y)) (picks_here ∙ ap (λ o. picked o []) h))
          (λ y. picks_other i (eqb-false i at y)) (decided (eqb i at)))

      chosen_some : (b : ℕ) → selected (view t) at (read e.sent.bytes) ≡ some b → After (raised c at b)
      unfolding picked
      chosen_some b h =
          let x = chosen_branch t at (read e.sent.bytes) b h in
          kept_raised (λ i. picks t i past) after c at b x.0 x.1
          (picks_append t at past (e ∷ []) ∙ ap (λ l. picks t at past ++ l) (picks_here ∙ ap (λ o. picked o []) h))
          (λ j n. picks_append t j past (e ∷ []) ∙ ap (λ l. picks t j past ++ l) (picks_other j n) ∙ append-nil (picks t j past)) k

      chosen_any : (o : Option ℕ) → selected (view t) at (read e.sent.bytes) ≡ o → After (raised_by c at o)
      unfolding raised_by
      chosen_any none h = chosen_none h
      chosen_any (some b) h = chosen_some b h

    one_on : (v : Told) → e.done.verdict ≡ v → After (counted t e.met e.sent.bytes v c)
    unfolding counted raised_at picks is_forwarded
    one_on (refused q) h = no_picks (λ i. rw h)
    one_on (blamed side r x) h = no_picks (λ i. rw h)
    one_on forwarded h = chosen_any (ap is_forwarded h) (selected (view t) e.met.position (read e.sent.bytes)) refl

  -- ---- all of them

  kept_after : {z : ℕ} (past : List Event) (c : Counts) (events : List Event) → Kept z (λ i. picks t i past) c
      → Kept z (λ i. picks t i (past ++ events)) (counts_after t c events)
  unfolding counts_after
  kept_after past c [] k = kept_same (λ i. picks t i past) (λ i. picks t i (past ++ [])) (λ i. ap (picks t i) (append-nil past)) k
  kept_after past c (e ∷ r) k =
      kept_same (λ i. picks t i ((past ++ (e ∷ [])) ++ r)) (λ i. picks t i (past ++ (e ∷ r)))
      (λ i. ap (picks t i) (sym (append_assoc past (e ∷ []) r)))
      (kept_after (past ++ (e ∷ [])) (counted t e.met e.sent.bytes e.done.verdict c) r
      (one_on past c k e e.done.verdict refl))

  kept_fresh : (z : ℕ) → legal_setting z ≡ true → Kept z (λ i. picks t i []) (fresh_counts z)
  unfolding picks times fresh_counts
  kept_fresh z legal =
      record {
        long = fresh_length z;
        right = fresh_sound z t legal;
        setting = refl;
        n_is = λ i l. fresh_n z i;
        k_is = λ b l. fresh_k z b;
      }

  pub tallied : (z : ℕ) → legal_setting z ≡ true → (events : List Event) → Tallied t z events (counts_after t (fresh_counts z) events)
  tallied z legal events =
      let k = kept_after [] (fresh_counts z) events (kept_fresh z legal) in
      record { sound = k.right; setting = k.setting; selected_times = k.n_is; taken_times = k.k_is }

-- a conversation that was started
pub tallied_then : (t : Words) (z : ℕ) → sound_of t ≡ true → legal_setting z ≡ true → (events : List Event)
    → Tallied t z events (counts_after t (starting t z).counts events)
tallied_then t z sound legal events =
    subst (λ (r : Started). Tallied t z events (counts_after t r.counts events)) (sym (starts t z sound legal)) (tallied t sound z legal events)

-- ---- the counts after events

module _ (t : Words) where
  pub after_append : (c : Counts) (a b : List Event) → counts_after t c (a ++ b) ≡ counts_after t (counts_after t c a) b
  unfolding counts_after
  after_append c [] b = refl
  after_append c (e ∷ r) b = after_append (counted t e.met e.sent.bytes e.done.verdict c) r b

  -- they stay sound, whatever comes
  abbrev pub Lasting : Counts → Type 0
  Lasting c = (events : List Event) → counts_sound t (counts_after t c events) ≡ true

  pub lasting_now : (c : Counts) → Lasting c → counts_sound t c ≡ true
  unfolding counts_after
  lasting_now c h = h []

  -- and so they do if they are as many as the program has
  pub lasting : sound_of t ≡ true → (c : Counts) → length c ≡ 161 → counts_sound t c ≡ true → Lasting c
  unfolding counts_after
  lasting sound c long h [] = h
  lasting sound c long h (e ∷ r) =
      let x = counted_sound t sound e.met e.sent.bytes e.done.verdict c long h in
      lasting sound (counted t e.met e.sent.bytes e.done.verdict c) x.0 x.1 r
