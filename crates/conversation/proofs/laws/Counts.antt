-- The counts of a conversation over a sound table: question 9 on them by places, what sound counts are, and that forwarding keeps them so.
-- Assumes nothing.
use mathlib.Core.Path.{◌≡◌, refl, sym, ap, ap₂, subst, ◌∙◌}
use mathlib.Core.Logic.{⊎_elim}
use mathlib.Core.Bool.{Bool, true, false, not, ◌&&◌, ◌||◌, cond}
use mathlib.Core.List.{List, ◌∷◌}
use mathlib.Core.Option.{Option, none, some}
use Prim.Native.Nat.{ℕ, zero, suc, ◌+◌, ◌≤◌, ◌<◌}
use native.Mathlib.Nat.{not-suc-le-zero, le_of_suc-le-suc, eq-or-lt_of_le}
use native.Mathlib.Omega.{arith}
use lib.ListN.{length, get_or, set, replicate, length-set, length-replicate}
use lib.Seq.{get_or-set_same, get_or-set_other, set_out}
use lib.Dec.{leb, ltb, eqb, eqb-suc-zero}
use borrow.Author.Tests.{leb-true, le-leb, ltb-true, ltb-false, lt-ltb, le-ltb, eqb-true, eqb-false, eq-eqb, ne_eqb}
use Rattle.table.specs.Lists.{every, upto, first_no}
use Rattle.table.specs.Table.{Branch, is_choice}
use Rattle.table.specs.View.{Words, states_of, branches_of, sort_at, owner_at, sort_of, view, sound_of}
use Rattle.table.specs.Sound.{added}
use Rattle.table.specs.inner.Scans.{all}
use Rattle.table.proofs.laws.Lists.{both, join, left_fails, decided, alike, all_at, all_by, all_same, every_upto, upto_every}
use Rattle.table.proofs.laws.View.{Facts, branches_of_is, sort_of_is, sound_facts}
use Rattle.table.proofs.laws.SharesRight.{choice_sum, added_most, added_has}
use Rattle.message.specs.Message.{Message, read}
use Rattle.message.specs.Judge.{selected}
use Rattle.message.specs.Make.{branch}
use Rattle.message.proofs.laws.Selected.{carries_owner}
use Rattle.message.proofs.claims.SelectedExactly.{selected_exactly}
use Rattle.message.proofs.laws.Making.{branch_at_is}
use Rattle.conversation.specs.declared.State.{State}
use Rattle.conversation.specs.Step.{fresh, Told, refused, blamed, forwarded}
use Rattle.conversation.specs.Conversation.{Sent, event}
use Rattle.conversation.specs.Counts.{Counts, setting_of, n_at, k_at, legal_setting, counted_most, adds_up, counts_sound, fresh_counts, start_questions, starting, raised, raised_by, raised_at, counted, counted_step}
use Rattle.conversation.specs.inner.Keeping.{Rising, Follows, sums_to}
use Rattle.conversation.proofs.laws.Step.{zero_or}

-- ---- question 9 by places

-- an end's code is 0
end_code : (s : ℕ) → not (is_choice (sort_of s)) ≡ eqb s 0
unfolding is_choice sort_of
end_code zero = refl
end_code (suc zero) = refl
end_code (suc (suc s)) = sym (eqb-suc-zero (suc s))

module _ (t : Words) (c : Counts) where
  -- the sum of a choice's k
  abbrev pub taken_sum : ℕ → ℕ
  taken_sum i = added t (k_at c) i (branches_of t)

  pub adds_up_is : (i : ℕ) → i < states_of t → (s : ℕ) → s ≡ taken_sum i
      → adds_up t c i ≡ (eqb (sort_at t i) 0 || (leb (n_at c i) counted_most && eqb s (n_at c i)))
  unfolding adds_up view
  adds_up_is i l s e =
      ap₂ (λ a b. a || (leb (n_at c i) counted_most && eqb b (n_at c i)))
      (ap (λ x. not (is_choice x)) (sort_of_is t i l) ∙ end_code (sort_at t i)) (choice_sum t (k_at c) i (branches_of t) ∙ sym e)

  every_state : every (adds_up t c) (upto (states_of t) (λ i. i)) ≡ all (states_of t) (adds_up t c)
  every_state =
      alike (every (adds_up t c) (upto (states_of t) (λ i. i))) (all (states_of t) (adds_up t c))
      (λ e. all_by (adds_up t c) (states_of t) (every_upto (adds_up t c) (states_of t) (λ i. i) e))
      (λ e. upto_every (adds_up t c) (states_of t) (λ i. i) (all_at (adds_up t c) (states_of t) e))

  -- as the program finds it, with each state's sum
  pub counts_by : sound_of t ≡ true → (sums : List ℕ) → ((i : ℕ) → i < 32 → get_or sums i 0 ≡ taken_sum i)
      → counts_sound t c ≡ (legal_setting (setting_of c) && all (states_of t) (sums_to t c sums))
  unfolding counts_sound sums_to
  counts_by s sums h =
      ap (λ b. legal_setting (setting_of c) && b)
      (every_state ∙ all_same (adds_up t c) (sums_to t c sums) (states_of t) (λ i l. adds_up_is i l (get_or sums i 0) (h i (omega (arith, (sound_facts t s).few)))))

  pub bad_setting : legal_setting (setting_of c) ≡ false → counts_sound t c ≡ false
  unfolding counts_sound
  bad_setting e = left_fails (every (adds_up t c) (upto (states_of t) (λ i. i))) e

  -- ---- what sound counts are

  -- of each choice
  pub record Sums : Type 0 where
    pub setting : legal_setting (setting_of c) ≡ true
    pub most : (i : ℕ) → i < states_of t → (sort_at t i ≡ 0 → ⊥) → n_at c i ≤ 10000
    pub each : (i : ℕ) → i < states_of t → (sort_at t i ≡ 0 → ⊥) → taken_sum i ≡ n_at c i

  pub counts_sums : counts_sound t c ≡ true → Sums
  unfolding counts_sound
  counts_sums e =
      let p = both (legal_setting (setting_of c)) (every (adds_up t c) (upto (states_of t) (λ i. i))) e in
      record { setting = p.0; most = λ i l n. (parts p.1 i l n).0; each = λ i l n. (parts p.1 i l n).1 }
    where
      no_end : (s : ℕ) (b : Bool) → (s ≡ 0 → ⊥) → (eqb s 0 || b) ≡ true → b ≡ true
      no_end s b n e = ap (λ a. a || b) (sym (ne_eqb s 0 n)) ∙ e

      parts : every (adds_up t c) (upto (states_of t) (λ i. i)) ≡ true → (i : ℕ) → i < states_of t → (sort_at t i ≡ 0 → ⊥)
          → (n_at c i ≤ 10000) × (taken_sum i ≡ n_at c i)
      parts e i l n =
          let h = no_end (sort_at t i) (leb (n_at c i) counted_most && eqb (taken_sum i) (n_at c i)) n
          (sym (adds_up_is i l (taken_sum i) refl) ∙ every_upto (adds_up t c) (states_of t) (λ i. i) e i l) in
          let p = both (leb (n_at c i) counted_most) (eqb (taken_sum i) (n_at c i)) h in
          (leb-true (n_at c i) counted_most p.0, eqb-true (taken_sum i) (n_at c i) p.1)

  pub sums_counts : Sums → counts_sound t c ≡ true
  unfolding counts_sound
  sums_counts h =
      join h.setting
      (upto_every (adds_up t c) (states_of t) (λ i. i)
      (λ i l. adds_up_is i l (taken_sum i) refl ∙ ⊎_elim (λ n. choice i l n) (λ e. end i e) (zero_or (sort_at t i))))
    where
      end : (i : ℕ) → sort_at t i ≡ 0 → (eqb (sort_at t i) 0 || (leb (n_at c i) counted_most && eqb (taken_sum i) (n_at c i))) ≡ true
      end i e = ap (λ a. a || (leb (n_at c i) counted_most && eqb (taken_sum i) (n_at c i))) (eq-eqb (sort_at t i) 0 e)

      choice : (i : ℕ) → i < states_of t → (sort_at t i ≡ 0 → ⊥)
          → (eqb (sort_at t i) 0 || (leb (n_at c i) counted_most && eqb (taken_sum i) (n_at c i))) ≡ true
      choice i l n =
          ap (λ a. a || (leb (n_at c i) counted_most && eqb (taken_sum i) (n_at c i))) (ne_eqb (sort_at t i) 0 n)
          ∙ join (le-leb (n_at c i) counted_most (h.most i l n)) (eq-eqb (taken_sum i) (n_at c i) (h.each i l n))

-- of a branch and its choice
pub record Few (t : Words) (c : Counts) (b : ℕ) : Type 0 where
  pub taken : k_at c b ≤ n_at c (owner_at t b)
  pub selected : n_at c (owner_at t b) ≤ 10000

pub counts_few : (t : Words) (c : Counts) → sound_of t ≡ true → counts_sound t c ≡ true → (b : ℕ) → b < branches_of t → Few t c b
counts_few t c s e b l =
    let f = sound_facts t s in
    let x = counts_sums t c e in
    let i = owner_at t b in
    record {
      taken = omega (arith, added_has t i (k_at c) (branches_of t) b l refl, x.each i (f.owners b l) (f.no_end b l));
      selected = x.most i (f.owners b l) (f.no_end b l);
    }

-- ---- a conversation is started

none_at : (n i : ℕ) → ◌≡◌ {A = ℕ} (get_or (replicate n 0) i 0) 0
none_at zero i = refl
none_at (suc n) zero = refl
none_at (suc n) (suc i) = none_at n i

module _ (z : ℕ) where
  pub fresh_n : (i : ℕ) → n_at (fresh_counts z) i ≡ 0
  unfolding fresh_counts
  fresh_n i = let e : 1 + i ≡ suc i = omega arith in ap (λ k. get_or (z ∷ replicate 160 0) k 0) e ∙ none_at 160 i

  pub fresh_k : (b : ℕ) → k_at (fresh_counts z) b ≡ 0
  unfolding fresh_counts
  fresh_k b = let e : 33 + b ≡ suc (32 + b) = omega arith in ap (λ k. get_or (z ∷ replicate 160 0) k 0) e ∙ none_at 160 (32 + b)

  pub fresh_length : length (fresh_counts z) ≡ 161
  unfolding fresh_counts
  fresh_length = ap suc (length-replicate {A = ℕ} 160 0)

  pub fresh_sound : (t : Words) → legal_setting z ≡ true → counts_sound t (fresh_counts z) ≡ true
  unfolding fresh_counts
  fresh_sound t e =
      sums_counts t (fresh_counts z) (record {
        setting = e;
        most = λ i l n. omega (arith, fresh_n i);
        each = λ i l n. omega (arith, fresh_n i, added_most t i (k_at (fresh_counts z)) 0 (branches_of t) (λ k m o. omega (arith, fresh_k k)));
      })

pub legal : (z : ℕ) → 1 ≤ z → z ≤ 1000 → legal_setting z ≡ true
unfolding legal_setting
legal z low high = join (le-leb 1 z low) (le-leb z 1000 high)

-- question by question
module _ (t : Words) (z : ℕ) where
  pub starts_not : sound_of t ≡ false → starting t z ≡ record { question = 9; state = fresh; counts = fresh_counts 0 }
  unfolding starting start_questions first_no
  starts_not e = rw e

  module _ (s : sound_of t ≡ true) where
    pub starts_nowhere : legal_setting z ≡ false → starting t z ≡ record { question = 21; state = fresh; counts = fresh_counts 0 }
    unfolding starting start_questions first_no
    starts_nowhere e = rw (s, e)

    pub starts : legal_setting z ≡ true → starting t z ≡ record { question = 0; state = fresh; counts = fresh_counts z }
    unfolding starting start_questions first_no
    starts e = rw (s, e)

  pub refused_start : (first_no (start_questions t z) ≡ 0 → ⊥) → (starting t z).counts ≡ fresh_counts 0
  unfolding starting
  refused_start n = rw (ne_eqb (first_no (start_questions t z)) 0 n)

pub setting_most : (z : ℕ) → legal_setting z ≡ true → z ≤ 1000
unfolding legal_setting
setting_most z e = leb-true z 1000 (both (leb 1 z) (leb z 1000) e).1

-- with a setting of 0, as a refused start has it
pub unstarted : (t : Words) → counts_sound t (fresh_counts 0) ≡ false
unfolding counts_sound fresh_counts legal_setting
unstarted t = refl

-- ---- a forwarded message

module _ (c : Counts) (i b : ℕ) where
  abbrev more : Counts
  more = set (set c (1 + i) (n_at c i + 1)) (33 + b) (k_at c b + 1)

  pub raised_more : n_at c i < 10000 → raised c i b ≡ set (set c (1 + i) (n_at c i + 1)) (33 + b) (k_at c b + 1)
  unfolding raised
  raised_more l = ap (λ x. cond x more c) (lt-ltb (n_at c i) counted_most l)

  pub raised_full : 10000 ≤ n_at c i → raised c i b ≡ c
  unfolding raised
  raised_full l = ap (λ x. cond x more c) (le-ltb (n_at c i) counted_most l)

  -- one or the other
  pub raised_by_n : (P : Counts → Type 0) → (n_at c i < 10000 → P (raised c i b)) → (raised c i b ≡ c → P c) → P (raised c i b)
  raised_by_n P h k =
      ⊎_elim (λ e. h (ltb-true (n_at c i) 10000 e)) (λ e. let q = raised_full (ltb-false (n_at c i) 10000 e) in subst P (sym q) (k q))
      (decided (ltb (n_at c i) 10000))

  pub raised_length : length (raised c i b) ≡ length c
  raised_length = raised_by_n (λ x. length x ≡ length c) (λ l. ap length (raised_more l) ∙ simp length-set) (λ e. refl)

  module _ (long : length c ≡ 161) (few : i < 32) (room : b < 128) where
    pub raised_setting : setting_of (raised c i b) ≡ setting_of c
    raised_setting =
        raised_by_n (λ x. setting_of x ≡ setting_of c)
        (λ l. ap setting_of (raised_more l)
        ∙ get_or-set_other (set c (1 + i) (n_at c i + 1)) (33 + b) 0 (k_at c b + 1) 0 (λ e. absurd (omega arith))
        ∙ get_or-set_other c (1 + i) 0 (n_at c i + 1) 0 (λ e. absurd (omega arith)))
        (λ e. refl)

    -- the other states and branches stay
    pub raised_n_other : (j : ℕ) → j < 32 → (j ≡ i → ⊥) → n_at (raised c i b) j ≡ n_at c j
    raised_n_other j m n =
        raised_by_n (λ x. n_at x j ≡ n_at c j)
        (λ l. ap (λ x. n_at x j) (raised_more l)
        ∙ get_or-set_other (set c (1 + i) (n_at c i + 1)) (33 + b) (1 + j) (k_at c b + 1) 0 (λ e. absurd (omega arith))
        ∙ get_or-set_other c (1 + i) (1 + j) (n_at c i + 1) 0 (λ e. n (omega (arith, e))))
        (λ e. refl)

    pub raised_k_other : (k : ℕ) → (k ≡ b → ⊥) → k_at (raised c i b) k ≡ k_at c k
    raised_k_other k n =
        raised_by_n (λ x. k_at x k ≡ k_at c k)
        (λ l. ap (λ x. k_at x k) (raised_more l)
        ∙ get_or-set_other (set c (1 + i) (n_at c i + 1)) (33 + b) (33 + k) (k_at c b + 1) 0 (λ e. n (omega (arith, e)))
        ∙ get_or-set_other c (1 + i) (33 + k) (n_at c i + 1) 0 (λ e. absurd (omega arith)))
        (λ e. refl)

    module _ (l : n_at c i < 10000) where
      pub raised_n : n_at (raised c i b) i ≡ n_at c i + 1
      raised_n =
          ap (λ x. n_at x i) (raised_more l)
          ∙ get_or-set_other (set c (1 + i) (n_at c i + 1)) (33 + b) (1 + i) (k_at c b + 1) 0 (λ e. absurd (omega arith))
          ∙ get_or-set_same c (1 + i) (n_at c i + 1) 0 (omega arith)

      pub raised_k : k_at (raised c i b) b ≡ k_at c b + 1
      raised_k =
          ap (λ x. k_at x b) (raised_more l)
          ∙ get_or-set_same (set c (1 + i) (n_at c i + 1)) (33 + b) (k_at c b + 1) 0 (simp length-set (omega arith))

-- a number that is one larger, among those that are added
module _ (t : Words) (f g : ℕ → ℕ) (b : ℕ) (more : g b ≡ f b + 1) (same : (k : ℕ) → (k ≡ b → ⊥) → g k ≡ f k) (i : ℕ) where
  added_before : (n : ℕ) → n ≤ b → added t g i n ≡ added t f i n
  unfolding added
  added_before zero l = refl
  added_before (suc n) l =
      ap₂ (λ s x. s + cond (eqb (owner_at t n) i) x 0) (added_before n (omega arith)) (same n (λ e. absurd (omega arith)))

  pub added_other : (owner_at t b ≡ i → ⊥) → (n : ℕ) → added t g i n ≡ added t f i n
  unfolding added
  added_other o zero = refl
  added_other o (suc n) = ap₂ ◌+◌ (added_other o n) (⊎_elim (λ e. here (eqb-true n b e)) (λ e. ap (λ x. cond (eqb (owner_at t n) i) x 0) (same n (eqb-false n b e))) (decided (eqb n b)))
    where
      here : n ≡ b → cond (eqb (owner_at t n) i) (g n) 0 ≡ cond (eqb (owner_at t n) i) (f n) 0
      here e =
          let x = ne_eqb (owner_at t n) i (λ h. o (subst (λ k. owner_at t k ≡ i) e h)) in
          ap (λ a. cond a (g n) 0) x ∙ sym (ap (λ a. cond a (f n) 0) x)

  pub added_one_more : owner_at t b ≡ i → (n : ℕ) → b < n → added t g i n ≡ added t f i n + 1
  unfolding added
  added_one_more o zero l = absurd (not-suc-le-zero l)
  added_one_more o (suc n) l =
      ⊎_elim (λ (e : b ≡ n). last (sym e))
      (λ (m : b < n). omega (arith, added_one_more o n m, ap (λ x. cond (eqb (owner_at t n) i) x 0) (same n (λ e. absurd (omega arith)))))
      (eq-or-lt_of_le (le_of_suc-le-suc l))
    where
      last : n ≡ b → added t g i (suc n) ≡ added t f i (suc n) + 1
      last e =
          let x = eq-eqb (owner_at t n) i (subst (λ k. owner_at t k ≡ i) (sym e) o) in
          let y : g n ≡ f n + 1 = subst (λ k. g k ≡ f k + 1) (sym e) more in
          omega (arith, added_before n (omega arith), ap (λ a. cond a (g n) 0) x, ap (λ a. cond a (f n) 0) x)

-- sound counts stay sound
pub raised_sound : (t : Words) (c : Counts) → sound_of t ≡ true → length c ≡ 161 → counts_sound t c ≡ true
    → (b : ℕ) → b < branches_of t → (i : ℕ) → owner_at t b ≡ i → counts_sound t (raised c i b) ≡ true
raised_sound t c s long e b l i o =
    raised_by_n c i b (λ x. counts_sound t x ≡ true)
    (λ m. sums_counts t (raised c i b) (record {
      setting = ap legal_setting (raised_setting c i b long few room) ∙ x.setting;
      most = λ j h n. ⊎_elim (λ p. most_here m j (eqb-true j i p)) (λ p. omega (arith, raised_n_other c i b long few room j (small j h) (eqb-false j i p), x.most j h n)) (decided (eqb j i));
      each = λ j h n. ⊎_elim (λ p. each_here m j h n (eqb-true j i p)) (λ p. each_other m j h n (eqb-false j i p)) (decided (eqb j i));
    })) (λ q. e)
  where
    f : Facts t
    f = sound_facts t s

    x : Sums t c
    x = counts_sums t c e

    few : i < 32
    few = omega (arith, o, f.owners b l, f.few)

    room : b < 128
    room = omega (arith, f.room)

    small : (j : ℕ) → j < states_of t → j < 32
    small j h = omega (arith, f.few)

    most_here : n_at c i < 10000 → (j : ℕ) → j ≡ i → n_at (raised c i b) j ≤ 10000
    most_here m j p = subst (λ j. n_at (raised c i b) j ≤ 10000) (sym p) (omega (arith, raised_n c i b long few room m))

    each_here : n_at c i < 10000 → (j : ℕ) → j < states_of t → (sort_at t j ≡ 0 → ⊥) → j ≡ i → taken_sum t (raised c i b) j ≡ n_at (raised c i b) j
    each_here m j h n p =
        added_one_more t (k_at c) (k_at (raised c i b)) b (raised_k c i b long few room m) (raised_k_other c i b long few room) j (o ∙ sym p) (branches_of t) l
        ∙ ap (λ k. k + 1) (x.each j h n)
        ∙ subst (λ j. n_at c j + 1 ≡ n_at (raised c i b) j) (sym p) (sym (raised_n c i b long few room m))

    each_other : n_at c i < 10000 → (j : ℕ) → j < states_of t → (sort_at t j ≡ 0 → ⊥) → (j ≡ i → ⊥) → taken_sum t (raised c i b) j ≡ n_at (raised c i b) j
    each_other m j h n p =
        added_other t (k_at c) (k_at (raised c i b)) b (raised_k c i b long few room m) (raised_k_other c i b long few room) j (λ q. p (sym q ∙ o)) (branches_of t)
        ∙ x.each j h n ∙ sym (raised_n_other c i b long few room j (small j h) p)

-- no branch is taken more often than its choice, however long the list is: a program's proof does not say how long
pub sound_rising : (t : Words) (c : Counts) → sound_of t ≡ true → counts_sound t c ≡ true → Rising t c
sound_rising t c s e b l = (counts_few t c s e b l).taken

pub raised_rising : (t : Words) (c : Counts) → sound_of t ≡ true → Rising t c
    → (b : ℕ) → b < branches_of t → (i : ℕ) → owner_at t b ≡ i → Rising t (raised c i b)
raised_rising t c s h b l i o =
    raised_by_n c i b (Rising t)
    (λ m. subst (Rising t) (sym (raised_more c i b m))
    (λ a k. ⊎_elim (λ e. subst (λ a. k_at x a ≤ n_at x (owner_at t a)) (sym (eqb-true a b e)) (subst (λ j. k_at x b ≤ n_at x j) (sym o) here))
    (λ e. omega (arith, k_other a (eqb-false a b e), h a k, n_up (owner_at t a) (below a k))) (decided (eqb a b)))) (λ q. h)
  where
    y : Counts
    y = set c (1 + i) (n_at c i + 1)

    x : Counts
    x = set y (33 + b) (k_at c b + 1)

    below : (a : ℕ) → a < branches_of t → owner_at t a < 32
    below a k = omega (arith, (sound_facts t s).owners a k, (sound_facts t s).few)

    few : i < 32
    few = subst (λ j. j < 32) o (below b l)

    n_is : (j : ℕ) → j < 32 → n_at x j ≡ n_at y j
    n_is j k = get_or-set_other y (33 + b) (1 + j) (k_at c b + 1) 0 (λ e. absurd (omega arith))

    n_here : n_at c i ≤ n_at y i
    n_here =
        ⊎_elim (λ e. omega (arith, get_or-set_same c (1 + i) (n_at c i + 1) 0 (ltb-true (1 + i) (length c) e)))
        (λ e. omega (arith, ap (λ x. n_at x i) (set_out c (1 + i) (n_at c i + 1) (ltb-false (1 + i) (length c) e))))
        (decided (ltb (1 + i) (length c)))

    n_up : (j : ℕ) → j < 32 → n_at c j ≤ n_at x j
    n_up j k =
        ⊎_elim (λ e. subst (λ j. n_at c j ≤ n_at x j) (sym (eqb-true j i e)) (omega (arith, n_is i few, n_here)))
        (λ e. omega (arith, n_is j k, get_or-set_other c (1 + i) (1 + j) (n_at c i + 1) 0 (λ q. eqb-false j i e (omega (arith, q)))))
        (decided (eqb j i))

    k_is : (a : ℕ) → k_at y a ≡ k_at c a
    k_is a = get_or-set_other c (1 + i) (33 + a) (n_at c i + 1) 0 (λ e. absurd (omega (arith, few)))

    k_other : (a : ℕ) → (a ≡ b → ⊥) → k_at x a ≡ k_at c a
    k_other a n = get_or-set_other y (33 + b) (33 + a) (k_at c b + 1) 0 (λ e. n (omega (arith, e))) ∙ k_is a

    was : k_at c b ≤ n_at c i
    was = subst (λ j. k_at c b ≤ n_at c j) o (h b l)

    here : k_at x b ≤ n_at x i
    here =
        ⊎_elim (λ e.
        let p = ltb-true (33 + b) (length c) e in
        omega (
          arith,
          get_or-set_same y (33 + b) (k_at c b + 1) 0 (simp length-set p),
          get_or-set_same c (1 + i) (n_at c i + 1) 0 (omega (arith, few, p)),
          n_is i few,
          was,
        ))
        (λ e.
        let q = set_out y (33 + b) (k_at c b + 1) (simp length-set (ltb-false (33 + b) (length c) e)) in
        omega (arith, ap (λ x. k_at x b) q, k_is b, was, n_is i few, n_here))
        (decided (ltb (33 + b) (length c)))

-- what the raise of a branch that can be taken asks
pub can_rise : (t : Words) (b : ℕ) (s : State) (c : Counts) → Follows t b s c
    → (s.position < 32) × (b < 128) × (n_at c s.position < 10000 → k_at c b ≤ 10000)
can_rise t b s c h =
    let f = sound_facts t h.sound in (
      omega (arith, h.owned, f.owners b h.there, f.few),
      omega (arith, h.there, f.room),
      λ m. omega (arith, m, subst (λ j. k_at c b ≤ n_at c j) h.owned (h.rising b h.there)),
    )

-- ---- by a message

-- the branch that it takes is one of the state's
pub chosen_branch : (t : Words) (i : ℕ) (m : Message) (b : ℕ) → selected (view t) i m ≡ some b → (b < branches_of t) × (owner_at t b ≡ i)
chosen_branch t i m b e =
    let x = (selected_exactly (view t) i m).0 b e in
    let l : b < branches_of t = rw (branches_of_is t) at x.there in
    (l, ap (λ (b : Branch). b.owner) (sym (branch_at_is t b none l)) ∙ carries_owner i m (branch (view t) b) x.carried)

pub chosen_follows : (t : Words) (s : State) (c : Counts) → sound_of t ≡ true → Rising t c → (m : Message) (b : ℕ)
    → selected (view t) s.position m ≡ some b → Follows t b s c
chosen_follows t s c sound rising m b e =
    let x = chosen_branch t s.position m b e in record { sound = sound; there = x.0; owned = x.1; rising = rising }

module _ (t : Words) (position : ℕ) (message : List ℕ) (c : Counts) where
  -- as the program has it
  pub raised_at_is : (o : Option ℕ) → selected (view t) position (read message) ≡ o → raised_at t position message c ≡ raised_by c position o
  unfolding raised_at
  raised_at_is o e = ap (raised_by c position) e

  -- what holds of the counts, and once any branch of the position is taken
  raised_at_by : (P : Counts → Type 0) → P c → ((b : ℕ) → b < branches_of t → owner_at t b ≡ position → P (raised c position b))
      → P (raised_at t position message c)
  unfolding raised_by
  raised_at_by P h k = by (selected (view t) position (read message)) refl
    where
      by : (o : Option ℕ) → selected (view t) position (read message) ≡ o → P (raised_at t position message c)
      by none e = subst P (sym (raised_at_is none e)) h
      by (some b) e =
          let x = chosen_branch t position (read message) b e in
          subst P (sym (raised_at_is (some b) e)) (k b x.0 x.1)

module _ (t : Words) (sound : sound_of t ≡ true) (s : State) (message : List ℕ) (v : Told) (c : Counts) where
  counted_by : (P : Counts → Type 0) → P c → ((b : ℕ) → b < branches_of t → owner_at t b ≡ s.position → P (raised c s.position b))
      → P (counted t s message v c)
  unfolding counted
  counted_by P h k = by v
    where
      by : (v : Told) → P (counted t s message v c)
      by (refused q) = h
      by (blamed side r f) = h
      by forwarded = raised_at_by t s.position message c P h k

  pub counted_rising : Rising t c → Rising t (counted t s message v c)
  counted_rising h = counted_by (Rising t) h (λ b l o. raised_rising t c sound h b l s.position o)

  pub counted_sound : length c ≡ 161 → counts_sound t c ≡ true
      → (length (counted t s message v c) ≡ 161) × (counts_sound t (counted t s message v c) ≡ true)
  counted_sound long e =
      counted_by (λ d. (length d ≡ 161) × (counts_sound t d ≡ true)) (long, e)
      (λ b l o. (raised_length c s.position b ∙ long, raised_sound t c sound long e b l s.position o))

-- a step whose counts are sound
pub counted_then : (t : Words) (s : State) (c : Counts) (m : Sent) → counts_sound t c ≡ true
    → counted_step t s c m.side m.bytes m.buffer ≡ ((event t s m).done, counted t s m.bytes (event t s m).done.verdict c)
unfolding counted_step event
counted_then t s c m e = rw e
