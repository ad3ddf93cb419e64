-- Warnings and estimates: how large the two sides of the comparison can be, what the questions tell, and the call question by question.
-- Assumes nothing.
use mathlib.Core.Path.{◌≡◌, refl, sym, ap, ◌∙◌}
use mathlib.Core.Bool.{Bool, true, false, ◌&&◌, cond}
use mathlib.Core.Option.{Option, some}
use Prim.Native.Nat.{ℕ, zero, suc, ◌-◌, ◌*◌, ◌≤◌, ◌<◌}
use native.Mathlib.Nat.{mul-le-mul}
use native.Mathlib.Omega.{arith}
use lib.Dec.{ltb}
use borrow.Author.Tests.{leb-true, ltb-true, lt-ltb, le-ltb, eq-eqb, ne_eqb}
use Rattle.std.specs.Prelude.{Ok, Err}
use Rattle.table.specs.Lists.{first_no}
use Rattle.table.specs.Question.{number}
use Rattle.table.specs.declared.refusal.Question.{Question}
use Rattle.table.specs.declared.refusal.Question.TheVariants.{NoBranch}
use Rattle.table.proofs.laws.Question.{number_no_zero}
use Rattle.table.specs.Table.{shares_sum, speaker}
use Rattle.table.specs.View.{Words, states_of, branches_of, owner_at, share_at, sort_at, sort_of, sound_of, sound_at}
use Rattle.table.specs.declared.Party.{Party}
use Rattle.table.proofs.laws.Lists.{both}
use Rattle.table.proofs.laws.View.{Facts, sound_facts, shares_sound, sort_of_is}
use Rattle.table.proofs.laws.SharesRight.{share_most}
use Rattle.conversation.specs.declared.State.{State}
use Rattle.conversation.specs.Counts.{Counts, setting_of, n_at, k_at, counts_sound}
use Rattle.conversation.specs.Warning.{difference, square, warns, rounded, estimate, refused, tells, warning_questions, notice, warning, estimate_of, notice_of}
use Rattle.conversation.specs.declared.warning.Notice as P
use Rattle.conversation.proofs.laws.Step.{two_yes}
use Rattle.conversation.proofs.laws.Batch.{sound_parts}
use Rattle.conversation.proofs.laws.Counts.{counts_sums, Few, counts_few, setting_most}

-- ---- the estimate

pub estimate_some : (n k : ℕ) → (n ≡ 0 → ⊥) → estimate n k ≡ some (rounded n k)
unfolding estimate
estimate_some zero k z = absurd (z refl)
estimate_some (suc m) k z = refl

-- ---- the comparison

pub third_most : (z w : ℕ) → z ≤ 1000 → w ≤ 1000 → square z * w * (shares_sum - w) ≤ 1000000000000
unfolding square
third_most z w zs ws =
    let r : shares_sum - w ≤ 1000 = omega arith in
    let x = mul-le-mul (mul-le-mul (mul-le-mul zs zs) ws) r in
    omega arith

module _ (z w n k : ℕ) where
  pub no_share : w ≡ 0 → warns z w n k ≡ false
  unfolding warns
  no_share e = ap (λ b. cond b false (ltb (square z * w * (shares_sum - w) * n) (10000 * square (difference (1000 * k) (w * n))))) (eq-eqb w 0 e)

  pub with_share : (w ≡ 0 → ⊥) → warns z w n k ≡ ltb (square z * w * (shares_sum - w) * n) (10000 * square (difference (1000 * k) (w * n)))
  unfolding warns
  with_share h = ap (λ b. cond b false (ltb (square z * w * (shares_sum - w) * n) (10000 * square (difference (1000 * k) (w * n))))) (ne_eqb w 0 h)

  -- no number on the way is too large
  module _ (zs : z ≤ 1000) (ws : w ≤ 1000) (ns : n ≤ 10000) (ks : k ≤ n) where
    pub away_most : difference (1000 * k) (w * n) ≤ 10000000
    unfolding difference
    away_most = let x = mul-le-mul ws ns in omega arith

    pub far_most : 10000 * square (difference (1000 * k) (w * n)) ≤ 1000000000000000000
    unfolding square
    far_most = let x = mul-le-mul away_most away_most in omega arith

    pub edge_most : square z * w * (shares_sum - w) * n ≤ 1000000000000000000
    edge_most = let x = mul-le-mul (third_most z w zs ws) ns in omega arith

-- ---- what a yes to 9 and 18 says

-- of a branch of a sound table with sound counts
pub record Known (t : Words) (c : Counts) (b : ℕ) : Type 0 where
  pub owner : owner_at t b < states_of t
  pub few : Few t c b
  pub choice : sort_at t (owner_at t b) ≡ 0 → ⊥
  pub share : share_at t b ≤ 1000
  pub setting : setting_of c ≤ 1000

pub known : (t : Words) (c : Counts) (b : ℕ) → sound_of t ≡ true → counts_sound t c ≡ true → b < branches_of t → Known t c b
known t c b s e l =
    let f = sound_facts t s in
    record {
      owner = f.owners b l;
      few = counts_few t c s e b l;
      choice = f.no_end b l;
      share = leb-true (share_at t b) 1000
          (share_most t (branches_of t) (record { whole = refl; states = refl; room = f.room; few = f.few; below = f.owners }) (shares_sound t s) b l);
      setting = setting_most (setting_of c) (counts_sums t c e).setting;
    }

pub told : (t : Words) (s : State) (c : Counts) (b : ℕ) → first_no (warning_questions t s c b) ≡ 0 → Known t c b
unfolding warning_questions
told t s c b asked =
    let x = two_yes 8 17 (sound_at t s.position && counts_sound t c) (ltb b (branches_of t)) asked in
    let y = both (sound_at t s.position) (counts_sound t c) x.0 in
    known t c b (sound_parts t s.position y.0).0 y.1 (ltb-true b (branches_of t) x.1)

-- ---- the call, question by question

-- 9 of the table, the position and the counts
abbrev nine : Words → State → Counts → ℕ
nine t s c = cond (sound_at t s.position && counts_sound t c) 0 9

nine_said : (b : Bool) (q : ℕ) → q ≡ cond b 0 9 → (q ≡ 0 → ⊥) → (b ≡ false) × (q ≡ 9)
nine_said true q e n = absurd (n e)
nine_said false q e n = (refl, e)

nine_passed : (b : Bool) → ◌≡◌ {A = ℕ} 0 (cond b 0 9) → b ≡ true
nine_passed true e = refl
nine_passed false e = absurd (omega (arith, e))

module _ (t : Words) (s : State) (c : Counts) (b : ℕ) where
  pub warning_9 : (sound_at t s.position && counts_sound t c) ≡ false → warning t s c b ≡ refused 9
  unfolding warning warning_questions first_no
  warning_9 e = rw e

  module _ (e : sound_at t s.position ≡ true) (f : counts_sound t c ≡ true) where
    pub warning_18 : branches_of t ≤ b → warning t s c b ≡ refused 18
    unfolding warning warning_questions first_no
    warning_18 l = rw (e, f, le-ltb b (branches_of t) l)

    pub warning_tells : b < branches_of t → (far : Bool) (side : Party) (o : Option ℕ)
        → far ≡ warns (setting_of c) (share_at t b) (n_at c (owner_at t b)) (k_at c b)
        → some side ≡ speaker (sort_of (sort_at t (owner_at t b))) → o ≡ estimate (n_at c (owner_at t b)) (k_at c b)
        → tells far (some side) o ≡ warning t s c b
    unfolding warning warning_questions first_no notice
    warning_tells l far side o x y z =
        rw (e, f, lt-ltb b (branches_of t) l, sort_of_is t (owner_at t b) ((sound_facts t (sound_parts t s.position e).0).owners b l), x, y, z)

  -- as the program asks 9 and answers
  pub warned_9 : (q : Question) → number q ≡ nine t s c → notice_of (Err q) ≡ warning t s c b
  unfolding notice_of
  warned_9 q e =
      let x = nine_said (sound_at t s.position && counts_sound t c) (number q) e (number_no_zero q) in
      ap refused x.1 ∙ sym (warning_9 x.0)

  module _ (e : 0 ≡ nine t s c) where
    nine_yes : (sound_at t s.position ≡ true) × (counts_sound t c ≡ true)
    nine_yes = both (sound_at t s.position) (counts_sound t c) (nine_passed (sound_at t s.position && counts_sound t c) e)

    pub facts_told : Facts t
    facts_told = sound_facts t (sound_parts t s.position nine_yes.0).0

    pub warned_18 : branches_of t ≤ b → notice_of (Err NoBranch) ≡ warning t s c b
    unfolding notice_of
    warned_18 l = sym (warning_18 nine_yes.0 nine_yes.1 l)

    module _ (l : b < branches_of t) where
      pub known_told : Known t c b
      known_told = known t c b (sound_parts t s.position nine_yes.0).0 nine_yes.1 l

      pub warned : (r : P.Notice) → r.warns ≡ warns (setting_of c) (share_at t b) (n_at c (owner_at t b)) (k_at c b)
          → some r.sender ≡ speaker (sort_of (sort_at t (owner_at t b))) → estimate_of r.estimate ≡ estimate (n_at c (owner_at t b)) (k_at c b)
          → notice_of (Ok r) ≡ warning t s c b
      unfolding notice_of
      warned r = warning_tells nine_yes.0 nine_yes.1 l r.warns r.sender (estimate_of r.estimate)
