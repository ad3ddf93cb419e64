-- What the call of a warning tells and refuses. Assumes nothing.
use mathlib.Core.Path.{◌≡◌, sym, ap, subst, ◌∙◌}
use mathlib.Core.Logic.{inl, inr, ⊎_elim}
use mathlib.Core.Bool.{Bool, true, false, ◌&&◌}
use mathlib.Core.Option.{Option, none}
use Prim.Native.Nat.{ℕ, suc, ◌-◌, ◌*◌, ◌≤◌, ◌<◌}
use native.Mathlib.Omega.{arith}
use lib.Dec.{ltb}
use borrow.Author.Tests.{ltb-true, ltb-false, lt-ltb}
use Rattle.table.specs.Lists.{first_no}
use Rattle.table.specs.Table.{speaker}
use Rattle.table.specs.View.{Words, branches_of, owner_at, share_at, sound_at}
use Rattle.table.specs.declared.Party.{Party}
use Rattle.table.proofs.laws.Lists.{decided, never, both}
use Rattle.conversation.specs.declared.State.{State}
use Rattle.conversation.specs.Counts.{Counts, setting_of, n_at, k_at, counts_sound}
use Rattle.conversation.specs.Warning.{difference, square, warns, Notice, refused, tells, notice, warning_questions, warning, Apart, NoticeMeans, WarningMeans, WarningExactly}
use Rattle.conversation.proofs.laws.Warning.{no_share, with_share, warning_9, warning_18}

-- ---- the comparison

apart : (a b : ℕ) → Apart a b (difference a b)
unfolding difference
apart a b = ⊎_elim (λ h. inr (let l = ltb-true a b h in omega arith)) (λ h. inl (let l = ltb-false a b h in omega arith)) (decided (ltb a b))

apart_once : (a b d : ℕ) → Apart a b d → d ≡ difference a b
unfolding difference
apart_once a b d (inl h) = omega arith
apart_once a b d (inr h) = omega arith

module _ (z w n k : ℕ) where
  abbrev Warned : Type 0
  Warned = (w ≡ 0 → ⊥) × (d : ℕ) × Apart (1000 * k) (w * n) d × (z * z * w * (1000 - w) * n < 10000 * (d * d))

  abbrev far : ℕ
  far = difference (1000 * k) (w * n)

  warned_so : warns z w n k ≡ true → Warned
  unfolding square
  warned_so h = (
    has,
    far,
    apart (1000 * k) (w * n),
    ltb-true (z * z * w * (1000 - w) * n) (10000 * (far * far)) (sym (with_share z w n k has) ∙ h),
  )
    where
      has : w ≡ 0 → ⊥
      has e = never h (no_share z w n k e)

  so_warned : Warned → warns z w n k ≡ true
  unfolding square
  so_warned x =
      let l = subst (λ d. z * z * w * (1000 - w) * n < 10000 * (d * d)) (apart_once (1000 * k) (w * n) x.1 x.2) x.3 in
      with_share z w n k x.0 ∙ lt-ltb (z * z * w * (1000 - w) * n) (10000 * (difference (1000 * k) (w * n) * difference (1000 * k) (w * n))) l

-- ---- the call

-- what an answer has
abbrev number_in : Notice → ℕ
number_in (refused q) = suc q
number_in (tells w side e) = 0

abbrev warned_in : Notice → Bool
warned_in (refused q) = false
warned_in (tells w side e) = w

abbrev sender_in : Notice → Option Party
sender_in (refused q) = none
sender_in (tells w side e) = side

abbrev estimate_in : Notice → Option ℕ
estimate_in (refused q) = none
estimate_in (tells w side e) = e

module _ (t : Words) (s : State) (c : Counts) (b : ℕ) where
  abbrev asked : Bool
  asked = sound_at t s.position && counts_sound t c

  -- the three ways that a call can go
  module _ {X : Type 0} (nine : asked ≡ false → warning t s c b ≡ refused 9 → X)
      (eighteen : sound_at t s.position ≡ true → counts_sound t c ≡ true → branches_of t ≤ b → warning t s c b ≡ refused 18 → X)
      (yes : warning t s c b ≡ notice t c b → X) where
    ways : X
    unfolding warning warning_questions first_no
    ways = ⊎_elim sound (λ e. nine e (warning_9 t s c b e)) (decided asked)
      where
        sound : asked ≡ true → X
        sound h =
            let y = both (sound_at t s.position) (counts_sound t c) h in
            ⊎_elim (λ l. yes (rw (y.0, y.1, lt-ltb b (branches_of t) (ltb-true b (branches_of t) l))))
            (λ l. let m = ltb-false b (branches_of t) l in eighteen y.0 y.1 m (warning_18 t s c b y.0 y.1 m)) (decided (ltb b (branches_of t)))

  abbrev says : ℕ → Type 0
  says n = number_in (warning t s c b) ≡ n

  told_by : says 0 → warning t s c b ≡ notice t c b
  told_by h = ways (λ x e. no (ap number_in e)) (λ x y l e. no (ap number_in e)) (λ e. e)
    where
      no : {n : ℕ} → number_in (warning t s c b) ≡ suc n → warning t s c b ≡ notice t c b
      no e = absurd (omega (arith, e, h))

  means : (w : Bool) (side : Option Party) (e : Option ℕ) → warning t s c b ≡ tells w side e → NoticeMeans t c b w side e
  unfolding notice speaker
  means w side e h =
      let i = owner_at t b in
      let x : tells w side e ≡ notice t c b = sym h ∙ told_by (ap number_in h) in
      let warned : w ≡ warns (setting_of c) (share_at t b) (n_at c i) (k_at c b) = ap warned_in x in
      record {
        warned_exactly = (
          λ y. warned_so (setting_of c) (share_at t b) (n_at c i) (k_at c b) (sym warned ∙ y),
          λ y. warned ∙ so_warned (setting_of c) (share_at t b) (n_at c i) (k_at c b) y,
        );
        device = λ y. ap sender_in x ∙ ap speaker y;
        host = λ y. ap sender_in x ∙ ap speaker y;
        estimated = ap estimate_in x;
      }

  pub warning_means : WarningMeans t s c b
  unfolding notice
  warning_means =
      record {
        nine = (
          λ h. ways (λ e x. e) (λ e f l x. absurd (let y = sym (ap number_in h) ∙ ap number_in x in omega arith))
              (λ x. absurd (let y = sym (ap number_in h) ∙ ap number_in x in omega arith)),
          λ e. warning_9 t s c b e,
        );
        eighteen = (
          λ h. ways (λ e x. absurd (let y = sym (ap number_in h) ∙ ap number_in x in omega arith)) (λ e f l x. (e, f, l))
              (λ x. absurd (let y = sym (ap number_in h) ∙ ap number_in x in omega arith)),
          λ x. warning_18 t s c b x.0 x.1 x.2,
        );
        no_other = λ q h. ways (λ e x. inl (let y = sym (ap number_in h) ∙ ap number_in x in omega arith))
            (λ e f l x. inr (let y = sym (ap number_in h) ∙ ap number_in x in omega arith))
            (λ x. absurd (let y = sym (ap number_in h) ∙ ap number_in x in omega arith));
        means = means;
      }

pub warning_exactly : WarningExactly
warning_exactly t s c b = warning_means t s c b
