-- Question 9 gets a yes on counts exactly where they are sound by places, and a conversation is started exactly where it may be.
-- Assumes nothing.
use mathlib.Core.Path.{◌≡◌, refl}
use mathlib.Core.Logic.{◌↔◌}
use mathlib.Core.Bool.{Bool, true, false}
use Prim.Native.Nat.{ℕ}
use native.Mathlib.Omega.{arith}
use lib.Dec.{leb}
use borrow.Author.Tests.{leb-true, le-leb}
use Rattle.table.specs.Lists.{first_no}
use Rattle.table.specs.View.{sound_of}
use Rattle.table.specs.Sound.{Sound}
use Rattle.table.proofs.claims.SoundExactly.{sound_exactly}
use Rattle.table.proofs.laws.Lists.{both, join, never}
use Rattle.conversation.specs.Counts.{setting_of, legal_setting, start_questions, starting}
use Rattle.conversation.specs.CountsSound.{Setting, CountsSoundExactly, Starts, StartsExactly}
use Rattle.conversation.proofs.laws.Counts.{counts_sums, sums_counts}

setting_exactly : (z : ℕ) → (legal_setting z ≡ true) ↔ Setting z
unfolding legal_setting
setting_exactly z = (
  λ e. let p = both (leb 1 z) (leb z 1000) e in (leb-true 1 z p.0, leb-true z 1000 p.1),
  λ p. join (le-leb 1 z p.0) (le-leb z 1000 p.1),
)

pub counts_sound_exactly : CountsSoundExactly
counts_sound_exactly t c = (
  λ e.
      let s = counts_sums t c e in
      record { setting = (setting_exactly (setting_of c)).0 s.setting; adds = s.each; most = s.most },
  λ x. sums_counts t c (record { setting = (setting_exactly (setting_of c)).1 x.setting; most = x.most; each = x.adds }),
)

pub starts_exactly : StartsExactly
unfolding starting start_questions first_no
starts_exactly t z = go (sound_of t) refl (legal_setting z) refl
  where
    sound : sound_of t ≡ true → Sound t
    sound e = (sound_exactly t).0 e

    not_sound : sound_of t ≡ false → Sound t → ⊥
    not_sound e s = never ((sound_exactly t).1 s) e

    not_set : legal_setting z ≡ false → Setting z → ⊥
    not_set e s = never ((setting_exactly z).1 s) e

    go : (a : Bool) → sound_of t ≡ a → (b : Bool) → legal_setting z ≡ b → Starts t z
    go true e true f =
        record {
          started = (λ h. (sound e, (setting_exactly z).0 f), λ h. rw (e, f));
          by_nine = (λ h. absurd (omega (arith, h, asked)), λ n. absurd (n (sound e)));
          by_twenty_one = (λ h. absurd (omega (arith, h, asked)), λ n. absurd (n.1 ((setting_exactly z).0 f)));
        }
      where
        asked : (starting t z).question ≡ 0
        asked = rw (e, f)
    go true e false f =
        record {
          started = (λ h. absurd (omega (arith, h, asked)), λ x. absurd (not_set f x.1));
          by_nine = (λ h. absurd (omega (arith, h, asked)), λ n. absurd (n (sound e)));
          by_twenty_one = (λ h. (sound e, not_set f), λ h. asked);
        }
      where
        asked : (starting t z).question ≡ 21
        asked = rw (e, f)
    go false e b f =
        record {
          started = (λ h. absurd (omega (arith, h, asked)), λ x. absurd (not_sound e x.0));
          by_nine = (λ h. not_sound e, λ n. asked);
          by_twenty_one = (λ h. absurd (omega (arith, h, asked)), λ x. absurd (not_sound e x.0));
        }
      where
        asked : (starting t z).question ≡ 9
        asked = rw e
