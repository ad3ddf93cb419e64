-- Two tables that differ in shares and edition only have the same states and branches; those that differ in shares only are such.
-- Assumes nothing.
use Rattle.std.proofs.Common.{◌≡◌, ℕ, ◌&&◌, ltb, length, sym, ap, ◌∙◌, ap₂}
use Rattle.table.specs.Table.{unshared}
use Rattle.table.specs.View.{Words, states_of, branches_of, view, sound_at, SharesAside, EditionAside}
use Rattle.table.proofs.laws.View.{sorts_of, branches_of_is}
use Rattle.table.specs.Table as T

pub editions_too : (t u : Words) → SharesAside t u → EditionAside t u
unfolding unshared
editions_too t u h =
    record { one = h.one; other = h.other; sorts = ap (λ x. x.sorts) h.same; branches = ap (λ x. x.branches) h.same }

module _ (t u : Words) (h : EditionAside t u) where
  pub same_sort : (i : ℕ) → T.sort (view t) i ≡ T.sort (view u) i
  unfolding T.sort
  same_sort i = rw h.sorts

  pub same_states : states_of t ≡ states_of u
  same_states = sym (sorts_of t) ∙ ap length h.sorts ∙ sorts_of u

  pub same_count : branches_of t ≡ branches_of u
  same_count = sym (branches_of_is t) ∙ ap length h.branches ∙ branches_of_is u

  pub same_sound : (i : ℕ) → sound_at t i ≡ sound_at u i
  unfolding sound_at
  same_sound i = ap₂ (λ b n. b && ltb i n) (h.one ∙ sym h.other) same_states
