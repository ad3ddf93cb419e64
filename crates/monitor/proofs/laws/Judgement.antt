-- Judging by places: the first branch that is named decides, then the fields one after another.
-- Assumes nothing.
use mathlib.Core.Path.{◌≡◌, refl, sym, ap, subst, ◌∙◌}
use mathlib.Core.Bool.{Bool, true, false, not, ◌&&◌, cond}
use mathlib.Core.List.{List}
use mathlib.Core.Option.{none, some}
use Prim.Native.Nat.{ℕ, zero, suc, ◌+◌, ◌*◌, ◌≤◌, ◌<◌, zero-le, suc-le-suc}
use native.Mathlib.Nat.{not-suc-le-zero, le_of_suc-le-suc, add-zero, zero-add}
use native.Mathlib.Omega.{arith}
use lib.ListN.{get_or, take}
use lib.Dec.{eqb}
use borrow.Author.Tests.{not-true, not-false}
use Rattle.table.specs.Lists.{upto, matched, same}
use Rattle.table.specs.Table.{Field, Branch}
use Rattle.table.specs.View.{owner_at, target_at, count_at, word_at, kind_at, low_at, high_at, label_of, branch_at}
use Rattle.table.specs.inner.Scans.{all}
use Rattle.table.proofs.laws.Lists.{both, refuted, alike, all_at, all_by, upto_length, matched_by}
use Rattle.table.proofs.laws.View.{same_eq, same_refl}
use Rattle.message.specs.Message.{Value, Message, read, count_of, has_label}
use Rattle.message.specs.Judge.{allowed, same_kind, in_range, names, first_outside, by_range, by_fields, judge_among, forbidden, selected_from}
use Rattle.message.proofs.laws.Judge.{matched_length, branch_allowed}
use Rattle.message.proofs.laws.Selected.{first_chosen}
use Rattle.message.proofs.laws.Message.{Whole, value_at, values_places}
use Rattle.message.proofs.claims.LabelInPlace.{label_in_place}
use Rattle.monitor.specs.inner.Leaves.{branch_named, First, kind_is, inside}

-- ---- the branch that is named

module _ (i : ℕ) (m : Message) where
  pub none_named : (n : ℕ) (g : ℕ → Branch) → ((k : ℕ) → k < n → names i m.label (g k) ≡ false) → judge_among (upto n g) i m ≡ (forbidden 1 none)
  unfolding judge_among upto
  none_named zero g h = refl
  none_named (suc n) g h = rw (h zero (suc-le-suc zero-le)) (none_named n (λ k. g (suc k)) (λ k l. h (suc k) (suc-le-suc l)))

  pub first_named : (n : ℕ) (g : ℕ → Branch) (r : ℕ) → r < n → ((k : ℕ) → k < r → names i m.label (g k) ≡ false) → names i m.label (g r) ≡ true
      → judge_among (upto n g) i m ≡ by_fields (g r).fields (g r).target m.values
  unfolding judge_among upto
  first_named zero g r l h e = absurd (not-suc-le-zero l)
  first_named (suc n) g zero l h e = rw e
  first_named (suc n) g (suc r) l h e =
      rw (h zero (suc-le-suc zero-le)) (first_named n (λ k. g (suc k)) r (le_of_suc-le-suc l) (λ k x. h (suc k) (suc-le-suc x)) e)

-- ---- two lists of places

module _ {A B : Type 0} (f : A → B → Bool) where
  matched_at : (n : ℕ) (g : ℕ → A) (h : ℕ → B) → matched f (upto n g) (upto n h) ≡ true → (k : ℕ) → k < n → f (g k) (h k) ≡ true
  unfolding matched upto
  matched_at zero g h e k l = absurd (not-suc-le-zero l)
  matched_at (suc n) g h e zero l = (both (f (g zero) (h zero)) (matched f (upto n (λ k. g (suc k))) (upto n (λ k. h (suc k)))) e).0
  matched_at (suc n) g h e (suc k) l =
      matched_at n (λ k. g (suc k)) (λ k. h (suc k)) (both (f (g zero) (h zero)) (matched f (upto n (λ k. g (suc k))) (upto n (λ k. h (suc k)))) e).1 k (le_of_suc-le-suc l)

  pub matched_upto : (n : ℕ) (g : ℕ → A) (h : ℕ → B) → matched f (upto n g) (upto n h) ≡ all n (λ k. f (g k) (h k))
  matched_upto n g h =
      alike (matched f (upto n g) (upto n h)) (all n (λ k. f (g k) (h k)))
      (λ e. all_by (λ k. f (g k) (h k)) n (matched_at n g h e)) (λ e. matched_by f n g h (all_at (λ k. f (g k) (h k)) n e))

-- ---- the first field outside

pub none_outside : (j n : ℕ) (g : ℕ → Field) (h : ℕ → Value) → ((k : ℕ) → k < n → in_range (g k) (h k) ≡ true) → first_outside j (upto n g) (upto n h) ≡ none
unfolding first_outside upto
none_outside j zero g h e = refl
none_outside j (suc n) g h e = rw (e zero (suc-le-suc zero-le)) (none_outside (suc j) n (λ k. g (suc k)) (λ k. h (suc k)) (λ k l. e (suc k) (suc-le-suc l)))

pub one_outside : (j n : ℕ) (g : ℕ → Field) (h : ℕ → Value) (r : ℕ) → r < n → ((k : ℕ) → k < r → in_range (g k) (h k) ≡ true) → in_range (g r) (h r) ≡ false
    → first_outside j (upto n g) (upto n h) ≡ some (j + r)
unfolding first_outside upto
one_outside j zero g h r l b e = absurd (not-suc-le-zero l)
one_outside j (suc n) g h zero l b e = rw (e, add-zero j)
one_outside j (suc n) g h (suc r) l b e =
    rw (b zero (suc-le-suc zero-le)) (one_outside (suc j) n (λ k. g (suc k)) (λ k. h (suc k)) r (le_of_suc-le-suc l) (λ k x. b (suc k) (suc-le-suc x)) e ∙ ap some (omega arith))

-- ---- a message against a table

module _ (t : List ℕ) (n i : ℕ) (message : List ℕ) (w : Whole message) where
  abbrev branch : ℕ → Branch
  branch = branch_at t

  -- one compare of labels and one of owners is the whole test of a branch
  named_names : (k : ℕ) → names i (take 8 message) (branch k) ≡ branch_named t i message k
  unfolding names branch_named
  named_names k =
      let label = label_of (word_at t k) in
      let law = label_in_place message (word_at t k) in
      ap (λ b. eqb (owner_at t k) i && b)
      (alike (same label (take 8 message)) (has_label message (word_at t k)) (λ e. law.1 (omega (arith, w.nine), sym (same_eq label (take 8 message) e)))
      (λ e. subst (λ x. same label x ≡ true) (sym (law.0 e).1) (same_refl label)))

  module _ (r : ℕ) (first : First (branch_named t i message) n r) where
    not_before : (k : ℕ) → k < r → names i (take 8 message) (branch k) ≡ false
    not_before k l = named_names k ∙ first.before k l

    pub no_label_here : n ≤ r → judge_among (upto n branch) i (read message) ≡ (forbidden 1 none)
    unfolding read
    no_label_here h = none_named i (read message) n branch (λ k l. not_before k (omega arith))

    module _ (l : r < n) where
      -- the branch that is named decides, by its places
      branch_decides : judge_among (upto n branch) i (read message) ≡ by_fields (branch r).fields (branch r).target (upto (count_of message) (value_at message))
      unfolding read
      branch_decides =
          first_named i (read message) n branch r l not_before (named_names r ∙ first.there l)
          ∙ ap (by_fields (branch r).fields (branch r).target) (values_places message w.arrays)

      pub other_count : (get_or message 8 0 ≡ count_at t r → ⊥) → judge_among (upto n branch) i (read message) ≡ (forbidden 2 none)
      unfolding by_fields count_of
      other_count d =
          branch_decides
          ∙ ap (λ b. cond b (by_range (target_at t r) (first_outside 0 (branch r).fields (upto (count_of message) (value_at message)))) (forbidden 2 none))
          (refuted (matched same_kind (branch r).fields (upto (count_of message) (value_at message)))
          (λ e. d (sym (sym (upto_length (count_at t r) _) ∙ matched_length same_kind (branch r).fields (upto (count_of message) (value_at message)) e ∙ upto_length (count_of message) (value_at message)))))

      module _ (e : get_or message 8 0 ≡ count_at t r) where
        abbrev count : ℕ
        count = count_at t r

        abbrev field : ℕ → Field
        field f = record { kind = kind_at t (4 * r + f); low = low_at t (4 * r + f); high = high_at t (4 * r + f) }

        by_places : judge_among (upto n branch) i (read message)
            ≡ cond (matched same_kind (upto count field) (upto count (value_at message))) (by_range (target_at t r) (first_outside 0 (upto count field) (upto count (value_at message)))) (forbidden 2 none)
        unfolding by_fields count_of
        by_places = branch_decides ∙ ap (λ c. by_fields (branch r).fields (branch r).target (upto c (value_at message))) e

        kinds_by_places : matched same_kind (upto count field) (upto count (value_at message)) ≡ all count (λ f. kind_is t message (4 * r + f) f)
        unfolding same_kind kind_is
        kinds_by_places = matched_upto same_kind count field (value_at message)

        pub other_kinds_here : all count (λ f. kind_is t message (4 * r + f) f) ≡ false → judge_among (upto n branch) i (read message) ≡ (forbidden 2 none)
        other_kinds_here h = by_places ∙ rw (kinds_by_places ∙ h)

        module _ (kinds : all count (λ f. kind_is t message (4 * r + f) f) ≡ true) (f : ℕ) (out : First (λ f. not (inside t message (4 * r + f) f)) count f) where
          by_ranges : judge_among (upto n branch) i (read message) ≡ by_range (target_at t r) (first_outside 0 (upto count field) (upto count (value_at message)))
          by_ranges = by_places ∙ rw (kinds_by_places ∙ kinds)

          inside_before : (k : ℕ) → k < f → in_range (field k) (value_at message k) ≡ true
          unfolding in_range inside
          inside_before k x = not-false (in_range (field k) (value_at message k)) (out.before k x)

          pub outside_here : f < count → judge_among (upto n branch) i (read message) ≡ forbidden 3 (some f)
          unfolding by_range in_range inside
          outside_here x =
              by_ranges
              ∙ ap (by_range (target_at t r)) (one_outside 0 count field (value_at message) f x inside_before (not-true (in_range (field f) (value_at message f)) (out.there x)) ∙ ap some (omega arith))

          pub allowed_here : count ≤ f → judge_among (upto n branch) i (read message) ≡ allowed (target_at t r)
          unfolding by_range
          allowed_here x = by_ranges ∙ ap (by_range (target_at t r)) (none_outside 0 count field (value_at message) (λ k y. inside_before k (omega arith)))

          -- and it is that branch which the message takes
          pub chosen_here : count ≤ f → selected_from 0 (upto n branch) i (read message) ≡ some r
          unfolding read
          chosen_here x =
              first_chosen i (read message) 0 n branch r l not_before (named_names r ∙ first.there l)
              ((branch_allowed (branch r) (read message).values (target_at t r)).0
              (sym (first_named i (read message) n branch r l not_before (named_names r ∙ first.there l)) ∙ allowed_here x)).0
              ∙ ap some (zero-add r)
