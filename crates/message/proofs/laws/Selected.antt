-- The number of the branch that a message takes: the first that carries it, and so the one whose target it goes to.
-- Assumes nothing.
use Rattle.std.proofs.Common.{◌≡◌, ℕ, zero, suc, ◌+◌, ◌<◌, Bool, true, false, cond, List, [], ◌∷◌, length, get_or, sym, refl, ap, ◌∙◌, suc-le-suc, zero-le, le_of_suc-le-suc, not-suc-le-zero, add-zero, arith}
use mathlib.Core.Option.{none, some}
use Rattle.table.specs.Lists.{upto, matched}
use Rattle.table.specs.Table.{Branch}
use Rattle.table.proofs.laws.Lists.{both}
use Rattle.message.specs.Message.{Message}
use Rattle.message.specs.Judge.{holds, names, carries, goes, selected_from}
use Rattle.message.proofs.laws.Judge.{none_some, some_eq, names_parts}

module _ (i : ℕ) (m : Message) where
  -- ---- in a list of branches, counted from j

  pub record At (bs : List Branch) (d : Branch) (j k : ℕ) : Type 0 where
    pub place : ℕ
    pub counted : k ≡ j + place
    pub there : place < length bs
    pub carried : carries i m (get_or bs place d) ≡ true
    pub leads : goes bs i m ≡ some (get_or bs place d).target

  pub chosen_at : (bs : List Branch) (d : Branch) (j k : ℕ) → selected_from j bs i m ≡ some k → At bs d j k
  unfolding selected_from goes
  chosen_at [] d j k e = none_some e
  chosen_at (b ∷ r) d j k e = go (carries i m b) refl e (chosen_at r d (suc j) k)
    where
      go : (x : Bool) → carries i m b ≡ x → cond x (some j) (selected_from (suc j) r i m) ≡ some k
          → (selected_from (suc j) r i m ≡ some k → At r d (suc j) k) → At (b ∷ r) d j k
      go true q e h =
          let z : j ≡ k = some_eq e in
          record { place = zero; counted = omega arith; there = suc-le-suc zero-le; carried = q; leads = ap (λ x. cond x (some b.target) (goes r i m)) q }
      go false q e h =
          let x = h e in
          record {
            place = suc x.place;
            counted = omega (arith, x.counted);
            there = suc-le-suc x.there;
            carried = x.carried;
            leads = ap (λ y. cond y (some b.target) (goes r i m)) q ∙ x.leads;
          }

  pub none_goes : (bs : List Branch) (j : ℕ) → selected_from j bs i m ≡ none → goes bs i m ≡ none
  unfolding selected_from goes
  none_goes [] j e = refl
  none_goes (b ∷ r) j e = go (carries i m b) e (none_goes r (suc j))
    where
      go : (x : Bool) → cond x (some j) (selected_from (suc j) r i m) ≡ none → (selected_from (suc j) r i m ≡ none → goes r i m ≡ none)
          → cond x (some b.target) (goes r i m) ≡ none
      go true e h = none_some (sym e)
      go false e h = h e

  pub none_chosen : (bs : List Branch) (j : ℕ) → goes bs i m ≡ none → selected_from j bs i m ≡ none
  unfolding selected_from goes
  none_chosen [] j e = refl
  none_chosen (b ∷ r) j e = go (carries i m b) e (none_chosen r (suc j))
    where
      go : (x : Bool) → cond x (some b.target) (goes r i m) ≡ none → (goes r i m ≡ none → selected_from (suc j) r i m ≡ none)
          → cond x (some j) (selected_from (suc j) r i m) ≡ none
      go true e h = none_some (sym e)
      go false e h = h e

  -- by places: the first branch that is named carries the message
  pub first_chosen : (j n : ℕ) (g : ℕ → Branch) (r : ℕ) → r < n → ((k : ℕ) → k < r → names i m.label (g k) ≡ false)
      → names i m.label (g r) ≡ true → matched holds (g r).fields m.values ≡ true → selected_from j (upto n g) i m ≡ some (j + r)
  unfolding selected_from upto carries
  first_chosen j zero g r l h e f = absurd (not-suc-le-zero l)
  first_chosen j (suc n) g zero l h e f = rw (e, f, add-zero j)
  first_chosen j (suc n) g (suc r) l h e f =
      rw (h zero (suc-le-suc zero-le))
      (first_chosen (suc j) n (λ k. g (suc k)) r (le_of_suc-le-suc l) (λ k x. h (suc k) (suc-le-suc x)) e f ∙ ap some (omega arith))

-- a branch that carries a message is one of the state's
pub carries_owner : (i : ℕ) (m : Message) (b : Branch) → carries i m b ≡ true → b.owner ≡ i
unfolding carries
carries_owner i m b e = (names_parts i m.label b (both (names i m.label b) (matched holds b.fields m.values) e).0).0
