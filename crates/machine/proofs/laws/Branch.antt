-- What a sound table gives, by places of its branches.
-- Assumes nothing.
use mathlib.Core.Path.{◌≡◌, subst}
use mathlib.Core.Bool.{true}
use mathlib.Core.List.{[]}
use Prim.Native.Nat.{ℕ, ◌≤◌, ◌<◌}
use lib.ListN.{length}
use Rattle.table.specs.Table.{Branch, Table, labels_differ, sound}
use Rattle.table.proofs.laws.Table.{Legal, sound_parts}
use Rattle.machine.proofs.laws.At.{At, place_within, place_item}

-- what the theorems take of a sound table
pub record Sound (t : Table) : Type 0 where
  pub some_state : 1 ≤ length t.sorts
  pub most_states : length t.sorts ≤ 32
  pub differ : labels_differ t.branches ≡ true
  pub legal : (k : ℕ) (b : Branch) → At k b t.branches → Legal b
  pub leads : (k : ℕ) (b : Branch) → At k b t.branches → b.target < length t.sorts

pub sound_has : (t : Table) → sound t ≡ true → Sound t
sound_has t e =
    let x = sound_parts t e in
    let past : Branch = record { owner = 0; label = []; fields = []; target = 0 } in
    record {
      some_state = x.some_state;
      most_states = x.most_states;
      differ = x.differ;
      legal = λ k b h. subst (λ (b : Branch). Legal b) (place_item past h) (x.legal past k (place_within h));
      leads = λ k b h. subst (λ (b : Branch). b.target < length t.sorts) (place_item past h) (x.leads past k (place_within h));
    }
