-- What a sound table of lists is made of, branch by branch.
-- Assumes nothing.
use Rattle.std.proofs.Common.{◌≡◌, ℕ, zero, suc, ◌<◌, ◌≤◌, Bool, true, ◌&&◌, ltb, leb, List, [], ◌∷◌, length, get_or, le_of_suc-le-suc, not-suc-le-zero, ltb-true, leb-true}
use Rattle.table.specs.Lists.{every}
use Rattle.table.specs.Table.{Branch, Table, sort, is_choice, legal_label, legal_field, legal_branch, labels_differ, choices_own, sound}
use Rattle.table.proofs.laws.Lists.{both}

pub every_get_d : {A : Type 0} (f : A → Bool) (r : List A) (d : A) → every f r ≡ true → (k : ℕ) → k < length r → f (get_or r k d) ≡ true
unfolding every
every_get_d f [] d e k l = absurd (not-suc-le-zero l)
every_get_d f (a ∷ r) d e zero l = (both (f a) (every f r) e).0
every_get_d f (a ∷ r) d e (suc k) l = every_get_d f r d (both (f a) (every f r) e).1 k (le_of_suc-le-suc l)

-- a branch that keeps the limits
pub record Legal (b : Branch) : Type 0 where
  pub spelt : legal_label b.label ≡ true
  pub few : length b.fields ≤ 4
  pub ranges : every legal_field b.fields ≡ true

-- what the laws take of a sound table; the branch with number k is the k-th of the list, whatever stands past its end
pub record Sound (t : Table) : Type 0 where
  pub some_state : 1 ≤ length t.sorts
  pub most_states : length t.sorts ≤ 32
  pub legal : (d : Branch) (k : ℕ) → k < length t.branches → Legal (get_or t.branches k d)
  pub leads : (d : Branch) (k : ℕ) → k < length t.branches → (get_or t.branches k d).target < length t.sorts
  pub differ : labels_differ t.branches ≡ true

module _ (t : Table) where
  legal_parts : (b : Branch) → legal_branch t b ≡ true → Legal b × (b.target < length t.sorts)
  unfolding legal_branch
  legal_parts b e =
      let n = length t.sorts in
      let o = ltb b.owner n && is_choice (sort t b.owner) in
      let l = legal_label b.label in
      let c = leb (length b.fields) 4 in
      let r = every legal_field b.fields in
      let x = both (o && ltb b.target n && l && c) r e in
      let y = both (o && ltb b.target n && l) c x.0 in
      let z = both (o && ltb b.target n) l y.0 in
      (record { spelt = z.1; few = leb-true (length b.fields) 4 y.1; ranges = x.1 }, ltb-true b.target n (both o (ltb b.target n) z.0).1)

  pub sound_parts : sound t ≡ true → Sound t
  unfolding sound
  sound_parts e =
      let n = length t.sorts in
      let m = leb (length t.branches) 128 in
      let g = every (legal_branch t) t.branches in
      let o = choices_own t.branches 0 t.sorts in
      let x = both (leb 1 n && leb n 32 && m && g && o) (labels_differ t.branches) e in
      let y = both (leb 1 n && leb n 32 && m && g) o x.0 in
      let z = both (leb 1 n && leb n 32 && m) g y.0 in
      let w = both (leb 1 n && leb n 32) m z.0 in
      let v = both (leb 1 n) (leb n 32) w.0 in
      record {
        some_state = leb-true 1 n v.0;
        most_states = leb-true n 32 v.1;
        legal = λ d k l. (legal_parts (get_or t.branches k d) (every_get_d (legal_branch t) t.branches d z.1 k l)).0;
        leads = λ d k l. (legal_parts (get_or t.branches k d) (every_get_d (legal_branch t) t.branches d z.1 k l)).1;
        differ = x.1;
      }
