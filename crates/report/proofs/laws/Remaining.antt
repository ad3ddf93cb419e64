-- The moves that remain, from some machine on: what a failing answer says of all its moves is said of those that remain after each,
-- and their text is the first one's line and the text of the rest.
-- Assumes nothing.
use mathlib.Core.Path.{◌≡◌, refl}
use mathlib.Core.Bool.{Bool, true, false, cond}
use mathlib.Core.List.{List, [], ◌∷◌, ◌++◌, append_assoc}
use mathlib.Core.Option.{Option, none}
use Prim.Native.Nat.{ℕ, suc, ◌≤◌}
use native.Mathlib.Nat.{not-suc-le-zero, le_of_suc-le-suc}
use lib.ListN.{length}
use Rattle.table.specs.Lists.{every}
use Rattle.table.specs.Table.{same_sort, Table, sort}
use Rattle.table.proofs.laws.Lists.{both, join}
use Rattle.message.specs.Message.{count_of, well_formed}
use Rattle.message.specs.Rules.{Rules, table_rules}
use Rattle.machine.specs.Machine.{running, jammed, Machine, arrived, fresh_machine, Move, moves, move, does, play, run, bad, is_forward, all_forwarded, Fewest}
use Rattle.machine.specs.Fit.{spoken, shown, but_last, last_count, field_named, Failing}
use Rattle.report.specs.Report.{move_line, move_lines, ending}
use Rattle.report.specs.inner.Playing.{lines_from}

-- the field of the first move, where those moves follow it
unfoldable pub at_last : List ℕ → Option ℕ → Option ℕ
at_last [] h = h
at_last (l ∷ r) h = none

module _ (d p : Table) where
  abbrev D : Rules ℕ
  D = table_rules d

  abbrev P : Rules ℕ
  P = table_rules p

  pub record Remains (m : Machine ℕ ℕ) (ks : List ℕ) (h : Option ℕ) : Type 0 where
    pub real : moves (shown d p m ks h) ≡ true
    pub forwarded : all_forwarded D P m (but_last (shown d p m ks h)) ≡ true
    pub ends_badly : bad (play D P m (shown d p m ks h)).standing ≡ true
    pub field_is_there : field_named h (last_count (shown d p m ks h)) ≡ true
    pub fewest : (vs : List Move) → moves vs ≡ true → bad (play D P m vs).standing ≡ true → length ks ≤ length vs

  pub remains_start : (ks : List ℕ) (h : Option ℕ) → Failing d p ks h → Fewest D P (length ks) → Remains (fresh_machine D P) ks h
  unfolding Fewest run
  remains_start ks h f g =
      record { real = f.real; forwarded = f.forwarded; ends_badly = f.ends_badly; field_is_there = f.field_is_there; fewest = g }

  -- the first of the moves that remain
  abbrev pub first : Machine ℕ ℕ → ℕ → List ℕ → Option ℕ → Move
  first m k r h = spoken d p (sort d m.state) k (at_last r h)

  pub first_real : (m : Machine ℕ ℕ) (k : ℕ) (r : List ℕ) (h : Option ℕ) → Remains m (k ∷ r) h
      → (well_formed (first m k r h).bytes ≡ true) × (field_named (at_last r h) (count_of (first m k r h).bytes) ≡ true)
  unfolding at_last shown moves every last_count field_named
  first_real m k [] h f = ((both (well_formed (first m k [] h).bytes) true f.real).0, f.field_is_there)
  first_real m k (l ∷ r) h f =
      let v = first m k (l ∷ r) h in
      ((both (well_formed v.bytes) (moves (shown d p (move D P m v) (l ∷ r) h)) f.real).0, refl)

  -- a move that is not the last is forwarded, and what is known of the rest stays known
  pub first_forwarded : (m : Machine ℕ ℕ) (k l : ℕ) (r : List ℕ) (h : Option ℕ) → Remains m (k ∷ l ∷ r) h
      → is_forward (does D P m (first m k (l ∷ r) h)) ≡ true
  unfolding at_last shown all_forwarded but_last
  first_forwarded m k l [] h f =
      let v = first m k (l ∷ []) h in
      (both (is_forward (does D P m v)) true f.forwarded).0
  first_forwarded m k l (n ∷ r) h f =
      let v = first m k (l ∷ n ∷ r) h in
      (both (is_forward (does D P m v)) (all_forwarded D P (move D P m v) (but_last (shown d p (move D P m v) (l ∷ n ∷ r) h)))
      f.forwarded).0

  fewer : (m : Machine ℕ ℕ) (k : ℕ) (r : List ℕ) (v : Move) → well_formed v.bytes ≡ true
      → ((vs : List Move) → moves vs ≡ true → bad (play D P m vs).standing ≡ true → length (k ∷ r) ≤ length vs)
      → (vs : List Move) → moves vs ≡ true → bad (play D P (move D P m v) vs).standing ≡ true → length r ≤ length vs
  unfolding moves every play
  fewer m k r v w f vs e b = le_of_suc-le-suc (f (v ∷ vs) (join w e) b)

  pub remains_next : (m : Machine ℕ ℕ) (k l : ℕ) (r : List ℕ) (h : Option ℕ) → Remains m (k ∷ l ∷ r) h
      → Remains (move D P m (first m k (l ∷ r) h)) (l ∷ r) h
  unfolding at_last shown moves every all_forwarded but_last play last_count
  remains_next m k l [] h f =
      let v = first m k (l ∷ []) h in
      let w = both (well_formed v.bytes) (moves (shown d p (move D P m v) (l ∷ []) h)) f.real in
      record {
        real = w.1;
        forwarded = refl;
        ends_badly = f.ends_badly;
        field_is_there = f.field_is_there;
        fewest = fewer m k (l ∷ []) v w.0 f.fewest;
      }
  remains_next m k l (n ∷ r) h f =
      let v = first m k (l ∷ n ∷ r) h in
      let w = both (well_formed v.bytes) (moves (shown d p (move D P m v) (l ∷ n ∷ r) h)) f.real in
      record {
        real = w.1;
        forwarded =
            (both (is_forward (does D P m v)) (all_forwarded D P (move D P m v) (but_last (shown d p (move D P m v) (l ∷ n ∷ r) h)))
            f.forwarded).1;
        ends_badly = f.ends_badly;
        field_is_there = f.field_is_there;
        fewest = fewer m k (l ∷ n ∷ r) v w.0 f.fewest;
      }

  -- where moves remain the machine runs: else fewer would do
  pub remains_running : (i j k : ℕ) (r : List ℕ) (h : Option ℕ) → Remains (arrived D P i j) (k ∷ r) h
      → same_sort (sort d i) (sort p j) ≡ true
  unfolding arrived play moves every bad
  remains_running i j k r h f = go (same_sort (sort d i) (sort p j)) (f.fewest [] refl)
    where
      go : (b : Bool) → (bad (cond b running jammed) ≡ true → suc (length r) ≤ 0) → b ≡ true
      go true n = refl
      go false n = absurd (not-suc-le-zero (n refl))

  -- after the last move the machine stands badly
  pub last_bad : (m : Machine ℕ ℕ) (k : ℕ) (h : Option ℕ) → Remains m (k ∷ []) h → bad (move D P m (first m k [] h)).standing ≡ true
  unfolding at_last shown play
  last_bad m k h f = f.ends_badly

  -- ---- the text

  pub rest_none : (m : Machine ℕ ℕ) (h : Option ℕ) → lines_from d p m [] h ≡ ending m.standing
  unfolding lines_from shown move_lines play
  rest_none m h = refl

  pub rest_first : (m : Machine ℕ ℕ) (k : ℕ) (r : List ℕ) (h : Option ℕ)
      → lines_from d p m (k ∷ r) h ≡ move_line (first m k r h) (at_last r h) ++ lines_from d p (move D P m (first m k r h)) r h
  unfolding at_last lines_from shown move_lines play
  rest_first m k [] h = refl
  rest_first m k (l ∷ []) h =
      let v = first m k (l ∷ []) h in
      let m' = move D P m v in
      append_assoc (move_line v none) (move_lines (shown d p m' (l ∷ []) h) h) (ending (play D P m' (shown d p m' (l ∷ []) h)).standing)
  rest_first m k (l ∷ n ∷ r) h =
      let v = first m k (l ∷ n ∷ r) h in
      let m' = move D P m v in
      append_assoc (move_line v none) (move_lines (shown d p m' (l ∷ n ∷ r) h) h)
      (ending (play D P m' (shown d p m' (l ∷ n ∷ r) h)).standing)
