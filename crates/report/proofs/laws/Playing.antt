-- The loop over the moves: what is written and what remains are the whole text; where moves remain the machine runs at the pair of
-- states that is kept, and after the last one the pair says how it stands.
-- Assumes nothing.
use mathlib.Core.Path.{◌≡◌, refl, sym, ap, ap₂, ◌∙◌, subst}
use mathlib.Core.Bool.{Bool, true, false, cond, false≢true}
use mathlib.Core.List.{List, [], ◌∷◌, ◌++◌, append_assoc}
use mathlib.Core.Option.{Option, none, some}
use Prim.Native.Nat.{ℕ, ◌+◌, ◌-◌, ◌*◌, ◌≤◌, ◌<◌}
use native.Mathlib.Numerals.{add-one}
use native.Mathlib.Omega.{arith}
use lib.ListN.{length, get_or, drop, length-drop}
use lib.Seq.{drop-cons, drop-length}
use lib.Dec.{ltb}
use borrow.Author.Tests.{lt-ltb, le-ltb}
use Rattle.table.specs.Table.{same_sort, sort}
use Rattle.table.specs.View.{Words, states_of, view, sound_of}
use Rattle.table.proofs.laws.View.{sound_facts, sorts_of}
use Rattle.message.specs.Message.{Message}
use Rattle.message.specs.Judge.{allows}
use Rattle.machine.specs.Machine.{Standing, running, device_blamed, host_blamed, jammed, Machine, arrived, fresh_machine, Move, Effect, nothing, forward, halt, effect, does, after, move, play, run, bad, is_forward, Fewest}
use Rattle.machine.specs.Fit.{shown, Failing}
use Rattle.machine.proofs.laws.Goes.{goes_by}
use Rattle.fit.proofs.laws.CoveredBy.{view_sound}
use Rattle.machine.specs.inner.Walks.{does_at}
use Rattle.machine.proofs.laws.Does.{Doing, device_on, host_on, doing, does_there}
use Rattle.report.specs.Report.{move_line, ending}
use Rattle.report.specs.inner.Playing.{rules, lines_from, all_lines, blames, kept, pair_of, Plays, move_at, Ready, high_in, ListShows}
use Rattle.report.specs.declared.play.Pair.{Pair}
use Rattle.report.proofs.laws.Remaining.{at_last, Remains, remains_start, first, first_real, first_forwarded, remains_next, remains_running, last_bad, rest_none, rest_first}

-- ---- one move from a pair of one sort

-- a table's messages lead to its states
leads_inside : (t : Words) → sound_of t ≡ true → (i : ℕ) (m : Message) (x : ℕ) → allows (view t) i m ≡ some x → x < states_of t
unfolding allows
leads_inside t s i m x e =
    let f = goes_by (view t).branches i m x e in
    omega (arith, (view_sound t s).leads f.place f.item f.at, f.is.1, sorts_of t)

-- where a move is forwarded the pair is the one that it leads to
record Goes (d p : Words) (i j : ℕ) (v : Move) (r : Pair) : Type 0 where
  arrives : move (rules d) (rules p) (arrived (rules d) (rules p) i j) v ≡ arrived (rules d) (rules p) r.state r.position
  state_inside : r.state < states_of d
  position_inside : r.position < states_of p

module _ (d p : Words) (sd : sound_of d ≡ true) (sp : sound_of p ≡ true) (i j : ℕ)
    (alike : same_sort (sort (view d) i) (sort (view p) j) ≡ true)
    (v : Move) (r : Pair) (e : pair_of r ≡ kept i j (effect (rules d) (rules p) i j v)) where
  goes : is_forward (does (rules d) (rules p) (arrived (rules d) (rules p) i j) v) ≡ true → Goes d p i j v r
  unfolding does_at move after is_forward kept
  goes f = go (does_at (view d) (view p) i j v) refl (doing (view d) (view p) i j v) f
    where
      on : (x y : ℕ) → does_at (view d) (view p) i j v ≡ forward x y → x < states_of d → y < states_of p → Goes d p i j v r
      on x y q l m =
          let w = e ∙ ap (kept i j) (sym (does_there (view d) (view p) i j v alike) ∙ q) in
          let a : r.state ≡ x = ap (λ (s : ℕ × ℕ × Bool). s.0) w in
          let b : r.position ≡ y = ap (λ (s : ℕ × ℕ × Bool). s.1) w in
          record {
            arrives =
                ap (after (rules d) (rules p) (arrived (rules d) (rules p) i j)) q ∙ ap₂ (arrived (rules d) (rules p)) (sym a) (sym b);
            state_inside = omega (arith, l, a);
            position_inside = omega (arith, m, b);
          }

      go : (x : Effect ℕ ℕ) → does_at (view d) (view p) i j v ≡ x → Doing (view d) (view p) i j v x → is_forward x ≡ true
          → Goes d p i j v r
      go (forward x y) q (device_on a b f g) z = on x y q (leads_inside d sd i _ x f) (leads_inside p sp j _ y g)
      go (forward x y) q (host_on a b f g) z = on x y q (leads_inside d sd i _ x f) (leads_inside p sp j _ y g)
      go nothing q w z = absurd (false≢true z)
      go (halt s) q w z = absurd (false≢true z)

  -- a move after which the machine stands badly
  stops : bad (move (rules d) (rules p) (arrived (rules d) (rules p) i j) v).standing ≡ true
      → ending (move (rules d) (rules p) (arrived (rules d) (rules p) i j) v).standing
      ≡ cond r.blamed (ending device_blamed) (ending jammed)
  unfolding does_at move after bad kept blames arrived
  stops b =
      rw (does_there (view d) (view p) i j v alike)
      (go (effect (rules d) (rules p) i j v) (e)
      (subst (λ (x : Effect ℕ ℕ). bad (after (rules d) (rules p) (arrived (rules d) (rules p) i j) x).standing ≡ true)
      (does_there (view d) (view p) i j v alike) b))
    where
      by : (s : Standing) (c : Bool) → bad s ≡ true → c ≡ blames s → ending s ≡ cond c (ending device_blamed) (ending jammed)
      by running c z q = absurd (false≢true z)
      by device_blamed c z q = rw q
      by host_blamed c z q = absurd (false≢true z)
      by jammed c z q = rw q

      not_blamed : (x : Bool) (c : Bool) → bad (cond x running jammed) ≡ true → c ≡ false
          → ending (cond x running jammed) ≡ cond c (ending device_blamed) (ending jammed)
      not_blamed true c z q = absurd (false≢true z)
      not_blamed false c z q = rw q

      go : (x : Effect ℕ ℕ) → pair_of r ≡ kept i j x → bad (after (rules d) (rules p) (arrived (rules d) (rules p) i j) x).standing ≡ true
          → ending (after (rules d) (rules p) (arrived (rules d) (rules p) i j) x).standing
          ≡ cond r.blamed (ending device_blamed) (ending jammed)
      go nothing q z = not_blamed (same_sort (sort (view d) i) (sort (view p) j)) r.blamed z (ap (λ (s : ℕ × ℕ × Bool). s.2) q)
      go (forward x y) q z = not_blamed (same_sort (sort (view d) x) (sort (view p) y)) r.blamed z (ap (λ (s : ℕ × ℕ × Bool). s.2) q)
      go (halt s) q z = by s r.blamed z (ap (λ (s : ℕ × ℕ × Bool). s.2) q)

-- ---- the loop

-- the moves that are left are few, and the first of them is the one at place n
rest_at : (ks : List ℕ) (n : ℕ) → n < length ks → drop n ks ≡ get_or ks n 0 ∷ drop (n + 1) ks
rest_at ks n l = drop-cons ks n 0 l ∙ ap (λ (m : ℕ). get_or ks n 0 ∷ drop m ks) (sym (add-one n))

high_last : (ks : List ℕ) (n : ℕ) (h : Option ℕ) → n < length ks → high_in n (length ks) h ≡ at_last (drop (n + 1) ks) h
unfolding high_in at_last
high_last ks n h l = go (drop (n + 1) ks) (length-drop (n + 1) ks)
  where
    go : (r : List ℕ) → length r ≡ length ks - (n + 1) → cond (ltb (n + 1) (length ks)) none h ≡ at_last r h
    go [] e = rw (le-ltb (n + 1) (length ks) (omega (arith, e)))
    go (k ∷ r) e = rw (lt-ltb (n + 1) (length ks) (omega (arith, e)))

-- the field that is high is one of the last move's
pub none_high : (n K : ℕ) (h : Option ℕ) → n + 1 < K → none ≡ high_in n K h
unfolding high_in
none_high n K h l = rw (lt-ltb (n + 1) K l)

pub last_high : (n K : ℕ) (h : Option ℕ) → K ≤ n + 1 → h ≡ high_in n K h
unfolding high_in
last_high n K h l = rw (le-ltb (n + 1) K l)

pub record Playing (d p : Words) (ks : List ℕ) (h : Option ℕ) (before now : List ℕ) (r : Pair) (n : ℕ) : Type 0 where
  pub machine : Machine ℕ ℕ
  pub most : n ≤ length ks
  pub whole : now ++ lines_from (view d) (view p) machine (drop n ks) h ≡ before ++ all_lines (view d) (view p) ks h
  pub bound : length now ≤ length before + 13 * n + 11
  pub bound_low : n < length ks → length now ≤ length before + 13 * n
  pub going : n < length ks
      → (machine ≡ arrived (rules d) (rules p) r.state r.position) × (r.state < states_of d) × (r.position < states_of p)
      × Remains (view d) (view p) machine (drop n ks) h
  pub over : n ≡ length ks → ending machine.standing ≡ cond r.blamed (ending device_blamed) (ending jammed)

module _ (d p : Words) (ks : List ℕ) (h : Option ℕ) (sd : sound_of d ≡ true) (sp : sound_of p ≡ true) where
  pub playing_start : (before : List ℕ) → Failing (view d) (view p) ks h → Fewest (rules d) (rules p) (length ks)
      → Playing d p ks h before before (record { state = 0; position = 0; blamed = false }) 0
  unfolding fresh_machine arrived bad shown run play
  playing_start before f g =
      record {
        machine = fresh_machine (rules d) (rules p);
        most = omega arith;
        whole = refl;
        bound = omega arith;
        bound_low = λ l. omega arith;
        going = λ l. (refl, (sound_facts d sd).some, (sound_facts p sp).some, remains_start (view d) (view p) ks h f g);
        over = λ e. none_left ks f e;
      }
    where
      jams : (x : Bool) → bad (cond x running jammed) ≡ true → ending (cond x running jammed) ≡ ending jammed
      jams true z = absurd (false≢true z)
      jams false z = refl

      none_left : (ks : List ℕ) → Failing (view d) (view p) ks h → 0 ≡ length ks
          → ending (fresh_machine (rules d) (rules p)).standing ≡ ending jammed
      none_left [] f e = jams (same_sort (sort (view d) 0) (sort (view p) 0)) f.ends_badly
      none_left (k ∷ r) f e = absurd (omega (arith, e))

  module _ {before now : List ℕ} {r : Pair} {n : ℕ} (g : Playing d p ks h before now r n) (l : n < length ks) where
    abbrev m : Machine ℕ ℕ
    m = arrived (rules d) (rules p) r.state r.position

    abbrev left : List ℕ
    left = drop (n + 1) ks

    abbrev k : ℕ
    k = get_or ks n 0

    remains : Remains (view d) (view p) m (k ∷ left) h
    remains =
        let w = g.going l in
        subst (λ (x : List ℕ). Remains (view d) (view p) m x h) (rest_at ks n l)
        (subst (λ (x : Machine ℕ ℕ). Remains (view d) (view p) x (drop n ks) h) w.0 w.3)

    alike : same_sort (sort (view d) r.state) (sort (view p) r.position) ≡ true
    alike = remains_running (view d) (view p) r.state r.position k left h remains

    field : high_in n (length ks) h ≡ at_last left h
    field = high_last ks n h l

    pub ready : Ready d p r.state r.position k (high_in n (length ks) h)
    unfolding arrived
    ready =
        let w = g.going l in
        let f = first_real (view d) (view p) m k left h remains in
        subst (λ (x : Option ℕ). Ready d p r.state r.position k x) (sym field)
        (record { speaking = record { i_inside = w.1; formed = f.0; field = f.1 }; j_inside = w.2; alike = alike })

-- ---- one move more

-- what is known once the move is played
module _ (d p : Words) (sd : sound_of d ≡ true) (sp : sound_of p ≡ true) (i j k : ℕ) (h : Option ℕ)
    (alike : same_sort (sort (view d) i) (sort (view p) j) ≡ true) (r : Pair) where
  abbrev there : Machine ℕ ℕ
  there = arrived (rules d) (rules p) i j

  abbrev this : List ℕ → Move
  this left = first (view d) (view p) there k left h

  abbrev Kept : List ℕ → Type 0
  Kept left = pair_of r ≡ kept i j (effect (rules d) (rules p) i j (this left))

  going_on : (left : List ℕ) → Remains (view d) (view p) there (k ∷ left) h → Kept left → 0 < length left
      → (move (rules d) (rules p) there (this left) ≡ arrived (rules d) (rules p) r.state r.position) × (r.state < states_of d)
      × (r.position < states_of p)
      × Remains (view d) (view p) (move (rules d) (rules p) there (this left)) left h
  going_on [] g e l = absurd (omega (arith, l))
  going_on (n ∷ left) g e l =
      let w = goes d p sd sp i j alike (this (n ∷ left)) r e (first_forwarded (view d) (view p) there k n left h g) in
      (w.arrives, w.state_inside, w.position_inside, remains_next (view d) (view p) there k n left h g)

  ending_on : (left : List ℕ) → Remains (view d) (view p) there (k ∷ left) h → Kept left → 0 ≡ length left
      → ending (move (rules d) (rules p) there (this left)).standing ≡ cond r.blamed (ending device_blamed) (ending jammed)
  ending_on [] g e l = stops d p sd sp i j alike (this []) r e (last_bad (view d) (view p) there k h g)
  ending_on (n ∷ left) g e l = absurd (omega (arith, l))

low_on : (left : List ℕ) (h : Option ℕ) → 0 < length left → at_last left h ≡ none
unfolding at_last
low_on [] h l = absurd (omega (arith, l))
low_on (n ∷ _) h l = refl

module _ (d p : Words) (sd : sound_of d ≡ true) (sp : sound_of p ≡ true) (ks : List ℕ) (h : Option ℕ) (s : ListShows d p ks h) where
  pub shows_start : (before : List ℕ) → Playing d p ks h before before (record { state = 0; position = 0; blamed = false }) 0
  shows_start before = playing_start d p ks h sd sp before s.failing s.fewest

  module _ {before now : List ℕ} {r : Pair} {n : ℕ} (g : Playing d p ks h before now r n) where
    pub shows_ready : n < length ks → {x : Option ℕ} → x ≡ high_in n (length ks) h → Ready d p r.state r.position (get_or ks n 0) x
    shows_ready l {x} e =
        subst (λ (x : Option ℕ). Ready d p r.state r.position (get_or ks n 0) x) (sym e) (ready d p ks h sd sp g l)

    -- what is left after n moves
    left_after : length (drop (n + 1) ks) ≡ length ks - (n + 1)
    left_after = length-drop (n + 1) ks

    pub shows_more : n < length ks → {x : Option ℕ} → x ≡ high_in n (length ks) h → {after : List ℕ} {next : Pair}
        → Plays (view d) (view p) r.state r.position (move_at (view d) (view p) r.state (get_or ks n 0) x) x now after next
        → Playing d p ks h before after next (n + 1)
    unfolding arrived
    shows_more l {x} e {after} {next} w₀ =
        record {
          machine = move (rules d) (rules p) m v;
          most = omega arith;
          whole =
              ap (λ l. l ++ lines_from (view d) (view p) (move (rules d) (rules p) m v) left h) w.written
              ∙ append_assoc now text (lines_from (view d) (view p) (move (rules d) (rules p) m v) left h)
              ∙ ap (λ l. now ++ l) (sym (rest_first (view d) (view p) m k left h)
              ∙ ap₂ (λ x y. lines_from (view d) (view p) x y h) (sym (g.going l).0) (sym (rest_at ks n l)))
              ∙ g.whole;
          bound = omega (arith, w.most, g.bound_low l);
          bound_low = λ q. omega (arith, w.most_low (low_on left h (omega (arith, left_after))), g.bound_low l);
          going =
              λ q. going_on d p sd sp r.state r.position k h near next left rem w.pair_is (omega (arith, left_after));
          over =
              λ q. ending_on d p sd sp r.state r.position k h near next left rem w.pair_is (omega (arith, left_after));
        }
      where
        m : Machine ℕ ℕ
        m = arrived (rules d) (rules p) r.state r.position

        left : List ℕ
        left = drop (n + 1) ks

        k : ℕ
        k = get_or ks n 0

        v : Move
        v = first (view d) (view p) m k left h

        text : List ℕ
        text = move_line v (at_last left h)

        rem : Remains (view d) (view p) m (k ∷ left) h
        rem = remains d p ks h sd sp g l

        near : same_sort (sort (view d) r.state) (sort (view p) r.position) ≡ true
        near = alike d p ks h sd sp g l

        w : Plays (view d) (view p) r.state r.position v (at_last left h) now after next
        w =
            subst (λ (x : Option ℕ). Plays (view d) (view p) r.state r.position
            (move_at (view d) (view p) r.state k x) x now after next)
            (e ∙ high_last ks n h l) w₀

    pub shows_end : length ks ≤ n → {after : List ℕ} → after ≡ now ++ cond r.blamed (ending device_blamed) (ending jammed)
        → after ≡ before ++ all_lines (view d) (view p) ks h
    shows_end l e =
        let all : n ≡ length ks = omega (arith, g.most, l) in
        e ∙ ap (λ l. now ++ l)
        (sym (g.over all) ∙ sym (rest_none (view d) (view p) g.machine h)
        ∙ ap (λ l. lines_from (view d) (view p) g.machine l h) (sym (ap (λ n. drop n ks) all ∙ drop-length ks)))
        ∙ g.whole
