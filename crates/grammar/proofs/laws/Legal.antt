-- What reading asks of a type as it goes is what is asked of the type as a whole: the names bound are those of the recs that are open, the
-- labels and the shares of a choice are those of its own rows, and the counts add up.
-- Assumes nothing.
use mathlib.Core.Path.{◌≡◌, refl, sym, ap, ap₂, subst, ◌∙◌}
use mathlib.Core.Bool.{cond, Bool, true, false, not, ◌&&◌, ◌||◌, true≢false, false≢true}
use mathlib.Core.Logic.{◌⊎◌, inl, inr}
use mathlib.Core.List.{List, [], ◌∷◌, ◌++◌, append_assoc}
use mathlib.Core.Option.{some}
use Prim.Native.Nat.{ℕ, suc, ◌+◌, ◌≤◌, ◌<◌}
use native.Mathlib.Omega.{arith}
use lib.Dec.{leb, eqb}
use lib.ListN.{length, length-append}
use borrow.Author.Tests.{le-leb, leb-true, eq-eqb, ne_eqb, eqb-true, eqb-false, not-true}
use Rattle.grammar.proofs.laws.Questions.{recs_guarded_br, ranges_legal_br, fields_few_br, labels_new_br, shares_legal_br}
use Rattle.table.specs.Lists.{every, same}
use Rattle.table.specs.Table.{Branch, of_choice, shares_right}
use Rattle.table.specs.View.{label_of}
use Rattle.table.proofs.laws.Lists.{both, join, all_three, never, refuted, left_fails}
use Rattle.table.proofs.laws.View.{label_eq, same_eq, same_refl}
use Rattle.grammar.specs.Token.{one_of}
use Rattle.grammar.specs.Grammar.{SyntaxField, Ty, stop, var, loop, choice, Br, last, also, Protocol, sorts, sorts_br, Scope, bind, first_state, share_of, shares, names_bound, names_bound_br, bare, recs_guarded, range_legal, ranges_legal, fields_few, label_among, labels_new, depth, depth_br, share_legal, shares_legal, choice_shares, sums_right, sums_right_br, nothing_bound, table_of, opening_legal, Legal, branch_for as row, branches as rows, branches_br as rowsBr}
use Rattle.grammar.specs.Reading.{Open, a_rec, a_choice, meaning, is_found, unguarded}
use Rattle.grammar.proofs.laws.Packed.{Label}
use Rattle.grammar.proofs.laws.NameToken.{Labelled, LabelledBr}
use Rattle.grammar.proofs.laws.Good.{has, All, Only, Good, GoodBr, all_good, Guarded, guarded_body}
use Rattle.grammar.proofs.laws.OfChoice.{chosen_none, chosen_append, shares_length, others, one_more}

-- ---- labels among rows

has_append : (o l : ℕ) (xs ys : List Branch) → has o l (xs ++ ys) ≡ (has o l xs || has o l ys)
has_append o l [] ys = refl
has_append o l (r ∷ xs) ys = ap (λ z. (eqb r.owner o && same r.label (label_of l)) || z) (has_append o l xs ys) ∙ grouped (eqb r.owner o && same r.label (label_of l)) (has o l xs) (has o l ys)
  where
    grouped : (a b c : Bool) → (a || (b || c)) ≡ ((a || b) || c)
    grouped true b c = refl
    grouped false b c = refl

none_both : {a b : Bool} → a ≡ false → b ≡ false → (a || b) ≡ false
none_both e f = ap₂ ◌||◌ e f

left_none : (a b : Bool) → (a || b) ≡ false → a ≡ false
left_none true b e = e
left_none false b e = refl

has_both : (o l : ℕ) (xs ys : List Branch) → has o l xs ≡ false → has o l ys ≡ false → has o l (xs ++ ys) ≡ false
has_both o l xs ys e f = has_append o l xs ys ∙ none_both e f

has_left : (o l : ℕ) (xs ys : List Branch) → has o l (xs ++ ys) ≡ false → has o l xs ≡ false
has_left o l xs ys e = left_none (has o l xs) (has o l ys) (sym (has_append o l xs ys) ∙ e)

has_right : (o l : ℕ) (xs ys : List Branch) → has o l (xs ++ ys) ≡ false → has o l ys ≡ false
has_right o l xs ys e = right_none (has o l xs) (has o l ys) (sym (has_append o l xs ys) ∙ e)
  where
    right_none : (a b : Bool) → (a || b) ≡ false → b ≡ false
    right_none true b e = absurd (true≢false e)
    right_none false b e = e

-- a row of another owner, or of another label
other_owner : (o l : ℕ) (r : Branch) → (r.owner ≡ o → ⊥) → has o l (r ∷ []) ≡ false
other_owner o l r h = none_both (left_fails (same r.label (label_of l)) (ne_eqb r.owner o h)) refl

other_label : (o l k : ℕ) (fs : List SyntaxField) (n : ℕ) → Label k → Label l → (k ≡ l → ⊥) → has o l (row o k fs n ∷ []) ≡ false
other_label o l k fs n c d h =
    rw (eq-eqb o o refl, refuted (same (label_of k) (label_of l)) (λ e. h (label_eq k l c.small d.small (same_eq (label_of k) (label_of l) e))))

own_row : (o k : ℕ) (fs : List SyntaxField) (n : ℕ) → has o k (row o k fs n ∷ []) ≡ true
own_row o k fs n = rw (eq-eqb o o refl, same_refl (label_of k))

-- the rows of a type are of its own states
mutual
  rows_none : (t : Ty) (e : Scope) (n o l : ℕ) → (o < n) ⊎ (n + length (sorts t) ≤ o) → has o l (rows t e n) ≡ false
  rows_none stop e n o l h = refl
  rows_none (var x) e n o l h = refl
  rows_none (loop x t) e n o l h = rows_none t (bind x n e) n o l h
  rows_none (choice w bs) e n o l (inl h) = rows_br_none bs e n (suc n) o l (λ z. omega arith) (inl (omega arith))
  rows_none (choice w bs) e n o l (inr h) = rows_br_none bs e n (suc n) o l (λ z. omega arith) (inr (omega arith))

  rows_br_none : (bs : Br) (e : Scope) (u n o l : ℕ) → (u ≡ o → ⊥) → (o < n) ⊎ (n + length (sorts_br bs) ≤ o) → has o l (rowsBr bs e u n) ≡ false
  rows_br_none (last k fs sh t) e u n o l z h = has_both o l (row u k fs (first_state t e n) ∷ []) (rows t e n) (other_owner o l (row u k fs (first_state t e n)) z) (rows_none t e n o l h)
  rows_br_none (also k fs sh t bs) e u n o l z h =
      let len = length-append (sorts t) (sorts_br bs) in
      has_both o l (row u k fs (first_state t e n) ∷ []) (rows t e n ++ rowsBr bs e u (n + length (sorts t))) (other_owner o l (row u k fs (first_state t e n)) z)
      (has_both o l (rows t e n) (rowsBr bs e u (n + length (sorts t)))
      (rows_none t e n o l (elim h [ inl a ↦ inl a | inr a ↦ inr (omega (arith, len)) ]))
      (rows_br_none bs e u (n + length (sorts t)) o l z (elim h [ inl a ↦ inl (omega arith) | inr a ↦ inr (omega (arith, len)) ])))

-- ---- names

abbrev names : List Open → List ℕ
names [] = []
names (a_rec x n ∷ O) = x ∷ names O
names (a_choice o ∷ O) = names O

names_mean : (O : List Open) (x : ℕ) → one_of (names O) x ≡ is_found (meaning O x)
unfolding meaning
names_mean [] x = refl
names_mean (a_rec y n ∷ O) x = ap₂ (λ c d. cond c true d) (swapped x y) (names_mean O x) ∙ found (eqb y x)
  where
    swapped : (a b : ℕ) → eqb a b ≡ eqb b a
    swapped a b = go (eqb b a) refl
      where
        go : (c : Bool) → eqb b a ≡ c → eqb a b ≡ c
        go true e = eq-eqb a b (sym (eqb-true b a e))
        go false e = ne_eqb a b (λ z. eqb-false b a e (sym z))

    found : (c : Bool) → cond c true (is_found (meaning O x)) ≡ is_found (cond c (some n) (meaning O x))
    found true = refl
    found false = refl
names_mean (a_choice o ∷ O) x = names_mean O x

-- ---- with n states, the rows rs and their shares ws

-- what the states from n on own is yet to come
record Laid (n : ℕ) (rs : List Branch) (ws : List ℕ) : Type 0 where
  fresh : (o l : ℕ) → n ≤ o → has o l rs ≡ false
  paired : length ws ≡ length rs
  unshared : (o : ℕ) → n ≤ o → of_choice o rs ws ≡ []

laid_choice : (n : ℕ) (rs : List Branch) (ws : List ℕ) → Laid n rs ws → Laid (suc n) rs ws
laid_choice n rs ws h = record { fresh = λ o l k. h.fresh o l (omega arith); paired = h.paired; unshared = λ o k. h.unshared o (omega arith) }

laid_row : (n : ℕ) (rs : List Branch) (ws : List ℕ) (r : Branch) (w : ℕ) → Laid n rs ws → r.owner < n → Laid n (rs ++ (r ∷ [])) (ws ++ (w ∷ []))
laid_row n rs ws r w h a = record {
  fresh = λ o l k. has_both o l rs (r ∷ []) (h.fresh o l k) (other_owner o l r (λ z. omega arith));
  paired = omega (arith, h.paired, length-append rs (r ∷ []), length-append ws (w ∷ []));
  unshared = λ o k. chosen_append o rs (r ∷ []) ws (w ∷ []) h.paired ∙ ap₂ ◌++◌ (h.unshared o k) (chosen_none o r w (λ z. omega arith));
}

laid_rows : (n : ℕ) (rs : List Branch) (ws : List ℕ) (t : Ty) (e : Scope) → Laid n rs ws → Laid (n + length (sorts t)) (rs ++ rows t e n) (ws ++ shares t)
laid_rows n rs ws t e h = record {
  fresh = λ o l k. has_both o l rs (rows t e n) (h.fresh o l (omega arith)) (rows_none t e n o l (inr k));
  paired = omega (arith, h.paired, shares_length t e n, length-append rs (rows t e n), length-append ws (shares t));
  unshared = λ o k. chosen_append o rs (rows t e n) ws (shares t) h.paired ∙ ap₂ ◌++◌ (h.unshared o (omega arith)) (others t e n o (inr k));
}

-- with O open, within the limits
record Here (O : List Open) (n : ℕ) (rs : List Branch) (ws : List ℕ) : Type 0 where
  states : n ≤ 32
  room : length rs ≤ 128
  nested : length O ≤ 16
  laid : Laid n rs ws

here_rec : (O : List Open) (n : ℕ) (rs : List Branch) (ws : List ℕ) (x : ℕ) → Here O n rs ws → length O < 16 → Here (a_rec x n ∷ O) n rs ws
here_rec O n rs ws x h a = record { states = h.states; room = h.room; nested = a; laid = h.laid }

here_choice : (O : List Open) (n : ℕ) (rs : List Branch) (ws : List ℕ) → Here O n rs ws → n < 32 → length O < 16 → Here (a_choice n ∷ O) (suc n) rs ws
here_choice O n rs ws h a b = record { states = a; room = h.room; nested = b; laid = laid_choice n rs ws h.laid }

here_row : (O : List Open) (n : ℕ) (rs : List Branch) (ws : List ℕ) (r : Branch) (w : ℕ) → Here O n rs ws → r.owner < n → length rs < 128
    → Here O n (rs ++ (r ∷ [])) (ws ++ (w ∷ []))
here_row O n rs ws r w h a b =
    record { states = h.states; room = omega (arith, length-append rs (r ∷ [])); nested = h.nested; laid = laid_row n rs ws r w h.laid a }

here_rows : (O : List Open) (n : ℕ) (rs : List Branch) (ws : List ℕ) (t : Ty) (e : Scope) → Here O n rs ws → n + length (sorts t) ≤ 32 → length rs + length (rows t e n) ≤ 128
    → Here O (n + length (sorts t)) (rs ++ rows t e n) (ws ++ shares t)
here_rows O n rs ws t e h a b =
    record { states = a; room = omega (arith, length-append rs (rows t e n)); nested = h.nested; laid = laid_rows n rs ws t e h.laid }

-- the tests of a type as a whole, by the numbers of their questions
record Fits (M : ℕ → Type 0 → Type 0) (t : Ty) (O : List Open) (n : ℕ) (rs : List Branch) : Type 0 where
  bound : M 4 (names_bound t (names O) ≡ true)
  guarded : M 5 (Guarded t O)
  ranges : M 6 (ranges_legal t ≡ true)
  labels : M 7 (labels_new t ≡ true)
  fields : M 8 (fields_few t ≡ true)
  states : M 8 (n + length (sorts t) ≤ 32)
  room : M 8 (length rs + length (rows t (meaning O) n) ≤ 128)
  nested : M 8 (length O + depth t ≤ 16)
  shares : M 19 (shares_legal t ≡ true)
  sums : M 20 (sums_right t ≡ true)

record FitsBr (M : ℕ → Type 0 → Type 0) (bs : Br) (O : List Open) (o n : ℕ) (rs : List Branch) (ws : List ℕ) : Type 0 where
  bound : M 4 (names_bound_br bs (names O) ≡ true)
  guarded : M 5 (recs_guarded_br bs ≡ true)
  ranges : M 6 (ranges_legal_br bs ≡ true)
  labels : M 7 (labels_new_br bs ≡ true)
  new : M 7 ((l : ℕ) → label_among bs l ≡ true → has o l rs ≡ false)
  fields : M 8 (fields_few_br bs ≡ true)
  states : M 8 (n + length (sorts_br bs) ≤ 32)
  room : M 8 (length rs + length (rowsBr bs (meaning O) o n) ≤ 128)
  nested : M 8 (length O + depth_br bs ≤ 16)
  shares : M 19 (shares_legal_br bs ≡ true)
  sums : M 20 (sums_right_br bs ≡ true)
  right : M 20 (shares_right (of_choice o rs ws ++ choice_shares bs) ≡ true)

either : (c d : Bool) → cond c true d ≡ true → (c ≡ true) ⊎ (d ≡ true)
either true d e = inl refl
either false d e = inr e

-- a `rec` whose body is guarded is guarded
rec_guarded : (x n : ℕ) (t : Ty) (O : List Open) → Guarded t (a_rec x n ∷ O) → Guarded (loop x t) O
unfolding unguarded
rec_guarded x n t O g =
    (join (ap not (refuted (bare t x) (λ b. true≢false (rw (eq-eqb x x refl) at (g.1 x b))))) g.0, λ y b. go (eqb x y) (bare t y) (g.1 y) b)
  where
    go : {d : Bool} (c b : Bool) → (b ≡ true → cond c true d ≡ false) → cond c false b ≡ true → d ≡ false
    go true b h e = absurd (false≢true e)
    go false b h e = h e

-- the shares of a choice, up to a branch with its type, and those after it
right_more : (o n : ℕ) (rs : List Branch) (ws : List ℕ) (r : Branch) (w : ℕ) (t : Ty) (bs : Br) (e : Scope) → length ws ≡ length rs → r.owner ≡ o → o < n
    → of_choice o ((rs ++ (r ∷ [])) ++ rows t e n) ((ws ++ (w ∷ [])) ++ shares t) ++ choice_shares bs ≡ of_choice o rs ws ++ (w ∷ choice_shares bs)
right_more o n rs ws r w t bs e l h a =
    ap (λ (x : List ℕ). x ++ choice_shares bs) (one_more o n rs ws r w t e l h a) ∙ append_assoc (of_choice o rs ws) (w ∷ []) (choice_shares bs)

mutual
  unfolding meaning bind

  fits : (t : Ty) (O : List Open) (n : ℕ) (rs : List Branch) (ws : List ℕ) → Here O n rs ws → Good All t O n rs ws → Fits All t O n rs
  fits stop O n rs ws h g = record {
    bound = refl;
    guarded = (refl, λ y e. absurd (false≢true e));
    ranges = refl;
    labels = refl;
    fields = refl;
    states = omega arith;
    room = omega (arith, h.room);
    nested = omega (arith, h.nested);
    shares = refl;
    sums = refl;
  }
  fits (var x) O n rs ws h g = record {
    bound = names_mean O x ∙ g.0;
    guarded = (refl, λ y e. subst (λ (z : ℕ). unguarded O z ≡ false) (eqb-true x y e) g.1);
    ranges = refl;
    labels = refl;
    fields = refl;
    states = omega (arith, h.states);
    room = omega (arith, h.room);
    nested = omega (arith, h.nested);
    shares = refl;
    sums = refl;
  }
  fits (loop x t) O n rs ws h g =
      let i = fits t (a_rec x n ∷ O) n rs ws (here_rec O n rs ws x h g.0) g.1 in
      record {
        bound = i.bound;
        guarded = rec_guarded x n t O i.guarded;
        ranges = i.ranges;
        labels = i.labels;
        fields = i.fields;
        states = i.states;
        room = i.room;
        nested = omega (arith, i.nested);
        shares = i.shares;
        sums = i.sums;
      }
  fits (choice w bs) O n rs ws h g =
      let i = fits_br bs (a_choice n ∷ O) n (suc n) rs ws (omega arith) (here_choice O n rs ws h g.0.0 g.0.1) g.1 in
      record {
        bound = i.bound;
        guarded = (i.guarded, λ y e. absurd (false≢true e));
        ranges = i.ranges;
        labels = i.labels;
        fields = i.fields;
        states = omega (arith, i.states);
        room = i.room;
        nested = omega (arith, i.nested);
        shares = i.shares;
        sums = join (ap (λ (x : List ℕ). shares_right (x ++ choice_shares bs)) (sym (h.laid.unshared n (omega arith))) ∙ i.right) i.sums;
      }

  fits_br : (bs : Br) (O : List Open) (o n : ℕ) (rs : List Branch) (ws : List ℕ) → o < n → Here O n rs ws → GoodBr All bs O o n rs ws → FitsBr All bs O o n rs ws
  fits_br (last k fs sh t) O o n rs ws a h g =
      let r = row o k fs (first_state t (meaning O) n) in
      let w = share_of sh in
      let i = fits t O n (rs ++ (r ∷ [])) (ws ++ (w ∷ [])) (here_row O n rs ws r w h a g.0.0) g.1.0 in
      record {
        bound = i.bound;
        guarded = i.guarded.0;
        ranges = join g.0.1.1.0.0 i.ranges;
        labels = i.labels;
        fields = join (le-leb (length fs) 4 g.0.1.1.0.1) i.fields;
        new = λ l e. subst (λ (m : ℕ). has o m rs ≡ false) (eqb-true k l e) g.0.1.0;
        states = i.states;
        room = omega (arith, i.room, length-append rs (r ∷ []));
        nested = i.nested;
        shares = join g.0.1.1.1 i.shares;
        sums = i.sums;
        right = ap shares_right (sym (one_more o n rs ws r w t (meaning O) h.laid.paired refl a)) ∙ g.1.1;
      }
  fits_br (also k fs sh t bs) O o n rs ws a h g =
      let r = row o k fs (first_state t (meaning O) n) in
      let q = rs ++ (r ∷ []) in
      let m = q ++ rows t (meaning O) n in
      let w = share_of sh in
      let ms = ws ++ (w ∷ []) in
      let j = here_row O n rs ws r w h a g.0.0 in
      let i = fits t O n q ms j g.1.0 in
      let v = fits_br bs O o (n + length (sorts t)) m (ms ++ shares t) (omega arith) (here_rows O n q ms t (meaning O) j i.states i.room) g.1.1 in
      record {
        bound = join i.bound v.bound;
        guarded = join i.guarded.0 v.guarded;
        ranges = join (join g.0.1.1.0.0 i.ranges) v.ranges;
        fields = join (join (le-leb (length fs) 4 g.0.1.1.0.1) i.fields) v.fields;
        labels =
            join (join (ap not (refuted (label_among bs k) (λ e. never (own_row o k fs (first_state t (meaning O) n)) (has_right o k rs (r ∷ []) (has_left o k q (rows t (meaning O) n) (v.new k e)))))) i.labels)
            v.labels;
        new = λ l e. elim (either (eqb k l) (label_among bs l) e) [
          | inl c ↦ subst (λ (z : ℕ). has o z rs ≡ false) (eqb-true k l c) g.0.1.0
          | inr c ↦ has_left o l rs (r ∷ []) (has_left o l q (rows t (meaning O) n) (v.new l c))
        ];
        states = omega (arith, v.states, length-append (sorts t) (sorts_br bs));
        room = omega (arith, v.room, length-append rs (r ∷ []), length-append q (rows t (meaning O) n), length-append (rows t (meaning O) n) (rowsBr bs (meaning O) o (n + length (sorts t))));
        nested = omega (arith, i.nested, v.nested);
        shares = join (join g.0.1.1.1 i.shares) v.shares;
        sums = join i.sums v.sums;
        right = ap shares_right (sym (right_more o n rs ws r w t bs (meaning O) h.laid.paired refl a)) ∙ v.right;
      }

pub later : (c : Bool) {d : Bool} → d ≡ true → cond c true d ≡ true
later true e = refl
later false e = e

-- a label of branches whose labels are legal is legal
has_legal : (bs : Br) (l : ℕ) → LabelledBr bs → label_among bs l ≡ true → Label l
has_legal (last k fs sh t) l d e = subst Label (eqb-true k l e) d.0
has_legal (also k fs sh t bs) l d e = elim (either (eqb k l) (label_among bs l) e) [
  | inl c ↦ subst Label (eqb-true k l c) d.0
  | inr c ↦ has_legal bs l d.1.1 c
]

-- the room for a row, for the rows of its type and for those after
rooms : (rs xs ys : List Branch) (r : Branch) → length rs + length (r ∷ (xs ++ ys)) ≤ 128
    → (length rs < 128) × (length (rs ++ (r ∷ [])) + length xs ≤ 128) × (length (rs ++ (r ∷ []) ++ xs) + length ys ≤ 128)
rooms rs xs ys r h =
    let a = length-append rs (r ∷ []) in
    let b = length-append (rs ++ (r ∷ [])) xs in
    let c = length-append xs ys in
    (omega arith, omega arith, omega arith)

-- the other way round, for the tests of each question by themselves
module _ (q : ℕ) where
  mutual
    unfolding meaning bind unguarded

    held : (t : Ty) (O : List Open) (n : ℕ) (rs : List Branch) (ws : List ℕ) → Labelled t → Laid n rs ws → Fits (Only q) t O n rs → Good (Only q) t O n rs ws
    held stop O n rs ws d h f = λ e. omega (arith, f.states e)
    held (var x) O n rs ws d h f = (λ e. sym (names_mean O x) ∙ f.bound e, λ e. (f.guarded e).1 x (eq-eqb x x refl))
    held (loop x t) O n rs ws d h f = (
      λ e. omega (arith, f.nested e),
      held t (a_rec x n ∷ O) n rs ws d h
          (record {
            bound = f.bound;
            guarded = λ e. guarded_body x n t O (f.guarded e);
            ranges = f.ranges;
            labels = f.labels;
            fields = f.fields;
            states = f.states;
            room = f.room;
            nested = λ e. omega (arith, f.nested e);
            shares = f.shares;
            sums = f.sums;
          }),
    )
    held (choice w bs) O n rs ws d h f = (
      λ e. (omega (arith, f.states e), omega (arith, f.nested e)),
      held_br bs (a_choice n ∷ O) n (suc n) rs ws d (omega arith) (λ x. refl) (laid_choice n rs ws h)
          (record {
            bound = f.bound;
            guarded = λ e. (f.guarded e).0;
            ranges = f.ranges;
            labels = f.labels;
            new = λ e l a. h.fresh n l (omega arith);
            fields = f.fields;
            states = λ e. omega (arith, f.states e);
            room = f.room;
            nested = λ e. omega (arith, f.nested e);
            shares = f.shares;
            sums = λ e. (both (shares_right (choice_shares bs)) (sums_right_br bs) (f.sums e)).1;
            right = λ e.
                ap (λ (x : List ℕ). shares_right (x ++ choice_shares bs)) (h.unshared n (omega arith))
                ∙ (both (shares_right (choice_shares bs)) (sums_right_br bs) (f.sums e)).0;
          }),
    )

    held_br : (bs : Br) (O : List Open) (o n : ℕ) (rs : List Branch) (ws : List ℕ) → LabelledBr bs → o < n → ((x : ℕ) → unguarded O x ≡ false) → Laid n rs ws
        → FitsBr (Only q) bs O o n rs ws → GoodBr (Only q) bs O o n rs ws
    held_br (last k fs sh t) O o n rs ws v a d h f =
        let r = row o k fs (first_state t (meaning O) n) in
        let w = share_of sh in (
          (
            λ e. omega (arith, f.room e),
            (
              λ e. f.new e k (eq-eqb k k refl),
              (
                (λ e. (both (every range_legal fs) (ranges_legal t) (f.ranges e)).0, λ e. leb-true (length fs) 4 (both (leb (length fs) 4) (fields_few t) (f.fields e)).0),
                λ e. (both (share_legal sh) (shares_legal t) (f.shares e)).0,
              ),
            ),
          ),
          (
            held t O n (rs ++ (r ∷ [])) (ws ++ (w ∷ [])) v.1 (laid_row n rs ws r w h a)
                (record {
                  bound = f.bound;
                  guarded = λ e. (f.guarded e, λ x b. d x);
                  ranges = λ e. (both (every range_legal fs) (ranges_legal t) (f.ranges e)).1;
                  labels = f.labels;
                  fields = λ e. (both (leb (length fs) 4) (fields_few t) (f.fields e)).1;
                  states = f.states;
                  room = λ e. omega (arith, f.room e, length-append rs (r ∷ []));
                  nested = f.nested;
                  shares = λ e. (both (share_legal sh) (shares_legal t) (f.shares e)).1;
                  sums = f.sums;
                }),
            λ e. ap shares_right (one_more o n rs ws r w t (meaning O) h.paired refl a) ∙ f.right e,
          ),
        )
    held_br (also k fs sh t bs) O o n rs ws lb a d h f =
        let r = row o k fs (first_state t (meaning O) n) in
        let p = rs ++ (r ∷ []) in
        let R = rows t (meaning O) n in
        let w = share_of sh in
        let ms = ws ++ (w ∷ []) in
        let j = laid_row n rs ws r w h a in (
          (λ e. (room e).0, (λ e. f.new e k (ap (λ x. cond x true (label_among bs k)) (eq-eqb k k refl)), ((λ e. (ranges e).0, λ e. leb-true (length fs) 4 (fields e).0), λ e. (shared e).0))),
          (
            held t O n p ms lb.1.0 j
                (record {
                  bound = λ e. (bound e).0;
                  guarded = λ e. ((guarded e).0, λ x b. d x);
                  ranges = λ e. (ranges e).1;
                  labels = λ e. (labels e).1;
                  fields = λ e. (fields e).1;
                  states = λ e. omega (arith, f.states e, len);
                  room = λ e. (room e).1;
                  nested = λ e. omega (arith, f.nested e);
                  shares = λ e. (shared e).1;
                  sums = λ e. (sums e).0;
                }),
            held_br bs O o (n + length (sorts t)) (p ++ R) (ms ++ shares t) lb.1.1 (omega arith) d (laid_rows n p ms t (meaning O) j)
                (record {
                  bound = λ e. (bound e).1;
                  guarded = λ e. (guarded e).1;
                  ranges = λ e. (ranges e).2;
                  labels = λ e. (labels e).2;
                  new = λ e l b.
                      has_both o l p R
                      (has_both o l rs (r ∷ []) (f.new e l (later (eqb k l) b)) (other_label o l k fs (first_state t (meaning O) n) lb.0 (has_legal bs l lb.1.1 b) (λ x. never (subst (λ (i : ℕ). label_among bs i ≡ true) (sym x) b) (not-true (label_among bs k) (labels e).0))))
                      (rows_none t (meaning O) n o l (inl a));
                  fields = λ e. (fields e).2;
                  states = λ e. omega (arith, f.states e, len);
                  room = λ e. (room e).2;
                  nested = λ e. omega (arith, f.nested e);
                  shares = λ e. (shared e).2;
                  sums = λ e. (sums e).1;
                  right = λ e. ap shares_right (right_more o n rs ws r w t bs (meaning O) h.paired refl a) ∙ f.right e;
                }),
          ),
        )
      where
        len : length (sorts t ++ sorts_br bs) ≡ length (sorts t) + length (sorts_br bs)
        len = length-append (sorts t) (sorts_br bs)

        bound : q ≡ 4 → (names_bound t (names O) ≡ true) × (names_bound_br bs (names O) ≡ true)
        bound e = both (names_bound t (names O)) (names_bound_br bs (names O)) (f.bound e)

        guarded : q ≡ 5 → (recs_guarded t ≡ true) × (recs_guarded_br bs ≡ true)
        guarded e = both (recs_guarded t) (recs_guarded_br bs) (f.guarded e)

        ranges : q ≡ 6 → (every range_legal fs ≡ true) × (ranges_legal t ≡ true) × (ranges_legal_br bs ≡ true)
        ranges e = all_three (every range_legal fs) (ranges_legal t) (ranges_legal_br bs) (f.ranges e)

        labels : q ≡ 7 → (not (label_among bs k) ≡ true) × (labels_new t ≡ true) × (labels_new_br bs ≡ true)
        labels e = all_three (not (label_among bs k)) (labels_new t) (labels_new_br bs) (f.labels e)

        fields : q ≡ 8 → (leb (length fs) 4 ≡ true) × (fields_few t ≡ true) × (fields_few_br bs ≡ true)
        fields e = all_three (leb (length fs) 4) (fields_few t) (fields_few_br bs) (f.fields e)

        room : q ≡ 8 → (length rs < 128) × (length (rs ++ (row o k fs (first_state t (meaning O) n) ∷ [])) + length (rows t (meaning O) n) ≤ 128)
            × (length (rs ++ (row o k fs (first_state t (meaning O) n) ∷ []) ++ rows t (meaning O) n) + length (rowsBr bs (meaning O) o (n + length (sorts t))) ≤ 128)
        room e = rooms rs (rows t (meaning O) n) (rowsBr bs (meaning O) o (n + length (sorts t))) (row o k fs (first_state t (meaning O) n)) (f.room e)

        shared : q ≡ 19 → (share_legal sh ≡ true) × (shares_legal t ≡ true) × (shares_legal_br bs ≡ true)
        shared e = all_three (share_legal sh) (shares_legal t) (shares_legal_br bs) (f.shares e)

        sums : q ≡ 20 → (sums_right t ≡ true) × (sums_right_br bs ≡ true)
        sums e = both (sums_right t) (sums_right_br bs) (f.sums e)

-- ---- the whole

none_laid : Laid 0 [] []
unfolding of_choice
none_laid = record { fresh = λ o l h. refl; paired = refl; unshared = λ o h. refl }

pub good_legal : (p : Protocol) → opening_legal p.opening ≡ true → Good All p.type [] 0 [] [] → Legal p
unfolding table_of meaning nothing_bound
good_legal p o g =
    let f = fits p.type [] 0 [] [] (record { states = omega arith; room = omega arith; nested = omega arith; laid = none_laid }) g in
    record {
      bound = f.bound;
      guarded = f.guarded.0;
      ranges = f.ranges;
      labels = f.labels;
      fields = f.fields;
      states = omega (arith, f.states);
      branches = omega (arith, f.room);
      nested = omega (arith, f.nested);
      shares = f.shares;
      sums = f.sums;
      edition = o;
    }

-- the tests of a protocol that question q asks
pub record Passes (q : ℕ) (p : Protocol) : Type 0 where
  pub bound : q ≡ 4 → names_bound p.type [] ≡ true
  pub guarded : q ≡ 5 → recs_guarded p.type ≡ true
  pub ranges : q ≡ 6 → ranges_legal p.type ≡ true
  pub labels : q ≡ 7 → labels_new p.type ≡ true
  pub fields : q ≡ 8 → fields_few p.type ≡ true
  pub states : q ≡ 8 → length (sorts p.type) ≤ 32
  pub branches : q ≡ 8 → length (rows p.type nothing_bound 0) ≤ 128
  pub nested : q ≡ 8 → depth p.type ≤ 16
  pub shares : q ≡ 19 → shares_legal p.type ≡ true
  pub sums : q ≡ 20 → sums_right p.type ≡ true
  pub edition : q ≡ 23 → opening_legal p.opening ≡ true

pub passes_good : (q : ℕ) (p : Protocol) → Labelled p.type → Passes q p → Good (Only q) p.type [] 0 [] []
unfolding meaning nothing_bound unguarded
passes_good q p d f =
    held q p.type [] 0 [] [] d none_laid
    (record {
      bound = f.bound;
      guarded = λ e. (f.guarded e, λ x b. refl);
      ranges = f.ranges;
      labels = f.labels;
      fields = f.fields;
      states = λ e. omega (arith, f.states e);
      room = λ e. omega (arith, f.branches e);
      nested = λ e. omega (arith, f.nested e);
      shares = f.shares;
      sums = f.sums;
    })

-- 0 asks none
pub none_asked : (p : Protocol) → Passes 0 p
none_asked p =
    record {
      bound = λ e. absurd (omega arith);
      guarded = λ e. absurd (omega arith);
      ranges = λ e. absurd (omega arith);
      labels = λ e. absurd (omega arith);
      fields = λ e. absurd (omega arith);
      states = λ e. absurd (omega arith);
      branches = λ e. absurd (omega arith);
      nested = λ e. absurd (omega arith);
      shares = λ e. absurd (omega arith);
      sums = λ e. absurd (omega arith);
      edition = λ e. absurd (omega arith);
    }

-- a legal protocol passes all
pub legal_passes : (q : ℕ) (p : Protocol) → Legal p → Passes q p
unfolding table_of
legal_passes q p l =
    record {
      bound = λ e. l.bound;
      guarded = λ e. l.guarded;
      ranges = λ e. l.ranges;
      labels = λ e. l.labels;
      fields = λ e. l.fields;
      states = λ e. l.states;
      branches = λ e. l.branches;
      nested = λ e. l.nested;
      shares = λ e. l.shares;
      sums = λ e. l.sums;
      edition = λ e. l.edition;
    }

pub legal_good : (p : Protocol) → Labelled p.type → Legal p → Good All p.type [] 0 [] []
legal_good p d l = all_good p.type [] 0 [] [] (λ q. passes_good q p d (legal_passes q p l))
