-- What a store does to the words of a table is what one state more, one branch more with its share and another target do to its lists. Each column is
-- a list and then zeros, and an entry more goes where the list ends.
-- Assumes nothing.
use mathlib.Core.Path.{◌≡◌, refl, sym, ap, ap₂, ◌∙◌}
use mathlib.Core.Bool.{Bool, true, false, ◌&&◌, ◌||◌}
use mathlib.Core.List.{List, [], ◌∷◌, ◌++◌, map}
use Prim.Native.Nat.{ℕ, zero, suc, ◌+◌, ◌-◌, ◌*◌, ◌/◌, ◌%◌, ◌≤◌, ◌<◌}
use native.Mathlib.Nat.{le_of_suc-le-suc}
use native.Mathlib.Omega.{arith}
use lib.Dec.{eqb}
use lib.ListN.{length, set, get_or, length-append, length-map}
use borrow.Author.Tests.{eqb-true, eqb-false, lt-ltb, le-leb}
use Rattle.table.specs.Lists.{some_one, same}
use Rattle.table.specs.Table.{Sort, Field, Branch, Table}
use Rattle.table.specs.View.{label_of, empty_table, branches_of, owner_at, word_at}
use Rattle.table.proofs.laws.Lists.{refuted}
use Rattle.table.proofs.laws.View.{same_eq, same_refl}
use Rattle.grammar.specs.Token.{word_of}
use Rattle.grammar.specs.Building.{aimed, stateless, add_state, add_branch, add_share, label_used}
use Rattle.grammar.specs.Filled.{padded, code_of, label_high, label_low, fours, joined, columns, filled}
use Rattle.text.specs.inner.Stores.{put_state, set_head, store_at, put_branch, put_target, any_label}
use Rattle.grammar.specs.inner.Holds.{Formed, AllFormed, Holds, set_four}
use Rattle.text.specs.inner.Recursive.{branch_of, raw_of, last_aimed, aim_last}
use Rattle.text.specs.inner.Answers.{Fields}
use Rattle.grammar.proofs.laws.Padded.{map_append, next_set, padded_at, four_set}
use Rattle.text.proofs.laws.Listed.{Clear, listed_length}
use Rattle.grammar.proofs.laws.Packed.{Label}
use Rattle.grammar.proofs.laws.Holds.{fours_length, widths, sized, holds_sized, no_branch, formed_at, owner_at_is, word_at_is}
use Rattle.grammar.proofs.laws.Columns.{Sized, offset, changed, put, put_four, put_sized, four_sized}

-- ---- one more

fours_append : (f : Field → ℕ) (rs qs : List Branch) → fours f (rs ++ qs) ≡ fours f rs ++ fours f qs
fours_append f [] qs = refl
fours_append f (r ∷ rs) qs =
    ap (λ z. get_or (map f r.fields) 0 0 ∷ get_or (map f r.fields) 1 0 ∷ get_or (map f r.fields) 2 0 ∷ get_or (map f r.fields) 3 0 ∷ z) (fours_append f rs qs)

abbrev rest : List (List ℕ) → List (List ℕ)
rest [] = []
rest (c ∷ cs) = cs

filled_state : (T : Table) (c : Sort) → length T.sorts < 32 → Sized (columns T) widths → put_state (filled T) (code_of c) ≡ filled (add_state T c)
unfolding put_state filled add_state
filled_state T c small z =
    ap (λ x. set x 0 (length T.sorts + 1))
    (put widths (length T.sorts) (length T.branches) (columns T) z 0 (length T.sorts) (code_of c) small)
    ∙ (λ i. count i ∷ length T.branches ∷ (sorts i ++ joined (rest (columns T))))
  where
    count : length T.sorts + 1 ≡ length (T.sorts ++ (c ∷ []))
    count = omega (arith, length-append T.sorts (c ∷ []))

    sorts : set (padded 32 (map code_of T.sorts)) (length T.sorts) (code_of c) ≡ padded 32 (map code_of (T.sorts ++ (c ∷ [])))
    sorts =
        next_set 32 (length T.sorts) (map code_of T.sorts) (code_of c) (sym (length-map T.sorts code_of)) small
        ∙ ap (padded 32) (sym (map_append code_of T.sorts (c ∷ [])))

column : (f : Branch → ℕ) (rs : List Branch) (r : Branch) (v : ℕ) → length rs < 128 → v ≡ f r
    → set (padded 128 (map f rs)) (length rs) v ≡ padded 128 (map f (rs ++ (r ∷ [])))
column f rs r v h e =
    ap (set (padded 128 (map f rs)) (length rs)) e
    ∙ next_set 128 (length rs) (map f rs) (f r) (sym (length-map rs f)) h
    ∙ ap (padded 128) (sym (map_append f rs (r ∷ [])))

four_column : (f : Field → ℕ) (rs : List Branch) (r : Branch) (vs : List ℕ) → length rs < 128 → vs ≡ padded 4 (map f r.fields)
    → set_four (padded 512 (fours f rs)) (4 * length rs) vs ≡ padded 512 (fours f (rs ++ (r ∷ [])))
four_column f rs r vs h e =
    ap (set_four (padded 512 (fours f rs)) (4 * length rs)) e
    ∙ four_set 512 (4 * length rs) (fours f rs) (padded 4 xs) (fours_length f rs) (omega arith)
    ∙ ap (λ z. padded 512 (fours f rs ++ z)) (λ i. padded_at 4 xs 0 i ∷ padded_at 4 xs 1 i ∷ padded_at 4 xs 2 i ∷ padded_at 4 xs 3 i ∷ [])
    ∙ ap (padded 512) (sym (fours_append f rs (r ∷ [])))
  where
    xs : List ℕ
    xs = map f r.fields

module _ (T : Table) (l o n w : ℕ) (f : Fields) (z₀ : Sized (columns T) widths) (even : length T.shares ≡ length T.branches) (room : length T.branches < 128) (c : Clear f) (d : Label l) where
  abbrev b : Branch
  b = branch_of l o n f

  abbrev bs : List Branch
  bs = T.branches

  abbrev k : ℕ
  k = length T.branches

  filled_branch : put_branch (filled T) (raw_of l o n w f) ≡ filled (add_share (add_branch T (branch_of l o n f)) w)
  unfolding put_branch store_at set_head filled add_branch add_share
  filled_branch =
      ap (λ x. fs (set (set (set (set (set x (162 + k) n) (290 + k) f.count) (418 + k) (l / 4294967296)) (546 + k) (l % 4294967296)) (2210 + k) w)) (store c₀ z₀ 1 o room)
      ∙ ap (λ x. fs (set (set (set (set x (290 + k) f.count) (418 + k) (l / 4294967296)) (546 + k) (l % 4294967296)) (2210 + k) w)) (store c₁ z₁ 2 n room)
      ∙ ap (λ x. fs (set (set (set x (418 + k) (l / 4294967296)) (546 + k) (l % 4294967296)) (2210 + k) w)) (store c₂ z₂ 3 f.count room)
      ∙ ap (λ x. fs (set (set x (546 + k) (l % 4294967296)) (2210 + k) w)) (store c₃ z₃ 4 (l / 4294967296) room)
      ∙ ap (λ x. fs (set x (2210 + k) w)) (store c₄ z₄ 5 (l % 4294967296) room)
      ∙ ap fs (store c₅ z₅ 9 w room)
      ∙ ap (λ x. set_four (set_four x (1186 + 4 * k) f.lows) (1698 + 4 * k) f.highs) (put_four widths _ _ c₆ z₆ 6 (4 * k) f.kinds (omega arith))
      ∙ ap (λ x. set_four x (1698 + 4 * k) f.highs) (put_four widths _ _ c₇ z₇ 7 (4 * k) f.lows (omega arith))
      ∙ put_four widths _ _ c₈ z₈ 8 (4 * k) f.highs (omega arith)
      ∙ (λ i. length T.sorts ∷ count i ∷ joined
      (padded 32 (map code_of T.sorts)
      ∷ column (λ b. b.owner) bs b o room refl i
      ∷ column (λ b. b.target) bs b n room refl i
      ∷ column (λ b. length b.fields) bs b f.count room (sym (listed_length f)) i
      ∷ column label_high bs b (l / 4294967296) room (ap (λ x. x / 4294967296) (sym d.back)) i
      ∷ column label_low bs b (l % 4294967296) room (ap (λ x. x % 4294967296) (sym d.back)) i
      ∷ four_column (λ f. f.kind) bs b f.kinds room c.kinds i
      ∷ four_column (λ f. f.low) bs b f.lows room c.lows i
      ∷ four_column (λ f. f.high) bs b f.highs room c.highs i
      ∷ next_set 128 k T.shares w (sym even) room i
      ∷ (T.edition ∷ 0 ∷ [])
      ∷ []))
    where
      fs : List ℕ → List ℕ
      fs x = set_four (set_four (set_four x (674 + 4 * k) f.kinds) (1186 + 4 * k) f.lows) (1698 + 4 * k) f.highs

      store : (cs : List (List ℕ)) → Sized cs widths → (j v : ℕ) → k < get_or widths j 0
          → set (length T.sorts ∷ (k + 1) ∷ joined cs) (2 + offset j widths + k) v ≡ length T.sorts ∷ (k + 1) ∷ joined (changed cs j (λ c. set c k v))
      store cs z j v q = put widths (length T.sorts) (k + 1) cs z j k v q

      step : List (List ℕ) → ℕ → ℕ → List (List ℕ)
      step cs j v = changed cs j (λ c. set c k v)

      c₀ : List (List ℕ)
      c₀ = columns T

      c₁ : List (List ℕ)
      c₁ = step c₀ 1 o

      c₂ : List (List ℕ)
      c₂ = step c₁ 2 n

      c₃ : List (List ℕ)
      c₃ = step c₂ 3 f.count

      c₄ : List (List ℕ)
      c₄ = step c₃ 4 (l / 4294967296)

      c₅ : List (List ℕ)
      c₅ = step c₄ 5 (l % 4294967296)

      c₆ : List (List ℕ)
      c₆ = step c₅ 9 w

      c₇ : List (List ℕ)
      c₇ = changed c₆ 6 (λ c. set_four c (4 * k) f.kinds)

      c₈ : List (List ℕ)
      c₈ = changed c₇ 7 (λ c. set_four c (4 * k) f.lows)

      z₁ : Sized c₁ widths
      z₁ = put_sized widths 0 0 c₀ z₀ 1 k o

      z₂ : Sized c₂ widths
      z₂ = put_sized widths 0 0 c₁ z₁ 2 k n

      z₃ : Sized c₃ widths
      z₃ = put_sized widths 0 0 c₂ z₂ 3 k f.count

      z₄ : Sized c₄ widths
      z₄ = put_sized widths 0 0 c₃ z₃ 4 k (l / 4294967296)

      z₅ : Sized c₅ widths
      z₅ = put_sized widths 0 0 c₄ z₄ 5 k (l % 4294967296)

      z₆ : Sized c₆ widths
      z₆ = put_sized widths 0 0 c₅ z₅ 9 k w

      z₇ : Sized c₇ widths
      z₇ = four_sized widths 0 0 c₆ z₆ 6 (4 * k) f.kinds

      z₈ : Sized c₈ widths
      z₈ = four_sized widths 0 0 c₇ z₇ 7 (4 * k) f.lows

      count : k + 1 ≡ length (bs ++ (b ∷ []))
      count = omega (arith, length-append bs (b ∷ []))

-- ---- another target of the last branch

-- all else of the branches stays
last_same : (f : Branch → ℕ) → ((b : Branch) (n : ℕ) → f (aimed b n) ≡ f b) → (bs : List Branch) (n : ℕ) → map f (last_aimed bs n) ≡ map f bs
last_same f h [] n = refl
last_same f h (b ∷ []) n = ap (λ x. x ∷ []) (h b n)
last_same f h (b ∷ c ∷ bs) n = ap (λ r. f b ∷ r) (last_same f h (c ∷ bs) n)

last_fours : (f : Field → ℕ) (bs : List Branch) (n : ℕ) → fours f (last_aimed bs n) ≡ fours f bs
last_fours f [] n = refl
last_fours f (b ∷ []) n = refl
last_fours f (b ∷ c ∷ bs) n =
    ap (λ r. get_or (map f b.fields) 0 0 ∷ get_or (map f b.fields) 1 0 ∷ get_or (map f b.fields) 2 0 ∷ get_or (map f b.fields) 3 0 ∷ r) (last_fours f (c ∷ bs) n)

pub last_length : (bs : List Branch) (n : ℕ) → length (last_aimed bs n) ≡ length bs
last_length [] n = refl
last_length (b ∷ []) n = refl
last_length (b ∷ c ∷ bs) n = ap suc (last_length (c ∷ bs) n)

last_set : (m : ℕ) (b : Branch) (bs : List Branch) (n : ℕ) → length bs < m
    → set (padded m (map (λ b. b.target) (b ∷ bs))) (length bs) n ≡ padded m (map (λ b. b.target) (last_aimed (b ∷ bs) n))
last_set zero b bs n h = absurd (omega arith)
last_set (suc m) b [] n h = refl
last_set (suc m) b (c ∷ bs) n h = ap (λ r. b.target ∷ r) (last_set m c bs n (le_of_suc-le-suc h))

put_at : (w : List ℕ) (k n : ℕ) → branches_of w ≡ suc k → suc k ≤ 128 → put_target w n ≡ set w (162 + k) n
unfolding put_target
put_at w k n e room = let z : suc k - 1 ≡ k = omega arith in rw (e, lt-ltb 0 (suc k) (omega arith), le-leb (suc k) 128 room, z)

filled_target : (ss : List Sort) (b : Branch) (bs : List Branch) (ws : List ℕ) (v n : ℕ) → length (b ∷ bs) ≤ 128
    → Sized (columns (record { sorts = ss; branches = b ∷ bs; shares = ws; edition = v })) widths
    → put_target (filled (record { sorts = ss; branches = b ∷ bs; shares = ws; edition = v })) n
    ≡ filled (record { sorts = ss; branches = last_aimed (b ∷ bs) n; shares = ws; edition = v })
unfolding filled
filled_target ss b bs ws v n room z =
    let T : Table = record { sorts = ss; branches = b ∷ bs; shares = ws; edition = v } in
    put_at (filled T) (length bs) n refl room
    ∙ put widths (length ss) (suc (length bs)) (columns T) z 2 (length bs) n (omega arith)
    ∙ (λ i. length ss ∷ sym (last_length (b ∷ bs) n) i ∷ joined
    (padded 32 (map code_of ss)
    ∷ padded 128 (sym (last_same (λ b. b.owner) (λ b n. refl) (b ∷ bs) n) i)
    ∷ last_set 128 b bs n (omega arith) i
    ∷ padded 128 (sym (last_same (λ b. length b.fields) (λ b n. refl) (b ∷ bs) n) i)
    ∷ padded 128 (sym (last_same label_high (λ b n. refl) (b ∷ bs) n) i)
    ∷ padded 128 (sym (last_same label_low (λ b n. refl) (b ∷ bs) n) i)
    ∷ padded 512 (sym (last_fours (λ f. f.kind) (b ∷ bs) n) i)
    ∷ padded 512 (sym (last_fours (λ f. f.low) (b ∷ bs) n) i)
    ∷ padded 512 (sym (last_fours (λ f. f.high) (b ∷ bs) n) i)
    ∷ padded 128 ws
    ∷ (v ∷ 0 ∷ [])
    ∷ []))

formed_aimed : (bs : List Branch) (n : ℕ) → AllFormed bs → AllFormed (last_aimed bs n)
formed_aimed [] n f = tt
formed_aimed (b ∷ []) n f = (record { few = f.0.few; bytes = f.0.bytes }, tt)
formed_aimed (b ∷ c ∷ bs) n f = (f.0, formed_aimed (c ∷ bs) n f.1)

-- ---- words that hold a table

formed_more : (bs : List Branch) (b : Branch) → AllFormed bs → Formed b → AllFormed (bs ++ (b ∷ []))
formed_more [] b f g = (g, tt)
formed_more (a ∷ bs) b f g = (f.0, formed_more bs b f.1 g)

-- the empty table with an edition
pub holds_edition : (e : ℕ) → Holds (set empty_table 2338 e) (stateless e)
unfolding empty_table filled
holds_edition e = record { words = refl; states = omega arith; branches = omega arith; shares = refl; formed = tt }

module _ (w : List ℕ) (T : Table) (h : Holds w T) where
  pub holds_state : (c : Sort) → length T.sorts < 32 → Holds (put_state w (code_of c)) (add_state T c)
  unfolding add_state
  holds_state c small = record {
    words = ap (λ x. put_state x (code_of c)) h.words ∙ filled_state T c small (holds_sized w T h);
    states = omega (arith, length-append T.sorts (c ∷ []));
    branches = h.branches;
    shares = h.shares;
    formed = h.formed;
  }

  pub holds_branch : (l o n x : ℕ) (f : Fields) → length T.branches < 128 → Clear f → Label l
      → Holds (put_branch w (raw_of l o n x f)) (add_share (add_branch T (branch_of l o n f)) x)
  unfolding add_branch add_share
  holds_branch l o n x f room c d = record {
    words = ap (λ v. put_branch v (raw_of l o n x f)) h.words ∙ filled_branch T l o n x f (holds_sized w T h) h.shares room c d;
    states = h.states;
    branches = omega (arith, length-append T.branches (branch_of l o n f ∷ []));
    shares = omega (arith, h.shares, length-append T.branches (branch_of l o n f ∷ []), length-append T.shares (x ∷ []));
    formed =
        formed_more T.branches (branch_of l o n f) h.formed
        (record { few = omega (arith, listed_length f, c.few); bytes = ap label_of d.back });
  }

  pub holds_target : (n : ℕ) → Holds (put_target w n) (aim_last T n)
  unfolding aim_last put_target filled
  holds_target n = go T.branches h.words h.branches h.shares h.formed
    where
      by : List Branch → Table
      by bs = record { sorts = T.sorts; branches = bs; shares = T.shares; edition = T.edition }

      go : (bs : List Branch) → w ≡ filled (by bs) → length bs ≤ 128 → length T.shares ≡ length bs → AllFormed bs → Holds (put_target w n) (by (last_aimed bs n))
      go [] e room even f = record { words = rw e; states = h.states; branches = room; shares = even; formed = f }
      go (b ∷ bs) e room even f = record {
        words = ap (λ x. put_target x n) e ∙ filled_target T.sorts b bs T.shares T.edition n room (sized (by (b ∷ bs)) h.states room even);
        states = h.states;
        branches = omega (arith, last_length (b ∷ bs) n);
        shares = even ∙ sym (last_length (b ∷ bs) n);
        formed = formed_aimed (b ∷ bs) n f;
      }

-- ---- the labels of a state

abbrev any_at : ℕ → (ℕ → Bool) → Bool
any_at zero q = false
any_at (suc i) q = q i || any_at i q

any_first : (n : ℕ) (q : ℕ → Bool) → any_at (suc n) q ≡ (q 0 || any_at n (λ i. q (suc i)))
any_first zero q = refl
any_first (suc n) q = ap (λ z. q (suc n) || z) (any_first n q) ∙ exchanged (q (suc n)) (q 0) (any_at n (λ i. q (suc i)))
  where
    exchanged : (a b c : Bool) → (a || (b || c)) ≡ (b || (a || c))
    exchanged true true c = refl
    exchanged true false c = refl
    exchanged false true c = refl
    exchanged false false c = refl

any_some : (xs : List Branch) (d : Branch) (p : Branch → Bool) (q : ℕ → Bool) → ((k : ℕ) → k < length xs → q k ≡ p (get_or xs k d)) → any_at (length xs) q ≡ some_one p xs
unfolding some_one
any_some [] d p q h = refl
any_some (x ∷ xs) d p q h =
    any_first (length xs) q ∙ ap₂ ◌||◌ (h 0 (omega arith)) (any_some xs d p (λ i. q (suc i)) (λ k l. h (suc k) (omega arith)))

any_at_is : (w : List ℕ) (n o l : ℕ) → any_label w n o l ≡ any_at n (λ i. eqb (owner_at w i) o && eqb (word_at w i) l)
unfolding any_label
any_at_is w zero o l = refl
any_at_is w (suc n) o l = ap (λ z. (eqb (owner_at w n) o && eqb (word_at w n) l) || z) (any_at_is w n o l)

same_word : (b : Branch) (l : ℕ) → Formed b → Label l → eqb (word_of b.label) l ≡ same b.label (label_of l)
same_word b l f d = go (eqb (word_of b.label) l) refl
  where
    go : (c : Bool) → eqb (word_of b.label) l ≡ c → c ≡ same b.label (label_of l)
    go true e = sym (ap (same b.label) (ap label_of (sym (eqb-true _ _ e)) ∙ f.bytes) ∙ same_refl b.label)
    go false e = sym (refuted (same b.label (label_of l)) (λ s. eqb-false _ _ e (ap word_of (same_eq b.label (label_of l) s) ∙ d.back)))

module _ (w : List ℕ) (T : Table) (h : Holds w T) where
  pub holds_label : (o l : ℕ) → Label l → any_label w (length T.branches) o l ≡ label_used T o l
  unfolding label_used
  holds_label o l d =
      any_at_is w (length T.branches) o l
      ∙ any_some T.branches no_branch (λ b. eqb b.owner o && same b.label (label_of l)) (λ i. eqb (owner_at w i) o && eqb (word_at w i) l) (λ k q.
      let b = get_or T.branches k no_branch in
      let m : k < 128 = omega (arith, h.branches) in
      ap₂ ◌&&◌ (ap (λ x. eqb x o) (owner_at_is w T h k m)) (ap (λ x. eqb x l) (word_at_is w T h k m) ∙ same_word b l (formed_at T.branches k q h.formed) d))
