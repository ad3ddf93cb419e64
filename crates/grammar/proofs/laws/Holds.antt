-- Words that hold a table: what stands at each place of them, that what is seen of them is the table itself, and that the table of a legal
-- protocol is one that words can hold.
-- Assumes nothing.
use mathlib.Core.Path.{◌≡◌, refl, sym, ap, ap₂, ◌∙◌}
use mathlib.Core.Bool.{true, ◌&&◌}
use mathlib.Core.List.{List, [], ◌∷◌, ◌++◌, map}
use Prim.Native.Nat.{ℕ, zero, suc, ◌+◌, ◌*◌, ◌/◌, ◌%◌, ◌≤◌, ◌<◌}
use native.Mathlib.Omega.{arith}
use lib.Dec.{leb}
use lib.ListN.{length, get_or, length-map, get_or-map}
use borrow.Author.Tests.{leb-true}
use Rattle.grammar.proofs.laws.Questions.{fields_few_br}
use Rattle.table.specs.Lists.{every, upto}
use Rattle.table.specs.Table.{Field, Branch, Table}
use Rattle.table.specs.View.{label_of, sort_of, states_of, branches_of, owner_at, word_at, sort_at, target_at, count_at, field_at, share_at, edition_of, branch_at, view, known}
use Rattle.table.proofs.laws.Lists.{both, upto_every}
use Rattle.grammar.specs.Grammar.{SyntaxField, Ty, stop, var, loop, choice, Br, last, also, Protocol, sorts, Scope, nothing_bound, bind, field_of, branches, branches_br, table_of, fields_few, Legal}
use Rattle.grammar.specs.Token.{packed, word_of}
use Rattle.grammar.specs.Filled.{padded, code_of, label_high, label_low, fours, columns, filled}
use Rattle.grammar.specs.inner.Holds.{Formed, AllFormed, Holds}
use Rattle.grammar.proofs.laws.Padded.{padded_at, padded_length, upto_list}
use Rattle.grammar.proofs.laws.NameToken.{Labelled, LabelledBr}
use Rattle.grammar.proofs.laws.OfChoice.{shares_length}
use Rattle.grammar.proofs.laws.Columns.{Sized, get}
use Rattle.table.specs.Table as T

-- ---- the columns' lengths

pub fours_length : (f : Field → ℕ) (rs : List Branch) → 4 * length rs ≡ length (fours f rs)
fours_length f [] = refl
fours_length f (r ∷ rs) = omega (arith, fours_length f rs)

abbrev pub widths : List ℕ
widths = 32 ∷ 128 ∷ 128 ∷ 128 ∷ 128 ∷ 128 ∷ 512 ∷ 512 ∷ 512 ∷ 128 ∷ 2 ∷ []

module _ (T : Table) (small : length T.sorts ≤ 32) (room : length T.branches ≤ 128) (even : length T.shares ≡ length T.branches) where
  one : (f : Branch → ℕ) → length (padded 128 (map f T.branches)) ≡ 128
  one f = padded_length 128 (map f T.branches) (omega (arith, length-map T.branches f))

  four : (f : Field → ℕ) → length (padded 512 (fours f T.branches)) ≡ 512
  four f = padded_length 512 (fours f T.branches) (omega (arith, fours_length f T.branches))

  pub sized : Sized (columns T) widths
  sized = (
    padded_length 32 (map code_of T.sorts) (omega (arith, length-map T.sorts code_of)),
    (one (λ b. b.owner), (one (λ b. b.target), (one (λ b. length b.fields), (one label_high, (one label_low, (four (λ f. f.kind), (four (λ f. f.low), (four (λ f. f.high), (padded_length 128 T.shares (omega arith), (refl, tt)))))))))),
  )

pub holds_sized : (w : List ℕ) (T : Table) → Holds w T → Sized (columns T) widths
holds_sized w T h = sized T h.states h.branches h.shares

-- ---- the table of a legal type

few : (fs : List SyntaxField) → leb (length fs) 4 ≡ true → length (map field_of fs) ≤ 4
few fs h = omega (arith, leb-true (length fs) 4 h, length-map fs field_of)

formed_append : (rs qs : List Branch) → AllFormed rs → AllFormed qs → AllFormed (rs ++ qs)
formed_append [] qs f g = g
formed_append (r ∷ rs) qs f g = (f.0, formed_append rs qs f.1 g)

mutual
  formed : (t : Ty) (e : Scope) (n : ℕ) → fields_few t ≡ true → Labelled t → AllFormed (branches t e n)
  formed stop e n h d = tt
  formed (var x) e n h d = tt
  formed (loop x t) e n h d = formed t (bind x n e) n h d
  formed (choice w bs) e n h d = formed_br bs e n (suc n) h d

  formed_br : (bs : Br) (e : Scope) (o n : ℕ) → fields_few_br bs ≡ true → LabelledBr bs → AllFormed (branches_br bs e o n)
  formed_br (last l fs sh t) e o n h d =
      let p = both (leb (length fs) 4) (fields_few t) h in
      (record { few = few fs p.0; bytes = ap label_of d.0.back }, formed t e n p.1 d.1)
  formed_br (also l fs sh t bs) e o n h d =
      let q = both (leb (length fs) 4 && fields_few t) (fields_few_br bs) h in
      let p = both (leb (length fs) 4) (fields_few t) q.0 in (
        record { few = few fs p.0; bytes = ap label_of d.0.back },
        formed_append (branches t e n) (branches_br bs e o (n + length (sorts t))) (formed t e n p.1 d.1.0)
            (formed_br bs e o (n + length (sorts t)) q.1 d.1.1),
      )

pub legal_holds : (p : Protocol) → Legal p → Labelled p.type → Holds (filled (table_of p)) (table_of p)
unfolding table_of
legal_holds p l d = record {
  words = refl;
  states = l.states;
  branches = l.branches;
  shares = shares_length p.type nothing_bound 0;
  formed = formed p.type nothing_bound 0 l.fields d;
}

-- ---- by places

abbrev pub no_field : Field
no_field = record { kind = 0; low = 0; high = 0 }

abbrev pub no_branch : Branch
no_branch = record { owner = 0; label = []; fields = []; target = 0 }

pub formed_at : (bs : List Branch) (k : ℕ) → k < length bs → AllFormed bs → Formed (get_or bs k no_branch)
formed_at [] k h f = absurd (omega arith)
formed_at (b ∷ bs) zero h f = f.0
formed_at (b ∷ bs) (suc k) h f = formed_at bs k (omega arith) f.1

fours_at : (f : T.Field → ℕ) (rs : List Branch) (k j : ℕ) → j < 4 → get_or (fours f rs) (4 * k + j) 0 ≡ get_or (map f (get_or rs k no_branch).fields) j 0
fours_at f [] k j h = refl
fours_at f (r ∷ rs) zero j h = let e : 4 * 0 + j ≡ j = omega arith in ap (λ i. get_or (fours f (r ∷ rs)) i 0) e ∙ here j h
  where
    here : (j : ℕ) → j < 4 → get_or (fours f (r ∷ rs)) j 0 ≡ get_or (map f r.fields) j 0
    here zero h = refl
    here (suc zero) h = refl
    here (suc (suc zero)) h = refl
    here (suc (suc (suc zero))) h = refl
    here (suc (suc (suc (suc j)))) h = absurd (omega arith)
fours_at f (r ∷ rs) (suc k) j h =
    let e : 4 * suc k + j ≡ suc (suc (suc (suc (4 * k + j)))) = omega arith in
    ap (λ i. get_or (fours f (r ∷ rs)) i 0) e ∙ fours_at f rs k j h

sort_code : (c : T.Sort) → sort_of (code_of c) ≡ c
unfolding sort_of
sort_code T.ends = refl
sort_code T.sends = refl
sort_code T.receives = refl

code_known : (c : T.Sort) → leb (code_of c) 2 ≡ true
code_known T.ends = refl
code_known T.sends = refl
code_known T.receives = refl

module _ (w : List ℕ) (U : Table) (h : Holds w U) where
  pub holds_states : states_of w ≡ length U.sorts
  unfolding filled
  holds_states = ap states_of h.words

  pub holds_branches : branches_of w ≡ length U.branches
  unfolding filled
  holds_branches = ap branches_of h.words

  pub cell : (f : Branch → ℕ) → f no_branch ≡ 0 → (k : ℕ) → get_or (padded 128 (map f U.branches)) k 0 ≡ f (get_or U.branches k no_branch)
  cell f z k = padded_at 128 (map f U.branches) k ∙ ap (λ d. get_or (map f U.branches) k d) (sym z) ∙ get_or-map f U.branches k no_branch

  pub owner_at_is : (k : ℕ) → k < 128 → owner_at w k ≡ (get_or U.branches k no_branch).owner
  unfolding filled
  owner_at_is k q =
      ap (λ x. owner_at x k) h.words
      ∙ get widths (length U.sorts) (length U.branches) (columns U) (holds_sized w U h) 1 k q
      ∙ cell (λ b. b.owner) refl k

  pub word_at_is : (k : ℕ) → k < 128 → word_at w k ≡ word_of (get_or U.branches k no_branch).label
  unfolding filled word_of packed
  word_at_is k q =
      let z = holds_sized w U h in
      let x = word_of (get_or U.branches k no_branch).label in
      let whole : x / 4294967296 * 4294967296 + x % 4294967296 ≡ x = omega arith in
      ap (λ x. word_at x k) h.words
      ∙ ap₂ (λ x y. x * 4294967296 + y)
      (get widths (length U.sorts) (length U.branches) (columns U) z 4 k q ∙ cell label_high refl k)
      (get widths (length U.sorts) (length U.branches) (columns U) z 5 k q ∙ cell label_low refl k)
      ∙ whole

  pub share_at_is : (k : ℕ) → k < 128 → share_at w k ≡ get_or U.shares k 0
  unfolding filled
  share_at_is k q =
      ap (λ x. share_at x k) h.words
      ∙ get widths (length U.sorts) (length U.branches) (columns U) (holds_sized w U h) 9 k q
      ∙ padded_at 128 U.shares k

  field_cell : (f : T.Field → ℕ) → f no_field ≡ 0 → (k j : ℕ) → j < 4
      → get_or (padded 512 (fours f U.branches)) (4 * k + j) 0 ≡ f (get_or (get_or U.branches k no_branch).fields j no_field)
  field_cell f z k j q =
      let fs = (get_or U.branches k no_branch).fields in
      padded_at 512 (fours f U.branches) (4 * k + j) ∙ fours_at f U.branches k j q ∙ ap (λ d. get_or (map f fs) j d) (sym z) ∙ get_or-map f fs j no_field

  sort_at_is : (k : ℕ) → k < 32 → sort_at w k ≡ code_of (get_or U.sorts k T.ends)
  unfolding filled
  sort_at_is k q =
      ap (λ x. sort_at x k) h.words
      ∙ get widths (length U.sorts) (length U.branches) (columns U) (holds_sized w U h) 0 k q
      ∙ padded_at 32 (map code_of U.sorts) k ∙ get_or-map code_of U.sorts k T.ends

  target_at_is : (k : ℕ) → k < 128 → target_at w k ≡ (get_or U.branches k no_branch).target
  unfolding filled
  target_at_is k q =
      ap (λ x. target_at x k) h.words
      ∙ get widths (length U.sorts) (length U.branches) (columns U) (holds_sized w U h) 2 k q
      ∙ cell (λ b. b.target) refl k

  count_at_is : (k : ℕ) → k < 128 → count_at w k ≡ length (get_or U.branches k no_branch).fields
  unfolding filled
  count_at_is k q =
      ap (λ x. count_at x k) h.words
      ∙ get widths (length U.sorts) (length U.branches) (columns U) (holds_sized w U h) 3 k q
      ∙ cell (λ b. length b.fields) refl k

  field_at_is : (k j : ℕ) → k < 128 → j < 4 → field_at w (4 * k + j) ≡ get_or (get_or U.branches k no_branch).fields j no_field
  unfolding filled
  field_at_is k j q l =
      let z = holds_sized w U h in
      let m : 4 * k + j < 512 = omega arith in
      ap (λ x. field_at x (4 * k + j)) h.words
      ∙ (λ i. record {
        kind = (get widths (length U.sorts) (length U.branches) (columns U) z 6 (4 * k + j) m ∙ field_cell (λ f. f.kind) refl k j l) i;
        low = (get widths (length U.sorts) (length U.branches) (columns U) z 7 (4 * k + j) m ∙ field_cell (λ f. f.low) refl k j l) i;
        high = (get widths (length U.sorts) (length U.branches) (columns U) z 8 (4 * k + j) m ∙ field_cell (λ f. f.high) refl k j l) i;
      })

  branch_at_is : (k : ℕ) → k < length U.branches → branch_at w k ≡ get_or U.branches k no_branch
  branch_at_is k q = λ i. record { owner = owner_at_is k m i; label = label i; fields = fields i; target = target_at_is k m i }
    where
      m : k < 128
      m = omega (arith, h.branches)

      b : Branch
      b = get_or U.branches k no_branch

      label : label_of (word_at w k) ≡ b.label
      label = ap label_of (word_at_is k m) ∙ (formed_at U.branches k q h.formed).bytes

      fields : upto (count_at w k) (λ j. field_at w (4 * k + j)) ≡ b.fields
      fields =
          ap (λ n. upto n (λ j. field_at w (4 * k + j))) (count_at_is k m)
          ∙ upto_list b.fields no_field (λ j. field_at w (4 * k + j)) (λ j l. field_at_is k j m (omega (arith, (formed_at U.branches k q h.formed).few)))

  pub view_holds : view w ≡ U
  unfolding view filled
  view_holds = λ i. record { sorts = sorting i; branches = branching i; shares = sharing i; edition = edition_is i }
    where
      sorting : upto (states_of w) (λ i. sort_of (sort_at w i)) ≡ U.sorts
      sorting =
          ap (λ n. upto n (λ i. sort_of (sort_at w i))) holds_states
          ∙ upto_list U.sorts T.ends (λ i. sort_of (sort_at w i)) (λ k l. ap sort_of (sort_at_is k (omega (arith, h.states))) ∙ sort_code (get_or U.sorts k T.ends))

      branching : upto (branches_of w) (branch_at w) ≡ U.branches
      branching = ap (λ n. upto n (branch_at w)) holds_branches ∙ upto_list U.branches no_branch (branch_at w) branch_at_is

      sharing : upto (branches_of w) (share_at w) ≡ U.shares
      sharing =
          ap (λ n. upto n (share_at w)) (holds_branches ∙ sym h.shares)
          ∙ upto_list U.shares 0 (share_at w) (λ k l. share_at_is k (omega (arith, h.branches, h.shares)))

      edition_is : edition_of w ≡ U.edition
      edition_is =
          ap edition_of h.words
          ∙ get widths (length U.sorts) (length U.branches) (columns U) (holds_sized w U h) 10 0 (omega arith)

  -- the codes of sorts are known
  pub known_holds : known w ≡ true
  unfolding known
  known_holds =
      ap (λ n. every (λ c. leb c 2) (upto n (sort_at w))) holds_states
      ∙ upto_every (λ c. leb c 2) (length U.sorts) (sort_at w) (λ k l.
      ap (λ (c : ℕ). leb c 2) (sort_at_is k (omega (arith, h.states))) ∙ code_known (get_or U.sorts k T.ends))
