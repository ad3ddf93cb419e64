-- Reading goes over the tokens of a type exactly where the type is good, and lays its states, branches and shares after those that are there.
-- Where the tests of question q pass, reading does not end with q.
-- Assumes nothing.
use mathlib.Core.Path.{◌≡◌, refl, sym, ap, ap₂, subst, ◌∙◌}
use mathlib.Core.Bool.{cond, Bool, true, false, not, ◌&&◌, false≢true}
use mathlib.Core.Logic.{inl, inr}
use mathlib.Core.List.{List, [], ◌∷◌, ◌++◌, map, append-nil, append_assoc}
use mathlib.Core.Option.{none, some}
use Prim.Native.Nat.{ℕ, suc, ◌+◌, ◌≤◌, ◌<◌}
use native.Mathlib.Omega.{arith}
use lib.Dec.{leb, ltb, eqb}
use lib.ListN.{length, length-append}
use borrow.Author.Tests.{eq-eqb, lt-ltb, le-leb, lt-leb, ltb-true, ltb-false, not-true}
use Rattle.grammar.proofs.laws.Questions.{asked}
use Rattle.table.specs.Lists.{every, first_no}
use Rattle.table.specs.Table.{Table, Branch, of_choice, shares_right}
use Rattle.table.proofs.laws.Lists.{both, join}
use Rattle.grammar.specs.Token.{Token, one_of}
use Rattle.grammar.specs.Number.{Signed, offset, in_kind, in_share}
use Rattle.table.specs.View.{label_of}
use Rattle.grammar.specs.Building.{empty_branch, labelled, field_added, add_state, add_branch, add_share, label_used, choice_right}
use Rattle.grammar.specs.Reading.{Item, just, name, label, type, more, fields, field, low, high, more_fields, dot, share, Open, a_rec, a_choice, State, state, meaning, unguarded, closed, token_formed, grammar_allows, edition_known, is_found, name_bound, guarded, ranged, share_ranged, new_label, within_limits, shares_add, sign_of, choice_sort, kind_of, a_branch, a_field, target, stored, began, taken, questions}
use Rattle.grammar.specs.Grammar.{Way, sending, receiving, Kind, int, text, flag, SyntaxField, Share, Ty, stop, var, loop, choice, Br, last, also, Tok, word, number, sign, mark, arrow, letter, kind_code, way_sort, field_of, print_more, print_fields, print_share, print_head, print, print_br, sorts, sorts_br, bind, or_else, first_state, share_of, shares, shares_br, range_legal, share_legal, branch_for as row, branches as rows, branches_br as rowsBr}
use Rattle.grammar.specs.TokOf.{tok_of}
use Rattle.grammar.proofs.laws.TokOf.{sign_kind, word_kind, number_kind}
use Rattle.grammar.proofs.laws.RunTokens.{Goes, NoneOr, after, given, one, past, done, ending, into, towards}
use Rattle.grammar.proofs.laws.Good.{has_some, All, Only, GoodFields, GoodHead, Good, GoodBr}
use Rattle.table.specs.Table as S

-- a test that passes if q asks it, where reading ends with no question or with q
pub gate : {q : ℕ} (c : Bool) (n : ℕ) → 0 < n → (q ≡ n → c ≡ true) → NoneOr q (cond c 0 n) → c ≡ true
gate true n l g h = refl
gate false n l g (inl h) = absurd (omega arith)
gate false n l g (inr h) = g (sym h)

not_below : (a b : ℕ) → not (ltb a b) ≡ leb b a
not_below a b = go (ltb a b) refl
  where
    go : (c : Bool) → ltb a b ≡ c → not c ≡ leb b a
    go true e = sym (lt-leb b a (ltb-true a b e))
    go false e = sym (le-leb b a (ltb-false a b e))

-- a limit is asked, and those after it are not
and_true : (x : Bool) → ◌≡◌ {A = ℕ} (cond (x && true) 0 8) (cond x 0 8)
and_true true = refl
and_true false = refl

-- a branch with fields, before its target is known
abbrev part : ℕ → ℕ → List S.Field → Branch
part l o fs = record { owner = o; label = label_of l; fields = fs; target = 0 }

-- q is the question that reading ends with, or 0; v is the edition
module _ (s : List ℕ) (q : ℕ) (v : ℕ) where
  -- a table of its lists
  abbrev laid : List S.Sort → List Branch → List ℕ → Table
  laid ss rs ws = record { sorts = ss; branches = rs; shares = ws; edition = v }

  -- a token with a test, whose no is n
  tested : {st st' : State} {a : Tok} {us : List Tok} (c : Bool) (n : ℕ) → 0 < n → (q ≡ n → c ≡ true)
      → ((k : Token) → tok_of s k ≡ a → (asked s st k ≡ cond c 0 n) × (taken s st k ≡ st')) → Goes s q (c ≡ true) st (a ∷ us) st' us
  tested c n l g f = one s (λ k h.
      let a = f k h in
      ((λ p. a.0 ∙ ap (λ (x : Bool). cond x 0 n) p), (λ e. gate c n l g (rw a.0 at e)), (λ p. a.1)))

  -- a token with which something is counted, or two things
  counted : {st st' : State} {a : Tok} {us : List Tok} (n m : ℕ) → (q ≡ 8 → n < m)
      → ((k : Token) → tok_of s k ≡ a → (asked s st k ≡ cond (ltb n m) 0 8) × (taken s st k ≡ st')) → Goes s q (n < m) st (a ∷ us) st' us
  counted n m g f = given s (ltb-true n m) (lt-ltb n m) (tested (ltb n m) 8 (omega arith) (λ e. lt-ltb n m (g e)) f)

  counted_both : {st st' : State} {a : Tok} {us : List Tok} (n m i j : ℕ) → (q ≡ 8 → (n < m) × (i < j))
      → ((k : Token) → tok_of s k ≡ a → (asked s st k ≡ cond (ltb n m && ltb i j) 0 8) × (taken s st k ≡ st')) → Goes s q ((n < m) × (i < j)) st (a ∷ us) st' us
  counted_both n m i j g f =
      given s (λ c. let d = both (ltb n m) (ltb i j) c in (ltb-true n m d.0, ltb-true i j d.1)) back
      (tested (ltb n m && ltb i j) 8 (omega arith) (λ e. back (g e)) f)
    where
      back : (n < m) × (i < j) → (ltb n m && ltb i j) ≡ true
      back p = join (lt-ltb n m p.0) (lt-ltb i j p.1)

  -- a sign with which nothing is counted always passes: [ .. ] ( { .
  abbrev Uncounted : ℕ → Type 0
  Uncounted n =
      (eqb n 1 ≡ false) × (one_of (43 ∷ 38 ∷ 101 ∷ []) n ≡ false) × (one_of (33 ∷ 63 ∷ []) n ≡ false) × (one_of (105 ∷ 116 ∷ 102 ∷ []) n ≡ false)
      × (one_of (43 ∷ 38 ∷ 114 ∷ []) n ≡ false)

  plain : (n : ℕ) → Uncounted n → (E : List Item) (O : List Open) (b : Branch) (T : Table) {Q : Type 0} {st : State} {us vs : List Tok}
      → Goes s q Q (state E O b T) us st vs → Goes s q Q (state (just n ∷ E) O b T) (sign n ∷ us) st vs
  unfolding first_no questions token_formed grammar_allows edition_known name_bound guarded ranged share_ranged new_label within_limits shares_add taken
  plain n u E O b T g = past s (λ k h.
      let e : k.kind ≡ n = sign_kind s k n h in
      (rw (e, u.0, eq-eqb n n refl, u.1, u.2, u.3, u.4), refl)) g

  -- ---- fields

  module _ (E : List Item) (O : List Open) (T : Table) where
    low_one : (b : Branch) (κ : ℕ) (n : Signed) {us : List Tok} → (q ≡ 6 → in_kind κ n ≡ true)
        → Goes s q (in_kind κ n ≡ true) (state (low κ ∷ E) O b T) (number n ∷ us) (state (just 58 ∷ high κ (offset n) ∷ E) O b T) us
    unfolding first_no questions token_formed grammar_allows edition_known name_bound guarded ranged share_ranged new_label within_limits shares_add taken
    low_one b κ n g = tested (in_kind κ n) 6 (omega arith) g (λ k h.
        let w = number_kind s k n h in
        (rw (w.0, w.1), ap (λ (m : Signed). state (just 58 ∷ high κ (offset m) ∷ E) O b T) w.1))

    high_one : (b : Branch) (κ l : ℕ) (n : Signed) {us : List Tok} → (q ≡ 6 → (in_kind κ n && leb l (offset n)) ≡ true)
        → Goes s q ((in_kind κ n && leb l (offset n)) ≡ true) (state (high κ l ∷ E) O b T) (number n ∷ us) (state E O (field_added b κ l (offset n)) T) us
    unfolding first_no questions token_formed grammar_allows edition_known name_bound guarded ranged share_ranged new_label within_limits shares_add taken
    high_one b κ l n g = tested (in_kind κ n && leb l (offset n)) 6 (omega arith) g (λ k h.
        let w = number_kind s k n h in
        (rw (w.0, w.1) (ap (λ (c : Bool). cond (in_kind κ n && c) 0 6) (not_below (offset n) l)), ap (λ (m : Signed). state E O (field_added b κ l (offset m)) T) w.1))

    -- the word of a kind
    word_taken : (b : Branch) (κ : Kind) (k : Token) → tok_of s k ≡ sign (letter κ)
        → (asked s (state (field ∷ E) O b T) k ≡ cond (ltb (length b.fields) 4) 0 8)
        × (asked s (state (fields ∷ E) O b T) k ≡ cond (ltb (length b.fields) 4) 0 8)
        × (taken s (state (field ∷ E) O b T) k ≡ state (a_field (kind_code κ) E) O b T)
        × (taken s (state (fields ∷ E) O b T) k ≡ state (a_field (kind_code κ) E) O b T)
    unfolding first_no questions token_formed grammar_allows edition_known name_bound guarded ranged share_ranged new_label within_limits shares_add taken kind_of
    word_taken b int k e =
        let h : k.kind ≡ 105 = sign_kind s k 105 e in
        (rw h (and_true (ltb (length b.fields) 4)), rw h (and_true (ltb (length b.fields) 4)), rw h, rw h)
    word_taken b text k e =
        let h : k.kind ≡ 116 = sign_kind s k 116 e in
        (rw h (and_true (ltb (length b.fields) 4)), rw h (and_true (ltb (length b.fields) 4)), rw h, rw h)
    word_taken b flag k e =
        let h : k.kind ≡ 102 = sign_kind s k 102 e in
        (rw h (and_true (ltb (length b.fields) 4)), rw h (and_true (ltb (length b.fields) 4)), rw h, rw h)

    field_one : (b : Branch) (κ : Kind) {us : List Tok} → (q ≡ 8 → length b.fields < 4)
        → Goes s q (length b.fields < 4) (state (field ∷ E) O b T) (sign (letter κ) ∷ us) (state (a_field (kind_code κ) E) O b T) us
    field_one b κ g = counted (length b.fields) 4 g (λ k h. let w = word_taken b κ k h in (w.0, w.2))

    fields_one : (b : Branch) (κ : Kind) {us : List Tok} → (q ≡ 8 → length b.fields < 4)
        → Goes s q (length b.fields < 4) (state (fields ∷ E) O b T) (sign (letter κ) ∷ us) (state (a_field (kind_code κ) E) O b T) us
    fields_one b κ g = counted (length b.fields) 4 g (λ k h. let w = word_taken b κ k h in (w.1, w.3))

    -- the parenthesis that closes, and a comma between fields
    closing : (b : Branch) (k : Token) → tok_of s k ≡ sign 41
        → (asked s (state (more_fields ∷ E) O b T) k ≡ 0) × (taken s (state (more_fields ∷ E) O b T) k ≡ state E O b T)
    unfolding first_no questions token_formed grammar_allows edition_known name_bound guarded ranged share_ranged new_label within_limits shares_add taken
    closing b k e = let h : k.kind ≡ 41 = sign_kind s k 41 e in (rw h, rw h)

    closing_none : (b : Branch) (k : Token) → tok_of s k ≡ sign 41
        → (asked s (state (fields ∷ E) O b T) k ≡ 0) × (taken s (state (fields ∷ E) O b T) k ≡ state E O b T)
    unfolding first_no questions token_formed grammar_allows edition_known name_bound guarded ranged share_ranged new_label within_limits shares_add taken
    closing_none b k e = let h : k.kind ≡ 41 = sign_kind s k 41 e in (rw h, rw h)

    comma : (b : Branch) (k : Token) → tok_of s k ≡ sign 44
        → (asked s (state (more_fields ∷ E) O b T) k ≡ 0) × (taken s (state (more_fields ∷ E) O b T) k ≡ state (field ∷ E) O b T)
    unfolding first_no questions token_formed grammar_allows edition_known name_bound guarded ranged share_ranged new_label within_limits shares_add taken
    comma b k e = let h : k.kind ≡ 44 = sign_kind s k 44 e in (rw h, rw h)

  module _ (E : List Item) (O : List Open) (T : Table) (l o : ℕ) where
    -- [ low .. high ]
    range_law : (f : SyntaxField) (gs : List S.Field) {us : List Tok} → length gs < 4 → (q ≡ 6 → range_legal f ≡ true)
        → Goes s q (range_legal f ≡ true) (state (a_field (kind_code f.kind) E) O (part l o gs) T)
        (sign 91 ∷ number f.low ∷ sign 58 ∷ number f.high ∷ sign 93 ∷ us)
        (state (more_fields ∷ E) O (part l o (gs ++ (field_of f ∷ []))) T) us
    unfolding range_legal
    range_law f gs room g =
        let κ = kind_code f.kind in
        let b = part l o gs in
        given s (λ c. joined c) (λ c. parted c)
        (plain 91 (refl, refl, refl, refl, refl) (low κ ∷ just 93 ∷ more_fields ∷ E) O b T
        (after s (low_one (just 93 ∷ more_fields ∷ E) O T b κ f.low (λ e. (parted (g e)).0))
        (λ p. plain 58 (refl, refl, refl, refl, refl) (high κ (offset f.low) ∷ just 93 ∷ more_fields ∷ E) O b T
        (ending s (high_one (just 93 ∷ more_fields ∷ E) O T b κ (offset f.low) f.high (λ e. (parted (g e)).1))
        (λ q. plain 93 (refl, refl, refl, refl, refl) (more_fields ∷ E) O (part l o (gs ++ (field_of f ∷ []))) T (done s))))))
      where
        x : Bool
        x = in_kind (kind_code f.kind) f.low

        y : Bool
        y = in_kind (kind_code f.kind) f.high

        z : Bool
        z = leb (offset f.low) (offset f.high)

        joined : (x ≡ true) × ((y && z) ≡ true) → (x && y && z) ≡ true
        joined c = let d = both y z c.1 in join (join c.0 d.0) d.1

        parted : (x && y && z) ≡ true → (x ≡ true) × ((y && z) ≡ true)
        parted c =
            let d = both (x && y) z c in
            let e = both x y d.0 in
            (e.0, join e.1 d.1)

    more_law : (fs : List SyntaxField) (gs : List S.Field) {us : List Tok} → length gs ≤ 4 → (q ≡ 6 → every range_legal fs ≡ true) → (q ≡ 8 → length gs + length fs ≤ 4)
        → Goes s q ((every range_legal fs ≡ true) × (length gs + length fs ≤ 4)) (state (more_fields ∷ E) O (part l o gs) T) (print_more fs us)
        (state E O (part l o (gs ++ map field_of fs)) T) us
    unfolding every
    more_law [] gs room i j =
        given s (λ (c : Unit {0}). (refl, omega arith)) (λ c. tt)
        (into s (ap (λ (x : List S.Field). state E O (part l o x) T) (sym (append-nil gs))) (past s (closing E O T (part l o gs)) (done s)))
    more_law (f ∷ fs) gs room i j =
        let g = field_of f in
        let n = length-append gs (g ∷ []) in
        given s
        (λ c. let m = c.1.1.1 in (join c.1.0 c.1.1.0, omega (arith, n)))
        (λ c.
        let m = c.1 in
        let d = both (range_legal f) (every range_legal fs) c.0 in
        (omega arith, (d.0, (d.1, omega (arith, n)))))
        (past s (comma E O T (part l o gs))
        (after s (field_one E O T (part l o gs) f.kind (λ e. omega (arith, j e)))
        (λ p. after s (range_law f gs p (λ e. (both (range_legal f) (every range_legal fs) (i e)).0))
        (λ q. into s (ap (λ (x : List S.Field). state E O (part l o x) T) (append_assoc gs (g ∷ []) (map field_of fs)))
        (more_law fs (gs ++ (g ∷ [])) (omega (arith, n)) (λ e. (both (range_legal f) (every range_legal fs) (i e)).1) (λ e. omega (arith, n, j e)))))))

    fields_law : (fs : List SyntaxField) {us : List Tok} → GoodFields (Only q) fs
        → Goes s q (GoodFields All fs) (state (fields ∷ E) O (labelled l o) T) (print_fields fs us) (state E O (part l o (map field_of fs)) T) us
    unfolding every
    fields_law [] g = given s (λ (c : Unit {0}). (refl, omega arith)) (λ c. tt) (past s (closing_none E O T (part l o [])) (done s))
    fields_law (f ∷ fs) g =
        given s (λ c. (join c.1.0 c.1.1.0, let m = c.1.1.1 in omega arith))
        (λ c.
        let d = both (range_legal f) (every range_legal fs) c.0 in
        let m = c.1 in
        (omega arith, (d.0, (d.1, omega arith))))
        (after s (fields_one E O T (part l o []) f.kind (λ e. omega arith))
        (λ p. after s (range_law f [] p (λ e. (both (range_legal f) (every range_legal fs) (g.0 e)).0))
        (λ q. more_law fs (field_of f ∷ []) (omega arith) (λ e. (both (range_legal f) (every range_legal fs) (g.0 e)).1) (λ e. omega (arith, g.1 e)))))

  -- ---- a branch up to its type

  send_one : (w : Way) (E : List Item) (O : List Open) (b : Branch) (T : Table) {us : List Tok} → (q ≡ 8 → length T.branches < 128)
      → Goes s q (length T.branches < 128) (state (just (arrow w) ∷ E) O b T) (sign (arrow w) ∷ us) (state E O b T) us
  unfolding first_no questions token_formed grammar_allows edition_known name_bound guarded ranged share_ranged new_label within_limits shares_add taken
  send_one sending E O b T g = counted (length T.branches) 128 g (λ k e. let h : k.kind ≡ 33 = sign_kind s k 33 e in (rw h (and_true (ltb (length T.branches) 128)), refl))
  send_one receiving E O b T g = counted (length T.branches) 128 g (λ k e. let h : k.kind ≡ 63 = sign_kind s k 63 e in (rw h (and_true (ltb (length T.branches) 128)), refl))

  label_one : (l o : ℕ) (E : List Item) (O : List Open) (b : Branch) (T : Table) {us : List Tok} → (q ≡ 7 → label_used T o l ≡ false)
      → Goes s q (label_used T o l ≡ false) (state (label ∷ E) (a_choice o ∷ O) b T) (word l ∷ us) (state E (a_choice o ∷ O) (labelled l o) T) us
  unfolding first_no questions token_formed grammar_allows edition_known name_bound guarded ranged share_ranged new_label within_limits shares_add taken
  label_one l o E O b T g =
      given s (not-true (label_used T o l)) (ap not)
      (tested (not (label_used T o l)) 7 (omega arith) (λ e. ap not (g e)) (λ k h.
      let w = word_kind s k l h in
      (rw (w.0, w.1), ap (λ (m : ℕ). state E (a_choice o ∷ O) (labelled m o) T) w.1)))

  module _ (E : List Item) (O : List Open) (b : Branch) (T : Table) where
    share_one : (n : Signed) {us : List Tok} → (q ≡ 19 → in_share n ≡ true)
        → Goes s q (in_share n ≡ true) (state (share ∷ E) O b T) (number n ∷ us) (state E O b (add_share T n.value)) us
    unfolding first_no questions token_formed grammar_allows edition_known name_bound guarded ranged share_ranged new_label within_limits shares_add taken
    share_one n g = tested (in_share n) 19 (omega arith) g (λ k h.
        let w = number_kind s k n h in
        (rw (w.0, w.1), ap (λ (m : Signed). state E O b (add_share T m.value)) w.1))

    at_one : (k : Token) → tok_of s k ≡ sign 64 → (asked s (state (dot ∷ E) O b T) k ≡ 0) × (taken s (state (dot ∷ E) O b T) k ≡ state (share ∷ just 46 ∷ E) O b T)
    unfolding first_no questions token_formed grammar_allows edition_known name_bound guarded ranged share_ranged new_label within_limits shares_add taken
    at_one k e = let h : k.kind ≡ 64 = sign_kind s k 64 e in (rw h, rw h)

    dot_one : (k : Token) → tok_of s k ≡ sign 46 → (asked s (state (dot ∷ E) O b T) k ≡ 0) × (taken s (state (dot ∷ E) O b T) k ≡ state E O b (add_share T 0))
    unfolding first_no questions token_formed grammar_allows edition_known name_bound guarded ranged share_ranged new_label within_limits shares_add taken
    dot_one k e = let h : k.kind ≡ 46 = sign_kind s k 46 e in (rw h, rw h)

  -- a share or none, and the dot
  share_law : (sh : Share) (E : List Item) (O : List Open) (b : Branch) (T : Table) {us : List Tok} → (q ≡ 19 → share_legal sh ≡ true)
      → Goes s q (share_legal sh ≡ true) (state (dot ∷ E) O b T) (print_share sh (sign 46 ∷ us)) (state E O b (add_share T (share_of sh))) us
  share_law none E O b T g = given s (λ c. refl) (λ c. tt) (past s (dot_one E O b T) (done s))
  share_law (some n) E O b T g =
      past s (at_one E O b T)
      (ending s (share_one (just 46 ∷ E) O b T n g) (λ p. plain 46 (refl, refl, refl, refl, refl) E O b (add_share T n.value) (done s)))

  head_law : (w : Way) (E : List Item) (O : List Open) (o l : ℕ) (fs : List SyntaxField) (sh : Share) (ss : List S.Sort) (rs : List Branch) (ws : List ℕ) {us : List Tok} → GoodHead (Only q) o l fs sh rs
      → Goes s q (GoodHead All o l fs sh rs) (state (a_branch (arrow w) E) (a_choice o ∷ O) empty_branch (laid ss rs ws))
      (print_head (arrow w) l fs sh us) (state (type ∷ more (arrow w) ∷ E) (a_choice o ∷ O) (part l o (map field_of fs)) (laid ss rs (ws ++ (share_of sh ∷ [])))) us
  unfolding add_share
  head_law w E O o l fs sh ss rs ws g =
      let T = laid ss rs ws in
      let A = dot ∷ type ∷ more (arrow w) ∷ E in
      given s (λ c. (c.0, (sym (has_some T o l) ∙ c.1.0, c.1.1))) (λ c. (c.0, (has_some T o l ∙ c.1.0, c.1.1)))
      (after s (send_one w (label ∷ just 40 ∷ fields ∷ A) (a_choice o ∷ O) empty_branch T g.0)
      (λ p. after s (label_one l o (just 40 ∷ fields ∷ A) O empty_branch T (λ e. has_some T o l ∙ g.1.0 e))
      (λ q. plain 40 (refl, refl, refl, refl, refl) (fields ∷ A) (a_choice o ∷ O) (labelled l o) T
      (after s (fields_law A (a_choice o ∷ O) T l o fs g.1.1.0)
      (λ r. share_law sh (type ∷ more (arrow w) ∷ E) (a_choice o ∷ O) (part l o (map field_of fs)) T g.1.1.1)))))

  -- ---- the first token of a type that is no rec; W is the table with the branch that leads to it

  module _ (E : List Item) (O : List Open) (b : Branch) (T W : Table) where
    end_one : {us : List Tok} → (q ≡ 8 → length T.sorts < 32) → stored O b T (length T.sorts) ≡ W
        → Goes s q (length T.sorts < 32) (state (type ∷ E) O b T) (sign 101 ∷ us) (state E (closed O) empty_branch (add_state W S.ends)) us
    unfolding first_no questions token_formed grammar_allows edition_known name_bound guarded ranged share_ranged new_label within_limits shares_add taken began target
    end_one g e = counted (length T.sorts) 32 g (λ k f.
        let h : k.kind ≡ 101 = sign_kind s k 101 f in
        (rw h (and_true (ltb (length T.sorts) 32)), rw h (ap (λ (x : Table). state E (closed O) empty_branch (add_state x S.ends)) e)))

    var_one : (x : ℕ) {us : List Tok} → (q ≡ 4 → is_found (meaning O x) ≡ true) → (q ≡ 5 → unguarded O x ≡ false)
        → stored O b T (or_else (meaning O x) (length T.sorts)) ≡ W
        → Goes s q ((is_found (meaning O x) ≡ true) × (unguarded O x ≡ false)) (state (type ∷ E) O b T) (word x ∷ us) (state E (closed O) empty_branch W) us
    unfolding first_no questions token_formed grammar_allows edition_known name_bound guarded ranged share_ranged new_label within_limits shares_add taken began target
    var_one x i g e = one s (λ k f.
        let w = word_kind s k x f in
        let a : asked s (state (type ∷ E) O b T) k ≡ cond (is_found (meaning O x)) (cond (not (unguarded O x)) 0 5) 4 = rw (w.0, w.1) in
        ((λ p. a ∙ ap₂ (λ c d. cond c (cond (not d) 0 5) 4) p.0 p.1), (λ z. apart (is_found (meaning O x)) (unguarded O x) i g (rw a at z)), (λ p. rw (w.0, w.1) (ap (state E (closed O) empty_branch) e))))
      where
        apart : (c d : Bool) → (q ≡ 4 → c ≡ true) → (q ≡ 5 → d ≡ false) → NoneOr q (cond c (cond (not d) 0 5) 4) → (c ≡ true) × (d ≡ false)
        apart true true i g (inl z) = absurd (omega arith)
        apart true true i g (inr z) = (refl, g (sym z))
        apart true false i g z = (refl, refl)
        apart false d i g (inl z) = absurd (omega arith)
        apart false d i g (inr z) = absurd (false≢true (i (sym z)))

    choice_one : (w : Way) {us : List Tok} → (q ≡ 8 → (length T.sorts < 32) × (length O < 16)) → stored O b T (length T.sorts) ≡ W
        → Goes s q ((length T.sorts < 32) × (length O < 16)) (state (type ∷ E) O b T) (sign (mark w) ∷ us)
        (state (just 123 ∷ a_branch (arrow w) E) (a_choice (length W.sorts) ∷ O) empty_branch (add_state W (way_sort w))) us
    unfolding first_no questions token_formed grammar_allows edition_known name_bound guarded ranged share_ranged new_label within_limits shares_add taken began target sign_of choice_sort
    choice_one sending g e = counted_both (length T.sorts) 32 (length O) 16 g (λ k f.
        let h : k.kind ≡ 43 = sign_kind s k 43 f in
        (rw h, rw h (ap (λ (x : Table). state (just 123 ∷ a_branch 33 E) (a_choice (length x.sorts) ∷ O) empty_branch (add_state x S.sends)) e)))
    choice_one receiving g e = counted_both (length T.sorts) 32 (length O) 16 g (λ k f.
        let h : k.kind ≡ 38 = sign_kind s k 38 f in
        (rw h, rw h (ap (λ (x : Table). state (just 123 ∷ a_branch 63 E) (a_choice (length x.sorts) ∷ O) empty_branch (add_state x S.receives)) e)))

  -- a rec and its name, where n states are there
  rec_one : (E : List Item) (O : List Open) (b : Branch) (T : Table) {us : List Tok} → (q ≡ 8 → length O < 16)
      → Goes s q (length O < 16) (state (type ∷ E) O b T) (sign 114 ∷ us) (state (name ∷ just 46 ∷ type ∷ E) O b T) us
  unfolding first_no questions token_formed grammar_allows edition_known name_bound guarded ranged share_ranged new_label within_limits shares_add taken
  rec_one E O b T g = counted (length O) 16 g (λ k f. let h : k.kind ≡ 114 = sign_kind s k 114 f in (rw h, rw h))

  name_one : (x n : ℕ) (E : List Item) (O : List Open) (b : Branch) (T : Table) → length T.sorts ≡ n → (k : Token) → tok_of s k ≡ word x
      → (asked s (state (name ∷ E) O b T) k ≡ 0) × (taken s (state (name ∷ E) O b T) k ≡ state E (a_rec x n ∷ O) b T)
  unfolding first_no questions token_formed grammar_allows edition_known name_bound guarded ranged share_ranged new_label within_limits shares_add taken
  name_one x n E O b T e k f = let w = word_kind s k x f in (rw w.0, ap₂ (λ y m. state E (a_rec y m ∷ O) b T) w.1 e)

  -- after a branch
  brace_one : (σ : ℕ) (E : List Item) (o : ℕ) (O : List Open) (b : Branch) (T : Table) {us : List Tok}
      → (q ≡ 20 → shares_right (of_choice o T.branches T.shares) ≡ true)
      → Goes s q (shares_right (of_choice o T.branches T.shares) ≡ true) (state (more σ ∷ E) (a_choice o ∷ O) b T) (sign 125 ∷ us) (state E (closed O) b T) us
  unfolding first_no questions token_formed grammar_allows edition_known name_bound guarded ranged share_ranged new_label within_limits shares_add choice_right taken
  brace_one σ E o O b T g = tested (shares_right (of_choice o T.branches T.shares)) 20 (omega arith) g (λ k f.
      let h : k.kind ≡ 125 = sign_kind s k 125 f in
      (rw h, rw h))

  comma_one : (σ : ℕ) (E : List Item) (O : List Open) (b : Branch) (T : Table) (k : Token) → tok_of s k ≡ sign 44
      → (asked s (state (more σ ∷ E) O b T) k ≡ 0) × (taken s (state (more σ ∷ E) O b T) k ≡ state (a_branch σ E) O b T)
  unfolding first_no questions token_formed grammar_allows edition_known name_bound guarded ranged share_ranged new_label within_limits shares_add taken
  comma_one σ E O b T k f = let h : k.kind ≡ 44 = sign_kind s k 44 f in (rw h, rw h)

  -- ---- types

  -- a branch that leads to a type
  led : (o l : ℕ) (t : Ty) (fs : List SyntaxField) (ss : List S.Sort) (rs : List Branch) (ws : List ℕ) (O : List Open)
      → stored (a_choice o ∷ O) (part l o (map field_of fs)) (laid ss rs ws) (first_state t (meaning (a_choice o ∷ O)) (length ss))
      ≡ laid ss (rs ++ (row o l fs (first_state t (meaning O) (length ss)) ∷ [])) ws
  unfolding meaning stored add_branch
  led o l t fs ss rs ws O = refl

  -- the first token of a type where W is laid out
  module _ (E : List Item) (O : List Open) (b : Branch) (T : Table) (ss : List S.Sort) (rs : List Branch) (ws : List ℕ) (n : length T.sorts ≡ length ss) where
    end_laid : {us : List Tok} → (q ≡ 8 → length ss < 32) → stored O b T (length T.sorts) ≡ laid ss rs ws
        → Goes s q (length ss < 32) (state (type ∷ E) O b T) (sign 101 ∷ us) (state E (closed O) empty_branch (laid (ss ++ (S.ends ∷ [])) (rs ++ []) (ws ++ []))) us
    unfolding add_state
    end_laid g e =
        towards s (given s (λ p. omega arith) (λ p. omega arith) (end_one E O b T (laid ss rs ws) (λ z. omega (arith, g z)) e))
        (λ p. ap₂ (λ x y. state E (closed O) empty_branch (laid (ss ++ (S.ends ∷ [])) x y)) (sym (append-nil rs)) (sym (append-nil ws)))

    choice_laid : (w : Way) {us : List Tok} → (q ≡ 8 → (length ss < 32) × (length O < 16)) → stored O b T (length T.sorts) ≡ laid ss rs ws
        → Goes s q ((length ss < 32) × (length O < 16)) (state (type ∷ E) O b T) (sign (mark w) ∷ us)
        (state (just 123 ∷ a_branch (arrow w) E) (a_choice (length ss) ∷ O) empty_branch (laid (ss ++ (way_sort w ∷ [])) rs ws)) us
    unfolding add_state
    choice_laid w g e =
        given s (λ p. let a = p.0 in (omega arith, p.1)) (λ p. let a = p.0 in (omega arith, p.1))
        (choice_one E O b T (laid ss rs ws) w (λ z. (omega (arith, (g z).0), (g z).1)) e)

  -- reading goes over branches; i is the number of states before them
  abbrev Over : Br → Way → List Item → List Open → ℕ → List S.Sort → List Branch → List ℕ → List Tok → ℕ → Type 0
  Over bs w E O o ss rs ws us i =
      GoodBr (Only q) bs (a_choice o ∷ O) o i rs ws
      → Goes s q (GoodBr All bs (a_choice o ∷ O) o i rs ws) (state (a_branch (arrow w) E) (a_choice o ∷ O) empty_branch (laid ss rs ws)) (print_br bs (arrow w) us)
      (state E (closed O) empty_branch (laid (ss ++ sorts_br bs) (rs ++ rowsBr bs (meaning O) o i) (ws ++ shares_br bs))) us

  mutual
    unfolding closed meaning bind stored unguarded

    -- a type; n is the number of states before it
    pub type_law : (t : Ty) (E : List Item) (O : List Open) (b : Branch) (T : Table) (ss : List S.Sort) (rs : List Branch) (ws : List ℕ) (us : List Tok) → Good (Only q) t O (length ss) rs ws
        → stored O b T (first_state t (meaning O) (length T.sorts)) ≡ laid ss rs ws → length T.sorts ≡ length ss
        → Goes s q (Good All t O (length ss) rs ws) (state (type ∷ E) O b T) (print t us)
        (state E (closed O) empty_branch (laid (ss ++ sorts t) (rs ++ rows t (meaning O) (length ss)) (ws ++ shares t))) us
    type_law stop E O b T ss rs ws us g e n = end_laid E O b T ss rs ws n g e
    type_law (var x) E O b T ss rs ws us g e n =
        into s (λ i. state E (closed O) empty_branch (laid (sym (append-nil ss) i) (sym (append-nil rs) i) (sym (append-nil ws) i)))
        (var_one E O b T (laid ss rs ws) x g.0 g.1 e)
    type_law (loop x t) E O b T ss rs ws us g e n =
        let P = a_rec x (length ss) ∷ O in
        let f = subst (λ m. stored O b T (first_state t (bind x m (meaning O)) (length T.sorts)) ≡ laid ss rs ws) n e in
        after s (rec_one E O b T g.0)
        (λ p. past s (name_one x (length ss) (just 46 ∷ type ∷ E) O b T n)
        (plain 46 (refl, refl, refl, refl, refl) (type ∷ E) P b T (type_law t E P b T ss rs ws us g.1 f n)))
    type_law (choice w bs) E O b T ss rs ws us g e n =
        let o = length ss in
        let c = way_sort w ∷ [] in
        let k : length (ss ++ c) ≡ suc o = omega (arith, length-append ss c) in
        after s (choice_laid E O b T ss rs ws n w g.0 e)
        (λ p. plain 123 (refl, refl, refl, refl, refl) (a_branch (arrow w) E) (a_choice o ∷ O) empty_branch (laid (ss ++ c) rs ws)
        (into s (ap (λ (x : List S.Sort). state E (closed O) empty_branch (laid x (rs ++ rowsBr bs (meaning O) o (suc o)) (ws ++ shares_br bs))) (append_assoc ss c (sorts_br bs)))
        (subst (Over bs w E O o (ss ++ c) rs ws us) k (λ i. branches_law bs w E O o (ss ++ c) rs ws us i) g.1)))

    pub branches_law : (bs : Br) (w : Way) (E : List Item) (O : List Open) (o : ℕ) (ss : List S.Sort) (rs : List Branch) (ws : List ℕ) (us : List Tok)
        → Over bs w E O o ss rs ws us (length ss)
    branches_law (last l fs sh t) w E O o ss rs ws us h =
        let n = length ss in
        let r = row o l fs (first_state t (meaning O) n) in
        let v = share_of sh in
        let qs = rs ++ (r ∷ []) in
        let vs = ws ++ (v ∷ []) in
        into s (ap₂ (λ x y. state E (closed O) empty_branch (laid (ss ++ sorts t) x y)) (append_assoc rs (r ∷ []) (rows t (meaning O) n)) (append_assoc ws (v ∷ []) (shares t)))
        (after s (head_law w E O o l fs sh ss rs ws h.0)
        (λ p. after s
        (type_law t (more (arrow w) ∷ E) (a_choice o ∷ O) (part l o (map field_of fs)) (laid ss rs vs) ss qs vs (sign 125 ∷ us) h.1.0 (led o l t fs ss rs vs O) refl)
        (λ g. brace_one (arrow w) E o O empty_branch (laid (ss ++ sorts t) (qs ++ rows t (meaning O) n) (vs ++ shares t)) h.1.1)))
    branches_law (also l fs sh t bs) w E O o ss rs ws us h =
        let n = length ss in
        let r = row o l fs (first_state t (meaning O) n) in
        let v = share_of sh in
        let qs = rs ++ (r ∷ []) in
        let vs = ws ++ (v ∷ []) in
        let ns = ss ++ sorts t in
        let m = qs ++ rows t (meaning O) n in
        let j = vs ++ shares t in
        let k : length ns ≡ n + length (sorts t) = length-append ss (sorts t) in
        let R = rowsBr bs (meaning O) o (n + length (sorts t)) in
        after s (head_law w E O o l fs sh ss rs ws h.0)
        (λ p. after s
        (type_law t (more (arrow w) ∷ E) (a_choice o ∷ O) (part l o (map field_of fs)) (laid ss rs vs) ss qs vs (sign 44 ∷ print_br bs (arrow w) us) h.1.0 (led o l t fs ss rs vs O) refl)
        (λ g. past s (comma_one (arrow w) E (a_choice o ∷ O) empty_branch (laid ns m j))
        (into s
        (λ i. state E (closed O) empty_branch
        (laid (append_assoc ss (sorts t) (sorts_br bs) i)
        ((append_assoc qs (rows t (meaning O) n) R ∙ append_assoc rs (r ∷ []) (rows t (meaning O) n ++ R)) i)
        ((append_assoc vs (shares t) (shares_br bs) ∙ append_assoc ws (v ∷ []) (shares t ++ shares_br bs)) i)))
        (subst (Over bs w E O o ns m j us) k (λ i. branches_law bs w E O o ns m j us i) h.1.1))))
