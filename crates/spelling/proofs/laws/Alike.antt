-- What is asked at a token, and the state after it, depend on the text only through the token as the grammar sees it. So a text that begins
-- with the tokens of another that is refused is refused, too.
-- Assumes nothing.
use mathlib.Core.Path.{◌≡◌, refl, sym, ap, ◌∙◌}
use mathlib.Core.Bool.{cond, Bool, true, false, not, ◌&&◌}
use mathlib.Core.List.{List, [], ◌∷◌, ◌++◌, map}
use Prim.Native.Nat.{ℕ}
use lib.Dec.{eqb, ltb}
use borrow.Author.Tests.{eqb-true, eqb-false}
use Rattle.table.specs.Lists.{first_no}
use Rattle.grammar.proofs.laws.Questions.{asked}
use Rattle.table.specs.Table.{Table}
use Rattle.grammar.specs.Token.{Token, word_in}
use Rattle.grammar.specs.Number.{Signed, signed_in, offset, in_kind, in_share, in_edition}
use Rattle.grammar.specs.Grammar.{Tok, word, number, sign, or_else}
use Rattle.grammar.specs.TokOf.{tok_of}
use Rattle.grammar.specs.Building.{label_used, denied}
use Rattle.grammar.specs.Reading.{Item, outset, edition, just, name, label, type, more, fields, field, low, high, more_fields, dot, share, Open, State, state, open_in, table_in, is_a, next_item, meaning, unguarded, owner_in, admits, as_type, is_found, number_in_range, token_formed, grammar_allows, edition_known, name_bound, guarded, ranged, share_ranged, new_label, within_limits, shares_add, target, began, taken, run_tokens, questions}
use Rattle.grammar.proofs.laws.TokOf.{word_kind, number_kind, kind_word, kind_number}
use Rattle.grammar.proofs.laws.RunTokens.{first_is, rest_is, never_empty, passed}
use Rattle.grammar.proofs.laws.GrammarAllows.{asked_none}
use Rattle.spelling.specs.Places.{kind_in}

kind_in_is : (s : List ℕ) (k : Token) → kind_in (tok_of s k) ≡ k.kind
unfolding tok_of
kind_in_is s k = go (eqb k.kind 65) refl (eqb k.kind 48) refl
  where
    go : (b : Bool) → eqb k.kind 65 ≡ b → (c : Bool) → eqb k.kind 48 ≡ c
        → kind_in (cond b (word (word_in s k)) (cond c (number (signed_in s k)) (sign k.kind))) ≡ k.kind
    go true e c f = sym (eqb-true _ _ e)
    go false e true f = sym (eqb-true _ _ f)
    go false e false f = refl

module _ (s u : List ℕ) (k j : Token) (same : tok_of s k ≡ tok_of u j) where
  kind_same : k.kind ≡ j.kind
  kind_same = sym (kind_in_is s k) ∙ ap kind_in same ∙ kind_in_is u j

  word_same : eqb k.kind 65 ≡ true → word_in s k ≡ word_in u j
  word_same e = sym (word_kind u j (word_in s k) (sym same ∙ kind_word s k (eqb-true _ _ e))).1

  number_same : eqb k.kind 48 ≡ true → signed_in s k ≡ signed_in u j
  number_same e = sym (number_kind u j (signed_in s k) (sym same ∙ kind_number s k (eqb-true _ _ e))).1

  -- a name's word, where the token is a name
  word_in_is : {A : Type 0} (f : ℕ → A) (a : A) → cond (eqb k.kind 65) (f (word_in s k)) a ≡ cond (eqb j.kind 65) (f (word_in u j)) a
  word_in_is {A} f a = go (eqb k.kind 65) refl (word_same) ∙ ap (λ (n : ℕ). cond (eqb n 65) (f (word_in u j)) a) kind_same
    where
      go : (b : Bool) → eqb k.kind 65 ≡ b → (eqb k.kind 65 ≡ true → word_in s k ≡ word_in u j)
          → cond b (f (word_in s k)) a ≡ cond (eqb k.kind 65) (f (word_in u j)) a
      go true e h = ap f (h e) ∙ ap (λ (b : Bool). cond b (f (word_in u j)) a) (sym e)
      go false e h = ap (λ (b : Bool). cond b (f (word_in u j)) a) (sym e)

  -- ---- the questions

  -- a test of a name that is used as a type
  type_same : (f : ℕ → Bool) (i : Item) → cond (as_type i k.kind) (f (word_in s k)) true ≡ cond (as_type i j.kind) (f (word_in u j)) true
  type_same f outset = word_in_is f true
  type_same f edition = refl
  type_same f (just n) = refl
  type_same f name = refl
  type_same f label = refl
  type_same f type = word_in_is f true
  type_same f (more σ) = refl
  type_same f fields = refl
  type_same f field = refl
  type_same f (low κ) = refl
  type_same f (high κ l) = refl
  type_same f more_fields = refl
  type_same f dot = refl
  type_same f share = refl

  range_same : (i : Item) → admits i k.kind ≡ true → number_in_range s k i ≡ number_in_range u j i
  range_same outset a = refl
  range_same edition a = refl
  range_same (just n) a = refl
  range_same name a = refl
  range_same label a = refl
  range_same type a = refl
  range_same (more σ) a = refl
  range_same fields a = refl
  range_same field a = refl
  range_same (low κ) a = ap (in_kind κ) (number_same a)
  range_same (high κ l) a = ap (λ (n : Signed). in_kind κ n && not (ltb (offset n) l)) (number_same a)
  range_same more_fields a = refl
  range_same dot a = refl
  range_same share a = refl

  edition_same : (i : Item) → admits i k.kind ≡ true → cond (is_a i edition) (in_edition (signed_in s k)) true ≡ cond (is_a i edition) (in_edition (signed_in u j)) true
  edition_same outset a = refl
  edition_same edition a = ap in_edition (number_same a)
  edition_same (just n) a = refl
  edition_same name a = refl
  edition_same label a = refl
  edition_same type a = refl
  edition_same (more σ) a = refl
  edition_same fields a = refl
  edition_same field a = refl
  edition_same (low κ) a = refl
  edition_same (high κ l) a = refl
  edition_same more_fields a = refl
  edition_same dot a = refl
  edition_same share a = refl

  share_same : (i : Item) → admits i k.kind ≡ true → cond (is_a i share) (in_share (signed_in s k)) true ≡ cond (is_a i share) (in_share (signed_in u j)) true
  share_same outset a = refl
  share_same edition a = refl
  share_same (just n) a = refl
  share_same name a = refl
  share_same label a = refl
  share_same type a = refl
  share_same (more σ) a = refl
  share_same fields a = refl
  share_same field a = refl
  share_same (low κ) a = refl
  share_same (high κ l) a = refl
  share_same more_fields a = refl
  share_same dot a = refl
  share_same share a = ap in_share (number_same a)

  label_same : (i : Item) (T : Table) (o : ℕ) → admits i k.kind ≡ true
      → cond (is_a i label) (not (label_used T o (word_in s k))) true ≡ cond (is_a i label) (not (label_used T o (word_in u j))) true
  label_same outset T o a = refl
  label_same edition T o a = refl
  label_same (just n) T o a = refl
  label_same name T o a = refl
  label_same label T o a = ap (λ (x : ℕ). not (label_used T o x)) (word_same a)
  label_same type T o a = refl
  label_same (more σ) T o a = refl
  label_same fields T o a = refl
  label_same field T o a = refl
  label_same (low κ) T o a = refl
  label_same (high κ l) T o a = refl
  label_same more_fields T o a = refl
  label_same dot T o a = refl
  label_same share T o a = refl

  formed_same : (st : State) → token_formed s st k ≡ token_formed u st j
  unfolding token_formed
  formed_same st = rw kind_same

  allowed_same : (st : State) → grammar_allows s st k ≡ grammar_allows u st j
  unfolding grammar_allows
  allowed_same st = rw kind_same

  known_same : (st : State) → grammar_allows s st k ≡ true → edition_known s st k ≡ edition_known u st j
  unfolding grammar_allows edition_known
  known_same st a = edition_same (next_item st) a

  named_same : (st : State) → name_bound s st k ≡ name_bound u st j
  unfolding name_bound
  named_same st = type_same (λ x. is_found (meaning (open_in st) x)) (next_item st)

  guarded_same : (st : State) → guarded s st k ≡ guarded u st j
  unfolding guarded
  guarded_same st = type_same (λ x. not (unguarded (open_in st) x)) (next_item st)

  ranged_same : (st : State) → grammar_allows s st k ≡ true → ranged s st k ≡ ranged u st j
  unfolding grammar_allows ranged
  ranged_same st a = range_same (next_item st) a

  shared_same : (st : State) → grammar_allows s st k ≡ true → share_ranged s st k ≡ share_ranged u st j
  unfolding grammar_allows share_ranged
  shared_same st a = share_same (next_item st) a

  new_same : (st : State) → grammar_allows s st k ≡ true → new_label s st k ≡ new_label u st j
  unfolding grammar_allows new_label
  new_same st a = label_same (next_item st) (table_in st) (owner_in (open_in st)) a

  within_same : (st : State) → within_limits s st k ≡ within_limits u st j
  unfolding within_limits
  within_same st = rw kind_same

  added_same : (st : State) → shares_add s st k ≡ shares_add u st j
  unfolding shares_add
  added_same st = rw kind_same

  asked_same : (st : State) → asked s st k ≡ asked u st j
  unfolding first_no questions
  asked_same st =
      rw (formed_same st, named_same st, guarded_same st, within_same st, added_same st)
      (behind (token_formed u st j)
      (λ v r x n. cond v (cond (name_bound u st j) (cond (guarded u st j) (cond r (cond x (cond n (cond (within_limits u st j) (cond (shares_add u st j) 0 20) 8) 7) 19) 6) 5) 4) 23)
      (grammar_allows s st k) (grammar_allows u st j) (edition_known s st k) (edition_known u st j) (ranged s st k) (ranged u st j) (share_ranged s st k) (share_ranged u st j) (new_label s st k) (new_label u st j) (allowed_same st)
      (known_same st) (ranged_same st) (shared_same st) (new_same st))
    where
      -- after 3, what is asked may go by 3
      behind : (w : Bool) (f : Bool → Bool → Bool → Bool → ℕ) (a b v t r q x y n m : Bool) → a ≡ b
          → (a ≡ true → v ≡ t) → (a ≡ true → r ≡ q) → (a ≡ true → x ≡ y) → (a ≡ true → n ≡ m)
          → cond w (cond a (f v r x n) 3) 2 ≡ cond w (cond b (f t q y m) 3) 2
      behind w f true b v t r q x y n m e o g i h = rw (← e, o refl, g refl, i refl, h refl)
      behind w f false b v t r q x y n m e o g i h = rw (← e)

  -- ---- the state after the token

  target_same : (O : List Open) (n : ℕ) → target s k O n ≡ target u j O n
  unfolding target
  target_same O n = word_in_is (λ x. or_else (meaning O x) n) n

  began_same : (E : List Item) (O : List Open) (T : Table) → began k E O T ≡ began j E O T
  unfolding began
  began_same E O T = rw kind_same

  taken_same : (st : State) → grammar_allows s st k ≡ true → taken s st k ≡ taken u st j
  unfolding taken grammar_allows
  taken_same (state [] O b T) a = refl
  taken_same (state (outset ∷ E) O b T) a = rw (target_same O _, began_same E O _, kind_same)
  taken_same (state (edition ∷ E) O b T) a = rw (number_same a)
  taken_same (state (just n ∷ E) O b T) a = refl
  taken_same (state (name ∷ E) O b T) a = rw (word_same a)
  taken_same (state (label ∷ E) O b T) a = rw (word_same a)
  taken_same (state (type ∷ E) O b T) a = rw (target_same O _, began_same E O _, kind_same)
  taken_same (state (more σ ∷ E) O b T) a = rw kind_same
  taken_same (state (fields ∷ E) O b T) a = rw kind_same
  taken_same (state (field ∷ E) O b T) a = rw kind_same
  taken_same (state (low κ ∷ E) O b T) a = rw (number_same a)
  taken_same (state (high κ l ∷ E) O b T) a = rw (number_same a)
  taken_same (state (more_fields ∷ E) O b T) a = rw kind_same
  taken_same (state (dot ∷ E) O b T) a = rw kind_same
  taken_same (state (share ∷ E) O b T) a = rw (number_same a)

-- ---- the first token that gets a no

module _ (s : List ℕ) where
  -- it has the place p, and whoever begins with the tokens up to it gets a no
  pub record Stop (st : State) (ks : List Token) (q p : ℕ) : Type 0 where
    pub before : List Token
    pub here : Token
    pub rest : List Token
    pub split : ks ≡ before ++ (here ∷ rest)
    pub place : here.start ≡ p
    pub why : (z : State) × (asked s z here ≡ q)
    pub none : (u : List ℕ) (js : List Token) (ts : List Tok) → map (tok_of u) js ≡ map (tok_of s) before ++ (tok_of s here ∷ ts) → (run_tokens u st js).question ≡ 0 → ⊥

  stop_here : (st : State) (k : Token) (ks : List Token) → (asked s st k ≡ 0 → ⊥) → Stop st (k ∷ ks) (asked s st k) k.start
  stop_here st k ks h = record { before = []; here = k; rest = ks; split = refl; place = refl; why = (st, refl); none = none }
    where
      none : (u : List ℕ) (js : List Token) (ts : List Tok) → map (tok_of u) js ≡ tok_of s k ∷ ts → (run_tokens u st js).question ≡ 0 → ⊥
      none u [] ts e z = never_empty e
      none u (j ∷ js) ts e z = h (asked_same s u k j (sym (first_is e)) st ∙ (passed u st j js z).0)

  stop_later : (st : State) (k : Token) (ks : List Token) (q p : ℕ) → asked s st k ≡ 0 → Stop (taken s st k) ks q p → Stop st (k ∷ ks) q p
  stop_later st k ks q p h r =
      record { before = k ∷ r.before; here = r.here; rest = r.rest; split = ap (λ (l : List Token). k ∷ l) r.split; place = r.place; why = r.why; none = none }
    where
      none : (u : List ℕ) (js : List Token) (ts : List Tok) → map (tok_of u) js ≡ tok_of s k ∷ (map (tok_of s) r.before ++ (tok_of s r.here ∷ ts))
          → (run_tokens u st js).question ≡ 0 → ⊥
      none u [] ts e z = never_empty e
      none u (j ∷ js) ts e z =
          let t = taken_same s u k j (sym (first_is e)) st (asked_none s k st h) in
          r.none u js ts (rest_is e) (ap (λ (x : State). (run_tokens u x js).question) t ∙ (passed u st j js z).1)

  pub stop : (ks : List Token) (st : State) → ((run_tokens s st ks).question ≡ 0 → ⊥) → Stop st ks (run_tokens s st ks).question (run_tokens s st ks).at
  unfolding run_tokens denied
  stop [] st h = absurd (h refl)
  stop (k ∷ ks) st h = go (eqb (asked s st k) 0) refl h (stop ks (taken s st k))
    where
      go : (b : Bool) → eqb (asked s st k) 0 ≡ b → ((cond b (run_tokens s (taken s st k) ks) (denied (asked s st k) k.start)).question ≡ 0 → ⊥)
          → (((run_tokens s (taken s st k) ks).question ≡ 0 → ⊥) → Stop (taken s st k) ks (run_tokens s (taken s st k) ks).question (run_tokens s (taken s st k) ks).at)
          → Stop st (k ∷ ks) (cond b (run_tokens s (taken s st k) ks) (denied (asked s st k) k.start)).question
          (cond b (run_tokens s (taken s st k) ks) (denied (asked s st k) k.start)).at
      go true e h later = stop_later st k ks _ _ (eqb-true _ _ e) (later h)
      go false e h later = stop_here st k ks (eqb-false _ _ e)
