-- What the grammar still allows: the token lists that what is expected can become. A token that is allowed takes them forwards and
-- backwards, and there is always one.
-- Assumes nothing.
use mathlib.Core.Path.{◌≡◌, refl, sym, ap, subst, ◌∙◌}
use mathlib.Core.Bool.{cond, Bool, true, false, ◌||◌, true≢false}
use mathlib.Core.Logic.{◌⊎◌, inl, inr}
use mathlib.Core.List.{List, [], ◌∷◌}
use mathlib.Core.Option.{Option, none, some}
use Prim.Native.Nat.{ℕ}
use native.Mathlib.Omega.{arith}
use lib.Dec.{eqb}
use borrow.Author.Tests.{eq-eqb, ne_eqb, eqb-true, eqb-false}
use Rattle.table.specs.Lists.{first_no}
use Rattle.grammar.proofs.laws.Questions.{asked}
use Rattle.table.specs.Table.{Table, Branch}
use Rattle.grammar.specs.Token.{Token, word_of, word_in}
use Rattle.grammar.specs.Number.{Signed, signed_in, offset}
use Rattle.grammar.specs.Reading.{Item, outset, edition, just, name, label, type, more, fields, field, low, high, more_fields, dot, share, Open, State, state, opens_type, admits, token_formed, grammar_allows, edition_known, name_bound, guarded, ranged, share_ranged, new_label, within_limits, shares_add, sign_of, kind_of, a_branch, a_field, began, type_taken, taken, questions}
use Rattle.grammar.specs.Grammar.{Tok, word, number, sign, sending, receiving, Kind, int, text, flag, SyntaxField, Share, Ty, stop, var, loop, choice, Br, last, also, letter, print_field, print_more, print_fields, print_share, print_head, print, print_br, print_opening}
use Rattle.grammar.specs.TokOf.{tok_of}
use Rattle.grammar.proofs.laws.TokOf.{sign_kind, word_kind, number_kind, kind_sign, kind_word, kind_number}
use types.Run.{OneOf}

-- the first token of a type
pub data First (n : ℕ) : Type 0 where
  first_end : n ≡ 101 → First n
  first_name : n ≡ 65 → First n
  first_rec : n ≡ 114 → First n
  first_choice : OneOf (38 ∷ 43 ∷ []) n → First n
  first_other : (n ≡ 101 → ⊥) → (n ≡ 65 → ⊥) → (n ≡ 114 → ⊥) → (OneOf (38 ∷ 43 ∷ []) n → ⊥) → First n

pub first : (n : ℕ) → First n
first n = go (eqb n 101) refl (eqb n 65) refl (eqb n 114) refl (eqb n 38) refl (eqb n 43) refl
  where
    go : (a : Bool) → eqb n 101 ≡ a → (b : Bool) → eqb n 65 ≡ b → (c : Bool) → eqb n 114 ≡ c → (d : Bool) → eqb n 38 ≡ d → (e : Bool) → eqb n 43 ≡ e → First n
    go true h b i c j d k e l = first_end (eqb-true _ _ h)
    go false h true i c j d k e l = first_name (eqb-true _ _ i)
    go false h false i true j d k e l = first_rec (eqb-true _ _ j)
    go false h false i false j true k e l = first_choice (inl (eqb-true _ _ k))
    go false h false i false j false k true l = first_choice (inr (eqb-true _ _ l))
    go false h false i false j false k false l =
        first_other (eqb-false _ _ h) (eqb-false _ _ i) (eqb-false _ _ j) (λ o. elim o [ inl x ↦ eqb-false _ _ k x | inr x ↦ eqb-false _ _ l x ])

abbrev ranging : Kind → Signed → Signed → SyntaxField
ranging κ l h = record { kind = κ; low = l; high = h }

abbrev pub nought : Signed
nought = record { minus = false; value = 0 }

abbrev pub expected_in : State → List Item
expected_in (state E O b T) = E

-- the lists of tokens, up to the end of the text, that what is expected can become
abbrev pub Becomes : List Item → List Tok → Type 0
Becomes [] ts = ts ≡ sign 0 ∷ []
Becomes (outset ∷ K) ts = (o : Option Signed) × (t : Ty) × (us : List Tok) × (ts ≡ print_opening o (print t us)) × Becomes K us
Becomes (edition ∷ K) ts = (y : Signed) × (us : List Tok) × (ts ≡ number y ∷ us) × Becomes K us
Becomes (just n ∷ K) [] = ⊥
Becomes (just n ∷ K) (a ∷ ts) = (a ≡ sign n) × Becomes K ts
Becomes (name ∷ K) [] = ⊥
Becomes (name ∷ K) (a ∷ ts) = (x : ℕ) × (a ≡ word x) × Becomes K ts
Becomes (label ∷ K) [] = ⊥
Becomes (label ∷ K) (a ∷ ts) = (x : ℕ) × (a ≡ word x) × Becomes K ts
Becomes (type ∷ K) ts = (t : Ty) × (us : List Tok) × (ts ≡ print t us) × Becomes K us
Becomes (more σ ∷ K) [] = ⊥
Becomes (more σ ∷ K) (a ∷ ts) = ((a ≡ sign 125) × Becomes K ts) ⊎ ((a ≡ sign 44) × ((bs : Br) × (us : List Tok) × (ts ≡ print_br bs σ us) × Becomes K us))
Becomes (fields ∷ K) ts = (fs : List SyntaxField) × (us : List Tok) × (ts ≡ print_fields fs us) × Becomes K us
Becomes (field ∷ K) ts = (f : SyntaxField) × (fs : List SyntaxField) × (us : List Tok) × (ts ≡ print_field f (print_more fs us)) × Becomes K us
Becomes (low κ ∷ K) ts = (x y : Signed) × (us : List Tok) × (ts ≡ number x ∷ sign 58 ∷ number y ∷ us) × Becomes K us
Becomes (high κ l ∷ K) ts = (y : Signed) × (us : List Tok) × (ts ≡ number y ∷ us) × Becomes K us
Becomes (more_fields ∷ K) ts = (fs : List SyntaxField) × (us : List Tok) × (ts ≡ print_more fs us) × Becomes K us
Becomes (dot ∷ K) ts = (sh : Share) × (us : List Tok) × (ts ≡ print_share sh (sign 46 ∷ us)) × Becomes K us
Becomes (share ∷ K) ts = (y : Signed) × (us : List Tok) × (ts ≡ number y ∷ us) × Becomes K us

-- tokens made up, where any would do: the name A, the number 0
abbrev pub MadeUp : List Tok → Type 0
MadeUp [] = Unit {0}
MadeUp (word x ∷ ts) = (x ≡ word_of (65 ∷ [])) × MadeUp ts
MadeUp (number n ∷ ts) = (n ≡ nought) × MadeUp ts
MadeUp (sign n ∷ ts) = MadeUp ts

-- there is always one
pub becomes_some : (K : List Item) → (us : List Tok) × Becomes K us × MadeUp us
becomes_some [] = (sign 0 ∷ [], refl, tt)
becomes_some (outset ∷ K) = let r = becomes_some K in (sign 101 ∷ r.0, (none, stop, r.0, refl, r.1), r.2)
becomes_some (edition ∷ K) = let r = becomes_some K in (number nought ∷ r.0, (nought, r.0, refl, r.1), (refl, r.2))
becomes_some (just n ∷ K) = let r = becomes_some K in (sign n ∷ r.0, (refl, r.1), r.2)
becomes_some (name ∷ K) = let r = becomes_some K in (word (word_of (65 ∷ [])) ∷ r.0, (_, refl, r.1), (refl, r.2))
becomes_some (label ∷ K) = let r = becomes_some K in (word (word_of (65 ∷ [])) ∷ r.0, (_, refl, r.1), (refl, r.2))
becomes_some (type ∷ K) = let r = becomes_some K in (sign 101 ∷ r.0, (stop, r.0, refl, r.1), r.2)
becomes_some (more σ ∷ K) = let r = becomes_some K in (sign 125 ∷ r.0, inl (refl, r.1), r.2)
becomes_some (fields ∷ K) = let r = becomes_some K in (sign 41 ∷ r.0, ([], r.0, refl, r.1), r.2)
becomes_some (field ∷ K) =
    let r = becomes_some K in
    (print_field (ranging int nought nought) (sign 41 ∷ r.0), (ranging int nought nought, [], r.0, refl, r.1), (refl, (refl, r.2)))
becomes_some (low κ ∷ K) =
    let r = becomes_some K in
    (number nought ∷ sign 58 ∷ number nought ∷ r.0, (nought, nought, r.0, refl, r.1), (refl, (refl, r.2)))
becomes_some (high κ l ∷ K) = let r = becomes_some K in (number nought ∷ r.0, (nought, r.0, refl, r.1), (refl, r.2))
becomes_some (more_fields ∷ K) = let r = becomes_some K in (sign 41 ∷ r.0, ([], r.0, refl, r.1), r.2)
becomes_some (dot ∷ K) = let r = becomes_some K in (sign 46 ∷ r.0, (none, r.0, refl, r.1), r.2)
becomes_some (share ∷ K) = let r = becomes_some K in (number nought ∷ r.0, (nought, r.0, refl, r.1), (refl, r.2))

-- what is expected after a token
abbrev after_type : ℕ → List Item → List Item
after_type n K = cond (eqb n 114) (name ∷ just 46 ∷ type ∷ K) (cond (eqb n 65) K (cond (eqb n 101) K (just 123 ∷ a_branch (sign_of n) K)))

abbrev after : List ℕ → Token → Item → ℕ → List Item → List Item
after s k outset n K = cond (eqb n 69) (edition ∷ type ∷ K) (after_type n K)
after s k edition n K = K
after s k (just m) n K = K
after s k name n K = K
after s k label n K = K
after s k type n K = after_type n K
after s k (more σ) n K = cond (eqb n 44) (a_branch σ K) K
after s k fields n K = cond (eqb n 41) K (a_field (kind_of n) K)
after s k field n K = a_field (kind_of n) K
after s k (low κ) n K = just 58 ∷ high κ (offset (signed_in s k)) ∷ K
after s k (high κ l) n K = K
after s k more_fields n K = cond (eqb n 44) (field ∷ K) K
after s k dot n K = cond (eqb n 64) (share ∷ just 46 ∷ K) K
after s k share n K = K

expected_cond : (x : Bool) (a b : State) → expected_in (cond x a b) ≡ cond x (expected_in a) (expected_in b)
expected_cond true a b = refl
expected_cond false a b = refl

after_type_taken : (s : List ℕ) (K : List Item) (O : List Open) (b : Branch) (T : Table) (k : Token)
    → expected_in (type_taken s K O b T k) ≡ after_type k.kind K
unfolding began
after_type_taken s K O b T k = go (eqb k.kind 114) (eqb k.kind 65) (eqb k.kind 101) _ _ _ _
  where
    go : (x y z : Bool) (a b c d : State) → expected_in (cond x a (cond y b (cond z c d))) ≡ cond x (expected_in a) (cond y (expected_in b) (cond z (expected_in c) (expected_in d)))
    go true y z a b c d = refl
    go false true z a b c d = refl
    go false false true a b c d = refl
    go false false false a b c d = refl

after_taken : (s : List ℕ) (i : Item) (K : List Item) (O : List Open) (b : Branch) (T : Table) (k : Token)
    → expected_in (taken s (state (i ∷ K) O b T) k) ≡ after s k i k.kind K
unfolding taken
after_taken s outset K O b T k =
    expected_cond (eqb k.kind 69) _ _ ∙ ap (cond (eqb k.kind 69) (edition ∷ type ∷ K)) (after_type_taken s K O b T k)
after_taken s edition K O b T k = refl
after_taken s (just m) K O b T k = refl
after_taken s name K O b T k = refl
after_taken s label K O b T k = refl
after_taken s type K O b T k = after_type_taken s K O b T k
after_taken s (more σ) K O b T k = expected_cond (eqb k.kind 44) _ _
after_taken s fields K O b T k = expected_cond (eqb k.kind 41) _ _
after_taken s field K O b T k = refl
after_taken s (low κ) K O b T k = refl
after_taken s (high κ l) K O b T k = refl
after_taken s more_fields K O b T k = expected_cond (eqb k.kind 44) _ _
after_taken s dot K O b T k = expected_cond (eqb k.kind 64) _ _
after_taken s share K O b T k = refl

-- neither a name nor a number nor the end of the text stands among the kinds that are expected
abbrev pub Plain : ℕ → Type 0
Plain n = (n ≡ 65 → ⊥) × (n ≡ 48 → ⊥) × (n ≡ 0 → ⊥)

abbrev pub Clean : List Item → Type 0
Clean [] = Unit {0}
Clean (outset ∷ K) = Clean K
Clean (edition ∷ K) = Clean K
Clean (just n ∷ K) = Plain n × Clean K
Clean (name ∷ K) = Clean K
Clean (label ∷ K) = Clean K
Clean (type ∷ K) = Clean K
Clean (more σ ∷ K) = Plain σ × Clean K
Clean (fields ∷ K) = Clean K
Clean (field ∷ K) = Clean K
Clean (low κ ∷ K) = Clean K
Clean (high κ l ∷ K) = Clean K
Clean (more_fields ∷ K) = Clean K
Clean (dot ∷ K) = Clean K
Clean (share ∷ K) = Clean K

clean_branch : (σ : ℕ) (K : List Item) → Plain σ → Clean K → Clean (a_branch σ K)
clean_branch σ K z c = (z, (((λ h. omega arith), (λ h. omega arith), (λ h. omega arith)), (z, c)))

clean_field : (κ : ℕ) (K : List Item) → Clean K → Clean (a_field κ K)
clean_field κ K c = (((λ h. omega arith), (λ h. omega arith), (λ h. omega arith)), (((λ h. omega arith), (λ h. omega arith), (λ h. omega arith)), c))

clean_sign : (n : ℕ) → Plain (sign_of n)
unfolding sign_of
clean_sign n = go (eqb n 43)
  where
    go : (x : Bool) → Plain (cond x 33 63)
    go true = ((λ h. omega arith), (λ h. omega arith), (λ h. omega arith))
    go false = ((λ h. omega arith), (λ h. omega arith), (λ h. omega arith))

clean_cond : (x : Bool) (A B : List Item) → Clean A → Clean B → Clean (cond x A B)
clean_cond true A B a b = a
clean_cond false A B a b = b

clean_type : (n : ℕ) (K : List Item) → Clean K → Clean (after_type n K)
clean_type n K c =
    clean_cond (eqb n 114) (name ∷ just 46 ∷ type ∷ K) _ (((λ h. omega arith), (λ h. omega arith), (λ h. omega arith)), c)
    (clean_cond (eqb n 65) K _ c (clean_cond (eqb n 101) K _ c (((λ h. omega arith), (λ h. omega arith), (λ h. omega arith)), clean_branch (sign_of n) K (clean_sign n) c)))

clean_after : (s : List ℕ) (k : Token) (i : Item) (n : ℕ) (K : List Item) → Clean (i ∷ K) → Clean (after s k i n K)
clean_after s k outset n K c = clean_cond (eqb n 69) (edition ∷ type ∷ K) _ c (clean_type n K c)
clean_after s k edition n K c = c
clean_after s k (just m) n K c = c.1
clean_after s k name n K c = c
clean_after s k label n K c = c
clean_after s k type n K c = clean_type n K c
clean_after s k (more σ) n K c = clean_cond (eqb n 44) (a_branch σ K) K (clean_branch σ K c.0 c.1) c.1
clean_after s k fields n K c = clean_cond (eqb n 41) K (a_field (kind_of n) K) c (clean_field (kind_of n) K c)
clean_after s k field n K c = clean_field (kind_of n) K c
clean_after s k (low κ) n K c = (((λ h. omega arith), (λ h. omega arith), (λ h. omega arith)), c)
clean_after s k (high κ l) n K c = c
clean_after s k more_fields n K c = clean_cond (eqb n 44) (field ∷ K) K c c
clean_after s k dot n K c = clean_cond (eqb n 64) (share ∷ just 46 ∷ K) K (((λ h. omega arith), (λ h. omega arith), (λ h. omega arith)), c) c
clean_after s k share n K c = c

-- a token that a type begins with is not `edition`
pub type_no_edition : (n : ℕ) → opens_type n ≡ true → eqb n 69 ≡ false
type_no_edition n a = go (eqb n 69) refl
  where
    go : (x : Bool) → eqb n 69 ≡ x → x ≡ false
    go true e = absurd (true≢false (sym a ∙ ap opens_type (eqb-true n 69 e)))
    go false e = refl

-- a field and those after it, a branch and those after it, a rec, a choice
field_tokens : (κ : ℕ) (K : List Item) (us : List Tok) → Becomes (a_field κ K) us
    → (x y : Signed) × (fs : List SyntaxField) × (vs : List Tok) × (us ≡ sign 91 ∷ number x ∷ sign 58 ∷ number y ∷ sign 93 ∷ print_more fs vs) × Becomes K vs
field_tokens κ K [] h = absurd h
field_tokens κ K (a ∷ ws) h = go h.1.2 h.1.3 h.1.4
  where
    go : (vs : List Tok) → ws ≡ number h.1.0 ∷ sign 58 ∷ number h.1.1 ∷ vs → Becomes (just 93 ∷ more_fields ∷ K) vs
        → (x y : Signed) × (fs : List SyntaxField) × (vs : List Tok) × (a ∷ ws ≡ sign 91 ∷ number x ∷ sign 58 ∷ number y ∷ sign 93 ∷ print_more fs vs) × Becomes K vs
    go [] e r = absurd r
    go (d ∷ xs) e r =
        let h₀ = h.0 in
        let r₀ = r.0 in
        let r₁ = r.1.2 in
        (h.1.0, h.1.1, r.1.0, r.1.1, cc, r.1.3)

tokens_field : (κ : ℕ) (K : List Item) (x y : Signed) (fs : List SyntaxField) (vs : List Tok) → Becomes K vs
    → Becomes (a_field κ K) (sign 91 ∷ number x ∷ sign 58 ∷ number y ∷ sign 93 ∷ print_more fs vs)
tokens_field κ K x y fs vs r = (refl, (x, y, sign 93 ∷ print_more fs vs, refl, (refl, (fs, vs, refl, r))))

dot_tokens : (K : List Item) (us : List Tok) → Becomes (just 46 ∷ type ∷ K) us → (t : Ty) × (vs : List Tok) × (us ≡ sign 46 ∷ print t vs) × Becomes K vs
dot_tokens K [] h = absurd h
dot_tokens K (a ∷ us) h =
    let h₀ = h.0 in
    let h₁ = h.1.2 in
    (h.1.0, h.1.1, cc, h.1.3)

branch_tokens : (σ : ℕ) (K : List Item) (us : List Tok) → Becomes (a_branch σ K) us → (bs : Br) × (vs : List Tok) × (us ≡ print_br bs σ vs) × Becomes K vs
branch_tokens σ K [] h = absurd h
branch_tokens σ K (a ∷ []) h = absurd h.1
branch_tokens σ K (a ∷ b ∷ []) h = absurd h.1.2
branch_tokens σ K (a ∷ b ∷ c ∷ us) h =
    let f = h.1.2.1 in
    let d = f.3 in
    let q = d.3 in
    go h.1.0 h.1.1 f.0 d.0 q.0 q.1 (f.2 ∙ ap (print_fields f.0) (d.2 ∙ ap (λ (x : List Tok). print_share d.0 (sign 46 ∷ x)) q.2)) q.3
  where
    begun : (l : ℕ) (fs : List SyntaxField) (sh : Share) (ws : List Tok) → us ≡ print_fields fs (print_share sh (sign 46 ∷ ws)) → b ≡ word l
        → a ∷ b ∷ c ∷ us ≡ print_head σ l fs sh ws
    begun l fs sh ws e g =
        let h₀ = h.0 in
        let h₁ = h.1.2.0 in
        cc

    go : (l : ℕ) → b ≡ word l → (fs : List SyntaxField) (sh : Share) (t : Ty) (vs : List Tok) → us ≡ print_fields fs (print_share sh (sign 46 ∷ print t vs))
        → Becomes (more σ ∷ K) vs → (bs : Br) × (vs : List Tok) × (a ∷ b ∷ c ∷ us ≡ print_br bs σ vs) × Becomes K vs
    go l g fs sh t [] e r = absurd r
    go l g fs sh t (v ∷ ws) e (inl r) =
        (last l fs sh t, ws, begun l fs sh _ (e ∙ ap (λ (x : Tok). print_fields fs (print_share sh (sign 46 ∷ print t (x ∷ ws)))) r.0) g, r.1)
    go l g fs sh t (v ∷ ws) e (inr r) =
        let m = r.1 in
        let q : v ∷ ws ≡ sign 44 ∷ print_br m.0 σ m.1 = ap (λ (x : Tok). x ∷ ws) r.0 ∙ ap (λ (x : List Tok). sign 44 ∷ x) m.2 in
        (also l fs sh t m.0, m.1, begun l fs sh _ (e ∙ ap (λ (x : List Tok). print_fields fs (print_share sh (sign 46 ∷ print t x))) q) g, m.3)

-- a share
share_tokens : (K : List Item) (us : List Tok) → Becomes (share ∷ just 46 ∷ K) us → (n : Signed) × (vs : List Tok) × (us ≡ number n ∷ sign 46 ∷ vs) × Becomes K vs
share_tokens K us h = go h.1 h.2 h.3
  where
    go : (ws : List Tok) → us ≡ number h.0 ∷ ws → Becomes (just 46 ∷ K) ws → (n : Signed) × (vs : List Tok) × (us ≡ number n ∷ sign 46 ∷ vs) × Becomes K vs
    go [] e r = absurd r
    go (a ∷ ws) e r = let r₀ = r.0 in (h.0, ws, cc, r.1)

rec_tokens : (K : List Item) (us : List Tok) → Becomes (name ∷ just 46 ∷ type ∷ K) us
    → (x : ℕ) × (t : Ty) × (vs : List Tok) × (us ≡ word x ∷ sign 46 ∷ print t vs) × Becomes K vs
rec_tokens K [] h = absurd h
rec_tokens K (a ∷ us) h =
    let h₁ = h.1 in
    let q = dot_tokens K us h.2 in
    let e = q.2 in
    (h.0, q.0, q.1, cc, q.3)

choice_tokens : (σ : ℕ) (K : List Item) (us : List Tok) → Becomes (just 123 ∷ a_branch σ K) us
    → (bs : Br) × (vs : List Tok) × (us ≡ sign 123 ∷ print_br bs σ vs) × Becomes K vs
choice_tokens σ K [] h = absurd h
choice_tokens σ K (a ∷ us) h =
    let r = branch_tokens σ K us h.1 in
    let h₀ = h.0 in
    let e = r.2 in
    (r.0, r.1, cc, r.3)

-- the other way round
tokens_branch : (σ : ℕ) (K : List Item) (bs : Br) (vs : List Tok) → Becomes K vs → Becomes (a_branch σ K) (print_br bs σ vs)
tokens_branch σ K (last l fs sh t) vs r =
    let w = sign 125 ∷ vs in
    (refl, (l, refl, (refl, (fs, print_share sh (sign 46 ∷ print t w), refl, (sh, print t w, refl, (t, w, refl, inl (refl, r)))))))
tokens_branch σ K (also l fs sh t bs) vs r =
    let w = sign 44 ∷ print_br bs σ vs in
    (refl, (l, refl, (refl, (fs, print_share sh (sign 46 ∷ print t w), refl, (sh, print t w, refl, (t, w, refl, inr (refl, (bs, vs, refl, r))))))))

-- the word of a kind
a_kind : (n : ℕ) → admits field n ≡ true → (κ : Kind) × (n ≡ letter κ)
a_kind n a = go (eqb n 105) refl (eqb n 116) refl (eqb n 102) refl a
  where
    go : (x : Bool) → eqb n 105 ≡ x → (y : Bool) → eqb n 116 ≡ y → (z : Bool) → eqb n 102 ≡ z → cond x true (cond y true (cond z true false)) ≡ true → (κ : Kind) × (n ≡ letter κ)
    go true e y f z g a = (int, eqb-true _ _ e)
    go false e true f z g a = (text, eqb-true _ _ f)
    go false e false f true g a = (flag, eqb-true _ _ g)
    go false e false f false g a = absurd (true≢false (sym a))

module _ (s : List ℕ) (k : Token) where
  here_sign : (n : ℕ) → Plain n → k.kind ≡ n → tok_of s k ≡ sign n
  here_sign n z h = kind_sign s k n z.0 z.1 h

  here_letter : (κ : Kind) → k.kind ≡ letter κ → tok_of s k ≡ sign (letter κ)
  here_letter int h = here_sign 105 ((λ x. omega arith), (λ x. omega arith), (λ x. omega arith)) h
  here_letter text h = here_sign 116 ((λ x. omega arith), (λ x. omega arith), (λ x. omega arith)) h
  here_letter flag h = here_sign 102 ((λ x. omega arith), (λ x. omega arith), (λ x. omega arith)) h

  wrong_type : (k.kind ≡ 101 → ⊥) → (k.kind ≡ 65 → ⊥) → (k.kind ≡ 114 → ⊥) → (OneOf (38 ∷ 43 ∷ []) k.kind → ⊥) → admits type k.kind ≡ true → ⊥
  wrong_type h₁ h₂ h₃ h₄ h =
      true≢false (sym h ∙ rw (ne_eqb _ _ h₁, ne_eqb _ _ h₂, ne_eqb _ _ h₃, ne_eqb k.kind 38 (λ x. h₄ (inl x)), ne_eqb k.kind 43 (λ x. h₄ (inr x))))

  back_field : (K : List Item) (us : List Tok) → admits field k.kind ≡ true → Becomes (a_field (kind_of k.kind) K) us
      → (f : SyntaxField) × (fs : List SyntaxField) × (vs : List Tok) × (tok_of s k ∷ us ≡ print_field f (print_more fs vs)) × Becomes K vs
  back_field K us a r =
      let q = a_kind k.kind a in
      let f = field_tokens (kind_of k.kind) K us r in
      (ranging q.0 f.0 f.1, f.2, f.3, ap (λ (x : Tok). x ∷ us) (here_letter q.0 q.1) ∙ ap (λ (x : List Tok). sign (letter q.0) ∷ x) f.4, f.5)

  back_type : (K : List Item) (us : List Tok) → Clean K → admits type k.kind ≡ true → Becomes (after_type k.kind K) us → Becomes (type ∷ K) (tok_of s k ∷ us)
  unfolding sign_of
  back_type K us c a r = go (first k.kind)
    where
      made : (t : Ty) (vs ws : List Tok) (x : Tok) → tok_of s k ≡ x → us ≡ ws → print t vs ≡ x ∷ ws → Becomes K vs → Becomes (type ∷ K) (tok_of s k ∷ us)
      made t vs ws x e f g r = (t, vs, ap (λ (y : Tok). y ∷ us) e ∙ ap (λ (y : List Tok). x ∷ y) f ∙ sym g, r)

      at : (n : ℕ) → k.kind ≡ n → Becomes (after_type n K) us
      at n h = subst (λ (y : ℕ). Becomes (after_type y K) us) h r

      go : First k.kind → Becomes (type ∷ K) (tok_of s k ∷ us)
      go (first_end h) = made stop us us (sign 101) (here_sign 101 ((λ x. omega arith), (λ x. omega arith), (λ x. omega arith)) h) refl refl (at 101 h)
      go (first_name h) = made (var (word_in s k)) us us (word (word_in s k)) (kind_word s k h) refl refl (at 65 h)
      go (first_rec h) =
          let f = rec_tokens K us (at 114 h) in
          made (loop f.0 f.1) f.2 _ (sign 114) (here_sign 114 ((λ x. omega arith), (λ x. omega arith), (λ x. omega arith)) h) f.3 refl f.4
      go (first_choice (inr h)) =
          let f = choice_tokens 33 K us (at 43 h) in
          made (choice sending f.0) f.1 _ (sign 43) (here_sign 43 ((λ x. omega arith), (λ x. omega arith), (λ x. omega arith)) h) f.2 refl f.3
      go (first_choice (inl h)) =
          let f = choice_tokens 63 K us (at 38 h) in
          made (choice receiving f.0) f.1 _ (sign 38) (here_sign 38 ((λ x. omega arith), (λ x. omega arith), (λ x. omega arith)) h) f.2 refl f.3
      go (first_other h₁ h₂ h₃ h₄) = absurd (wrong_type h₁ h₂ h₃ h₄ a)

  back_edition : (K : List Item) (us : List Tok) → k.kind ≡ 69 → Becomes (edition ∷ type ∷ K) us → Becomes (outset ∷ K) (tok_of s k ∷ us)
  back_edition K us h r =
      let e₀ = here_sign 69 ((λ x. omega arith), (λ x. omega arith), (λ x. omega arith)) h in
      let e₁ = r.2 in
      let e₂ = r.3.2 in
      (some r.0, r.3.0, r.3.1, cc, r.3.3)

  -- what can follow a token that is allowed can follow what stood before it, with the token
  back : (i : Item) (K : List Item) (us : List Tok) → Clean (i ∷ K) → admits i k.kind ≡ true → Becomes (after s k i k.kind K) us → Becomes (i ∷ K) (tok_of s k ∷ us)
  back outset K us c a r = go (eqb k.kind 69) refl a r
    where
      go : (x : Bool) → eqb k.kind 69 ≡ x → (x || opens_type k.kind) ≡ true → Becomes (cond x (edition ∷ type ∷ K) (after_type k.kind K)) us
          → Becomes (outset ∷ K) (tok_of s k ∷ us)
      go true e a r = back_edition K us (eqb-true _ _ e) r
      go false e a r = let q = back_type K us c a r in (none, q.0, q.1, q.2, q.3)
  back edition K us c a r = (signed_in s k, us, ap (λ (x : Tok). x ∷ us) (kind_number s k (eqb-true _ _ a)), r)
  back (just n) K us c a r = (here_sign n c.0 (eqb-true _ _ a), r)
  back name K us c a r = (word_in s k, kind_word s k (eqb-true _ _ a), r)
  back label K us c a r = (word_in s k, kind_word s k (eqb-true _ _ a), r)
  back type K us c a r = back_type K us c a r
  back (more σ) K us c a r = go (eqb k.kind 44) refl (eqb k.kind 125) refl a
    where
      go : (x : Bool) → eqb k.kind 44 ≡ x → (y : Bool) → eqb k.kind 125 ≡ y → cond x true (cond y true false) ≡ true → Becomes (more σ ∷ K) (tok_of s k ∷ us)
      go true e y f a =
          let h : k.kind ≡ 44 = eqb-true _ _ e in
          inr (here_sign 44 ((λ x. omega arith), (λ x. omega arith), (λ x. omega arith)) h, branch_tokens σ K us (subst (λ (n : ℕ). Becomes (after s k (more σ) n K) us) h r))
      go false e true f a =
          let h : k.kind ≡ 125 = eqb-true _ _ f in
          inl (here_sign 125 ((λ x. omega arith), (λ x. omega arith), (λ x. omega arith)) h, subst (λ (n : ℕ). Becomes (after s k (more σ) n K) us) h r)
      go false e false f a = absurd (true≢false (sym a))
  back fields K us c a r = go (eqb k.kind 41) refl a r
    where
      go : (x : Bool) → eqb k.kind 41 ≡ x → cond x true (admits field k.kind) ≡ true → Becomes (cond x K (a_field (kind_of k.kind) K)) us → Becomes (fields ∷ K) (tok_of s k ∷ us)
      go true e a r =
          let h : k.kind ≡ 41 = eqb-true _ _ e in
          ([], us, ap (λ (x : Tok). x ∷ us) (here_sign 41 ((λ x. omega arith), (λ x. omega arith), (λ x. omega arith)) h), r)
      go false e a r = let q = back_field K us a r in (q.0 ∷ q.1, q.2, q.3, q.4)
  back field K us c a r = back_field K us a r
  back (low κ) K us c a r = go us r
    where
      x : Signed
      x = signed_in s k

      go : (us : List Tok) → Becomes (just 58 ∷ high κ (offset (signed_in s k)) ∷ K) us → Becomes (low κ ∷ K) (tok_of s k ∷ us)
      go [] r = absurd r
      go (d ∷ ws) r =
          let e₀ = kind_number s k (eqb-true _ _ a) in
          let e₁ = r.0 in
          let e₂ = r.1.2 in
          (x, r.1.0, r.1.1, cc, r.1.3)
  back (high κ l) K us c a r = (signed_in s k, us, ap (λ (x : Tok). x ∷ us) (kind_number s k (eqb-true _ _ a)), r)
  back more_fields K us c a r = go (eqb k.kind 44) refl (eqb k.kind 41) refl a r
    where
      go : (x : Bool) → eqb k.kind 44 ≡ x → (y : Bool) → eqb k.kind 41 ≡ y → cond x true (cond y true false) ≡ true → Becomes (cond x (field ∷ K) K) us
          → Becomes (more_fields ∷ K) (tok_of s k ∷ us)
      go true e y f a r =
          let h : k.kind ≡ 44 = eqb-true _ _ e in
          (r.0 ∷ r.1, r.2, ap (λ (x : Tok). x ∷ us) (here_sign 44 ((λ x. omega arith), (λ x. omega arith), (λ x. omega arith)) h) ∙ ap (λ (x : List Tok). sign 44 ∷ x) r.3, r.4)
      go false e true f a r =
          let h : k.kind ≡ 41 = eqb-true _ _ f in
          ([], us, ap (λ (x : Tok). x ∷ us) (here_sign 41 ((λ x. omega arith), (λ x. omega arith), (λ x. omega arith)) h), r)
      go false e false f a r = absurd (true≢false (sym a))
  back dot K us c a r = go (eqb k.kind 64) refl (eqb k.kind 46) refl a r
    where
      go : (x : Bool) → eqb k.kind 64 ≡ x → (y : Bool) → eqb k.kind 46 ≡ y → cond x true (cond y true false) ≡ true → Becomes (cond x (share ∷ just 46 ∷ K) K) us
          → Becomes (dot ∷ K) (tok_of s k ∷ us)
      go true e y f a r =
          let h : k.kind ≡ 64 = eqb-true _ _ e in
          let q = share_tokens K us r in
          (some q.0, q.1, ap (λ (x : Tok). x ∷ us) (here_sign 64 ((λ x. omega arith), (λ x. omega arith), (λ x. omega arith)) h) ∙ ap (λ (x : List Tok). sign 64 ∷ x) q.2, q.3)
      go false e true f a r =
          let h : k.kind ≡ 46 = eqb-true _ _ f in
          (none, us, ap (λ (x : Tok). x ∷ us) (here_sign 46 ((λ x. omega arith), (λ x. omega arith), (λ x. omega arith)) h), r)
      go false e false f a r = absurd (true≢false (sym a))
  back share K us c a r = (signed_in s k, us, ap (λ (x : Tok). x ∷ us) (kind_number s k (eqb-true _ _ a)), r)

  -- and the other way round; what follows is by the grammar allowed
  on_type : (t : Ty) (K : List Item) (us vs : List Tok) → tok_of s k ∷ us ≡ print t vs → Becomes K vs → (admits type k.kind ≡ true) × Becomes (after_type k.kind K) us
  unfolding sign_of
  on_type stop K us vs e r =
      let h = sign_kind s k 101 (cc) in
      let f : us ≡ vs = cc in
      rw (h, f) (refl, r)
  on_type (var x) K us vs e r =
      let h = (word_kind s k x (cc)).0 in
      let f : us ≡ vs = cc in
      rw (h, f) (refl, r)
  on_type (loop x t) K us vs e r =
      let h = sign_kind s k 114 (cc) in
      let f : us ≡ word x ∷ sign 46 ∷ print t vs = cc in
      rw (h, f) (refl, (x, refl, (refl, (t, vs, refl, r))))
  on_type (choice sending bs) K us vs e r =
      let h = sign_kind s k 43 (cc) in
      let f : us ≡ sign 123 ∷ print_br bs 33 vs = cc in
      rw (h, f) (refl, (refl, tokens_branch 33 K bs vs r))
  on_type (choice receiving bs) K us vs e r =
      let h = sign_kind s k 38 (cc) in
      let f : us ≡ sign 123 ∷ print_br bs 63 vs = cc in
      rw (h, f) (refl, (refl, tokens_branch 63 K bs vs r))

  -- an opening, or none
  on_outset : (o : Option Signed) (t : Ty) (K : List Item) (us vs : List Tok) → tok_of s k ∷ us ≡ print_opening o (print t vs) → Becomes K vs
      → (admits outset k.kind ≡ true) × Becomes (after s k outset k.kind K) us
  on_outset none t K us vs e r =
      let q = on_type t K us vs e r in
      rw (type_no_edition k.kind q.0) (q.0, q.1)
  on_outset (some n) t K us vs e r =
      let h = sign_kind s k 69 (cc) in
      let f : us ≡ number n ∷ print t vs = cc in
      rw (h, f) (refl, (n, print t vs, refl, (t, vs, refl, r)))

  -- a field's word, where it may open the fields or not
  on_field : (κ : Kind) (x y : Signed) (fs : List SyntaxField) (K : List Item) (us vs : List Tok) → tok_of s k ∷ us ≡ print_field (ranging κ x y) (print_more fs vs) → Becomes K vs
      → (admits field k.kind ≡ true) × (eqb k.kind 41 ≡ false) × Becomes (a_field (kind_of k.kind) K) us
  on_field int x y fs K us vs e r =
      let h = sign_kind s k 105 (cc) in
      let f : us ≡ sign 91 ∷ number x ∷ sign 58 ∷ number y ∷ sign 93 ∷ print_more fs vs = cc in
      rw (h, f) (refl, refl, tokens_field (kind_of 105) K x y fs vs r)
  on_field text x y fs K us vs e r =
      let h = sign_kind s k 116 (cc) in
      let f : us ≡ sign 91 ∷ number x ∷ sign 58 ∷ number y ∷ sign 93 ∷ print_more fs vs = cc in
      rw (h, f) (refl, refl, tokens_field (kind_of 116) K x y fs vs r)
  on_field flag x y fs K us vs e r =
      let h = sign_kind s k 102 (cc) in
      let f : us ≡ sign 91 ∷ number x ∷ sign 58 ∷ number y ∷ sign 93 ∷ print_more fs vs = cc in
      rw (h, f) (refl, refl, tokens_field (kind_of 102) K x y fs vs r)

  on_fields : (fs : List SyntaxField) (K : List Item) (us vs : List Tok) → tok_of s k ∷ us ≡ print_fields fs vs → Becomes K vs
      → (admits fields k.kind ≡ true) × Becomes (after s k fields k.kind K) us
  on_fields [] K us vs e r =
      let h = sign_kind s k 41 (cc) in
      let f : us ≡ vs = cc in
      rw (h, f) (refl, r)
  on_fields (f ∷ fs) K us vs e r = let q = on_field f.kind f.low f.high fs K us vs e r in rw q.1 (q.0, q.2)

  on_more : (fs : List SyntaxField) (K : List Item) (us vs : List Tok) → tok_of s k ∷ us ≡ print_more fs vs → Becomes K vs
      → (admits more_fields k.kind ≡ true) × Becomes (after s k more_fields k.kind K) us
  on_more [] K us vs e r =
      let h = sign_kind s k 41 (cc) in
      let f : us ≡ vs = cc in
      rw (h, f) (refl, r)
  on_more (f ∷ fs) K us vs e r =
      let h = sign_kind s k 44 (cc) in
      let g : us ≡ print_field f (print_more fs vs) = cc in
      rw h (refl, (f, fs, vs, g, r))

  on_dot : (sh : Share) (K : List Item) (us vs : List Tok) → tok_of s k ∷ us ≡ print_share sh (sign 46 ∷ vs) → Becomes K vs
      → (admits dot k.kind ≡ true) × Becomes (after s k dot k.kind K) us
  on_dot none K us vs e r =
      let h = sign_kind s k 46 (cc) in
      let f : us ≡ vs = cc in
      rw (h, f) (refl, r)
  on_dot (some n) K us vs e r =
      let h = sign_kind s k 64 (cc) in
      let f : us ≡ number n ∷ sign 46 ∷ vs = cc in
      rw (h, f) (refl, (n, sign 46 ∷ vs, refl, (refl, r)))

  on : (i : Item) (K : List Item) (us : List Tok) → Becomes (i ∷ K) (tok_of s k ∷ us) → (admits i k.kind ≡ true) × Becomes (after s k i k.kind K) us
  on outset K us r = on_outset r.0 r.1 K us r.2 r.3 r.4
  on edition K us r =
      let e = r.2 in
      let f : us ≡ r.1 = cc in
      (eq-eqb _ _ (number_kind s k r.0 (cc)).0, rw f r.3)
  on (just n) K us r = (eq-eqb _ _ (sign_kind s k n r.0), r.1)
  on name K us r = (eq-eqb _ _ (word_kind s k r.0 r.1).0, r.2)
  on label K us r = (eq-eqb _ _ (word_kind s k r.0 r.1).0, r.2)
  on type K us r = on_type r.0 K us r.1 r.2 r.3
  on (more σ) K us (inl r) = let h = sign_kind s k 125 r.0 in rw h (refl, r.1)
  on (more σ) K us (inr r) =
      let h = sign_kind s k 44 r.0 in
      let m = r.1 in
      let f : us ≡ print_br m.0 σ m.1 = m.2 in
      rw (h, f) (refl, tokens_branch σ K m.0 m.1 m.3)
  on fields K us r = on_fields r.0 K us r.1 r.2 r.3
  on field K us r = let q = on_field r.0.kind r.0.low r.0.high r.1 K us r.2 r.3 r.4 in (q.0, q.2)
  on (low κ) K us r =
      let e = r.3 in
      let f : us ≡ sign 58 ∷ number r.1 ∷ r.2 = cc in
      (eq-eqb _ _ (number_kind s k r.0 (cc)).0, rw f (refl, (r.1, r.2, refl, r.4)))
  on (high κ l) K us r =
      let e = r.2 in
      let f : us ≡ r.1 = cc in
      (eq-eqb _ _ (number_kind s k r.0 (cc)).0, rw f r.3)
  on more_fields K us r = on_more r.0 K us r.1 r.2 r.3
  on dot K us r = on_dot r.0 K us r.1 r.2 r.3
  on share K us r =
      let e = r.2 in
      let f : us ≡ r.1 = cc in
      (eq-eqb _ _ (number_kind s k r.0 (cc)).0, rw f r.3)

  -- the same for a state
  pub allowed_on : (st : State) (us : List Tok) → Becomes (expected_in st) (tok_of s k ∷ us) → grammar_allows s st k ≡ true
  unfolding grammar_allows
  allowed_on (state [] O b T) us r = eq-eqb _ _ (sign_kind s k 0 (cc))
  allowed_on (state (i ∷ K) O b T) us r = (on i K us r).0

  pub taken_on : (st : State) (us : List Tok) → (k.kind ≡ 0 → ⊥) → Becomes (expected_in st) (tok_of s k ∷ us) → Becomes (expected_in (taken s st k)) us
  taken_on (state [] O b T) us z r = absurd (z (sign_kind s k 0 (cc)))
  taken_on (state (i ∷ K) O b T) us z r = subst (λ (x : List Item). Becomes x us) (sym (after_taken s i K O b T k)) (on i K us r).1

  pub taken_back : (st : State) (us : List Tok) → (k.kind ≡ 0 → ⊥) → Clean (expected_in st) → grammar_allows s st k ≡ true → Becomes (expected_in (taken s st k)) us → Becomes (expected_in st) (tok_of s k ∷ us)
  unfolding grammar_allows
  taken_back (state [] O b T) us z c a r = absurd (z (eqb-true _ _ a))
  taken_back (state (i ∷ K) O b T) us z c a r = back i K us c a (subst (λ (x : List Item). Becomes x us) (after_taken s i K O b T k) r)

  pub taken_clean : (st : State) → Clean (expected_in st) → Clean (expected_in (taken s st k))
  unfolding taken
  taken_clean (state [] O b T) c = c
  taken_clean (state (i ∷ K) O b T) c = subst Clean (sym (after_taken s i K O b T k)) (clean_after s k i k.kind K c)

  -- what the number that is asked says of 3
  pub asked_none : (st : State) → asked s st k ≡ 0 → grammar_allows s st k ≡ true
  unfolding first_no questions
  asked_none st h = go (token_formed s st k) (grammar_allows s st k) _ h
    where
      go : (x y : Bool) (n : ℕ) → ◌≡◌ {A = ℕ} (cond x (cond y n 3) 2) 0 → y ≡ true
      go true true n h = refl
      go true false n h = absurd (omega arith)
      go false y n h = absurd (omega arith)

  pub asked_three : (st : State) → asked s st k ≡ 3 → grammar_allows s st k ≡ false
  unfolding first_no questions
  asked_three st h =
      go (token_formed s st k) (grammar_allows s st k) (edition_known s st k) (name_bound s st k) (guarded s st k) (ranged s st k) (share_ranged s st k) (new_label s st k) (within_limits s st k) (shares_add s st k) h
    where
      go : (x y m c d g w e f v : Bool)
          → ◌≡◌ {A = ℕ} (cond x (cond y (cond m (cond c (cond d (cond g (cond w (cond e (cond f (cond v 0 20) 8) 7) 19) 6) 5) 4) 23) 3) 2) 3 → y ≡ false
      go false y m c d g w e f v h = absurd (omega arith)
      go true false m c d g w e f v h = refl
      go true true false c d g w e f v h = absurd (omega arith)
      go true true true false d g w e f v h = absurd (omega arith)
      go true true true true false g w e f v h = absurd (omega arith)
      go true true true true true false w e f v h = absurd (omega arith)
      go true true true true true true false e f v h = absurd (omega arith)
      go true true true true true true true false f v h = absurd (omega arith)
      go true true true true true true true true false v h = absurd (omega arith)
      go true true true true true true true true true false h = absurd (omega arith)
      go true true true true true true true true true true h = absurd (omega arith)
