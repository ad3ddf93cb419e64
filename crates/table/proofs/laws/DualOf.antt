-- The dual of the words, sort by sort: what turning them leaves, what it is of the view, and that turned twice they are as they were.
-- Assumes nothing.
use Rattle.std.proofs.Common.{◌≡◌, ℕ, zero, suc, ◌+◌, ◌*◌, ◌<◌, ◌≤◌, Bool, true, not, ◌&&◌, ◌||◌, eqb, ltb, leb, List, [], ◌∷◌, map, length, get_or, set, sym, refl, ap, ◌∙◌, ap₂, suc-le-suc, zero-le, le_of_suc-le-suc, not-suc-le-zero, add-one, arith, le-leb}
use Rattle.table.proofs.laws.Lists.{join, upto_every}
use Rattle.table.proofs.laws.View.{edition_sound, view_sound, shares_sound, sound_facts}
use Rattle.table.specs.Lists.{every, some_one, upto}
use Rattle.table.specs.Table.{is_choice, legal_label, legal_field, legal_branch, choices_own, labels_differ, opposite}
use Rattle.table.specs.View.{states_of, branches_of, sort_at, owner_at, target_at, count_at, word_at, field_at, label_of, share_at, edition_of, branch_at, view, known, regular_of, sound_of, sort_of, opposites, turned_to, turned, opposite_of}
use Rattle.table.specs.Table as T

-- other codes stay
pub opposite_same : (n : ℕ) → (n ≡ 1 → ⊥) → (n ≡ 2 → ⊥) → opposite_of n ≡ n
unfolding opposite_of
opposite_same zero a b = refl
opposite_same (suc zero) a b = absurd (a refl)
opposite_same (suc (suc zero)) a b = absurd (b refl)
opposite_same (suc (suc (suc n))) a b = refl

opposite_code_twice : (n : ℕ) → opposite_of (opposite_of n) ≡ n
unfolding opposite_of
opposite_code_twice zero = refl
opposite_code_twice (suc zero) = refl
opposite_code_twice (suc (suc zero)) = refl
opposite_code_twice (suc (suc (suc n))) = refl

opposites_twice : (n : ℕ) (r : List ℕ) → opposites n (opposites n r) ≡ r
unfolding opposites
opposites_twice zero r = refl
opposites_twice (suc n) [] = refl
opposites_twice (suc n) (a ∷ r) = ap₂ ◌∷◌ (opposite_code_twice a) (opposites_twice n r)

pub turned_twice : (t : List ℕ) → turned (turned t) ≡ t
unfolding turned_to
turned_twice [] = refl
turned_twice (a ∷ []) = refl
turned_twice (a ∷ b ∷ r) = ap (λ x. a ∷ b ∷ x) (opposites_twice 32 r)

-- ---- the loop: the first k sorts are turned

pub turn_none : (t : List ℕ) → t ≡ turned_to 0 t
unfolding turned_to opposites
turn_none [] = refl
turn_none (a ∷ []) = refl
turn_none (a ∷ b ∷ r) = refl

opposites_more : (k : ℕ) (r : List ℕ) → set (opposites k r) k (opposite_of (get_or (opposites k r) k 0)) ≡ opposites (suc k) r
unfolding opposites
opposites_more zero [] = refl
opposites_more zero (a ∷ r) = refl
opposites_more (suc k) [] = refl
opposites_more (suc k) (a ∷ r) = ap (λ x. opposite_of a ∷ x) (opposites_more k r)

two_more : (k : ℕ) → 2 + k ≡ suc (suc k)
two_more k = omega arith

pub turn_more : (k : ℕ) (t : List ℕ) → set (turned_to k t) (2 + k) (opposite_of (get_or (turned_to k t) (2 + k) 0)) ≡ turned_to (k + 1) t
unfolding turned_to
turn_more k t = rw (two_more k, add-one k) (go t)
  where
    go : (t : List ℕ) → set (turned_to k t) (suc (suc k)) (opposite_of (get_or (turned_to k t) (suc (suc k)) 0)) ≡ turned_to (suc k) t
    go [] = refl
    go (a ∷ []) = refl
    go (a ∷ b ∷ r) = ap (λ x. a ∷ b ∷ x) (opposites_more k r)

-- ---- places of the turned table

opposites_here : (n : ℕ) (r : List ℕ) (i : ℕ) → i < n → get_or (opposites n r) i 0 ≡ opposite_of (get_or r i 0)
unfolding opposites opposite_of
opposites_here zero r i l = absurd (not-suc-le-zero l)
opposites_here (suc n) [] i l = refl
opposites_here (suc n) (a ∷ r) zero l = refl
opposites_here (suc n) (a ∷ r) (suc i) l = opposites_here n r i (le_of_suc-le-suc l)

opposites_past : (n : ℕ) (r : List ℕ) (i : ℕ) → n ≤ i → get_or (opposites n r) i 0 ≡ get_or r i 0
unfolding opposites
opposites_past zero r i l = refl
opposites_past (suc n) [] i l = refl
opposites_past (suc n) (a ∷ r) zero l = absurd (not-suc-le-zero l)
opposites_past (suc n) (a ∷ r) (suc i) l = opposites_past n r i (le_of_suc-le-suc l)

states_same : (t : List ℕ) → states_of (turned t) ≡ states_of t
unfolding turned_to
states_same [] = refl
states_same (a ∷ []) = refl
states_same (a ∷ b ∷ r) = refl

branches_same : (t : List ℕ) → branches_of (turned t) ≡ branches_of t
unfolding turned_to
branches_same [] = refl
branches_same (a ∷ []) = refl
branches_same (a ∷ b ∷ r) = refl

pub sort_turned : (t : List ℕ) (i : ℕ) → i < 32 → sort_at (turned t) i ≡ opposite_of (sort_at t i)
unfolding turned_to opposite_of
sort_turned t i l = rw (two_more i) (go t)
  where
    go : (t : List ℕ) → get_or (turned t) (suc (suc i)) 0 ≡ opposite_of (get_or t (suc (suc i)) 0)
    go [] = refl
    go (a ∷ []) = refl
    go (a ∷ b ∷ r) = opposites_here 32 r i l

past : (t : List ℕ) (j : ℕ) → 34 ≤ j → get_or (turned t) j 0 ≡ get_or t j 0
unfolding turned_to
past [] j l = refl
past (a ∷ []) j l = refl
past (a ∷ b ∷ r) zero l = refl
past (a ∷ b ∷ r) (suc zero) l = refl
past (a ∷ b ∷ r) (suc (suc j)) l = opposites_past 32 r j (le_of_suc-le-suc (le_of_suc-le-suc l))

edition_same : (t : List ℕ) → edition_of (turned t) ≡ edition_of t
edition_same t = past t 2338 (omega arith)

code_opposite : (n : ℕ) → n ≤ 2 → sort_of (opposite_of n) ≡ opposite (sort_of n)
unfolding sort_of opposite_of opposite
code_opposite zero l = refl
code_opposite (suc zero) l = refl
code_opposite (suc (suc zero)) l = refl
code_opposite (suc (suc (suc n))) l = absurd (omega arith)

map_upto : {A B : Type 0} (f : A → B) (n : ℕ) (g : ℕ → A) → map f (upto n g) ≡ upto n (λ k. f (g k))
unfolding upto
map_upto f zero g = refl
map_upto f (suc n) g = ap (λ l. f (g zero) ∷ l) (map_upto f n (λ k. g (suc k)))

pub upto_same : {A : Type 0} (n : ℕ) (f g : ℕ → A) → ((k : ℕ) → k < n → f k ≡ g k) → upto n f ≡ upto n g
unfolding upto
upto_same zero f g h = refl
upto_same (suc n) f g h =
    ap₂ ◌∷◌ (h zero (suc-le-suc zero-le)) (upto_same n (λ k. f (suc k)) (λ k. g (suc k)) (λ k l. h (suc k) (suc-le-suc l)))

-- tables that agree from place 34 on have the same branches
module _ (a b : List ℕ) (h : (j : ℕ) → 34 ≤ j → get_or a j 0 ≡ get_or b j 0) where
  field_same : (k : ℕ) → field_at a k ≡ field_at b k
  field_same k = rw (h (674 + k) (omega arith), h (1186 + k) (omega arith), h (1698 + k) (omega arith)) refl

  pub branch_same : (k : ℕ) → branch_at a k ≡ branch_at b k
  branch_same k =
      rw (h (34 + k) (omega arith), h (162 + k) (omega arith), h (290 + k) (omega arith), h (418 + k) (omega arith), h (546 + k) (omega arith))
      (ap (λ l. record { owner = owner_at b k; label = label_of (word_at b k); fields = l; target = target_at b k })
      (upto_same (count_at b k) (λ f. field_at a (4 * k + f)) (λ f. field_at b (4 * k + f)) (λ f l. field_same (4 * k + f))))

-- the dual of a table is its view's dual, where the sorts are known
pub view_turned : (t : List ℕ) → states_of t ≤ 32 → ((i : ℕ) → i < states_of t → sort_at t i ≤ 2) → view (turned t) ≡ T.dual (view t)
unfolding view T.dual
view_turned t few h =
    rw (shares_same, edition_same t) (ap₂ (λ s b. record { sorts = s; branches = b; shares = upto (branches_of t) (share_at t); edition = edition_of t })
    (ap (λ n. upto n (λ i. sort_of (sort_at (turned t) i))) (states_same t)
    ∙ upto_same (states_of t) (λ i. sort_of (sort_at (turned t) i)) (λ i. opposite (sort_of (sort_at t i)))
    (λ i l. ap sort_of (sort_turned t i (omega arith)) ∙ code_opposite (sort_at t i) (h i l))
    ∙ sym (map_upto opposite (states_of t) (λ i. sort_of (sort_at t i))))
    (ap (λ n. upto n (branch_at (turned t))) (branches_same t)
    ∙ upto_same (branches_of t) (branch_at (turned t)) (branch_at t) (λ k l. branch_same (turned t) t (past t) k)))
  where
    shares_same : upto (branches_of (turned t)) (share_at (turned t)) ≡ upto (branches_of t) (share_at t)
    shares_same =
        ap (λ n. upto n (share_at (turned t))) (branches_same t)
        ∙ upto_same (branches_of t) (share_at (turned t)) (share_at t) (λ k l. past t (2210 + k) (omega arith))

-- ---- the dual of a sound table is sound, and its dual is the table

opposite_choice : (s : T.Sort) → is_choice (opposite s) ≡ is_choice s
unfolding opposite is_choice
opposite_choice T.ends = refl
opposite_choice T.sends = refl
opposite_choice T.receives = refl

sorts_length : (l : List T.Sort) → length (map opposite l) ≡ length l
sorts_length [] = refl
sorts_length (s ∷ l) = ap suc (sorts_length l)

sorts_at : (l : List T.Sort) (i : ℕ) → get_or (map opposite l) i T.ends ≡ opposite (get_or l i T.ends)
unfolding opposite
sorts_at [] i = refl
sorts_at (s ∷ l) zero = refl
sorts_at (s ∷ l) (suc i) = sorts_at l i

every_same : {A : Type 0} (f g : A → Bool) → ((a : A) → f a ≡ g a) → (l : List A) → every f l ≡ every g l
unfolding every
every_same f g h [] = refl
every_same f g h (a ∷ l) = ap₂ ◌&&◌ (h a) (every_same f g h l)

own_same : (bs : List T.Branch) (i : ℕ) (l : List T.Sort) → choices_own bs i (map opposite l) ≡ choices_own bs i l
unfolding choices_own
own_same bs i [] = refl
own_same bs i (s ∷ l) =
    ap₂ ◌&&◌ (ap (λ c. not c || some_one (λ b. eqb b.owner i) bs) (opposite_choice s)) (own_same bs (suc i) l)

legal_same : (t : T.Table) (b : T.Branch) → legal_branch (T.dual t) b ≡ legal_branch t b
unfolding legal_branch T.dual T.sort
legal_same t b =
    ap₂ (λ n c. ltb b.owner n && c && ltb b.target n && legal_label b.label && leb (length b.fields) 4 && every legal_field b.fields)
    (sorts_length t.sorts) (ap is_choice (sorts_at t.sorts b.owner) ∙ opposite_choice (get_or t.sorts b.owner T.ends))

pub dual_sound : (t : T.Table) → T.sound (T.dual t) ≡ T.sound t
unfolding T.sound T.dual
dual_sound t =
    ap₂ (λ n a. leb 1 n && leb n 32 && leb (length t.branches) 128 && a && choices_own t.branches 0 (map opposite t.sorts) && labels_differ t.branches)
    (sorts_length t.sorts) (every_same (legal_branch (T.dual t)) (legal_branch t) (legal_same t) t.branches)
    ∙ ap (λ o. leb 1 (length t.sorts) && leb (length t.sorts) 32 && leb (length t.branches) 128 && every (legal_branch t) t.branches && o && labels_differ t.branches)
    (own_same t.branches 0 t.sorts)

dual_shares : (t : T.Table) → T.shares_kept (T.dual t) ≡ T.shares_kept t
unfolding T.shares_kept T.dual
dual_shares t =
    ap (λ n. every (λ i. T.shares_right (T.of_choice i t.branches t.shares)) (upto n (λ i. i))) (sorts_length t.sorts)

turned_code : (n : ℕ) → n ≤ 2 → opposite_of n ≤ 2
unfolding opposite_of
turned_code zero l = omega arith
turned_code (suc zero) l = omega arith
turned_code (suc (suc zero)) l = omega arith
turned_code (suc (suc (suc n))) l = absurd (omega arith)

pub turned_sound : (t : List ℕ) → sound_of t ≡ true → sound_of (turned t) ≡ true
unfolding sound_of regular_of known
turned_sound t e =
    let f = sound_facts t e in
    let v = view_turned t f.few f.codes in
    join (ap T.known_edition (edition_same t) ∙ edition_sound t e) (join (join
    (ap (λ n. every (λ c. leb c 2) (upto n (sort_at (turned t)))) (states_same t)
    ∙ upto_every (λ c. leb c 2) (states_of t) (sort_at (turned t))
    (λ i l. le-leb (sort_at (turned t) i) 2 (rw (sort_turned t i (omega (arith, f.few))) (turned_code (sort_at t i) (f.codes i l)))))
    (ap T.sound v ∙ dual_sound (view t) ∙ view_sound t e))
    (ap T.shares_kept v ∙ dual_shares (view t) ∙ shares_sound t e))
