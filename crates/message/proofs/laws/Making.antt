-- The message of a branch by places of the table's columns, and what making says, question by question.
-- Assumes nothing.
use Rattle.std.proofs.Common.{◌≡◌, ℕ, zero, suc, ◌+◌, ◌*◌, ◌<◌, ◌≤◌, Bool, true, false, cond, ◌&&◌, eqb, ltb, leb, List, [], ◌∷◌, ◌++◌, map, length, drop, sym, refl, ap, ◌∙◌, ap₂, append_assoc, append-nil, zero-le, add_assoc, zero-add, arith, length-append, le-ltb, lt-ltb, ne_eqb, le-leb, leb-true}
use mathlib.Core.Bool.{false≢true}
use mathlib.Core.Option.{Option, none, some}
use lib.ListN.{length-replicate}
use lib.Dec.{eqb-zero-suc, eqb-suc-zero, eqb-suc-suc}
use borrow.Author.Tests.{lt-leb}
use Rattle.table.specs.Lists.{upto, first_no}
use Rattle.table.specs.View.{branches_of, count_at, word_at, kind_at, label_of, field_at, branch_at, view, sound_of}
use Rattle.table.proofs.laws.Lists.{both, left_fails, upto_length}
use Rattle.table.proofs.laws.View.{Facts, sound_facts, upto_at, branches_of_is}
use Rattle.message.specs.Message.{Value, text_bytes}
use Rattle.message.specs.Make.{four_bytes, numbers_of, write, chosen, branch_message, made, branch, names_field, exists, make_questions, Making, opening, making}
use Rattle.message.specs.inner.Layout.{put_at, in_a_row, laid, total, is_named, has, number_chosen, text_at}
use Rattle.message.proofs.laws.Layout.{run_length}
use Rattle.table.specs.Table as T

-- ---- a run or a sum from its first piece on

run_first : (n : ℕ) (p : ℕ → List ℕ) → in_a_row (suc n) p ≡ p zero ++ in_a_row n (λ f. p (suc f))
unfolding in_a_row
run_first zero p = sym (append-nil (p zero))
run_first (suc n) p = ap (λ l. l ++ p (suc n)) (run_first n p) ∙ append_assoc (p zero) (in_a_row n (λ f. p (suc f))) (p (suc n))

sum_first : (n : ℕ) (g : ℕ → ℕ) → total (suc n) g ≡ g zero + total n (λ f. g (suc f))
unfolding total
sum_first zero g = omega arith
sum_first (suc n) g = ap (λ m. m + g (suc n)) (sum_first n g) ∙ add_assoc (g zero) (total n (λ f. g (suc f))) (g (suc n))

-- ---- the chosen values by places

value : T.Field → Bool → Value
value f named = record { kind = f.kind; number = cond named f.high f.low }

abbrev chosen_at : (ℕ → T.Field) → Option ℕ → ℕ → Value
chosen_at g h f = value (g f) (is_named h f)

upto_same : {A : Type 0} (n : ℕ) (f g : ℕ → A) → ((k : ℕ) → f k ≡ g k) → upto n f ≡ upto n g
unfolding upto
upto_same zero f g e = refl
upto_same (suc n) f g e = ap₂ ◌∷◌ (e zero) (upto_same n (λ k. f (suc k)) (λ k. g (suc k)) (λ k. e (suc k)))

chosen_upto : (n : ℕ) (g : ℕ → T.Field) (h : Option ℕ) → chosen (upto n g) h ≡ upto n (chosen_at g h)
unfolding chosen upto value is_named
chosen_upto zero g h = refl
chosen_upto (suc n) g none = ap (λ r. value (g zero) false ∷ r) (chosen_upto n (λ f. g (suc f)) none)
chosen_upto (suc n) g (some zero) =
    ap (λ r. value (g zero) true ∷ r)
    (chosen_upto n (λ f. g (suc f)) none
    ∙ upto_same n (λ f. value (g (suc f)) false) (λ f. chosen_at g (some zero) (suc f)) (λ f. ap (value (g (suc f))) (sym (eqb-suc-zero f))))
chosen_upto (suc n) g (some (suc h)) =
    ap₂ ◌∷◌ (ap (value (g zero)) (sym (eqb-zero-suc h)))
    (chosen_upto n (λ f. g (suc f)) (some h)
    ∙ upto_same n (λ f. value (g (suc f)) (eqb f h)) (λ f. chosen_at g (some (suc h)) (suc f)) (λ f. ap (value (g (suc f))) (sym (eqb-suc-suc f h))))

-- ---- the parts of a message by places

kinds_upto : (n : ℕ) (v : ℕ → Value) → map (λ (v : Value). v.kind) (upto n v) ≡ in_a_row n (λ f. (v f).kind ∷ [])
unfolding upto in_a_row
kinds_upto zero v = refl
kinds_upto (suc n) v = ap (λ r. (v zero).kind ∷ r) (kinds_upto n (λ f. v (suc f))) ∙ sym (run_first n (λ f. (v f).kind ∷ []))

words_upto : (n : ℕ) (v : ℕ → Value) → numbers_of (upto n v) ≡ in_a_row n (λ f. four_bytes (v f).number)
unfolding upto in_a_row numbers_of
words_upto zero v = refl
words_upto (suc n) v = ap (λ r. four_bytes (v zero).number ++ r) (words_upto n (λ f. v (suc f))) ∙ sym (run_first n (λ f. four_bytes (v f).number))

texts_upto : (n : ℕ) (v : ℕ → Value) → text_bytes (upto n v) ≡ total n (λ f. text_at (v f).kind (v f).number)
unfolding upto total text_bytes text_at
texts_upto zero v = refl
texts_upto (suc n) v =
    ap (λ r. text_at (v zero).kind (v zero).number + r) (texts_upto n (λ f. v (suc f)))
    ∙ sym (sum_first n (λ f. text_at (v f).kind (v f).number))

write_upto : (label n : ℕ) (v : ℕ → Value)
    → write (record { label = label_of label; values = upto n v })
    ≡ laid label n (λ f. (v f).kind) (λ f. (v f).number) (total n (λ f. text_at (v f).kind (v f).number))
unfolding write laid
write_upto label n v = rw (upto_length n v, kinds_upto n v, words_upto n v, texts_upto n v) (simp append_assoc)

laid_length : (label n : ℕ) (kind number : ℕ → ℕ) (text : ℕ) → length (laid label n kind number text) ≡ 9 + 5 * n + text
unfolding laid label_of four_bytes
laid_length label n kind number text =
    simp (length-append, run_length (λ f. kind f ∷ []) 1 (λ f. refl) n, run_length (λ f. four_bytes (number f)) 4 (λ f. refl) n, length-replicate) (omega arith)

-- ---- a text is short

pub text_small : (kind n : ℕ) → T.within_kind kind n ≡ true → text_at kind n ≤ 64
unfolding T.within_kind text_at
text_small zero n e = zero-le
text_small (suc zero) n e = let h = leb-true n 2147483712 (both (leb 2147483648 n) (leb n 2147483712) e).1 in omega arith
text_small (suc (suc k)) n e = simp (ne_eqb (suc (suc k)) 1 (λ q. absurd (omega arith))) zero-le

pub kind_known : (f : T.Field) → T.legal_field f ≡ true → f.kind ≤ 2
unfolding T.legal_field T.within_kind
kind_known f e =
    go f.kind (both (T.within_kind f.kind f.low) (T.within_kind f.kind f.high) (both (T.within_kind f.kind f.low && T.within_kind f.kind f.high) (leb f.low f.high) e).0).0
  where
    go : (k : ℕ) → T.within_kind k f.low ≡ true → k ≤ 2
    go zero e = zero-le
    go (suc zero) e = omega arith
    go (suc (suc zero)) e = omega arith
    go (suc (suc (suc k))) e = absurd (false≢true e)

field_small : (f : T.Field) (named : Bool) → T.legal_field f ≡ true → text_at f.kind (cond named f.high f.low) ≤ 64
unfolding T.legal_field
field_small f named e =
    let x = both (T.within_kind f.kind f.low && T.within_kind f.kind f.high) (leb f.low f.high) e in
    let y = both (T.within_kind f.kind f.low) (T.within_kind f.kind f.high) x.0 in
    go named y.0 y.1
  where
    go : (named : Bool) → T.within_kind f.kind f.low ≡ true → T.within_kind f.kind f.high ≡ true → text_at f.kind (cond named f.high f.low) ≤ 64
    go true l h = text_small f.kind f.high h
    go false l h = text_small f.kind f.low l

sum_most : (n : ℕ) (g : ℕ → ℕ) → ((f : ℕ) → f < n → g f ≤ 64) → total n g ≤ 64 * n
unfolding total
sum_most zero g h = zero-le
sum_most (suc n) g h = omega (arith, sum_most n g (λ f l. h f (omega arith)), h n (omega arith))

-- ---- a branch of a table

abbrev pub count : List ℕ → ℕ → ℕ
count t k = count_at t k

abbrev pub texts : List ℕ → ℕ → Option ℕ → ℕ
texts t k h = total (count t k) (λ f. text_at (kind_at t (4 * k + f)) (number_chosen h t (4 * k) f))

abbrev pub bytes : List ℕ → ℕ → Option ℕ → List ℕ
bytes t k h = laid (word_at t k) (count t k) (λ f. kind_at t (4 * k + f)) (number_chosen h t (4 * k)) (texts t k h)

module _ (t : List ℕ) (k : ℕ) (h : Option ℕ) where
  pub none_there : branches_of t ≤ k → exists (view t) k h ≡ false
  unfolding exists
  none_there l = left_fails (names_field h (branch (view t) k)) (le-ltb k (length (view t).branches) (rw (branches_of_is t) l))

  module _ (l : k < branches_of t) where
    pub branch_at_is : branch (view t) k ≡ branch_at t k
    unfolding branch view
    branch_at_is = upto_at (branches_of t) (branch_at t) (record { owner = 0; label = []; fields = []; target = 0 }) k l

    pub made_laid : made (branch (view t) k) h ≡ bytes t k h
    unfolding made branch_message value number_chosen
    made_laid =
        ap (λ b. made b h) branch_at_is
        ∙ ap (λ vs. write (record { label = label_of (word_at t k); values = vs })) (chosen_upto (count t k) (λ f. field_at t (4 * k + f)) h)
        ∙ write_upto (word_at t k) (count t k) (chosen_at (λ f. field_at t (4 * k + f)) h)

    pub made_size : length (made (branch (view t) k) h) ≡ 9 + 5 * count t k + texts t k h
    made_size = ap length made_laid ∙ laid_length (word_at t k) (count t k) (λ f. kind_at t (4 * k + f)) (number_chosen h t (4 * k)) (texts t k h)

    pub texts_few : Facts t → texts t k h ≤ 256
    unfolding number_chosen
    texts_few f =
        omega (
          arith,
          f.counts k l,
          sum_most (count t k) (λ f. text_at (kind_at t (4 * k + f)) (number_chosen h t (4 * k) f)) (λ i m. field_small (field_at t (4 * k + i)) (is_named h i) (f.ranges k l i m)),
        )

    pub there : exists (view t) k h ≡ has h (count t k)
    unfolding exists names_field has
    there =
        ap₂ ◌&&◌ (lt-ltb k (length (view t).branches) (rw (branches_of_is t) l)) (ap (names_field h) branch_at_is ∙ go h)
      where
        go : (h : Option ℕ) → names_field h (branch_at t k) ≡ has h (count t k)
        go none = refl
        go (some f) = ap (ltb f) (upto_length (count t k) (λ f. field_at t (4 * k + f)))

-- ---- making, question by question

abbrev pub refused : List ℕ → ℕ → Making
refused b q = record { numbers = (q, 0); buffer = b }

module _ (t : List ℕ) (k : ℕ) (h : Option ℕ) (b : List ℕ) where
  pub says_9 : sound_of t ≡ false → making t k h b ≡ refused b 9
  unfolding making make_questions first_no
  says_9 e = simp e

  module _ (s : sound_of t ≡ true) where
    pub says_18 : exists (view t) k h ≡ false → making t k h b ≡ refused b 18
    unfolding making make_questions first_no
    says_18 e = simp (s, e)

    module _ (e : exists (view t) k h ≡ true) where
      pub says_16 : length b < length (made (branch (view t) k) h) → making t k h b ≡ refused b 16
      unfolding making make_questions first_no
      says_16 l = simp (s, e, lt-leb _ _ l)

      pub says_length : length (made (branch (view t) k) h) ≤ length b
          → making t k h b ≡ record { numbers = (0, length (made (branch (view t) k) h)); buffer = opening (made (branch (view t) k) h) b }
      unfolding making make_questions first_no
      says_length l = simp (s, e, le-leb _ _ l)

-- what `make` refuses before it measures
pub ruleset refusals = (says_9, says_18, none_there, there)

pub put_opening : (p b : List ℕ) → put_at 0 p b ≡ opening p b
unfolding put_at opening
put_opening p b = ap (λ n. p ++ drop n b) (zero-add (length p))

-- ---- as the call asks, of a table that is sound and a branch of it

module _ (t : List ℕ) (k : ℕ) (sound : sound_of t ≡ true) (l : k < branches_of t) where
  pub columns : (count t k ≤ 4) × (k < 128) × ((f : ℕ) → f < count t k → kind_at t (4 * k + f) ≤ 2)
  columns =
      let f = sound_facts t sound in
      (f.counts k l, omega (arith, f.room), λ i m. kind_known (field_at t (4 * k + i)) (f.ranges k l i m))

  module _ (h : Option ℕ) (b : List ℕ) (named : has h (count t k) ≡ true) (text : ℕ) (e : text ≡ texts t k h) where
    pub text_few : text ≤ 256
    text_few = omega (arith, e, texts_few t k h l (sound_facts t sound))

    size : length (made (branch (view t) k) h) ≡ 9 + 5 * count t k + text
    size = made_size t k h l ∙ ap (λ n. 9 + 5 * count t k + n) (sym e)

    pub no_room : length b < 9 + 5 * count t k + text → making t k h b ≡ refused b 16
    no_room r = says_16 t k h b sound (there t k h l ∙ named) (omega (arith, size))

    pub room : 9 + 5 * count t k + text ≤ length b
        → making t k h b ≡ record {
          numbers = (0, 9 + 5 * count t k + text);
          buffer = put_at 0 (laid (word_at t k) (count t k) (λ f. kind_at t (4 * k + f)) (number_chosen h t (4 * k)) text) b;
        }
    room r =
        says_length t k h b sound (there t k h l ∙ named) (omega (arith, size))
        ∙ ap₂ (λ n m. record { numbers = (0, n); buffer = m }) size
        (ap (λ p. opening p b) (made_laid t k h l) ∙ sym (put_opening (bytes t k h) b)
        ∙ ap (λ n. put_at 0 (laid (word_at t k) (count t k) (λ f. kind_at t (4 * k + f)) (number_chosen h t (4 * k)) n) b) (sym e))
