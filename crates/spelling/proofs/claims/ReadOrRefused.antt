-- A text is read, or refused by a question's number with the empty table; a text of a whole protocol by the number of a test that the protocol
-- fails.
-- Assumes nothing.
use mathlib.Core.Path.{◌≡◌, refl, sym, ap, ◌∙◌}
use mathlib.Core.Logic.{◌⊎◌, inl, inr}
use mathlib.Core.Bool.{Bool, true, false, cond}
use mathlib.Core.List.{List, [], ◌∷◌}
use Prim.Native.Nat.{ℕ, ◌<◌}
use native.Mathlib.Omega.{arith}
use lib.Dec.{leb, eqb}
use lib.ListN.{length}
use borrow.Author.Tests.{le-leb, leb-true, leb-false, lt-leb, eqb-true, eqb-false}
use Rattle.table.specs.Lists.{every}
use Rattle.table.specs.View.{empty_table}
use Rattle.table.proofs.laws.Lists.{both, join}
use Rattle.grammar.specs.Building.{denied}
use Rattle.grammar.specs.Filled.{filled, written, not_read}
use Rattle.grammar.specs.Grammar.{Protocol, table_of, Legal}
use Rattle.grammar.specs.Reading.{start, run_tokens, built, reads}
use Rattle.grammar.specs.declared.Reading.{Reading}
use Rattle.grammar.specs.inner.Scanner.{tokens}
use Rattle.grammar.proofs.laws.Legal.{Passes}
use Rattle.grammar.proofs.laws.Reads.{passes_read}
use Rattle.grammar.proofs.laws.Refused.{OfNumbers, run_number, question_of}
use Rattle.grammar.proofs.laws.RunTokens.{run_refused}
use Rattle.spelling.specs.Refusals.{Refusing, ReadOrRefused, OneMeans, tests, FailsBy, QuestionsMean, LegalExactly}
use Rattle.spelling.proofs.laws.Writes.{writes_spelt}

-- ---- any text

-- a no gives the empty table
denied_refused : (q at : ℕ) → written (denied q at) ≡ not_read q at
unfolding denied not_read filled empty_table
denied_refused q at = refl

no_table : (s : List ℕ) → ((reads s).question ≡ 0 → ⊥) → reads s ≡ not_read (reads s).question (reads s).at
unfolding reads built denied
no_table s n = go (leb (length s) 8192) n
  where
    go : (b : Bool) → ((cond b (run_tokens s start (tokens s)) (denied 1 0)).question ≡ 0 → ⊥)
        → written (cond b (run_tokens s start (tokens s)) (denied 1 0))
        ≡ not_read (cond b (run_tokens s start (tokens s)) (denied 1 0)).question (cond b (run_tokens s start (tokens s)) (denied 1 0)).at
    go true n = ap written (run_refused s (tokens s) start n) ∙ denied_refused _ _
    go false n = denied_refused 1 0

-- 0, or a question's number
abbrev Known : ℕ → Type 0
Known q = (q ≡ 0) ⊎ Refusing q

numbers : OfNumbers Known
numbers = (
  inl refl,
  inr (inl (omega arith, omega arith)),
  inr (inl (omega arith, omega arith)),
  inr (inr (inr (inr refl))),
  inr (inl (omega arith, omega arith)),
  inr (inl (omega arith, omega arith)),
  inr (inl (omega arith, omega arith)),
  inr (inr (inl refl)),
  inr (inl (omega arith, omega arith)),
  inr (inl (omega arith, omega arith)),
  inr (inr (inr (inl refl))),
)

pub read_or_refused : ReadOrRefused
read_or_refused s = go (eqb (reads s).question 0) refl (question_of Known numbers (inr (inl (omega arith, omega arith))) s)
  where
    go : (b : Bool) → eqb (reads s).question 0 ≡ b → Known (reads s).question
        → ((reads s).question ≡ 0) ⊎ ((q : ℕ) × (at : ℕ) × Refusing q × (reads s ≡ not_read q at))
    go b e (inl z) = inl z
    go true e (inr r) = inl (eqb-true (reads s).question 0 e)
    go false e (inr r) = inr ((reads s).question, (reads s).at, r, no_table s (eqb-false (reads s).question 0 e))

-- no token is refused by 1
not_one : OfNumbers (λ q. q ≡ 1 → ⊥)
not_one = (
  λ e. omega arith,
  λ e. omega arith,
  λ e. omega arith,
  λ e. omega arith,
  λ e. omega arith,
  λ e. omega arith,
  λ e. omega arith,
  λ e. omega arith,
  λ e. omega arith,
  λ e. omega arith,
  λ e. omega arith,
)

pub one_means : OneMeans
unfolding reads built not_read denied
one_means s at = (
  λ h. long (leb (length s) 8192) refl h,
  λ x. ap (λ b. written (cond b (run_tokens s start (tokens s)) (denied 1 0))) (lt-leb (length s) 8192 x.0) ∙ denied_refused 1 0 ∙ ap (not_read 1) (sym x.1),
)
  where
    long : (b : Bool) → leb (length s) 8192 ≡ b → written (cond b (run_tokens s start (tokens s)) (denied 1 0)) ≡ not_read 1 at → (8192 < length s) × (at ≡ 0)
    long true e h = absurd (run_number (λ q. q ≡ 1 → ⊥) not_one s start (tokens s) (ap (λ (r : Reading). r.question) h))
    long false e h = (leb-false (length s) 8192 e, sym (ap (λ (r : Reading). r.at) h))

-- ---- a text of a whole protocol

-- a test fails and q is its number, or it passes if q is
settled : (q n : ℕ) (b : Bool) → ((q ≡ n) × (b ≡ false)) ⊎ (q ≡ n → b ≡ true)
settled q n b = go (eqb q n) refl b
  where
    go : (c : Bool) → eqb q n ≡ c → (b : Bool) → ((q ≡ n) × (b ≡ false)) ⊎ (q ≡ n → b ≡ true)
    go true e true = inr (λ h. refl)
    go true e false = inl (eqb-true q n e, refl)
    go false e b = inr (λ h. absurd (eqb-false q n e h))

-- all of them pass if q is their number, or one fails
abbrev PassBy : ℕ → List (ℕ × Bool) → Type 0
PassBy q [] = Unit {0}
PassBy q (t ∷ ts) = (q ≡ t.0 → t.1 ≡ true) × PassBy q ts

all_settled : (q : ℕ) (ts : List (ℕ × Bool)) → FailsBy q ts ⊎ PassBy q ts
all_settled q [] = inr tt
all_settled q (t ∷ ts) = go (settled q t.0 t.1) (all_settled q ts)
  where
    go : ((q ≡ t.0) × (t.1 ≡ false)) ⊎ (q ≡ t.0 → t.1 ≡ true) → FailsBy q ts ⊎ PassBy q ts → FailsBy q (t ∷ ts) ⊎ PassBy q (t ∷ ts)
    go (inl f) i = inl (inl f)
    go (inr p) (inl f) = inl (inr f)
    go (inr p) (inr i) = inr (p, i)

passed : (q : ℕ) (p : Protocol) → PassBy q (tests p) → Passes q p
unfolding table_of
passed q p (bound, (guarded, (ranges, (labels, (states, (branches, (fields, (nested, (shares, (sums, (edition, end))))))))))) =
    record {
      bound = bound;
      guarded = guarded;
      ranges = ranges;
      labels = labels;
      fields = fields;
      states = λ e. leb-true _ 32 (states e);
      branches = λ e. leb-true _ 128 (branches e);
      nested = λ e. leb-true _ 16 (nested e);
      shares = shares;
      sums = sums;
      edition = edition;
    }

pub questions_mean : QuestionsMean
questions_mean s p l sp = go (all_settled (reads s).question (tests p))
  where
    go : FailsBy (reads s).question (tests p) ⊎ PassBy (reads s).question (tests p) → ((reads s).question ≡ 0) ⊎ FailsBy (reads s).question (tests p)
    go (inl f) = inr f
    go (inr g) = inl (passes_read s p ((writes_spelt s p).1 (l, sp)) (reads s).question refl (passed (reads s).question p g))

-- ---- legal protocols

pub legal_exactly : LegalExactly
unfolding every table_of
legal_exactly p = (passes, legal)
  where
    passes : Legal p → every (λ t. t.1) (tests p) ≡ true
    passes l =
        join l.bound (join l.guarded (join l.ranges (join l.labels (join (le-leb _ 32 l.states) (join (le-leb _ 128 l.branches)
        (join l.fields (join (le-leb _ 16 l.nested) (join l.shares (join l.sums (join l.edition refl))))))))))

    legal : every (λ t. t.1) (tests p) ≡ true → Legal p
    legal e =
        let bound = both _ _ e in
        let guarded = both _ _ bound.1 in
        let ranges = both _ _ guarded.1 in
        let labels = both _ _ ranges.1 in
        let states = both _ _ labels.1 in
        let branches = both _ _ states.1 in
        let fields = both _ _ branches.1 in
        let nested = both _ _ fields.1 in
        let shares = both _ _ nested.1 in
        let sums = both _ _ shares.1 in
        let edition = both _ _ sums.1 in
        record {
          bound = bound.0;
          guarded = guarded.0;
          ranges = ranges.0;
          labels = labels.0;
          fields = fields.0;
          states = leb-true _ 32 states.0;
          branches = leb-true _ 128 branches.0;
          nested = leb-true _ 16 nested.0;
          shares = shares.0;
          sums = sums.0;
          edition = edition.0;
        }
