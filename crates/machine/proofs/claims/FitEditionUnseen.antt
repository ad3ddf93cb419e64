-- Neither shares nor editions take part in the fit check: what it says of two tables it says of the same tables with others.
-- Assumes nothing.
use mathlib.Core.Path.{◌≡◌, refl, sym, ap, ap₂, subst, subst₂, ◌∙◌}
use mathlib.Core.Bool.{true, ◌&&◌}
use mathlib.Core.List.{List, [], ◌∷◌}
use mathlib.Core.Option.{Option, none}
use Prim.Native.Nat.{ℕ}
use lib.ListN.{length}
use Rattle.table.specs.Lists.{first_no}
use Rattle.table.specs.Table.{Sort, ends, sends, receives, Table, sort}
use Rattle.table.specs.View.{Words, view, EditionAside}
use Rattle.table.proofs.laws.Unshared.{same_states, editions_too}
use Rattle.message.specs.Judge.{allows, judge}
use Rattle.message.specs.Make.{branch}
use Rattle.message.specs.Rules.{Rules, table_rules}
use Rattle.machine.specs.Machine.{Machine, Move, arrived, fresh_machine, does, move, moves, run, bad, is_forward, all_forwarded, Safe, Fewest}
use Rattle.machine.specs.Fit.{both_are, right, Reachable, Fits, Count, owns, spoken, speaks, shown, of_speakers, shown_moves, but_last, last_count, field_named, Failing}
use Rattle.machine.specs.Answer.{Answer, refused, fits, fails, fit_questions, Answered, FitEditionUnseen, SafeEditionUnseen, FitSharesUnseen, SafeSharesUnseen}
use Rattle.table.proofs.laws.Lists.{both}
use Rattle.machine.proofs.laws.Failing.{shown_length}
use Rattle.machine.proofs.laws.Edition.{all_on, bad_on, forward_move, fewest_back, safe_back}

-- a table with other shares, under an edition
abbrev with : Table → List ℕ → ℕ → Table
with t w e = record { sorts = t.sorts; branches = t.branches; shares = w; edition = e }

with_view : (t u : Words) → EditionAside t u → with (view t) (view u).shares (view u).edition ≡ view u
with_view t u h = ap₂ (λ s b. record { sorts = s; branches = b; shares = (view u).shares; edition = (view u).edition }) h.sorts h.branches

-- ---- the machine

reach_on : (d p : Table) (w v : List ℕ) (a b : ℕ) {i j : ℕ} → Reachable d p i j → Reachable (with d w a) (with p v b) i j
unfolding sort allows judge run fresh_machine arrived
reach_on d p w v a b x =
    let D = table_rules d in
    let P = table_rules p in
    let y = all_on D P d.edition a p.edition b (fresh_machine D P) x.by x.forwarded in
    record {
      by = x.by;
      forwarded = y.0;
      state = sym (ap (λ m. m.state) y.1) ∙ x.state;
      position = sym (ap (λ m. m.position) y.1) ∙ x.position;
    }

module _ (d p : Table) (w v : List ℕ) (a b : ℕ) where
  abbrev e : Table
  e = with d w a

  abbrev q : Table
  q = with p v b

  abbrev D : Rules ℕ
  D = table_rules d

  abbrev P : Rules ℕ
  P = table_rules p

  abbrev fresh : Machine ℕ ℕ
  fresh = fresh_machine D P

  reach_back : {i j : ℕ} → Reachable e q i j → Reachable d p i j
  reach_back = reach_on e q d.shares p.shares d.edition p.edition

  fits_on : Fits d p → Fits e q
  unfolding Fits right both_are sort
  fits_on f i j r = f i j (reach_back r)

  count_on : {c : ℕ} → Count d p c → Count e q c
  count_on x =
      record {
        met = x.met;
        met_exactly = λ i j l m. (λ h. reach_on d p w v a b ((x.met_exactly i j l m).0 h), λ r. (x.met_exactly i j l m).1 (reach_back r));
        is = x.is;
      }

  fewest_on : (K : ℕ) → Fewest D P K → Fewest (table_rules e) (table_rules q) K
  unfolding sort allows judge
  fewest_on K f = fewest_back D P a d.edition b p.edition K f

  safe_on : Safe D P → Safe (table_rules e) (table_rules q)
  unfolding sort allows judge
  safe_on f = safe_back D P a d.edition b p.edition f

  -- ---- shown moves

  spoken_on : (s : Sort) (k : ℕ) (h : Option ℕ) → spoken d p s k h ≡ spoken e q s k h
  unfolding spoken branch
  spoken_on sends k h = refl
  spoken_on receives k h = refl
  spoken_on ends k h = refl

  speaks_on : (s : Sort) (i j k : ℕ) → speaks d p s i j k ≡ speaks e q s i j k
  unfolding speaks owns branch
  speaks_on sends i j k = refl
  speaks_on receives i j k = refl
  speaks_on ends i j k = refl

  shown_more : (m : Machine ℕ ℕ) (x : Move) (k : ℕ) (ks : List ℕ) (h : Option ℕ)
      → but_last (x ∷ shown d p m (k ∷ ks) h) ≡ x ∷ but_last (shown d p m (k ∷ ks) h)
  unfolding shown but_last
  shown_more m x k [] h = refl
  shown_more m x k (l ∷ ks) h = refl

  -- where all but the last are forwarded, they are the speakers' and the moves shown alike
  shown_on : (m : Machine ℕ ℕ) (ks : List ℕ) (h : Option ℕ) → all_forwarded D P m (but_last (shown d p m ks h)) ≡ true
      → (shown d p m ks h ≡ shown e q m ks h) × (of_speakers d p m ks ≡ of_speakers e q m ks)
  unfolding shown of_speakers all_forwarded sort allows judge
  shown_on m [] h f = (refl, refl)
  shown_on m (k ∷ []) h f =
      let s = sort d m.state in
      (ap (λ x. x ∷ []) (spoken_on s k h), ap (λ b. b && true) (speaks_on s m.state m.position k))
  shown_on m (k ∷ l ∷ ks) h f =
      let s = sort d m.state in
      let x = spoken d p s k none in
      let n = move D P m x in
      let c = subst (λ vs. all_forwarded D P m vs ≡ true) (shown_more n x l ks h) f in
      let g = both (is_forward (does D P m x)) (all_forwarded D P n (but_last (shown d p n (l ∷ ks) h))) c in
      let r = shown_on n (l ∷ ks) h g.1 in
      let o = forward_move D P d.edition a p.edition b m x g.0 ∙ ap (move (table_rules e) (table_rules q) m) (spoken_on s k none) in (
        ap₂ ◌∷◌ (spoken_on s k none) (r.0 ∙ ap (λ n. shown e q n (l ∷ ks) h) o),
        ap₂ ◌&&◌ (speaks_on s m.state m.position k) (r.1 ∙ ap (λ n. of_speakers e q n (l ∷ ks)) o),
      )

  failing_on : {ks : List ℕ} {h : Option ℕ} → Failing d p ks h → Failing e q ks h
  unfolding sort allows judge run fresh_machine arrived
  failing_on {ks} {h} x =
      let s = shown_on fresh ks h x.forwarded in
      let t = table_rules e in
      let u = table_rules q in
      record {
        branches = sym s.1 ∙ x.branches;
        real = subst (λ vs. moves vs ≡ true) s.0 x.real;
        forwarded =
            subst (λ vs. all_forwarded t u fresh (but_last vs) ≡ true) s.0
            (all_on D P d.edition a p.edition b fresh (but_last (shown_moves d p ks h)) x.forwarded).0;
        ends_badly =
            subst (λ vs. bad (run t u vs).standing ≡ true) s.0
            (bad_on D P d.edition a p.edition b fresh (shown_moves d p ks h) x.forwarded x.ends_badly);
        field_is_there = subst (λ vs. field_named h (last_count vs) ≡ true) s.0 x.field_is_there;
      }

-- ---- answers

module _ (d e p q : Words) (a : EditionAside d e) (b : EditionAside p q) where
  -- what is said of both tables, whatever their shares and editions
  on_view : (P : Table → Table → Type 0) → ((w v : List ℕ) (f g : ℕ) → P (with (view d) w f) (with (view p) v g)) → P (view e) (view q)
  on_view P h =
      subst₂ P (with_view d e a) (with_view p q b) (h (view e).shares (view q).shares (view e).edition (view q).edition)

  same_questions : (room : ℕ) → fit_questions d p room ≡ fit_questions e q room
  unfolding fit_questions
  same_questions room = rw (a.one, a.other, b.one, b.other, same_states d e a, same_states p q b)

  answered_on : (before after : List ℕ) (r : Answer) → Answered d p before after r → Answered e q before after r
  unfolding Answered
  answered_on before after (refused n) x =
      record {
        question = ap first_no (sym (same_questions (length before))) ∙ x.question;
        a_no = x.a_no;
        unchanged = x.unchanged;
      }
  answered_on before after (fits c) x =
      record {
        asked = ap first_no (sym (same_questions (length before))) ∙ x.asked;
        it_fits = on_view (λ s t. Fits s t) (λ w v f g. fits_on (view d) (view p) w v f g x.it_fits);
        count = on_view (λ s t. Count s t c) (λ w v f g. count_on (view d) (view p) w v f g x.count);
        unchanged = x.unchanged;
      }
  answered_on before after (fails K h) x =
      record {
        asked = ap first_no (sym (same_questions (length before))) ∙ x.asked;
        numbers = x.numbers;
        many = x.many;
        played = shown_length (view e) (view q) (fresh_machine (table_rules (view e)) (table_rules (view q))) x.numbers h ∙ x.many;
        within = rw (sym (same_states d e a), sym (same_states p q b)) x.within;
        list = x.list;
        failing = on_view (λ s t. Failing s t x.numbers h) (λ w v f g. failing_on (view d) (view p) w v f g x.failing);
        fewest = on_view (λ s t. Fewest (table_rules s) (table_rules t) K) (λ w v f g. fewest_on (view d) (view p) w v f g K x.fewest);
      }

pub fit_edition_unseen : FitEditionUnseen
fit_edition_unseen = answered_on

pub safe_edition_unseen : SafeEditionUnseen
safe_edition_unseen d e p q a b f =
    on_view d e p q a b (λ s t. Safe (table_rules s) (table_rules t)) (λ w v g h. safe_on (view d) (view p) w v g h f)

pub fit_shares_unseen : FitSharesUnseen
fit_shares_unseen d e p q a b = fit_edition_unseen d e p q (editions_too d e a) (editions_too p q b)

pub safe_shares_unseen : SafeSharesUnseen
safe_shares_unseen d e p q a b = safe_edition_unseen d e p q (editions_too d e a) (editions_too p q b)
