-- The report from its parts: a refused text; the fit check's answers over two sound tables; and the lent buffer.
-- Assumes nothing.
use mathlib.Core.Path.{◌≡◌, refl, sym, ap, ◌∙◌, subst, subst₂}
use mathlib.Core.Bool.{true, false}
use mathlib.Core.Logic.{⊎_elim}
use mathlib.Core.List.{List, [], ◌∷◌, ◌++◌}
use Prim.Native.Nat.{ℕ, suc, ◌*◌, ◌≤◌, ◌<◌}
use native.Mathlib.Omega.{arith}
use lib.ListN.{length, take, drop, length-append}
use lib.Seq.{take_at}
use lib.Dec.{eqb}
use borrow.Author.Tests.{le-leb, lt-leb, eqb-true, eqb-false}
use Rattle.table.specs.Lists.{first_no}
use Rattle.table.specs.Table.{Table}
use Rattle.table.proofs.laws.Lists.{decided}
use Rattle.table.specs.View.{Words, states_of, view, sound_of}
use Rattle.table.proofs.laws.View.{sorts_of}
use Rattle.message.specs.Make.{opening, high_of}
use Rattle.grammar.specs.Reading.{reads}
use Rattle.grammar.specs.declared.Reading.{Reading}
use Rattle.grammar.proofs.laws.Reads.{read_sound}
use Rattle.machine.specs.Machine.{run, Fewest}
use Rattle.machine.specs.Fit.{Failing}
use Rattle.machine.specs.Answer.{Answered, answer_of, fit_questions, Refused, Failed}
use Rattle.machine.specs.declared.Fitting.{Fitting}
use Rattle.machine.specs.declared.Fitting.TheVariants as F
use Rattle.std.specs.Prelude as Std
use Rattle.fit.proofs.laws.Answered.{room_most}
use Rattle.table.specs.Ascii.{ascii, decimal}
use Rattle.report.specs.Report.{line, fit, refused_line, no_fit, Compared, says_fit, says_no_fit, Reported, Written}
use Rattle.report.specs.inner.Playing.{rules, lines_from, all_lines, ListShows}

-- ---- two sound tables

module _ (d p : Words) (sd : sound_of d ≡ true) (sp : sound_of p ≡ true) (list after : List ℕ) (long : length list ≡ 1024) where
  pub never_refused : {X : Type 0} {q : ℕ} → Refused d p list after q → X
  unfolding fit_questions first_no
  never_refused a =
      absurd (a.a_no (sym a.question
      ∙ rw (sd, sp, le-leb (states_of d * states_of p) (length list) (omega (arith, room_most d p sd sp)))))

  pub answered_fits : {x : Fitting} {c : ℕ} → x ≡ F.Fits c → Answered d p list after (answer_of (Std.Ok x))
      → Compared (view d) (view p) (fit c)
  unfolding Answered answer_of
  answered_fits {c} e a = let w = subst (λ (x : Fitting). Answered d p list after (answer_of (Std.Ok x))) e a in says_fit c w.it_fits w.count

  module _ {K : ℕ} {x : Fitting} {h : Std.Option ℕ} (e : x ≡ F.Fails K h) (a : Answered d p list after (answer_of (Std.Ok x))) where
    failed : Failed d p list after K (high_of h)
    unfolding Answered answer_of
    failed = subst (λ (x : Fitting). Answered d p list after (answer_of (Std.Ok x))) e a

    numbers_are : take K after ≡ failed.numbers
    unfolding opening
    numbers_are = ap (take K) failed.list ∙ take_at failed.numbers (drop (length failed.numbers) list) K failed.many

    pub many : length (take K after) ≡ K
    many = ap length numbers_are ∙ failed.many

    -- the list holds them all
    pub room : K ≤ length after
    unfolding opening
    room = omega (arith, ap length failed.list, length-append failed.numbers (drop (length failed.numbers) list), failed.many)

    pub shows : ListShows d p (take K after) (high_of h)
    shows =
        record {
          few = omega (arith, many, failed.within, room_most d p sd sp);
          failing = subst (λ (ks : List ℕ). Failing (view d) (view p) ks (high_of h)) (sym numbers_are) failed.failing;
          fewest = subst (λ (n : ℕ). Fewest (rules d) (rules p) n) (sym many) failed.fewest;
        }

    -- the first line, and the rest
    pub answered_fails : Compared (view d) (view p) (line (ascii "no fit " ++ decimal K) ++ all_lines (view d) (view p) (take K after) (high_of h))
    unfolding no_fit lines_from run
    answered_fails =
        subst (λ n. Compared (view d) (view p) (line (ascii "no fit " ++ decimal n) ++ all_lines (view d) (view p) (take K after) (high_of h))) many
        (says_no_fit (take K after) (high_of h) shows.failing
        (subst₂ (λ (n m : ℕ). length (take K after) ≤ n * m) (sym (sorts_of d)) (sym (sorts_of p)) (omega (arith, many, failed.within)))
        shows.fewest)

-- ---- two texts

pub sound_of_is : (s : List ℕ) (r : Reading) → r ≡ reads s → r.question ≡ 0 → sound_of r.table ≡ true
sound_of_is s r e q =
    subst (λ (r : Reading). sound_of r.table ≡ true) (sym e) (read_sound s (subst (λ (r : Reading). r.question ≡ 0) e q))

module _ (protocol device : List ℕ) where
  pub reported_protocol : (r : Reading) → r ≡ reads protocol → (r.question ≡ 0 → ⊥)
      → Reported protocol device (refused_line "protocol" r.question r.at)
  reported_protocol r e n =
      let no = subst (λ (r : Reading). r.question ≡ 0 → ⊥) e n in
      record {
        protocol_refused = λ q. ap (λ (r : Reading). refused_line "protocol" r.question r.at) e;
        device_refused = λ q. absurd (no q);
        compared = λ q. absurd (no q);
      }

  pub reported_device : (p : Reading) → p ≡ reads protocol → p.question ≡ 0 → (r : Reading) → r ≡ reads device
      → (r.question ≡ 0 → ⊥) → Reported protocol device (refused_line "device" r.question r.at)
  reported_device p f y r e n =
      let yes = subst (λ (r : Reading). r.question ≡ 0) f y in
      let no = subst (λ (r : Reading). r.question ≡ 0 → ⊥) e n in
      record {
        protocol_refused = λ q. absurd (q yes);
        device_refused = λ z q. ap (λ (r : Reading). refused_line "device" r.question r.at) e;
        compared = λ z q. absurd (no q);
      }

  pub reported_compared : (p : Reading) → p ≡ reads protocol → p.question ≡ 0 → (r : Reading) → r ≡ reads device → r.question ≡ 0
      → {text : List ℕ} → Compared (view r.table) (view p.table) text → Reported protocol device text
  reported_compared p f y r e z {text} w =
      record {
        protocol_refused = λ q. absurd (q (subst (λ (r : Reading). r.question ≡ 0) f y));
        device_refused = λ _ q. absurd (q (subst (λ (r : Reading). r.question ≡ 0) e z));
        compared = λ _ q. subst₂ (λ (r p : Reading). Compared (view r.table) (view p.table) text) e f w;
      }

-- ---- no report is empty

line_some : (bytes : List ℕ) → line bytes ≡ [] → ⊥
unfolding line
line_some bytes e = let z : length (bytes ++ (10 ∷ [])) ≡ 0 = ap length e in omega (arith, z, length-append bytes (10 ∷ []))

line_long : (bytes : List ℕ) → length (line bytes) ≡ suc (length bytes)
unfolding line
line_long bytes = omega (arith, length-append bytes (10 ∷ []))

compared_some : (d p : Table) (text : List ℕ) → Compared d p text → text ≡ [] → ⊥
unfolding fit no_fit
compared_some d p text (says_fit c f n) e = line_some _ e
compared_some d p text (says_no_fit ks h f l m) e = none_left (ascii "no fit " ++ decimal (length ks)) _ e
  where
    none_left : (bytes rest : List ℕ) → line bytes ++ rest ≡ [] → ⊥
    none_left bytes rest e = let z = ap length e in omega (arith, z, length-append (line bytes) rest, line_long bytes)

reported_some : (protocol device text : List ℕ) → Reported protocol device text → text ≡ [] → ⊥
unfolding refused_line
reported_some protocol device text r e =
    ⊎_elim (λ (p : eqb (reads protocol).question 0 ≡ true).
    ⊎_elim (λ (d : eqb (reads device).question 0 ≡ true). compared_some _ _ text (r.compared (eqb-true _ _ p) (eqb-true _ _ d)) e)
    (λ (d : eqb (reads device).question 0 ≡ false). line_some _ (sym (r.device_refused (eqb-true _ _ p) (eqb-false _ _ d)) ∙ e))
    (decided (eqb (reads device).question 0)))
    (λ (p : eqb (reads protocol).question 0 ≡ false). line_some _ (sym (r.protocol_refused (eqb-false _ _ p)) ∙ e))
    (decided (eqb (reads protocol).question 0))

-- ---- the lent buffer

module _ (protocol device buffer : List ℕ) {text : List ℕ} (r : Reported protocol device text) (most : length text ≤ 16384) where
  -- it does not hold the report
  pub written_not : length buffer < length text → Written protocol device buffer buffer 0
  written_not short =
      let no = lt-leb (length text) (length buffer) short in
      record { text = text; reported = r; some = reported_some _ _ _ r; most = most; answer = rw no refl; buffer = rw no refl }

  -- it holds the report
  pub written_whole : length text ≤ length buffer → Written protocol device buffer (text ++ drop (length text) buffer) (length text)
  unfolding opening
  written_whole held =
      let yes = le-leb (length text) (length buffer) held in
      record { text = text; reported = r; some = reported_some _ _ _ r; most = most; answer = rw yes refl; buffer = rw yes refl }
