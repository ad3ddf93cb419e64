-- A text is read exactly when the grammar has it, limits included, into the table that it means. (Document 01, "Protocol text".)
-- Assumes nothing.
use mathlib.Core.Path.{◌≡◌, refl, sym, ap, ◌∙◌}
use mathlib.Core.Bool.{cond, Bool, true, false}
use mathlib.Core.Logic.{◌↔◌}
use mathlib.Core.List.{List, [], ◌∷◌, map}
use Prim.Native.Nat.{ℕ, ◌≤◌}
use native.Mathlib.Omega.{arith}
use lib.Dec.{leb}
use lib.ListN.{length}
use borrow.Author.Tests.{le-leb, leb-true}
use Rattle.table.specs.Lists.{first_no}
use Rattle.table.specs.View.{view, known, regular_of, sound_of}
use Rattle.table.proofs.laws.Lists.{join}
use Rattle.grammar.specs.inner.Scanner.{tokens}
use Rattle.grammar.specs.Building.{empty_branch, stateless, Built, came, denied}
use Rattle.grammar.specs.Filled.{came_out, filled, written}
use Rattle.grammar.specs.Reading.{state, start, meaning, stored, closed, token_formed, grammar_allows, edition_known, name_bound, guarded, ranged, share_ranged, new_label, within_limits, shares_add, taken, run_tokens, built, reads, questions}
use Rattle.grammar.specs.Grammar.{Protocol, sign, print_text, nothing_bound, edition_named, table_of, opening_legal, Legal}
use Rattle.grammar.specs.TokOf.{tok_of}
use Rattle.grammar.specs.inner.Writes.{Writes}
use Rattle.grammar.specs.declared.Reading.{Reading}
use Rattle.grammar.specs.Token.{Token}
use Rattle.grammar.proofs.laws.Holds.{legal_holds, view_holds, known_holds}
use Rattle.grammar.proofs.laws.TokOf.{sign_kind}
use Rattle.grammar.proofs.laws.RunTokens.{Goes, first_is, rest_is, never_empty}
use Rattle.grammar.proofs.laws.Good.{All, Good}
use Rattle.grammar.proofs.laws.Print.{type_law}
use Rattle.grammar.proofs.laws.Opening.{opening_law}
use Rattle.grammar.proofs.laws.Legal.{good_legal, Passes, none_asked, passes_good, legal_passes, legal_good}
use Rattle.grammar.proofs.laws.Prefix.{spells}
use Rattle.grammar.proofs.laws.NameToken.{Labelled, labels_legal}
use Rattle.grammar.proofs.laws.TableOf.{legal_sound, legal_kept, legal_edition}
use Rattle.table.specs.Table as T

module _ (s : List ℕ) where
  -- the whole, up to the end of the text
  whole : (q : ℕ) (p : Protocol) → Labelled p.type → Passes q p
      → Goes s q ((opening_legal p.opening ≡ true) × Good All p.type [] 0 [] []) start (print_text p) (state [] [] empty_branch (table_of p)) (sign 0 ∷ [])
  unfolding closed meaning nothing_bound stored table_of
  whole q p d g =
      let v = edition_named p.opening in
      opening_law s q p.opening g.edition p.type
      (type_law s q v p.type [] [] empty_branch (stateless v) [] [] [] (sign 0 ∷ []) (passes_good q p d g) refl refl)

  -- the end of the text
  ends : (p : Protocol) (ks : List Token) → map (tok_of s) ks ≡ sign 0 ∷ [] → run_tokens s (state [] [] empty_branch (table_of p)) ks ≡ came 0 0 (table_of p)
  unfolding run_tokens first_no questions token_formed grammar_allows edition_known name_bound guarded ranged share_ranged new_label within_limits shares_add taken
  ends p [] e = absurd (never_empty e)
  ends p (k ∷ []) e = let h : k.kind ≡ 0 = sign_kind s k 0 (first_is e) in rw h
  ends p (k ∷ j ∷ ks) e = absurd (never_empty (sym (rest_is e)))

  built_runs : length s ≤ 8192 → built s ≡ run_tokens s start (tokens s)
  unfolding built
  built_runs l = ap (λ b. cond b (run_tokens s start (tokens s)) (denied 1 0)) (le-leb (length s) 8192 l)

  -- a text of a legal protocol is read, into its table
  pub answered_table : (p : Protocol) → Writes s p → Legal p → built s ≡ came 0 0 (table_of p)
  answered_table p w l =
      let d = labels_legal s p w in
      let a = (whole 0 p d (legal_passes 0 p l)).on (l.edition, legal_good p d l) (tokens s) w.written in
      built_runs w.short ∙ a.2 ∙ ends p a.0 a.1

  -- a text that is read is that of a legal protocol
  pub read_only : (reads s).question ≡ 0 → (p : Protocol) × Writes s p × Legal p
  unfolding reads built denied
  read_only h = go (leb (length s) 8192) refl h
    where
      go : (b : Bool) → leb (length s) 8192 ≡ b → (cond b (run_tokens s start (tokens s)) (denied 1 0)).question ≡ 0 → (p : Protocol) × Writes s p × Legal p
      go true e h =
          let p = spells s h in
          let w : Writes s p.0 = record { short = leb-true (length s) 8192 e; written = p.1 } in
          let g = (whole 0 p.0 (labels_legal s p.0 w) (none_asked p.0)).only (tokens s) p.1 h in
          (p.0, w, good_legal p.0 g.0 g.1)
      go false e h = absurd (omega arith)

-- a text that 1 does not refuse is not too long
pub not_long : (s : List ℕ) → ((reads s).question ≡ 1 → ⊥) → length s ≤ 8192
unfolding reads built denied
not_long s h = go (leb (length s) 8192) refl h
  where
    go : (b : Bool) → leb (length s) 8192 ≡ b → ((cond b (run_tokens s start (tokens s)) (denied 1 0)).question ≡ 1 → ⊥) → length s ≤ 8192
    go true e h = leb-true (length s) 8192 e
    go false e h = absurd (h refl)

-- the table's words, filled up with 0
pub read_filled : (s : List ℕ) (p : Protocol) → Writes s p → Legal p → reads s ≡ came_out 0 0 (filled (table_of p))
unfolding reads
read_filled s p w l = ap written (answered_table s p w l)

read_table : (s : List ℕ) (p : Protocol) → Writes s p → Legal p → view (reads s).table ≡ table_of p
read_table s p w l =
    ap (λ (r : Reading). view r.table) (read_filled s p w l) ∙ view_holds (filled (table_of p)) (table_of p) (legal_holds p l (labels_legal s p w))

-- ---- the theorems

-- Reading gives r without a no, exactly when the text is that of a legal protocol and r is its table.
pub read_exactly : (s : List ℕ) (r : Reading)
    → ((reads s ≡ r) × (r.question ≡ 0)) ↔ ((p : Protocol) × Writes s p × Legal p × (r ≡ came_out 0 0 (filled (table_of p))))
read_exactly s r = (
  (λ h.
      let a = read_only s (ap (λ (x : Reading). x.question) h.0 ∙ h.1) in
      (a.0, a.1, a.2, sym h.0 ∙ read_filled s a.0 a.1 a.2)),
  (λ h. (read_filled s h.0 h.1 h.2 ∙ sym h.3, ap (λ (x : Reading). x.question) h.3)),
)

-- The same of what is seen of the words.
pub read_seen : (s : List ℕ) (T : T.Table)
    → (((reads s).question ≡ 0) × (view (reads s).table ≡ T)) ↔ ((p : Protocol) × Writes s p × Legal p × (T ≡ table_of p))
read_seen s T = (
  (λ h. let a = read_only s h.0 in (a.0, a.1, a.2, sym h.1 ∙ read_table s a.0 a.1 a.2)),
  (λ h. (ap (λ (r : Reading). r.question) (read_filled s h.0 h.1 h.2), read_table s h.0 h.1 h.2 ∙ sym h.3)),
)

-- A text of a protocol that passes the tests of question q is not refused by q.
pub passes_read : (s : List ℕ) (p : Protocol) → Writes s p → (q : ℕ) → (reads s).question ≡ q → Passes q p → (reads s).question ≡ 0
unfolding reads
passes_read s p w q h f =
    let z : (run_tokens s start (tokens s)).question ≡ q = ap (λ (b : Built). b.question) (sym (built_runs s w.short)) ∙ h in
    let o = (whole s q p (labels_legal s p w) f).only (tokens s) w.written z in
    ap (λ (r : Reading). r.question) (read_filled s p w (good_legal p o.0 o.1))

-- What is read is sound, its shares keep their rules, and its edition is 1 or 2 (question 9).
pub read_sound : (s : List ℕ) → (reads s).question ≡ 0 → sound_of (reads s).table ≡ true
unfolding sound_of regular_of view
read_sound s h =
    let r = read_only s h in
    let p = r.0 in
    let d = labels_legal s p r.1 in
    let v = read_table s p r.1 r.2 in
    join (ap (λ (t : T.Table). T.known_edition t.edition) v ∙ legal_edition p r.2)
    (join
    (join (ap (λ (x : Reading). known x.table) (read_filled s p r.1 r.2) ∙ known_holds (filled (table_of p)) (table_of p) (legal_holds p r.2 d))
    (ap T.sound v ∙ legal_sound p r.2 d))
    (ap T.shares_kept v ∙ legal_kept p r.2))
