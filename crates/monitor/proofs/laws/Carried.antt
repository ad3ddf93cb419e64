-- What a branch of a sound table holds is well formed: its label is legal, and a number within its range is one of the kind.
-- Assumes nothing.
use mathlib.Core.Path.{◌≡◌, ap, ap₂, subst, ◌∙◌}
use mathlib.Core.Bool.{true, not, ◌&&◌, false≢true}
use mathlib.Core.List.{List}
use Prim.Native.Nat.{ℕ, zero, suc, ◌+◌, ◌*◌, ◌≤◌, ◌<◌}
use native.Mathlib.Nat.{le_refl}
use native.Mathlib.Omega.{arith}
use lib.ListN.{length, get_or, take}
use lib.Seq.{take-take, take-length}
use lib.Dec.{leb, ltb, eqb}
use borrow.Author.Tests.{ltb-true, lt-ltb, leb-true, le-leb, eqb-true}
use Rattle.table.specs.Table.{legal_label, legal_field, within_kind, origin, is_party, speaker}
use Rattle.table.specs.View.{branches_of, owner_at, count_at, word_at, kind_at, low_at, high_at, sort_of, view, sound_of}
use Rattle.table.specs.inner.Scans.{legal_at}
use Rattle.table.specs.Lists.{first_no}
use Rattle.table.proofs.laws.Lists.{both, join, or_left}
use Rattle.table.proofs.laws.View.{Facts, sound_facts}
use Rattle.message.specs.Message.{number_at, count_of, announced, read, legal_value, front, refusal, has_label}
use Rattle.message.specs.Judge.{selected, judge}
use Rattle.message.specs.inner.Layout.{Framed}
use Rattle.message.proofs.laws.Message.{value_at, text_within, Whole, parts_whole, framed_formed, cut_values}
use Rattle.message.proofs.claims.LabelInPlace.{label_in_place}
use Rattle.table.specs.declared.Party.{Party}
use Rattle.conversation.specs.Due.{first_length}
use Rattle.monitor.specs.inner.Leaves.{branch_named, First, inside, Held, ByBranch, GoesStraight, Leading}
use Rattle.conversation.proofs.laws.Step.{all_well}
use Rattle.monitor.proofs.laws.Judgement.{allowed_here, chosen_here}
use Rattle.conversation.proofs.laws.Due.{all_there, first_framed}

-- kinds 1 and 2
module _ (l h n : ℕ) (a : l ≤ n) (b : n ≤ h) where
  between : (m : ℕ) → (leb origin l && leb l (origin + m) && (leb origin h && leb h (origin + m)) && leb l h) ≡ true
      → (leb origin n && leb n (origin + m)) ≡ true
  between m e =
      let p = both (leb origin l && leb l (origin + m) && (leb origin h && leb h (origin + m))) (leb l h) e in
      let q = both (leb origin l && leb l (origin + m)) (leb origin h && leb h (origin + m)) p.0 in
      let x = leb-true origin l (both (leb origin l) (leb l (origin + m)) q.0).0 in
      let y = leb-true h (origin + m) (both (leb origin h) (leb h (origin + m)) q.1).1 in
      join (le-leb origin n (omega arith)) (le-leb n (origin + m) (omega arith))

  held_legal : (k : ℕ) → legal_field (record { kind = k; low = l; high = h }) ≡ true → within_kind k n ≡ true
  unfolding legal_field within_kind
  held_legal zero e =
      let p = both (ltb l 4294967296 && ltb h 4294967296) (leb l h) e in
      let q = ltb-true h 4294967296 (both (ltb l 4294967296) (ltb h 4294967296) p.0).1 in
      lt-ltb n 4294967296 (omega arith)
  held_legal (suc zero) e = between 64 e
  held_legal (suc (suc zero)) e = between 1 e
  held_legal (suc (suc (suc k))) e = absurd (false≢true e)

-- field f of a message against place k of the table's
pub value_legal : (t message : List ℕ) (k f : ℕ) → legal_at t k ≡ true → get_or message (9 + f) 0 ≡ kind_at t k → inside t message k f ≡ true
    → legal_value (value_at message f) ≡ true
unfolding legal_value inside
value_legal t message k f legal same e =
    let n = number_at message (9 + count_of message + 4 * f) in
    let p = both (leb (low_at t k) n) (leb n (high_at t k)) e in
    ap (λ x. within_kind x n) same
    ∙ held_legal (low_at t k) (high_at t k) n (leb-true (low_at t k) n p.0) (leb-true n (high_at t k) p.1) (kind_at t k) legal

-- a text's number is its length above the origin
pub text_length : (message : List ℕ) (f : ℕ) → legal_value (value_at message f) ≡ true → get_or message (9 + f) 0 ≡ 1 → {x : ℕ} → x ≡ (value_at message f).number
    → (origin ≤ x) × (x ≤ origin + 64)
unfolding legal_value
text_length message f l k e = rw e (text_within _ _ k l)

-- ---- the straight way

module _ (t : List ℕ) (sound : sound_of t ≡ true) (bytes : List ℕ) (nine : 9 ≤ length bytes)
    (i r : ℕ) (first : First (branch_named t i bytes) (branches_of t) r) (l : r < branches_of t) (n : ℕ) (h : Held t bytes r n) where
  facts : Facts t
  facts = sound_facts t sound

  -- the label is a branch's, and so it is legal
  label_legal : legal_label (take 8 bytes) ≡ true
  unfolding branch_named
  label_legal =
      let e = (both (eqb (owner_at t r) i) (has_label bytes (word_at t r)) (first.there l)).1 in
      ap legal_label ((label_in_place bytes (word_at t r)).0 e).1 ∙ facts.labels r l

  whole_there : Whole bytes
  unfolding count_of
  whole_there =
      record { nine = nine; label = label_legal; few = omega (arith, h.counted, facts.counts r l); arrays = omega (arith, h.counted, h.arrays) }

  front_there : front bytes ≡ 0
  unfolding front first_no
  front_there = rw (parts_whole bytes whole_there, h.carried.legal)

  announced_there : announced bytes ≡ n
  unfolding announced count_of
  announced_there = omega (arith, h.counted, h.carried.texts_are, h.size)

  -- whatever stands behind the message
  read_there : read (take n bytes) ≡ read bytes
  unfolding read count_of
  read_there =
      ap₂ (λ a b. record { label = a; values = b }) (take-take 8 n bytes (omega (arith, h.size)))
      (cut_values bytes n whole_there (omega (arith, h.counted, h.size)) h.there)

  first_there : first_length bytes ≡ n
  first_there = all_there bytes front_there (omega (arith, announced_there, h.there)) ∙ announced_there

  formed_there : refusal (take n bytes) ≡ 0
  formed_there =
      let framed = first_framed bytes (λ z. omega (arith, z, first_there, h.size)) in
      framed_formed (take n bytes) (subst (λ k. Framed (take k bytes)) first_there framed) h.legal

  pub straight : (room : ℕ) → n ≤ room → Leading t i bytes room n r
  unfolding judge selected view branch_named
  straight room fits = record {
    nine = omega (arith, h.size);
    first = first_there;
    formed = formed_there;
    holds = fits;
    by_branch = record {
      there = l;
      owned = eqb-true (owner_at t r) i (both (eqb (owner_at t r) i) (has_label bytes (word_at t r)) (first.there l)).0;
      judged = ap (judge (view t) i) read_there
          ∙ allowed_here t (branches_of t) i bytes whole_there r first l h.counted h.carried.kinds (count_at t r) all_inside (le_refl (count_at t r));
      selected_one = ap (selected (view t) i) read_there
          ∙ chosen_here t (branches_of t) i bytes whole_there r first l h.counted h.carried.kinds (count_at t r) all_inside (le_refl (count_at t r));
    };
  }
    where
      all_inside : First (λ f. not (inside t bytes (4 * r + f) f)) (count_at t r) (count_at t r)
      all_inside =
          record { within = le_refl (count_at t r); before = λ k g. ap not (h.carried.numbers k g); there = λ g. absurd (omega arith) }

-- where nothing stands behind it, and it is its side's turn
pub straight_alone : (t : List ℕ) (i : ℕ) (message : List ℕ) (room n r : ℕ) → Leading t i message room n r → n ≡ length message
    → (sort : ℕ) (side : Party) → is_party side (speaker (sort_of sort)) ≡ true → GoesStraight t i sort side message room r
straight_alone t i message room n r x e sort side turn = record {
  turn = turn;
  asked = λ edition. all_well edition (sort_of sort) side message room (or_left (eqb edition 2) turn) formed (omega (arith, x.holds));
  by_branch = subst (λ m. ByBranch t i m r) all_taken x.by_branch;
}
  where
    all_taken : take n message ≡ message
    all_taken = ap (λ k. take k message) e ∙ take-length message

    formed : refusal message ≡ 0
    formed = subst (λ m. refusal m ≡ 0) all_taken x.formed
