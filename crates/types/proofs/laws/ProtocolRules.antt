-- The rules and the functions say the same: Step u side m w exactly when next (protocol_rules t) u (side, m) ≡ some w. What a step keeps.
-- Assumes nothing.
use mathlib.Core.Path.{◌≡◌, refl, sym, ap, ◌∙◌, subst}
use mathlib.Core.Logic.{◌↔◌}
use mathlib.Core.Bool.{Bool, true, false, not, ◌&&◌, cond, true≢false, false≢true}
use mathlib.Core.List.{List, [], ◌∷◌}
use mathlib.Core.Option.{Option, none, some, some-injective}
use Prim.Native.Nat.{ℕ, zero, suc}
use native.Mathlib.Omega.{arith}
use lib.Dec.{leb, eqb}
use borrow.Author.Tests.{not-true, eq-eqb, le-leb}
use Rattle.table.specs.Lists.{every, matched, same}
use Rattle.table.specs.View.{label_of}
use Rattle.table.proofs.laws.Lists.{both, join, all_three, never, refuted}
use Rattle.table.proofs.laws.View.{same_eq, same_refl}
use Rattle.message.specs.Message.{Value, Message}
use Rattle.message.specs.Judge.{same_kind, in_range, holds}
use Rattle.grammar.specs.Token.{word_of}
use Rattle.grammar.specs.Number.{offset, in_kind}
use Rattle.grammar.proofs.laws.Questions.{recs_guarded_br, labels_new_br, ranges_legal_br}
use Rattle.grammar.specs.Grammar.{SyntaxField, Ty, stop, var, loop, choice, Br, last, also, recs_guarded, label_among, Protocol, labels_new, ranges_legal, way_sort, sending, receiving, Way, range_legal, kind_code}
use Rattle.message.proofs.laws.Judge.{none_some}
use Rattle.conversation.proofs.laws.Step.{turn_its}
use Rattle.conversation.proofs.laws.Conversation.{its_turn}
use Rattle.grammar.proofs.laws.Packed.{Label}
use Rattle.grammar.proofs.laws.NameToken.{Labelled, LabelledBr}
use Rattle.table.specs.declared.Party.{Party}
use Rattle.table.specs.Table.{speaker, is_party}
use Rattle.message.specs.Rules.{Said, and_then, turn, next, leads}
use Rattle.types.specs.Types.{side_of, substitute, substitute_br, unfolded, hold, HasBranch, only, first, later, Step, by_branch, by_rec, Steps, no_step, a_step, Ends, at_stop, past_rec, recs, unroll, opened, matches, takes, sort_opened, allows_opened, protocol_rules}
use Rattle.types.proofs.laws.Close.{Closed, closed_also, closed_unfolded}
use Rattle.types.proofs.laws.Front.{named, closed_no_name, recs_unfolded, opened_rec, guarded_unfolded}

-- every name is bound, a choice stands between it and its binder, the ranges are legal, the labels of a choice differ, and each is a word
pub record Proper (t : Ty) : Type 0 where
  pub closed : Closed t
  pub guard : recs_guarded t ≡ true
  pub ranges : ranges_legal t ≡ true
  pub labels : labels_new t ≡ true
  pub words : Labelled t

-- ---- substitution keeps a type proper

mutual
  ranges_put : (t : Ty) (x : ℕ) (u : Ty) → ranges_legal u ≡ true → ranges_legal t ≡ true → ranges_legal (substitute t x u) ≡ true
  ranges_put stop x u h g = refl
  ranges_put (var y) x u h g = go (eqb y x)
    where
      go : (b : Bool) → ranges_legal (cond b u (var y)) ≡ true
      go true = h
      go false = refl
  ranges_put (loop y t) x u h g = go (eqb y x) (ranges_put t x u h g)
    where
      go : (b : Bool) → ranges_legal (substitute t x u) ≡ true → ranges_legal (cond b t (substitute t x u)) ≡ true
      go true i = g
      go false i = i
  ranges_put (choice w bs) x u h g = ranges_put_br bs x u h g

  ranges_put_br : (bs : Br) (x : ℕ) (u : Ty) → ranges_legal u ≡ true → ranges_legal_br bs ≡ true → ranges_legal_br (substitute_br bs x u) ≡ true
  ranges_put_br (last l fs sh t) x u h g =
      let w = both (every range_legal fs) (ranges_legal t) g in
      join w.0 (ranges_put t x u h w.1)
  ranges_put_br (also l fs sh t bs) x u h g =
      let w = all_three (every range_legal fs) (ranges_legal t) (ranges_legal_br bs) g in
      join (join w.0 (ranges_put t x u h w.1)) (ranges_put_br bs x u h w.2)

label_put : (bs : Br) (x : ℕ) (u : Ty) (l : ℕ) → label_among (substitute_br bs x u) l ≡ label_among bs l
label_put (last k fs sh t) x u l = refl
label_put (also k fs sh t bs) x u l = ap (λ b. cond (eqb k l) true b) (label_put bs x u l)

mutual
  differ_put : (t : Ty) (x : ℕ) (u : Ty) → labels_new u ≡ true → labels_new t ≡ true → labels_new (substitute t x u) ≡ true
  differ_put stop x u h g = refl
  differ_put (var y) x u h g = go (eqb y x)
    where
      go : (b : Bool) → labels_new (cond b u (var y)) ≡ true
      go true = h
      go false = refl
  differ_put (loop y t) x u h g = go (eqb y x) (differ_put t x u h g)
    where
      go : (b : Bool) → labels_new (substitute t x u) ≡ true → labels_new (cond b t (substitute t x u)) ≡ true
      go true i = g
      go false i = i
  differ_put (choice w bs) x u h g = differ_put_br bs x u h g

  differ_put_br : (bs : Br) (x : ℕ) (u : Ty) → labels_new u ≡ true → labels_new_br bs ≡ true → labels_new_br (substitute_br bs x u) ≡ true
  differ_put_br (last l fs sh t) x u h g = differ_put t x u h g
  differ_put_br (also l fs sh t bs) x u h g =
      let w = all_three (not (label_among bs l)) (labels_new t) (labels_new_br bs) g in
      join (join (ap not (label_put bs x u l) ∙ w.0) (differ_put t x u h w.1)) (differ_put_br bs x u h w.2)

mutual
  words_put : (t : Ty) (x : ℕ) (u : Ty) → Labelled u → Labelled t → Labelled (substitute t x u)
  words_put stop x u h g = tt
  words_put (var y) x u h g = go (eqb y x)
    where
      go : (b : Bool) → Labelled (cond b u (var y))
      go true = h
      go false = tt
  words_put (loop y t) x u h g = go (eqb y x) (words_put t x u h g)
    where
      go : (b : Bool) → Labelled (substitute t x u) → Labelled (cond b t (substitute t x u))
      go true i = g
      go false i = i
  words_put (choice w bs) x u h g = words_put_br bs x u h g

  words_put_br : (bs : Br) (x : ℕ) (u : Ty) → Labelled u → LabelledBr bs → LabelledBr (substitute_br bs x u)
  words_put_br (last l fs sh t) x u h g = (g.0, words_put t x u h g.1)
  words_put_br (also l fs sh t bs) x u h g = (g.0, (words_put t x u h g.1.0, words_put_br bs x u h g.1.1))

proper_unfolded : (x : ℕ) (t : Ty) → Proper (loop x t) → Proper (unfolded x t)
proper_unfolded x t p =
    record {
      closed = closed_unfolded x t p.closed;
      guard = guarded_unfolded x t p.closed p.guard;
      ranges = ranges_put t x (loop x t) p.ranges p.ranges;
      labels = differ_put t x (loop x t) p.labels p.labels;
      words = words_put t x (loop x t) p.words p.words;
    }

proper_unroll : (n : ℕ) (t : Ty) → Proper t → Proper (unroll n t)
proper_unroll zero t p = p
proper_unroll (suc n) stop p = p
proper_unroll (suc n) (var x) p = p
proper_unroll (suc n) (loop x t) p = proper_unroll n (unfolded x t) (proper_unfolded x t p)
proper_unroll (suc n) (choice w bs) p = p

pub proper_opened : (t : Ty) → Proper t → Proper (opened t)
unfolding opened
proper_opened t p = proper_unroll (recs t) t p

-- ---- a step keeps a type proper

proper_taken : (w : Way) (bs : Br) (m : Message) (u : Ty) → Proper (choice w bs) → takes bs m ≡ some u → Proper u
proper_taken z (last l fs sh t) m u p e = go (matches l fs m) e
  where
    go : (b : Bool) → cond b (some t) none ≡ some u → Proper u
    go true e =
        let f = both (every range_legal fs) (ranges_legal t) p.ranges in
        subst Proper (some-injective _ _ e)
        (record { closed = p.closed; guard = p.guard; ranges = f.1; labels = p.labels; words = p.words.1 })
    go false e = none_some e
proper_taken z (also l fs sh t bs) m u p e =
    let w = both (recs_guarded t) (recs_guarded_br bs) p.guard in
    let f = all_three (every range_legal fs) (ranges_legal t) (ranges_legal_br bs) p.ranges in
    let x = all_three (not (label_among bs l)) (labels_new t) (labels_new_br bs) p.labels in
    let k = p.words.1 in
    let c = closed_also t bs p.closed in
    go (matches l fs m) e (record { closed = c.0; guard = w.0; ranges = f.1; labels = x.1; words = k.0 })
    (λ e. proper_taken z bs m u (record { closed = c.1; guard = w.1; ranges = f.2; labels = x.2; words = k.1 }) e)
  where
    go : (b : Bool) → cond b (some t) (takes bs m) ≡ some u → Proper t → (takes bs m ≡ some u → Proper u) → Proper u
    go true e p i = subst Proper (some-injective _ _ e) p
    go false e p i = i e

-- where a message leads from a type whose recs are unfolded
abbrev pub onward : Ty → Said → Option Ty
onward stop v = none
onward (var x) v = none
onward (loop x t) v = none
onward (choice w bs) v = cond (is_party v.side (some (side_of w))) (takes bs v.message) none

pub speaker_sort : (w : Way) → speaker (way_sort w) ≡ some (side_of w)
unfolding speaker
speaker_sort sending = refl
speaker_sort receiving = refl

pub next_onward : (t : Protocol) (u : Ty) (v : Said) → next (protocol_rules t) u v ≡ onward (opened u) v
unfolding next
next_onward t u v = go (opened u)
  where
    nowhere : (b : Bool) → ◌≡◌ {A = Option Ty} (cond b none none) none
    nowhere true = refl
    nowhere false = refl

    go : (w : Ty) → cond (is_party v.side (speaker (sort_opened w))) (allows_opened w v.message) none ≡ onward w v
    go stop = nowhere (is_party v.side (speaker (sort_opened stop)))
    go (var x) = nowhere (is_party v.side (speaker (sort_opened (var x))))
    go (loop x t) = nowhere (is_party v.side (speaker (sort_opened (loop x t))))
    go (choice w bs) = ap (λ o. cond (is_party v.side o) (takes bs v.message) none) (speaker_sort w)

pub proper_onward : (t : Ty) (v : Said) (u : Ty) → Proper t → onward t v ≡ some u → Proper u
proper_onward stop v u p e = none_some e
proper_onward (var x) v u p e = none_some e
proper_onward (loop x t) v u p e = none_some e
proper_onward (choice w bs) v u p e = go (is_party v.side (some (side_of w))) e
  where
    go : (b : Bool) → cond b (takes bs v.message) none ≡ some u → Proper u
    go true e = proper_taken w bs v.message u p e
    go false e = none_some e

pub proper_next : (t : Protocol) (u : Ty) (v : Said) (w : Ty) → Proper u → next (protocol_rules t) u v ≡ some w → Proper w
proper_next t u v w p e = proper_onward (opened u) v w (proper_opened u p) (sym (next_onward t u v) ∙ e)

-- ---- unfolding

proper_no_name : {t : Ty} → Proper t → named t ≡ false
proper_no_name {t} p = closed_no_name t p.closed p.guard

abbrev pub is_loop : Ty → Bool
is_loop stop = false
is_loop (var x) = false
is_loop (loop x t) = true
is_loop (choice w bs) = false

no_loop_left : (n : ℕ) (t : Ty) → recs t ≡ n → Proper t → is_loop (unroll n t) ≡ false
no_loop_left zero stop e p = refl
no_loop_left zero (var x) e p = refl
no_loop_left zero (loop x t) e p = absurd (omega arith)
no_loop_left zero (choice w bs) e p = refl
no_loop_left (suc n) stop e p = refl
no_loop_left (suc n) (var x) e p = refl
no_loop_left (suc n) (loop x t) e p =
    no_loop_left n (unfolded x t) (recs_unfolded x t (proper_no_name p) ∙ omega arith) (proper_unfolded x t p)
no_loop_left (suc n) (choice w bs) e p = refl

pub opened_no_loop : (t : Ty) → Proper t → is_loop (opened t) ≡ false
unfolding opened
opened_no_loop t p = no_loop_left (recs t) t refl p

-- ---- branches

has_its_label : {bs : Br} {l : ℕ} {fs : List SyntaxField} {t : Ty} → HasBranch bs l fs t → label_among bs l ≡ true
has_its_label (only {l}) = eq-eqb l l refl
has_its_label (first {l} {bs = bs}) = ap (λ b. cond b true (label_among bs l)) (eq-eqb l l refl)
has_its_label (later {l} {k} {bs = bs} h) = go (eqb k l) (has_its_label h)
  where
    go : (b : Bool) → label_among bs l ≡ true → cond b true (label_among bs l) ≡ true
    go true i = refl
    go false i = i

has_word : {bs : Br} {l : ℕ} {fs : List SyntaxField} {t : Ty} → HasBranch bs l fs t → LabelledBr bs → Label l
has_word only k = k.0
has_word first k = k.0
has_word (later h) k = has_word h k.1.1

-- words that differ are labels that differ
same_word : {k l : ℕ} → Label k → Label l → label_of k ≡ label_of l → k ≡ l
same_word a b e = sym a.back ∙ ap word_of e ∙ b.back

-- no branch has the label
not_taken : (bs : Br) (l : ℕ) (m : Message) → LabelledBr bs → Label l → label_of l ≡ m.label → label_among bs l ≡ false → takes bs m ≡ none
unfolding matches
not_taken (last k fs sh t) l m w a e h =
    rw (refuted (same (label_of k) m.label) (λ f. never (eq-eqb k l (same_word w.0 a (same_eq (label_of k) m.label f ∙ sym e))) h))
not_taken (also k fs sh t bs) l m w a e h = go (eqb k l) refl h (λ h. not_taken bs l m w.1.1 a e h)
  where
    go : (b : Bool) → eqb k l ≡ b → cond b true (label_among bs l) ≡ false → (label_among bs l ≡ false → takes bs m ≡ none)
        → cond (same (label_of k) m.label && hold fs m.values) (some t) (takes bs m) ≡ none
    go true f h i = absurd (true≢false h)
    go false f h i =
        rw (refuted (same (label_of k) m.label)
        (λ g. never (eq-eqb k l (same_word w.0 a (same_eq (label_of k) m.label g ∙ sym e))) f)) (i h)

-- where labels differ, the branch with the label decides
pub decides : {bs : Br} {l : ℕ} {fs : List SyntaxField} {t : Ty} → HasBranch bs l fs t → (m : Message) → label_of l ≡ m.label
    → labels_new_br bs ≡ true → LabelledBr bs
    → takes bs m ≡ cond (hold fs m.values) (some t) none
unfolding matches
decides (only {l}) m e d w = rw (ap (same (label_of l)) (sym e) ∙ same_refl (label_of l))
decides (first {l} {fs} {t} {bs}) m e d w =
    let x = all_three (not (label_among bs l)) (labels_new t) (labels_new_br bs) d in
    rw (ap (same (label_of l)) (sym e) ∙ same_refl (label_of l), not_taken bs l m w.1.1 w.0 e (not-true (label_among bs l) x.0))
decides (later {l} {k} {fs} {gs} {t} {u} {bs} h) m e d w =
    let x = all_three (not (label_among bs k)) (labels_new u) (labels_new_br bs) d in
    go (same (label_of k) m.label) refl (decides h m e x.2 w.1.1) (not-true (label_among bs k) x.0)
  where
    go : (b : Bool) → same (label_of k) m.label ≡ b → takes bs m ≡ cond (hold fs m.values) (some t) none → label_among bs k ≡ false
        → cond (b && hold gs m.values) (some u) (takes bs m) ≡ cond (hold fs m.values) (some t) none
    go true f i n =
        never (has_its_label h)
        (ap (label_among bs) (same_word (has_word h w.1.1) w.0 (e ∙ sym (same_eq (label_of k) m.label f))) ∙ n)
    go false f i n = i

-- a message that is taken has a branch; one that is not has none, or one that does not hold its values
pub record Taken (bs : Br) (m : Message) (u : Ty) (b : Bool) : Type 0 where
  pub label : ℕ
  pub fields : List SyntaxField
  pub has : HasBranch bs label fields u
  pub its : label_of label ≡ m.label
  pub held : hold fields m.values ≡ b

pub taken : (bs : Br) (m : Message) (u : Ty) → takes bs m ≡ some u → Taken bs m u true
unfolding matches
taken (last l fs sh t) m u e = go (same (label_of l) m.label) refl (hold fs m.values) refl e
  where
    go : (b : Bool) → same (label_of l) m.label ≡ b → (c : Bool) → hold fs m.values ≡ c → cond (b && c) (some t) none ≡ some u
        → Taken (last l fs sh t) m u true
    go true f true h e =
        let b = subst (λ v. HasBranch (last l fs sh t) l fs v) (some-injective _ _ e) only in
        record { label = l; fields = fs; has = b; its = same_eq (label_of l) m.label f; held = h }
    go true f false h e = none_some e
    go false f c h e = none_some e
taken (also l fs sh t bs) m u e = go (same (label_of l) m.label) refl (hold fs m.values) refl e (λ e. taken bs m u e)
  where
    on : Taken bs m u true → Taken (also l fs sh t bs) m u true
    on w = record { label = w.label; fields = w.fields; has = later w.has; its = w.its; held = w.held }

    go : (b : Bool) → same (label_of l) m.label ≡ b → (c : Bool) → hold fs m.values ≡ c → cond (b && c) (some t) (takes bs m) ≡ some u
        → (takes bs m ≡ some u → Taken bs m u true) → Taken (also l fs sh t bs) m u true
    go true f true h e i =
        let b = subst (λ v. HasBranch (also l fs sh t bs) l fs v) (some-injective _ _ e) first in
        record { label = l; fields = fs; has = b; its = same_eq (label_of l) m.label f; held = h }
    go true f false h e i = on (i e)
    go false f c h e i = on (i e)

-- ---- rules and functions

abbrev pub said : Party → Message → Said
said side m = record { side = side; message = m }

pub party_its : (side of : Party) → is_party side (some of) ≡ true → of ≡ side
party_its side of e = some-injective _ _ (its_turn side (some of) e)

step_onward : {t : Ty} {side : Party} {m : Message} {u : Ty} → Step t side m u → Proper t → onward (opened t) (said side m) ≡ some u
unfolding opened
step_onward (by_branch {w} {bs} {m} {l} {fs} {t} h e f) p = rw (turn_its (side_of w)) (decides h m e p.labels p.words ∙ rw f)
step_onward (by_rec {x} {t} {side} {m} {u} h) p =
    ap (λ w. onward w (said side m)) (opened_rec x t (proper_no_name p)) ∙ step_onward h (proper_unfolded x t p)

by_onward : (t : Ty) (v : Said) (u : Ty) → onward t v ≡ some u → Step t v.side v.message u
by_onward stop v u e = none_some e
by_onward (var x) v u e = none_some e
by_onward (loop x t) v u e = none_some e
by_onward (choice w bs) v u e = go (is_party v.side (some (side_of w))) refl e
  where
    go : (b : Bool) → is_party v.side (some (side_of w)) ≡ b → cond b (takes bs v.message) none ≡ some u
        → Step (choice w bs) v.side v.message u
    go true f e =
        let x = taken bs v.message u e in
        subst (λ r. Step (choice w bs) r v.message u) (party_its v.side (side_of w) f) (by_branch x.has x.its x.held)
    go false f e = none_some e

by_unroll : (n : ℕ) (t : Ty) (v : Said) (u : Ty) → onward (unroll n t) v ≡ some u → Step t v.side v.message u
by_unroll zero t v u e = by_onward t v u e
by_unroll (suc n) stop v u e = none_some e
by_unroll (suc n) (var x) v u e = none_some e
by_unroll (suc n) (loop x t) v u e = by_rec (by_unroll n (unfolded x t) v u e)
by_unroll (suc n) (choice w bs) v u e = by_onward (choice w bs) v u e

pub step_exactly : (t : Protocol) (u : Ty) (v : Said) (w : Ty) → Proper u → Step u v.side v.message w ↔ (next (protocol_rules t) u v ≡ some w)
unfolding opened
step_exactly t u v w p = (λ h. next_onward t u v ∙ step_onward h p, λ e. by_unroll (recs u) u v w (sym (next_onward t u v) ∙ e))

-- ---- ends

abbrev pub is_stop : Ty → Bool
is_stop stop = true
is_stop (var x) = false
is_stop (loop x t) = false
is_stop (choice w bs) = false

ends_at : {t : Ty} → Ends t → Proper t → is_stop (opened t) ≡ true
unfolding opened
ends_at at_stop p = refl
ends_at (past_rec {x} {t} h) p = ap is_stop (opened_rec x t (proper_no_name p)) ∙ ends_at h (proper_unfolded x t p)

ends_unrolled : (n : ℕ) (t : Ty) → is_stop (unroll n t) ≡ true → Ends t
ends_unrolled zero stop e = at_stop
ends_unrolled zero (var x) e = absurd (false≢true e)
ends_unrolled zero (loop x t) e = absurd (false≢true e)
ends_unrolled zero (choice w bs) e = absurd (false≢true e)
ends_unrolled (suc n) stop e = at_stop
ends_unrolled (suc n) (var x) e = absurd (false≢true e)
ends_unrolled (suc n) (loop x t) e = past_rec (ends_unrolled n (unfolded x t) e)
ends_unrolled (suc n) (choice w bs) e = absurd (false≢true e)

pub ends_exactly : (t : Ty) → Proper t → Ends t ↔ (is_stop (opened t) ≡ true)
unfolding opened
ends_exactly t p = (λ h. ends_at h p, λ e. ends_unrolled (recs t) t e)

-- ---- turns

pub next_turn : (t : Protocol) (u : Ty) (v : Said) (w : Ty) → next (protocol_rules t) u v ≡ some w → turn (protocol_rules t) u ≡ some v.side
unfolding next
next_turn t u v w e = go (is_party v.side (turn (protocol_rules t) u)) refl e
  where
    go : (b : Bool) → is_party v.side (turn (protocol_rules t) u) ≡ b → cond b ((protocol_rules t).allows u v.message) none ≡ some w
        → turn (protocol_rules t) u ≡ some v.side
    go true f e = its_turn v.side (turn (protocol_rules t) u) f
    go false f e = none_some e

-- every number low
abbrev lows : List SyntaxField → List Value
lows [] = []
lows (f ∷ fs) = record { kind = kind_code f.kind; number = offset f.low } ∷ lows fs

holds_lows : (fs : List SyntaxField) → every range_legal fs ≡ true → hold fs (lows fs) ≡ true
unfolding every range_legal hold matched holds same_kind in_range
holds_lows [] e = refl
holds_lows (f ∷ fs) e =
    let κ = kind_code f.kind in
    let low = offset f.low in
    let x = both (range_legal f) (every range_legal fs) e in
    let y = all_three (in_kind κ f.low) (in_kind κ f.high) (leb low (offset f.high)) x.0 in
    join (join (eq-eqb κ κ refl) (join (le-leb low low (omega arith)) y.2)) (holds_lows fs x.1)

-- the first branch of a choice takes its label with every number low
branch_taken : (w : Way) (bs : Br) → ranges_legal_br bs ≡ true → (m : Message) × (u : Ty) × Step (choice w bs) (side_of w) m u
branch_taken w (last l fs sh t) g =
    let x = both (every range_legal fs) (ranges_legal t) g in
    (record { label = label_of l; values = lows fs }, t, by_branch only refl (holds_lows fs x.0))
branch_taken w (also l fs sh t bs) g =
    let x = all_three (every range_legal fs) (ranges_legal t) (ranges_legal_br bs) g in
    (record { label = label_of l; values = lows fs }, t, by_branch first refl (holds_lows fs x.0))

recs_stepped : (n : ℕ) (t : Ty) (side : Party) (m : Message) (u : Ty) → Step (unroll n t) side m u → Step t side m u
recs_stepped zero t side m u h = h
recs_stepped (suc n) stop side m u h = h
recs_stepped (suc n) (var x) side m u h = h
recs_stepped (suc n) (loop x t) side m u h = by_rec (recs_stepped n (unfolded x t) side m u h)
recs_stepped (suc n) (choice w bs) side m u h = h

turn_taken : (w : Ty) (side : Party) → Proper w → speaker (sort_opened w) ≡ some side → (m : Message) × (u : Ty) × Step w side m u
unfolding speaker
turn_taken stop side p e = none_some e
turn_taken (var x) side p e = none_some e
turn_taken (loop x t) side p e = none_some e
turn_taken (choice w bs) side p e =
    let x = branch_taken w bs p.ranges in
    (x.0, x.1, subst (λ s. Step (choice w bs) s x.0 x.1) (some-injective _ _ (sym (speaker_sort w) ∙ e)) x.2)

pub turns_exactly : (t : Protocol) (u : Ty) (side : Party) → Proper u → (turn (protocol_rules t) u ≡ some side)
    ↔ ((m : Message) × (w : Ty) × Step u side m w)
unfolding opened
turns_exactly t u side p = (
  λ e. let x = turn_taken (opened u) side (proper_opened u p) e in (x.0, x.1, recs_stepped (recs u) u side x.0 x.1 x.2),
  λ x. next_turn t u (said side x.0) x.1 ((step_exactly t u (said side x.0) x.1 p).0 x.2),
)

-- ---- lists

module _ (t : Protocol) where
  steps_lead : {u w : Ty} {vs : List Said} → Steps u vs w → Proper u → leads (protocol_rules t) u vs ≡ some w
  unfolding leads
  steps_lead no_step p = refl
  steps_lead (a_step {t = x} {u = y} {v = v} {vs = vs} h r) p =
      let e = (step_exactly t x v y p).0 h in
      ap (λ o. and_then o (λ b. leads (protocol_rules t) b vs)) e ∙ steps_lead r (proper_next t x v y p e)

  lead_steps : (u w : Ty) (vs : List Said) → Proper u → leads (protocol_rules t) u vs ≡ some w → Steps u vs w × Proper w
  unfolding leads
  lead_steps u w [] p e = subst (λ w. Steps u [] w × Proper w) (some-injective _ _ e) (no_step, p)
  lead_steps u w (v ∷ vs) p e = go (next (protocol_rules t) u v) refl e (λ x q e. lead_steps x w vs q e)
    where
      go : (o : Option Ty) → next (protocol_rules t) u v ≡ o → and_then o (λ b. leads (protocol_rules t) b vs) ≡ some w
          → ((x : Ty) → Proper x → leads (protocol_rules t) x vs ≡ some w → Steps x vs w × Proper w) → Steps u (v ∷ vs) w × Proper w
      go none f e i = none_some e
      go (some x) f e i =
          let y = i x (proper_next t u v x p f) e in
          (a_step ((step_exactly t u v x p).1 f) y.0, y.1)

  pub proper_leads : (u w : Ty) (vs : List Said) → Proper u → leads (protocol_rules t) u vs ≡ some w → Proper w
  proper_leads u w vs p e = (lead_steps u w vs p e).1

  pub steps_exactly : (u w : Ty) (vs : List Said) → Proper u → Steps u vs w ↔ (leads (protocol_rules t) u vs ≡ some w)
  steps_exactly u w vs p = (λ h. steps_lead h p, λ e. (lead_steps u w vs p e).0)
