-- A move at a pair of states of one sort: where the two tables lead with its message is the machine's effect; and whose move it is.
-- Assumes nothing.
use mathlib.Core.Path.{◌≡◌, refl, sym, ap, ◌∙◌, subst}
use mathlib.Core.Bool.{true, false, false≢true}
use mathlib.Core.Logic.{⊎_elim}
use mathlib.Core.List.{List, []}
use mathlib.Core.Option.{Option, none, some}
use Prim.Native.Nat.{ℕ, zero, suc, ◌≤◌, ◌<◌}
use native.Mathlib.Omega.{arith}
use lib.ListN.{length, get_or-eq_default}
use lib.Seq.{length-take-le}
use lib.Dec.{ltb}
use borrow.Author.Tests.{ltb-true, ltb-false, lt-ltb}
use Rattle.table.specs.Table.{Sort, ends, sends, receives, sort_code, same_sort, Table, Branch, sort, speaker}
use Rattle.table.specs.View.{Words, sort_at, view, sound_of, sort_of}
use Rattle.table.proofs.laws.Lists.{join, decided}
use Rattle.table.proofs.laws.View.{sort_of_is, view_sound}
use Rattle.table.proofs.laws.SameSort.{same_sort_eq}
use Rattle.message.specs.Rules.{table_rules}
use Rattle.message.specs.Message.{read, count_of, text_bytes, whole, well_formed}
use Rattle.message.specs.Judge.{allows}
use Rattle.message.specs.Make.{numbers_of, write, chosen, branch_message, made, branch, exists, names_field}
use Rattle.message.proofs.laws.BranchMessage.{branch_legal, made_count}
use Rattle.table.specs.declared.Party.{Party}
use Rattle.table.specs.declared.Party.TheVariants.{Device, Host}
use Rattle.machine.specs.Machine.{Move, from_device, from_host, by_side, effect}
use Rattle.machine.specs.Fit.{field_named, spoken}
use Rattle.report.specs.inner.Playing.{HasTurn, settled, is_device, kept, blames, move_at, MoveSaid, Speaking, MoveSpoken, Ready}

clash : {X : Type 0} → ◌≡◌ {A = ℕ} 0 1 → X
clash z = absurd (omega arith)

-- ---- the effect

speaker_device : (s : Sort) → speaker s ≡ some Device → s ≡ sends
unfolding speaker
speaker_device ends e = let z : ◌≡◌ {A = ℕ} 0 1 = cc in clash z
speaker_device sends e = refl
speaker_device receives e = let z : ◌≡◌ {A = ℕ} 0 1 = cc in clash z

speaker_host : (s : Sort) → speaker s ≡ some Host → s ≡ receives
unfolding speaker
speaker_host ends e = let z : ◌≡◌ {A = ℕ} 0 1 = cc in clash z
speaker_host sends e = let z : ◌≡◌ {A = ℕ} 0 1 = cc in clash z
speaker_host receives e = refl

device_settled : (i j : ℕ) (x y : Option ℕ) → settled i j Device x y ≡ kept i j (from_device x y)
unfolding kept settled is_device from_device blames
device_settled i j none y = refl
device_settled i j (some x) none = refl
device_settled i j (some x) (some y) = refl

host_settled : (i j : ℕ) (x y : Option ℕ) → settled i j Host x y ≡ kept i j (from_host y x)
unfolding kept settled is_device from_host blames
host_settled i j none none = refl
host_settled i j none (some y) = refl
host_settled i j (some x) none = refl
host_settled i j (some x) (some y) = refl

pub effect_settled : (d p : Table) (i j : ℕ) (side : Party) (v : Move) → v.side ≡ side → well_formed v.bytes ≡ true
    → speaker (sort d i) ≡ some side → speaker (sort p j) ≡ some side
    → settled i j side (allows d i (read v.bytes)) (allows p j (read v.bytes))
    ≡ kept i j (effect (table_rules d) (table_rules p) i j v)
unfolding effect by_side same_sort sort_code
effect_settled d p i j Device v q w e f =
    rw (w, q, speaker_device (sort d i) e) (device_settled i j (allows d i (read v.bytes)) (allows p j (read v.bytes)))
effect_settled d p i j Host v q w e f =
    rw (w, q, speaker_host (sort p j) f) (host_settled i j (allows d i (read v.bytes)) (allows p j (read v.bytes)))

-- ---- whose move it is

-- a branch past the table's end has no message
past_end : (h : Option ℕ) → well_formed (made (record { owner = 0; label = []; fields = []; target = 0 }) h) ≡ false
unfolding made branch_message chosen write numbers_of text_bytes well_formed whole
past_end h = refl

-- a branch whose message is well formed is one of the table's
there : (t : Table) (k : ℕ) (h : Option ℕ) → well_formed (made (branch t k) h) ≡ true → k < length t.branches
unfolding branch
there t k h w =
    ⊎_elim (λ e. ltb-true k (length t.branches) e)
    (λ e.
    let l = ltb-false k (length t.branches) e in
    absurd (false≢true (sym
    (ap (λ (b : Branch). well_formed (made b h))
    (get_or-eq_default t.branches (record { owner = 0; label = []; fields = []; target = 0 }) l) ∙ past_end h) ∙ w)))
    (decided (ltb k (length t.branches)))

-- and where the field is one of the message's, it is one of the branch's
existing : (t : Words) → sound_of t ≡ true → (k : ℕ) (h : Option ℕ) → well_formed (made (branch (view t) k) h) ≡ true
    → field_named h (count_of (made (branch (view t) k) h)) ≡ true → exists (view t) k h ≡ true
unfolding exists field_named names_field
existing t s k h w f =
    let l = there (view t) k h w in
    let g = branch_legal (view t) (view_sound t s) k l h in
    join (lt-ltb k (length (view t).branches) l)
    (go h (subst (λ (n : ℕ). field_named h n ≡ true) (made_count (branch (view t) k) g h) f))
  where
    go : (h : Option ℕ) → field_named h (length (branch (view t) k).fields) ≡ true → names_field h (branch (view t) k) ≡ true
    go none e = refl
    go (some n) e = e

-- the side speaks, and the move is its branch k
pub record Speaks (own d p : Words) (side : Party) (i k : ℕ) (h : Option ℕ) : Type 0 where
  pub has : exists (view own) k h ≡ true
  pub turn : speaker (sort (view d) i) ≡ some side
  pub is : record { side = side; bytes = made (branch (view own) k) h } ≡ move_at (view d) (view p) i k h

pub spoken_as : {own d p : Words} {side : Party} {i k : ℕ} {h : Option ℕ} → Speaks own d p side i k h
    → {message before after : List ℕ} {n : ℕ}
    → MoveSaid (record { side = side; bytes = made (branch (view own) k) h }) h message before after n
    → MoveSpoken (view d) (view p) i k h message before after side n
spoken_as {own} {d} {p} {side} {i} {k} {h} s {message} {before} {after} {n} w =
    record {
      said = subst (λ (v : Move). MoveSaid v h message before after n) s.is w;
      turn = s.turn;
      whose = ap (λ (v : Move). v.side) (sym s.is);
    }

pub said_size : {v : Move} {h : Option ℕ} {message before after : List ℕ} {n : ℕ} → MoveSaid v h message before after n
    → length v.bytes ≤ 285
said_size {v} {h} {message} {before} {after} {n} w =
    omega (arith, w.short, ap length w.message_is, length-take-le n message (omega (arith, w.full, w.short)))

module _ {d p : Words} (sd : sound_of d ≡ true) (sp : sound_of p ≡ true) {i k : ℕ} {h : Option ℕ} (r : Speaking d p i k h) where
  formed_at : (s : Sort) → sort (view d) i ≡ s → well_formed (spoken (view d) (view p) s k h).bytes ≡ true
  formed_at s e = subst (λ (s : Sort). well_formed (spoken (view d) (view p) s k h).bytes ≡ true) e r.formed

  field_at_is : (s : Sort) → sort (view d) i ≡ s → field_named h (count_of (spoken (view d) (view p) s k h).bytes) ≡ true
  field_at_is s e = subst (λ (s : Sort). field_named h (count_of (spoken (view d) (view p) s k h).bytes) ≡ true) e r.field

  device_speaks : sort (view d) i ≡ sends → Speaks d d p Device i k h
  unfolding spoken speaker
  device_speaks e =
      record {
        has = existing d sd k h (formed_at sends e) (field_at_is sends e);
        turn = ap speaker e;
        is = ap (λ (s : Sort). spoken (view d) (view p) s k h) (sym e);
      }

  host_speaks : sort (view d) i ≡ receives → Speaks p d p Host i k h
  unfolding spoken speaker
  host_speaks e =
      record {
        has = existing p sp k h (formed_at receives e) (field_at_is receives e);
        turn = ap speaker e;
        is = ap (λ (s : Sort). spoken (view d) (view p) s k h) (sym e);
      }

  -- by the code of the device's sort
  pub speaks_device : sort_at d i ≡ 1 → Speaks d d p Device i k h
  unfolding sort_of
  speaks_device e = device_speaks (sort_of_is d i r.i_inside ∙ ap sort_of e)

  pub speaks_host : (sort_at d i ≡ 1 → ⊥) → Speaks p d p Host i k h
  unfolding sort_of spoken well_formed whole
  speaks_host n = go (sort_at d i) n (sort_of_is d i r.i_inside)
    where
      go : (c : ℕ) → (c ≡ 1 → ⊥) → sort (view d) i ≡ sort_of c → Speaks p d p Host i k h
      go zero n e = absurd (false≢true (formed_at ends e))
      go (suc zero) n e = absurd (n refl)
      go (suc (suc c)) n e = host_speaks e

-- then it is that side's turn at both states
pub both_turn : {d p : Words} {i j k : ℕ} {h : Option ℕ} → Ready d p i j k h → {side : Party} → speaker (sort (view d) i) ≡ some side
    → HasTurn d i side × HasTurn p j side
both_turn {d} {p} {i} {j} r e = (
  record { inside = r.speaking.i_inside; turn = e },
  record {
    inside = r.j_inside;
    turn = ap speaker (sym (same_sort_eq (sort (view d) i) (sort (view p) j) r.alike)) ∙ e;
  },
)
