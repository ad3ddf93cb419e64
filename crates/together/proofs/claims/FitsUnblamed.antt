-- A device that fits is never blamed. What was said so far led the description to x and the protocol to j, and moves led a fresh machine
-- to that very pair (`Led`): so what the monitor does with the next message, the machine would do with it, and it ends well.
-- Assumes nothing.
use mathlib.Core.Path.{◌≡◌, refl, sym, ap, subst, ◌∙◌}
use mathlib.Core.Bool.{Bool, true, false, cond}
use mathlib.Core.List.{List, [], ◌∷◌, ◌++◌, append_assoc, append-nil}
use mathlib.Core.Option.{Option, none, some}
use Prim.Native.Nat.{ℕ}
use Rattle.table.specs.Lists.{every}
use Rattle.table.specs.Table.{Sort, ends, sends, receives, same_sort, sort_code, speaker, is_party}
use Rattle.table.specs.View.{Words, view}
use Rattle.table.specs.declared.Party.{Party}
use Rattle.table.specs.declared.Party.TheVariants.{Device, Host}
use Rattle.table.proofs.laws.Lists.{never}
use Rattle.table.proofs.laws.SameSort.{same_sort_eq}
use Rattle.message.specs.Message.{read, well_formed}
use Rattle.message.specs.Rules.{Rules, table_rules, Said, turn, next, leads, led}
use Rattle.message.proofs.laws.Judge.{none_some, some_eq}
use Rattle.conversation.specs.Step.{Told, refused, blamed, forwarded}
use Rattle.conversation.proofs.laws.Conversation.{blamed_for_good, blamed_once, forwarded_append, leads_more}
use Rattle.conversation.proofs.claims.DemandTwo.{demand_two}
use Rattle.machine.proofs.laws.Reachable.{moves_append}
use Rattle.conversation.specs.Conversation.{Sent, Event, conversation, said_by, is_forwarded, forwarded_ones, blamed_else, blamed_first, Judgeable, Met, WatchedTable}
use Rattle.machine.specs.Machine.{Standing, running, device_blamed, jammed, Machine, Move, moves, Effect, forward, halt, from_device, from_host, while_running, arrived, fresh_machine, by_side, effect, does, after, move, play, run, bad, Safe}
use Rattle.together.specs.Unblamed.{FitsUnblamed}

-- ---- lists in a row

module _ {D P : Type 0} (d : Rules D) (p : Rules P) where
  play_append : (m : Machine D P) (vs ws : List Move) → play d p m (vs ++ ws) ≡ play d p (play d p m vs) ws
  unfolding play
  play_append m [] ws = refl
  play_append m (v ∷ vs) ws = play_append (move d p m v) vs ws

-- ---- sorts and turns

device_sends : (s : Sort) → is_party Device (speaker s) ≡ true → same_sort s sends ≡ true
unfolding speaker is_party same_sort sort_code
device_sends sends e = refl
device_sends ends e = never e refl
device_sends receives e = never e refl

host_receives : (s : Sort) → is_party Host (speaker s) ≡ true → same_sort s receives ≡ true
unfolding speaker is_party same_sort sort_code
host_receives receives e = refl
host_receives ends e = never e refl
host_receives sends e = never e refl

next_parts : {A : Type 0} (r : Rules A) (a b : A) (v : Said) → next r a v ≡ some b → (is_party v.side (turn r a) ≡ true) × (r.allows a v.message ≡ some b)
unfolding next
next_parts r a b v e = go (is_party v.side (turn r a)) refl e
  where
    go : (t : Bool) → is_party v.side (turn r a) ≡ t → cond t (r.allows a v.message) none ≡ some b
        → (is_party v.side (turn r a) ≡ true) × (r.allows a v.message ≡ some b)
    go true q e = (q, e)
    go false q e = none_some e

-- ---- the machine beside the conversation

module _ (D : Type 0) (d : Rules D) (p : Words) (safe : Safe d (table_rules (view p))) where
  abbrev R : Rules ℕ
  R = table_rules (view p)

  abbrev as_move : Sent → Move
  as_move m = record { side = m.side; bytes = m.bytes }

  -- moves led a fresh machine to this pair
  record Led (x : D) (j : ℕ) : Type 0 where
    by : List Move
    real : moves by ≡ true
    is : run d R by ≡ arrived d R x j

  -- so it runs there
  alike : (x : D) (j : ℕ) → Led x j → same_sort (d.sort x) (R.sort j) ≡ true
  unfolding Safe arrived bad
  alike x j l = go (same_sort (d.sort x) (R.sort j)) refl (sym (ap (λ (m : Machine D ℕ). bad m.standing) l.is) ∙ safe l.by l.real)
    where
      go : (b : Bool) → same_sort (d.sort x) (R.sort j) ≡ b → bad (cond b running jammed) ≡ false → same_sort (d.sort x) (R.sort j) ≡ true
      go true q e = q
      go false q e = never refl e

  -- and it is the same side's turn
  turns_alike : (x : D) (j : ℕ) → Led x j → (side : Party) → is_party side (turn d x) ≡ is_party side (turn R j)
  turns_alike x j l side = ap (λ s. is_party side (speaker s)) (same_sort_eq (d.sort x) (R.sort j) (alike x j l))

  module _ (x : D) (j : ℕ) (l : Led x j) (m : Sent) (formed : well_formed m.bytes ≡ true) where
    one_more : (e : Effect D ℕ) → effect d R x j (as_move m) ≡ e → run d R (l.by ++ (as_move m ∷ [])) ≡ after d R (arrived d R x j) e
    unfolding run play move does arrived while_running
    one_more e f =
        play_append d R (fresh_machine d R) l.by (as_move m ∷ []) ∙ ap (λ (k : Machine D ℕ). move d R k (as_move m)) l.is
        ∙ ap (λ (b : Bool). after d R (record { state = x; position = j; standing = cond (same_sort (d.sort x) (R.sort j)) running jammed })
        (while_running (cond b running jammed) (effect d R x j (as_move m)))) (alike x j l)
        ∙ ap (after d R (arrived d R x j)) f

    -- a move that is forwarded leads on
    led_on : (y : D) (k : ℕ) → effect d R x j (as_move m) ≡ forward y k → Led y k
    unfolding after
    led_on y k f = record { by = l.by ++ (as_move m ∷ []); real = moves_append l.by (as_move m) l.real formed; is = one_more (forward y k) f }

    -- and none ends badly
    stops_well : (s : Standing) → effect d R x j (as_move m) ≡ halt s → bad s ≡ false
    unfolding after Safe
    stops_well s f =
        sym (ap (λ (k : Machine D ℕ). bad k.standing) (one_more (halt s) f))
        ∙ safe (l.by ++ (as_move m ∷ [])) (moves_append l.by (as_move m) l.real formed)

    device_effect : (o : Option D) (q : Option ℕ) → m.side ≡ Device → same_sort (d.sort x) sends ≡ true
        → d.allows x (read m.bytes) ≡ o → R.allows j (read m.bytes) ≡ q → effect d R x j (as_move m) ≡ from_device o q
    unfolding effect by_side
    device_effect o q s t e f = rw (formed, s, t, e, f)

    host_effect : (o : Option D) (q : Option ℕ) → m.side ≡ Host → same_sort (R.sort j) receives ≡ true
        → d.allows x (read m.bytes) ≡ o → R.allows j (read m.bytes) ≡ q → effect d R x j (as_move m) ≡ from_host q o
    unfolding effect by_side
    host_effect o q s t e f = rw (formed, s, t, e, f)

    -- a message of the device's that the description has there is forwarded, if the protocol allows it, and it does
    module _ (s : m.side ≡ Device) (y : D) (h : next d x (said_by m) ≡ some y) where
      its : (is_party Device (turn d x) ≡ true) × (d.allows x (read m.bytes) ≡ some y)
      its = subst (λ (side : Party). (is_party side (turn d x) ≡ true) × (d.allows x (read m.bytes) ≡ some y)) s (next_parts d x y (said_by m) h)

      device_on : (k : ℕ) → next R j (said_by m) ≡ some k → Led y k
      unfolding from_device
      device_on k e =
          led_on y k (device_effect (some y) (some k) s (device_sends (d.sort x) its.0) its.1 (next_parts R j k (said_by m) e).1)

      -- and it is the device's turn by the protocol, too
      device_spared : next R j (said_by m) ≡ none → ⊥
      unfolding from_device bad next
      device_spared e =
          let turn_there = sym (turns_alike x j l m.side) ∙ (next_parts d x y (said_by m) h).0 in
          never refl (stops_well device_blamed (device_effect (some y) none s (device_sends (d.sort x) its.0) its.1 (rw turn_there at e)))

    -- a message of the host's that the protocol allows is one that the description takes
    host_on : m.side ≡ Host → (k : ℕ) → next R j (said_by m) ≡ some k → (y : D) × (next d x (said_by m) ≡ some y) × Led y k
    unfolding from_host bad next
    host_on s k h = go (d.allows x (read m.bytes)) refl
      where
        turn_there : is_party m.side (turn R j) ≡ true
        turn_there = (next_parts R j k (said_by m) h).0

        e : R.allows j (read m.bytes) ≡ some k
        e = (next_parts R j k (said_by m) h).1

        t : same_sort (R.sort j) receives ≡ true
        t = host_receives (R.sort j) (subst (λ (side : Party). is_party side (turn R j) ≡ true) s turn_there)

        go : (o : Option D) → d.allows x (read m.bytes) ≡ o → (y : D) × (next d x (said_by m) ≡ some y) × Led y k
        go none f = never refl (stops_well jammed (host_effect none (some k) s t f e))
        go (some y) f = (
          y,
          rw (turns_alike x j l m.side ∙ turn_there, f),
          led_on y k (host_effect (some y) (some k) s t f e),
        )

  -- ---- what holds after some events

  record Following (past : List Event) : Type 0 where
    here : D
    followed : led d (forwarded_ones past) ≡ some here
    spared : blamed_first past ≡ some Device → ⊥
    beside : blamed_first past ≡ none → (j : ℕ) × (led R (forwarded_ones past) ≡ some j) × Led here j

  module _ (past : List Event) (e : Event) (f : Following past) (met : Met R past e)
      (keeps : e.sent.side ≡ Device → Judgeable R past met.place e.sent → (y : D) × (next d f.here (said_by e.sent) ≡ some y)) where
    -- the machine is at the place where the message is met
    beside_it : Judgeable R past met.place e.sent → Led f.here met.place
    beside_it j =
        let b = f.beside j.unblamed in
        subst (λ (k : ℕ). Led f.here k) (some_eq (sym b.1 ∙ met.there)) b.2

    -- nothing is forwarded
    unmoved : forwarded_ones (e ∷ []) ≡ [] → forwarded_ones (past ++ (e ∷ [])) ≡ forwarded_ones past
    unmoved g = forwarded_append past (e ∷ []) ∙ ap (λ l. forwarded_ones past ++ l) g ∙ append-nil (forwarded_ones past)

    by_refusal : (q : ℕ) → e.done.verdict ≡ refused q → Following (past ++ (e ∷ []))
    unfolding forwarded_ones is_forwarded blamed_first blamed_else
    by_refusal q h = go (blamed_first past) refl
      where
        same : forwarded_ones (past ++ (e ∷ [])) ≡ forwarded_ones past
        same = unmoved (rw h)

        go : (o : Option Party) → blamed_first past ≡ o → Following (past ++ (e ∷ []))
        go none b =
            let c : blamed_first (past ++ (e ∷ [])) ≡ none = blamed_once past e b ∙ rw h in
            let x = f.beside b in
            record {
              here = f.here;
              followed = ap (led d) same ∙ f.followed;
              spared = λ z. none_some (sym c ∙ z);
              beside = λ z. (x.0, ap (led R) same ∙ x.1, x.2);
            }
        go (some side) b =
            let c = blamed_for_good past (e ∷ []) side b in
            record {
              here = f.here;
              followed = ap (led d) same ∙ f.followed;
              spared = λ z. f.spared (b ∙ sym c ∙ z);
              beside = λ z. none_some (sym z ∙ c);
            }

    by_blame : (side : Party) (r : ℕ) (g : Option ℕ) → e.done.verdict ≡ blamed side r g → Following (past ++ (e ∷ []))
    unfolding forwarded_ones is_forwarded blamed_first blamed_else
    by_blame side r g h =
        record {
          here = f.here;
          followed = ap (led d) (unmoved (rw h)) ∙ f.followed;
          spared = λ z. at_fault (some_eq (sym c ∙ z));
          beside = λ z. none_some (sym z ∙ c);
        }
      where
        x : Judgeable R past met.place e.sent × (next R met.place (said_by e.sent) ≡ none) × (side ≡ e.sent.side)
        x = let y = (met.handled.blames side r g).0 h in (y.0, y.1, y.2)

        c : blamed_first (past ++ (e ∷ [])) ≡ some side
        c = blamed_once past e x.0.unblamed ∙ rw h

        at_fault : side ≡ Device → ⊥
        at_fault s =
            let z : e.sent.side ≡ Device = sym x.2 ∙ s in
            let k = keeps z x.0 in
            device_spared f.here met.place (beside_it x.0) e.sent x.0.formed z k.0 k.1 x.1

    by_forwarding : e.done.verdict ≡ forwarded → Following (past ++ (e ∷ []))
    unfolding forwarded_ones is_forwarded blamed_first blamed_else
    by_forwarding h = go e.sent.side refl
      where
        v : Said
        v = said_by e.sent

        j : Judgeable R past met.place e.sent
        j = (met.handled.forwards.0 h).0

        k : ℕ
        k = (met.handled.forwards.0 h).1.0

        allowed_there : next R met.place v ≡ some k
        allowed_there = (met.handled.forwards.0 h).1.1

        more : forwarded_ones (past ++ (e ∷ [])) ≡ forwarded_ones past ++ (v ∷ [])
        more = forwarded_append past (e ∷ []) ∙ ap (λ l. forwarded_ones past ++ l) (rw h)

        c : blamed_first (past ++ (e ∷ [])) ≡ none
        c = blamed_once past e j.unblamed ∙ rw h

        on : (y : D) → next d f.here v ≡ some y → Led y k → Following (past ++ (e ∷ []))
        on y n l =
            record {
              here = y;
              followed = ap (led d) more ∙ leads_more d d.start (forwarded_ones past) f.here v y f.followed n;
              spared = λ z. none_some (sym c ∙ z);
              beside = λ z. (k, ap (led R) more ∙ leads_more R 0 (forwarded_ones past) met.place v k met.there allowed_there, l);
            }

        go : (side : Party) → e.sent.side ≡ side → Following (past ++ (e ∷ []))
        go Device s =
            let n = keeps s j in
            on n.0 n.1 (device_on f.here met.place (beside_it j) e.sent j.formed s n.0 n.1 k allowed_there)
        go Host s =
            let n = host_on f.here met.place (beside_it j) e.sent j.formed s k allowed_there in
            on n.0 n.1 n.2

    one_further : Following (past ++ (e ∷ []))
    one_further = go e.done.verdict refl
      where
        go : (v : Told) → e.done.verdict ≡ v → Following (past ++ (e ∷ []))
        go (refused q) h = by_refusal q h
        go (blamed side r g) h = by_blame side r g h
        go forwarded h = by_forwarding h

  start : Following []
  unfolding forwarded_ones blamed_first leads moves every run play fresh_machine
  start =
      record {
        here = d.start;
        followed = refl;
        spared = λ z. none_some z;
        beside = λ z. (0, refl, record { by = []; real = refl; is = refl });
      }

  -- the device keeps to its description at one event
  abbrev KeepsAt : List Event → Event → Type 0
  KeepsAt l e =
      (m : Met R l e) → e.sent.side ≡ Device → Judgeable R l m.place e.sent → (x : D) → led d (forwarded_ones l) ≡ some x
      → (y : D) × (next d x (said_by e.sent) ≡ some y)

  -- as far as each event is met in its place, and the device keeps to its description
  follow : (past rest : List Event) → Following past
      → ((a : List Event) (e : Event) (b : List Event) → rest ≡ a ++ (e ∷ b) → Met R (past ++ a) e)
      → ((a : List Event) (e : Event) (b : List Event) → rest ≡ a ++ (e ∷ b) → KeepsAt (past ++ a) e)
      → Following (past ++ rest)
  follow past [] f met keeps = subst Following (sym (append-nil past)) f
  follow past (e ∷ rest) f met keeps =
      subst Following (append_assoc past (e ∷ []) rest)
      (follow (past ++ (e ∷ [])) rest (one_further past e f first kept)
      (λ a x b q. subst (λ (l : List Event). Met R l x) (sym (append_assoc past (e ∷ []) a)) (met (e ∷ a) x b (ap (λ l. e ∷ l) q)))
      (λ a x b q. subst (λ (l : List Event). KeepsAt l x) (sym (append_assoc past (e ∷ []) a)) (keeps (e ∷ a) x b (ap (λ l. e ∷ l) q))))
    where
      first : Met R past e
      first = subst (λ (l : List Event). Met R l e) (append-nil past) (met [] e rest refl)

      kept : e.sent.side ≡ Device → Judgeable R past first.place e.sent → (y : D) × (next d f.here (said_by e.sent) ≡ some y)
      kept s j =
          subst (λ (l : List Event). KeepsAt l e) (append-nil past) (keeps [] e rest refl) first s j f.here f.followed

-- ---- the theorem

pub fits_unblamed : FitsUnblamed
fits_unblamed D d p sound safe sent keeps = record { never = f.spared; followed = (f.here, f.followed) }
  where
    w : WatchedTable p sent
    w = demand_two p sound sent

    f : Following D d p safe (conversation p sent)
    f = follow D d p safe [] (conversation p sent) (start D d p safe) (λ a e b q. w.demand.each a e b q)
        (λ a e b q m s j x h. keeps a e b q s (subst (λ (i : ℕ). Judgeable (table_rules (view p)) a i e.sent) (some_eq (sym m.there ∙ (w.before a e b q).position)) j) x h)
