-- The machine under two editions: a move does the same, or it is a host's early one and leaves nothing bad. So a list that ends badly
-- under the one ends badly under the other, or a shorter one does.
-- Assumes nothing.
use mathlib.Core.Path.{◌≡◌, refl, sym, ap, subst, ◌∙◌}
use mathlib.Core.Logic.{◌⊎◌, inl, inr, ⊎_elim}
use mathlib.Core.Bool.{Bool, true, false, true≢false, cond}
use mathlib.Core.List.{List, [], ◌∷◌}
use Prim.Native.Nat.{ℕ, ◌<◌, suc-le-suc}
use native.Mathlib.Omega.{arith}
use lib.ListN.{length}
use Rattle.table.specs.Lists.{every}
use Rattle.table.specs.Table.{receives, same_sort}
use Rattle.table.specs.declared.Party.{Party}
use Rattle.table.specs.declared.Party.TheVariants.{Device, Host}
use Rattle.table.proofs.laws.Lists.{never, both, join, decided}
use Rattle.message.specs.Message.{Message, read, well_formed}
use Rattle.message.specs.Rules.{Rules, under}
use Rattle.machine.specs.Machine.{Standing, running, device_blamed, host_blamed, jammed, Machine, Move, Effect, nothing, forward, halt, from_host, host_early, by_side, effect, arrived, fresh_machine, after, while_running, does, move, moves, play, run, is_forward, all_forwarded, bad, Safe, Unsafe, Fewest, Shortest}
use Rattle.machine.specs.Fit.{but_last}
use Rattle.machine.proofs.laws.Does.{Early, unmoved, blamed, early}

-- x, done to a machine that stands so, is y; or nothing, to one that runs; or it blames the host
data Alike {D P : Type 0} (s : Standing) (x y : Effect D P) : Type 0 where
  same : x ≡ y → Alike s x y
  idle : s ≡ running → x ≡ nothing → Alike s x y
  blames_host : x ≡ halt host_blamed → Alike s x y

-- the editions a and b of the device, e and f of the protocol
module _ {D P : Type 0} (d : Rules D) (p : Rules P) (a b e f : ℕ) where
  abbrev A : Rules D
  A = under a d

  abbrev B : Rules D
  B = under b d

  abbrev E : Rules P
  E = under e p

  abbrev F : Rules P
  F = under f p

  alike : (m : Machine D P) (v : Move) → Alike m.standing (does A E m v) (does B F m v)
  unfolding does effect by_side while_running
  alike m v = by v.side
    where
      said : Message
      said = read v.bytes

      host : (s : Standing) (w r : Bool) (x y : Effect D P) {z : Effect D P} → Early z
          → Alike s (while_running s (cond w (cond r x z) nothing)) (while_running s (cond w (cond r x y) nothing))
      host running false r x y u = same refl
      host running true true x y u = same refl
      host running true false x y blamed = blames_host refl
      host running true false x y unmoved = idle refl refl
      host device_blamed w r x y u = same refl
      host host_blamed w r x y u = same refl
      host jammed w r x y u = same refl

      by : (s : Party)
          → Alike m.standing
          (while_running m.standing (cond (well_formed v.bytes) (by_side A E s m.state m.position said) nothing))
          (while_running m.standing (cond (well_formed v.bytes) (by_side B F s m.state m.position said) nothing))
      by Device = same refl
      by Host =
          let s = p.sort m.position in
          host m.standing (well_formed v.bytes) (same_sort s receives)
          (from_host (p.allows m.position said) (d.allows m.state said)) (host_early f s) (early e s)

  after_same : (m : Machine D P) (x : Effect D P) → after A E m x ≡ after B F m x
  unfolding after arrived
  after_same m nothing = refl
  after_same m (forward i j) = refl
  after_same m (halt s) = refl

  moved : (m : Machine D P) (v : Move) → does A E m v ≡ does B F m v → move A E m v ≡ move B F m v
  unfolding move
  moved m v q = ap (after A E m) q ∙ after_same m (does B F m v)

  -- ---- forwarded moves

  same_forward : (m : Machine D P) (v : Move) → is_forward (does A E m v) ≡ true → does A E m v ≡ does B F m v
  unfolding is_forward
  same_forward m v h = go (alike m v)
    where
      go : Alike m.standing (does A E m v) (does B F m v) → does A E m v ≡ does B F m v
      go (same q) = q
      go (idle s q) = absurd (true≢false (sym h ∙ ap is_forward q))
      go (blames_host q) = absurd (true≢false (sym h ∙ ap is_forward q))

  pub forward_move : (m : Machine D P) (v : Move) → is_forward (does A E m v) ≡ true → move A E m v ≡ move B F m v
  forward_move m v h = moved m v (same_forward m v h)

  -- a list of forwarded moves is one under the other edition, and leads to the same place
  pub all_on : (m : Machine D P) (vs : List Move) → all_forwarded A E m vs ≡ true
      → (all_forwarded B F m vs ≡ true) × (play A E m vs ≡ play B F m vs)
  unfolding all_forwarded play
  all_on m [] h = (refl, refl)
  all_on m (v ∷ vs) h =
      let x = both (is_forward (does A E m v)) (all_forwarded A E (move A E m v) vs) h in
      let q = forward_move m v x.0 in
      let y = all_on (move A E m v) vs x.1 in (
        join (sym (ap is_forward (same_forward m v x.0)) ∙ x.0) (subst (λ n. all_forwarded B F n vs ≡ true) q y.0),
        y.1 ∙ ap (λ n. play B F n vs) q,
      )

  -- ---- lists that end badly

  -- what ends badly at once does so under the other edition
  bad_move : (m : Machine D P) (v : Move) → bad (move A E m v).standing ≡ true → move A E m v ≡ move B F m v
  unfolding move after bad
  bad_move m v h = go (alike m v)
    where
      go : Alike m.standing (does A E m v) (does B F m v) → move A E m v ≡ move B F m v
      go (same q) = moved m v q
      go (idle s q) = absurd (true≢false (sym h ∙ ap (λ x. bad (after A E m x).standing) q ∙ ap bad s))
      go (blames_host q) = absurd (true≢false (sym h ∙ ap (λ x. bad (after A E m x).standing) q))

  -- and so does a list whose moves but the last are forwarded
  pub bad_on : (m : Machine D P) (vs : List Move) → all_forwarded A E m (but_last vs) ≡ true
      → bad (play A E m vs).standing ≡ true → bad (play B F m vs).standing ≡ true
  unfolding all_forwarded play but_last
  bad_on m [] h u = u
  bad_on m (v ∷ []) h u = subst (λ n. bad n.standing ≡ true) (bad_move m v u) u
  bad_on m (v ∷ w ∷ vs) h u =
      let n = move A E m v in
      let x = both (is_forward (does A E m v)) (all_forwarded A E n (but_last (w ∷ vs))) h in
      subst (λ n. bad (play B F n (w ∷ vs)).standing ≡ true) (forward_move m v x.0) (bad_on n (w ∷ vs) x.1 u)

  -- a host that is blamed stays so
  stays : (i : D) (j : P) (vs : List Move)
      → (play A E (record { state = i; position = j; standing = host_blamed }) vs).standing ≡ host_blamed
  unfolding play move does while_running after
  stays i j [] = refl
  stays i j (v ∷ vs) = stays i j vs

  -- from a machine, a list that ends badly under the other edition: that list, or a shorter one
  record Other (m : Machine D P) (vs : List Move) : Type 0 where
    pub list : List Move
    pub real : moves list ≡ true
    pub ends_badly : bad (play B F m list).standing ≡ true
    pub no_longer : (list ≡ vs) ⊎ (length list < length vs)

  other : (m : Machine D P) (vs : List Move) → moves vs ≡ true → bad (play A E m vs).standing ≡ true → Other m vs
  unfolding moves every play move after bad
  other m [] w u = record { list = []; real = refl; ends_badly = u; no_longer = inl refl }
  other m (v ∷ vs) w u =
      let x = both (well_formed v.bytes) (moves vs) w in
      go x.0 (λ n. other n vs x.1) (alike m v)
    where
      go : well_formed v.bytes ≡ true → ((n : Machine D P) → bad (play A E n vs).standing ≡ true → Other n vs)
          → Alike m.standing (does A E m v) (does B F m v) → Other m (v ∷ vs)
      go l r (same q) =
          let x = r (move A E m v) u in
          record {
            list = v ∷ x.list;
            real = join l x.real;
            ends_badly = subst (λ n. bad (play B F n x.list).standing ≡ true) (moved m v q) x.ends_badly;
            no_longer = ⊎_elim (λ k. inl (ap (λ ws. v ∷ ws) k)) (λ k. inr (suc-le-suc k)) x.no_longer;
          }
      go l r (idle s q) =
          let x = r m (subst (λ y. bad (play A E (after A E m y) vs).standing ≡ true) q u) in
          record {
            list = x.list;
            real = x.real;
            ends_badly = x.ends_badly;
            no_longer = ⊎_elim (λ k. inr (omega (arith, ap length k))) (λ k. inr (omega (arith, k))) x.no_longer;
          }
      go l r (blames_host q) =
          never (subst (λ y. bad (play A E (after A E m y) vs).standing ≡ true) q u) (ap bad (stays m.state m.position vs))

  -- ---- from fresh machines

  pub unsafe_on : Unsafe A E → Unsafe B F
  unfolding Unsafe run fresh_machine arrived
  unsafe_on x = let y = other (fresh_machine A E) x.0 x.1 x.2 in (y.list, y.real, y.ends_badly)

  pub fewest_back : (K : ℕ) → Fewest B F K → Fewest A E K
  unfolding Fewest run fresh_machine arrived
  fewest_back K h vs w u =
      let y = other (fresh_machine A E) vs w u in
      let k = h y.list y.real y.ends_badly in
      ⊎_elim (λ q. omega (arith, k, ap length q)) (λ q. omega (arith, k, q)) y.no_longer

  pub safe_back : Safe B F → Safe A E
  unfolding Safe Unsafe
  safe_back h vs w =
      ⊎_elim (λ u. let y = unsafe_on (vs, w, u) in never y.2 (h y.0 y.1)) (λ u. u) (decided (bad (run A E vs).standing))

  -- a list of as many moves as are the fewest there: no shorter one ends badly, so that it does itself
  bad_there : (K : ℕ) (vs : List Move) → length vs ≡ K → moves vs ≡ true → Fewest B F K → bad (run A E vs).standing ≡ true
      → bad (run B F vs).standing ≡ true
  unfolding Fewest run fresh_machine arrived
  bad_there K vs l w h u =
      let y = other (fresh_machine A E) vs w u in
      let k = h y.list y.real y.ends_badly in
      ⊎_elim (λ q. subst (λ ws. bad (run B F ws).standing ≡ true) q y.ends_badly) (λ q. absurd (omega (arith, k, q, l))) y.no_longer

-- ---- the protocol's edition, and the device's

pub shortest_on : {D P : Type 0} (d : Rules D) (p : Rules P) (a e f K : ℕ) (vs : List Move)
    → Shortest (under a d) (under e p) K vs → Shortest (under a d) (under f p) K vs
shortest_on d p a e f K vs s =
    let h = fewest_back d p a a f e K s.fewest in
    record {
      many = s.many;
      real = s.real;
      ends_badly = bad_there d p a a e f K vs s.many s.real h s.ends_badly;
      fewest = h;
    }
