-- Rules that do alike make machines that do alike: the same list of moves leaves both with the same standing.
-- Assumes nothing.
use mathlib.Core.Path.{◌≡◌, refl, sym, ap, ap₂, subst, subst₂, ◌∙◌}
use mathlib.Core.Logic.{◌↔◌}
use mathlib.Core.Bool.{Bool, true, false, ◌&&◌, cond}
use mathlib.Core.List.{List, [], ◌∷◌}
use mathlib.Core.Option.{Option, none, some}
use Prim.Native.Nat.{ℕ}
use lib.Dec.{eqb}
use Rattle.table.specs.Table.{Sort, sends, receives, same_sort}
use Rattle.table.specs.declared.Party.{Party}
use Rattle.table.specs.declared.Party.TheVariants.{Device, Host}
use Rattle.message.specs.Message.{Message, read, well_formed}
use Rattle.message.specs.Rules.{Rules}
use Rattle.types.proofs.laws.StandsFor.{Alike, neither, each}
use Rattle.types.proofs.laws.Agree.{why, RulesAlike}
use Rattle.machine.specs.Machine.{Standing, running, device_blamed, host_blamed, jammed, Machine, Move, Effect, nothing, forward, halt, from_device, from_host, host_early, while_running, arrived, fresh_machine, by_side, effect, does, after, move, play, run, bad, Safe, Unsafe, Fewest, Shortest}

-- rules do as they do
pub alike_itself : {A : Type 0} (r : Rules A) → RulesAlike (◌≡◌ {A = A}) r r
alike_itself {A} r =
    record {
      begins = refl;
      sorted = λ a b e. ap r.sort e;
      steps = λ a b e m. subst (λ (x : A). Alike (◌≡◌ {A = A}) (r.allows a m) (r.allows x m)) e (same (r.allows a m));
      whys = λ a b e m. ap (λ (x : A). why (r.judge x m)) e;
      editions = refl;
    }
  where
    same : (o : Option A) → Alike (◌≡◌ {A = A}) o o
    same none = neither
    same (some a) = each refl

module _ {A B C D : Type 0} (S : A → B → Type 0) (T : C → D → Type 0) where
  data Effects : Effect A C → Effect B D → Type 0 where
    both_nothing : Effects nothing nothing
    both_forward : {i : A} {j : C} {x : B} {y : D} → S i x → T j y → Effects (forward i j) (forward x y)
    both_stop : (s : Standing) → Effects (halt s) (halt s)

  record Machines (m : Machine A C) (n : Machine B D) : Type 0 where
    states : S m.state n.state
    positions : T m.position n.position
    standings : m.standing ≡ n.standing

  by_device : {x : Option A} {y : Option B} {z : Option C} {w : Option D} → Alike S x y → Alike T z w → Effects (from_device x z) (from_device y w)
  unfolding from_device
  by_device neither t = both_nothing
  by_device (each s) neither = both_stop device_blamed
  by_device (each s) (each t) = both_forward s t

  by_host : {x : Option A} {y : Option B} {z : Option C} {w : Option D} → Alike S x y → Alike T z w → Effects (from_host z x) (from_host w y)
  unfolding from_host
  by_host s neither = both_stop host_blamed
  by_host neither (each t) = both_stop jammed
  by_host (each s) (each t) = both_forward s t

  by_early : (edition : ℕ) (s : Sort) → Effects (host_early edition s) (host_early edition s)
  unfolding host_early
  by_early edition s = go (eqb edition 2 && same_sort s sends)
    where
      go : (b : Bool) → Effects (cond b (halt host_blamed) nothing) (cond b (halt host_blamed) nothing)
      go true = both_stop host_blamed
      go false = both_nothing

  either : (b : Bool) {e g : Effect A C} {f h : Effect B D} → Effects e f → Effects g h → Effects (cond b e g) (cond b f h)
  either true x y = x
  either false x y = y

  if_so : (b : Bool) {e : Effect A C} {f : Effect B D} → Effects e f → Effects (cond b e nothing) (cond b f nothing)
  if_so b x = either b x both_nothing

  still_running : (s : Standing) {e : Effect A C} {f : Effect B D} → Effects e f → Effects (while_running s e) (while_running s f)
  unfolding while_running
  still_running running x = x
  still_running device_blamed x = both_nothing
  still_running host_blamed x = both_nothing
  still_running jammed x = both_nothing

  module _ (a : Rules A) (b : Rules B) (c : Rules C) (d : Rules D) (l : RulesAlike S a b) (k : RulesAlike T c d) where
    arrive : {i : A} {x : B} {j : C} {y : D} → S i x → T j y → Machines (arrived a c i j) (arrived b d x y)
    unfolding arrived
    arrive {i} {x} {j} {y} s t =
        record {
          states = s;
          positions = t;
          standings = ap₂ (λ (u v : Sort). cond (same_sort u v) running jammed) (l.sorted i x s) (k.sorted j y t);
        }

    by_side_like : (side : Party) (i : A) (x : B) (j : C) (y : D) (m : Message) → S i x → T j y → Effects (by_side a c side i j m) (by_side b d side x y m)
    unfolding by_side
    by_side_like Device i x j y m s t =
        subst (λ (u : Sort). Effects (by_side a c Device i j m) (cond (same_sort u sends) (from_device (b.allows x m) (d.allows y m)) nothing)) (l.sorted i x s)
        (if_so (same_sort (a.sort i) sends) (by_device (l.steps i x s m) (k.steps j y t m)))
    by_side_like Host i x j y m s t =
        subst₂ (λ (u : Sort) (n : ℕ). Effects (by_side a c Host i j m) (cond (same_sort u receives) (from_host (d.allows y m) (b.allows x m)) (host_early n u)))
        (k.sorted j y t) k.editions
        (either (same_sort (c.sort j) receives) (by_host (l.steps i x s m) (k.steps j y t m)) (by_early c.edition (c.sort j)))

    effect_like : (i : A) (x : B) (j : C) (y : D) (v : Move) → S i x → T j y → Effects (effect a c i j v) (effect b d x y v)
    unfolding effect
    effect_like i x j y v s t = if_so (well_formed v.bytes) (by_side_like v.side i x j y (read v.bytes) s t)

    after_like : (m : Machine A C) (n : Machine B D) → Machines m n → {e : Effect A C} {f : Effect B D} → Effects e f → Machines (after a c m e) (after b d n f)
    unfolding after
    after_like m n r both_nothing = r
    after_like m n r (both_forward s t) = arrive s t
    after_like m n r (both_stop s) = record { states = r.states; positions = r.positions; standings = refl }

    move_like : (m : Machine A C) (n : Machine B D) (v : Move) → Machines m n → Machines (move a c m v) (move b d n v)
    unfolding move does
    move_like m n v r =
        after_like m n r
        (subst (λ (s : Standing). Effects (does a c m v) (while_running s (effect b d n.state n.position v))) r.standings
        (still_running m.standing (effect_like m.state n.state m.position n.position v r.states r.positions)))

    play_like : (vs : List Move) (m : Machine A C) (n : Machine B D) → Machines m n → Machines (play a c m vs) (play b d n vs)
    unfolding play
    play_like [] m n r = r
    play_like (v ∷ vs) m n r = play_like vs (move a c m v) (move b d n v) (move_like m n v r)

    pub run_like : (vs : List Move) → (run a c vs).standing ≡ (run b d vs).standing
    unfolding run fresh_machine
    run_like vs = (play_like vs (fresh_machine a c) (fresh_machine b d) (arrive l.begins k.begins)).standings

    pub safe_like : Safe a c ↔ Safe b d
    unfolding Safe
    safe_like = (λ f vs h. sym (ap bad (run_like vs)) ∙ f vs h, λ f vs h. ap bad (run_like vs) ∙ f vs h)

    pub unsafe_like : Unsafe a c ↔ Unsafe b d
    unfolding Unsafe
    unsafe_like = (λ x. (x.0, x.1, sym (ap bad (run_like x.0)) ∙ x.2), λ x. (x.0, x.1, ap bad (run_like x.0) ∙ x.2))

    fewest_like : (K : ℕ) → Fewest a c K ↔ Fewest b d K
    unfolding Fewest
    fewest_like K = (λ f vs w h. f vs w (ap bad (run_like vs) ∙ h), λ f vs w h. f vs w (sym (ap bad (run_like vs)) ∙ h))

    pub shortest_like : (K : ℕ) (vs : List Move) → Shortest a c K vs ↔ Shortest b d K vs
    shortest_like K vs = (
      λ s. record { many = s.many; real = s.real; ends_badly = sym (ap bad (run_like vs)) ∙ s.ends_badly; fewest = (fewest_like K).0 s.fewest },
      λ s. record { many = s.many; real = s.real; ends_badly = ap bad (run_like vs) ∙ s.ends_badly; fewest = (fewest_like K).1 s.fewest },
    )
