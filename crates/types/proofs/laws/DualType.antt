-- The table of the dual type is the dual table, and the dual allows what the type allows with the sides exchanged.
-- Assumes nothing.
use mathlib.Core.Path.{◌≡◌, refl, sym, ap, ap₂, ◌∙◌}
use mathlib.Core.Bool.{Bool, true, false, not, ◌&&◌, ◌||◌, cond}
use mathlib.Core.List.{List, [], ◌∷◌, ◌++◌, map}
use mathlib.Core.Option.{Option, none, some}
use Prim.Native.Nat.{ℕ, suc, ◌+◌}
use lib.Dec.{eqb}
use lib.ListN.{length, length-map, get_or-map}
use Rattle.table.specs.Table.{Sort, ends, sends, receives, Table, sort, is_choice, opposite, dual as dual_table, speaker, is_party}
use Rattle.message.specs.Judge.{allows}
use Rattle.grammar.specs.Grammar.{Way, sending, receiving, Ty, stop, var, loop, choice, Br, last, also, way_sort, sorts, Protocol, sorts_br, Scope, nothing_bound, bind, first_state, branches, branches_br, share_of, shares, shares_br, table_of, bare, recs_guarded}
use Rattle.grammar.proofs.laws.Questions.{recs_guarded_br}
use Rattle.table.specs.declared.Party.{Party}
use Rattle.table.specs.declared.Party.TheVariants.{Device, Host}
use Rattle.message.specs.Rules.{table_rules, Said, and_then, is_some, next, leads, allowed_list, completed_list}
use Rattle.types.specs.Types.{protocol_rules, other_way, dual_type, dual_type_br, dual_protocol, other, flip}
use Rattle.types.proofs.laws.Close.{free, free_br, Closed}
use Rattle.types.proofs.laws.Agree.{StandsFor, RulesAlike, rules_alike, allowed_alike, completed_alike, starts}

-- ---- the table

sort_other : (w : Way) → way_sort (other_way w) ≡ opposite (way_sort w)
unfolding opposite
sort_other sending = refl
sort_other receiving = refl

map_both : (f : Sort → Sort) (xs ys : List Sort) → map f (xs ++ ys) ≡ map f xs ++ map f ys
map_both f [] ys = refl
map_both f (x ∷ xs) ys = ap (λ r. f x ∷ r) (map_both f xs ys)

mutual
  unfolding opposite

  pub sorts_dual : (t : Ty) → sorts (dual_type t) ≡ map opposite (sorts t)
  sorts_dual stop = refl
  sorts_dual (var x) = refl
  sorts_dual (loop x t) = sorts_dual t
  sorts_dual (choice s bs) = ap₂ (λ a r. a ∷ r) (sort_other s) (sorts_dual_br bs)

  pub sorts_dual_br : (bs : Br) → sorts_br (dual_type_br bs) ≡ map opposite (sorts_br bs)
  sorts_dual_br (last l fs sh t) = sorts_dual t
  sorts_dual_br (also l fs sh t bs) = ap₂ ◌++◌ (sorts_dual t) (sorts_dual_br bs) ∙ sym (map_both opposite (sorts t) (sorts_br bs))

first_dual : (t : Ty) (e : Scope) (n : ℕ) → first_state (dual_type t) e n ≡ first_state t e n
first_dual stop e n = refl
first_dual (var x) e n = refl
first_dual (loop x t) e n = first_dual t (bind x n e) n
first_dual (choice s bs) e n = refl

length_dual : (t : Ty) → length (sorts (dual_type t)) ≡ length (sorts t)
length_dual t = ap (λ r. length r) (sorts_dual t) ∙ length-map (sorts t) opposite

mutual
  pub branches_dual : (t : Ty) (e : Scope) (n : ℕ) → branches (dual_type t) e n ≡ branches t e n
  branches_dual stop e n = refl
  branches_dual (var x) e n = refl
  branches_dual (loop x t) e n = branches_dual t (bind x n e) n
  branches_dual (choice s bs) e n = branches_dual_br bs e n (suc n)

  pub branches_dual_br : (bs : Br) (e : Scope) (o n : ℕ) → branches_br (dual_type_br bs) e o n ≡ branches_br bs e o n
  branches_dual_br (last l fs sh t) e o n = rw (first_dual t e n, branches_dual t e n)
  branches_dual_br (also l fs sh t bs) e o n =
      rw (first_dual t e n, branches_dual t e n, length_dual t, branches_dual_br bs e o (n + length (sorts t)))

mutual
  shares_dual : (t : Ty) → shares (dual_type t) ≡ shares t
  shares_dual stop = refl
  shares_dual (var x) = refl
  shares_dual (loop x t) = shares_dual t
  shares_dual (choice s bs) = shares_dual_br bs

  shares_dual_br : (bs : Br) → shares_br (dual_type_br bs) ≡ shares_br bs
  shares_dual_br (last l fs sh t) = ap (λ r. share_of sh ∷ r) (shares_dual t)
  shares_dual_br (also l fs sh t bs) = ap₂ (λ a r. share_of sh ∷ (a ++ r)) (shares_dual t) (shares_dual_br bs)

pub dual_table_of : (p : Protocol) → table_of (dual_protocol p) ≡ dual_table (table_of p)
unfolding table_of dual_table
dual_table_of p = rw (sorts_dual p.type, branches_dual p.type nothing_bound 0, shares_dual p.type)

-- ---- what the dual allows

turn_opposite : (s : Sort) (side : Party) → is_party side (speaker (opposite s)) ≡ is_party (other side) (speaker s)
unfolding opposite speaker is_party
turn_opposite ends Device = refl
turn_opposite ends Host = refl
turn_opposite sends Device = refl
turn_opposite sends Host = refl
turn_opposite receives Device = refl
turn_opposite receives Host = refl

module _ (T : Table) where
  next_dual : (n : ℕ) (v : Said) → next (table_rules (dual_table T)) n v ≡ next (table_rules T) n (flip v)
  unfolding next dual_table sort allows flip opposite
  next_dual n v =
      ap (λ b. cond b (allows T n v.message) none)
      (ap (λ s. is_party v.side (speaker s)) (get_or-map opposite T.sorts n ends) ∙ turn_opposite (sort T n) v.side)

  choice_dual : (n : ℕ) → is_choice (sort (dual_table T) n) ≡ is_choice (sort T n)
  unfolding dual_table sort is_choice opposite
  choice_dual n = ap (λ s. is_choice s) (get_or-map opposite T.sorts n ends) ∙ go (sort T n)
    where
      go : (s : Sort) → is_choice (opposite s) ≡ is_choice s
      go ends = refl
      go sends = refl
      go receives = refl

  leads_dual : (vs : List Said) (n : ℕ) → leads (table_rules (dual_table T)) n vs ≡ leads (table_rules T) n (map flip vs)
  unfolding leads
  leads_dual [] n = refl
  leads_dual (v ∷ vs) n =
      ap (λ o. and_then o (λ b. leads (table_rules (dual_table T)) b vs)) (next_dual n v)
      ∙ go (next (table_rules T) n (flip v)) (λ b. leads_dual vs b)
    where
      go : (o : Option ℕ) → ((b : ℕ) → leads (table_rules (dual_table T)) b vs ≡ leads (table_rules T) b (map flip vs))
          → and_then o (λ b. leads (table_rules (dual_table T)) b vs) ≡ and_then o (λ b. leads (table_rules T) b (map flip vs))
      go none i = refl
      go (some b) i = i b

  allowed_dual : (vs : List Said) → allowed_list (table_rules (dual_table T)) vs ≡ allowed_list (table_rules T) (map flip vs)
  unfolding allowed_list
  allowed_dual vs = ap (λ o. is_some o) (leads_dual vs 0)

  completed_dual : (vs : List Said) → completed_list (table_rules (dual_table T)) vs ≡ completed_list (table_rules T) (map flip vs)
  unfolding completed_list
  completed_dual vs =
      ap (λ o. is_some (and_then o (λ n. cond (is_choice (sort (dual_table T) n)) none (some n)))) (leads_dual vs 0)
      ∙ go (leads (table_rules T) 0 (map flip vs))
    where
      go : (o : Option ℕ) → is_some (and_then o (λ n. cond (is_choice (sort (dual_table T) n)) none (some n)))
          ≡ is_some (and_then o (λ n. cond (is_choice (sort T n)) none (some n)))
      go none = refl
      go (some n) = ap (λ (c : Bool). is_some (cond c none (some n))) (choice_dual n)

mutual
  free_dual : (t : Ty) (x : ℕ) → free (dual_type t) x ≡ free t x
  free_dual stop x = refl
  free_dual (var y) x = refl
  free_dual (loop y t) x = ap (λ b. cond (eqb y x) false b) (free_dual t x)
  free_dual (choice s bs) x = free_dual_br bs x

  free_dual_br : (bs : Br) (x : ℕ) → free_br (dual_type_br bs) x ≡ free_br bs x
  free_dual_br (last l fs sh t) x = free_dual t x
  free_dual_br (also l fs sh t bs) x = ap₂ ◌||◌ (free_dual t x) (free_dual_br bs x)

bare_dual : (t : Ty) (x : ℕ) → bare (dual_type t) x ≡ bare t x
bare_dual stop x = refl
bare_dual (var y) x = refl
bare_dual (loop y t) x = ap (λ b. cond (eqb y x) false b) (bare_dual t x)
bare_dual (choice s bs) x = refl

mutual
  guarded_dual : (t : Ty) → recs_guarded (dual_type t) ≡ recs_guarded t
  guarded_dual stop = refl
  guarded_dual (var x) = refl
  guarded_dual (loop x t) = ap₂ (λ a b. not a && b) (bare_dual t x) (guarded_dual t)
  guarded_dual (choice s bs) = guarded_dual_br bs

  guarded_dual_br : (bs : Br) → recs_guarded_br (dual_type_br bs) ≡ recs_guarded_br bs
  guarded_dual_br (last l fs sh t) = guarded_dual t
  guarded_dual_br (also l fs sh t bs) = ap₂ ◌&&◌ (guarded_dual t) (guarded_dual_br bs)

-- ---- the dual allows and completes what the type does, with the sides exchanged

module _ (p : Protocol) (c : Closed p.type) (g : recs_guarded p.type ≡ true) where
  abbrev q : Protocol
  q = dual_protocol p

  its_table : RulesAlike (StandsFor (table_of p)) (protocol_rules p) (table_rules (table_of p))
  unfolding table_of
  its_table = rules_alike (table_of p) p (starts p c g) refl

  dual_table_alike : RulesAlike (StandsFor (table_of q)) (protocol_rules q) (table_rules (table_of q))
  unfolding table_of
  dual_table_alike = rules_alike (table_of q) q (starts q (λ x. free_dual p.type x ∙ c x) (guarded_dual p.type ∙ g)) refl

  pub dual_allowed : (vs : List Said) → allowed_list (protocol_rules q) vs ≡ allowed_list (protocol_rules p) (map flip vs)
  dual_allowed vs =
      allowed_alike (StandsFor (table_of q)) (protocol_rules q) (table_rules (table_of q)) dual_table_alike vs
      ∙ ap (λ T. allowed_list (table_rules T) vs) (dual_table_of p) ∙ allowed_dual (table_of p) vs
      ∙ sym (allowed_alike (StandsFor (table_of p)) (protocol_rules p) (table_rules (table_of p)) its_table (map flip vs))

  pub dual_completed : (vs : List Said) → completed_list (protocol_rules q) vs ≡ completed_list (protocol_rules p) (map flip vs)
  dual_completed vs =
      completed_alike (StandsFor (table_of q)) (protocol_rules q) (table_rules (table_of q)) dual_table_alike vs
      ∙ ap (λ T. completed_list (table_rules T) vs) (dual_table_of p) ∙ completed_dual (table_of p) vs
      ∙ sym (completed_alike (StandsFor (table_of p)) (protocol_rules p) (table_rules (table_of p)) its_table (map flip vs))
