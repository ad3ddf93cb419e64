-- Who sends at a state, by the word of its sort. Assumes nothing.
use mathlib.Core.Path.{◌≡◌, refl, sym}
use mathlib.Core.Option.{some}
use Prim.Native.Nat.{ℕ, zero, suc}
use native.Mathlib.Omega.{arith}
use lib.Dec.{eqb, ltb}
use borrow.Author.Tests.{ne_eqb, lt-ltb}
use Rattle.table.specs.Table.{speaker, is_party}
use Rattle.table.specs.View.{sort_of}
use Rattle.table.specs.declared.Party.TheVariants.{Device, Host}
use Rattle.conversation.proofs.laws.Step.{host_speaks}

pub device_sends : (n : ℕ) → n ≡ 1 → some Device ≡ speaker (sort_of n)
unfolding speaker sort_of
device_sends n e = rw e

pub host_sends : (n : ℕ) → (n ≡ 0 → ⊥) → (n ≡ 1 → ⊥) → some Host ≡ speaker (sort_of n)
host_sends n no_end no_device = sym (host_speaks n no_end no_device)

pub device_has_turn : (n : ℕ) → eqb n 1 ≡ is_party Device (speaker (sort_of n))
unfolding is_party speaker sort_of
device_has_turn zero = refl
device_has_turn (suc zero) = refl
device_has_turn (suc (suc n)) = ne_eqb (suc (suc n)) 1 (λ e. omega arith)

pub host_has_turn : (n : ℕ) → ltb 1 n ≡ is_party Host (speaker (sort_of n))
unfolding is_party speaker sort_of
host_has_turn zero = refl
host_has_turn (suc zero) = refl
host_has_turn (suc (suc n)) = lt-ltb 1 (suc (suc n)) (omega arith)
