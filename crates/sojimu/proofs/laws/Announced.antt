-- A message has at most four fields, each of at most 64 bytes of text: no length that is announced is above 285.
-- Assumes nothing.
use mathlib.Core.Path.{◌≡◌, refl}
use mathlib.Core.Bool.{Bool, true, false, ◌&&◌, cond}
use mathlib.Core.List.{List, [], ◌∷◌}
use Prim.Native.Nat.{ℕ, ◌-◌, ◌*◌, ◌≤◌, zero-le}
use native.Mathlib.Omega.{arith}
use lib.ListN.{length}
use lib.Dec.{leb, eqb}
use borrow.Author.Tests.{eqb-true}
use Rattle.table.specs.Lists.{every}
use Rattle.table.specs.Table.{origin}
use Rattle.table.proofs.laws.Lists.{both}
use Rattle.message.specs.Message.{Value, text_bytes, announced, values_of, legal_value, legal_values, front, front_of}
use Rattle.message.proofs.laws.Message.{text_within, values_length, front_parts}
use Rattle.conversation.specs.Due.{first_length}

text_short : (v : Value) → legal_value v ≡ true → cond (eqb v.kind 1) (v.number - origin) 0 ≤ 64
unfolding legal_value
text_short v e = go (eqb v.kind 1) refl
  where
    go : (b : Bool) → eqb v.kind 1 ≡ b → cond b (v.number - origin) 0 ≤ 64
    go true q = omega (arith, text_within v.kind v.number (eqb-true v.kind 1 q) e)
    go false q = zero-le

texts_short : (vs : List Value) → every legal_value vs ≡ true → text_bytes vs ≤ 64 * length vs
unfolding text_bytes every
texts_short [] e = zero-le
texts_short (v ∷ r) e =
    let x = both (legal_value v) (every legal_value r) e in
    omega (arith, text_short v x.0, texts_short r x.1)

module _ (bytes : List ℕ) where
  announced_few : front bytes ≡ 0 → announced bytes ≤ 285
  unfolding announced legal_values
  announced_few e =
      let x = front_parts bytes e in
      omega (arith, x.0.few, values_length bytes x.0.arrays, texts_short (values_of bytes) x.1)

  few_where : (b : Bool) → (b ≡ true → front bytes ≡ 0) → cond b (announced bytes) 0 ≤ 285
  few_where true e = announced_few (e refl)
  few_where false e = zero-le

  pub front_few : (front_of bytes).length ≤ 285
  unfolding front_of
  front_few = few_where (eqb (front bytes) 0) (eqb-true (front bytes) 0)

  pub first_few : first_length bytes ≤ 285
  unfolding first_length
  first_few =
      few_where (eqb (front bytes) 0 && leb (announced bytes) (length bytes))
      (λ e. eqb-true (front bytes) 0 (both (eqb (front bytes) 0) (leb (announced bytes) (length bytes)) e).0)
