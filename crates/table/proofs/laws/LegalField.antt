-- A field of a kind that is none.
-- Assumes nothing.
use Rattle.std.proofs.Common.{◌≡◌, ℕ, zero, suc, false, refl}
use Rattle.table.specs.Table.{legal_field, within_kind}

pub range_unknown : (k l h : ℕ) → (k ≡ 0 → ⊥) → (k ≡ 1 → ⊥) → (k ≡ 2 → ⊥) → legal_field (record { kind = k; low = l; high = h }) ≡ false
unfolding legal_field within_kind
range_unknown zero l h a b c = absurd (a refl)
range_unknown (suc zero) l h a b c = absurd (b refl)
range_unknown (suc (suc zero)) l h a b c = absurd (c refl)
range_unknown (suc (suc (suc k))) l h a b c = refl
