-- A pass over a message's fields: what is known after f of them.
-- Assumes nothing.
use Rattle.std.proofs.Common.{◌≡◌, ℕ, ◌+◌, ◌*◌, ◌<◌, ◌≤◌, true, false, List, length, get_or, sym, refl, ap, ◌∙◌, add-one, arith}
use Rattle.table.specs.Lists.{upto}
use Rattle.table.specs.Table.{within_kind}
use Rattle.table.specs.inner.Scans.{all}
use Rattle.table.proofs.laws.Lists.{never, all_yes, all_no, all_end}
use Rattle.message.specs.Message.{count_of, values_of, text_bytes, legal_value, legal_values, number_at}
use Rattle.message.specs.inner.Layout.{text_at}
use Rattle.message.proofs.laws.Message.{value_at, values_places, legal_places, text_more}
use Rattle.message.proofs.laws.Making.{text_small}

-- they are legal, and announce so many bytes of text
pub record Passed (bytes : List ℕ) (f texts : ℕ) : Type 0 where
  pub legal : true ≡ all f (λ k. legal_value (value_at bytes k))
  pub counted : texts ≡ text_bytes (upto f (value_at bytes))
  pub few : texts ≤ 64 * f

pub passed_none : (bytes : List ℕ) → Passed bytes 0 0
unfolding all upto text_bytes
passed_none bytes = record { legal = refl; counted = refl; few = omega arith }

module _ (bytes : List ℕ) (count f : ℕ) (e : count ≡ count_of bytes) (texts : ℕ) (p : Passed bytes f texts) where
  tested : within_kind (get_or bytes (9 + f) 0) (number_at bytes (9 + count + 4 * f)) ≡ legal_value (value_at bytes f)
  unfolding legal_value
  tested = ap (λ n. within_kind (get_or bytes (9 + f) 0) (number_at bytes (9 + n + 4 * f))) e

  pub passed_more : within_kind (get_or bytes (9 + f) 0) (number_at bytes (9 + count + 4 * f)) ≡ true
      → (text : ℕ) → text ≡ text_at (get_or bytes (9 + f) 0) (number_at bytes (9 + count + 4 * f)) → Passed bytes (f + 1) (texts + text)
  unfolding text_at
  passed_more w text q = record {
    legal = all_yes (λ k. legal_value (value_at bytes k)) f p.legal (sym tested ∙ w);
    counted = rw (add-one, text_more) (omega (arith, p.counted, q, ap (λ n. text_at (get_or bytes (9 + f) 0) (number_at bytes (9 + n + 4 * f))) e));
    few = omega (arith, p.few, q, text_small (get_or bytes (9 + f) 0) (number_at bytes (9 + count + 4 * f)) w);
  }

  pub passed_not : 9 + 5 * count_of bytes ≤ length bytes → f < count
      → within_kind (get_or bytes (9 + f) 0) (number_at bytes (9 + count + 4 * f)) ≡ false → legal_values bytes ≡ true → ⊥
  passed_not arrays l w t = never t (legal_places bytes arrays ∙ all_no (λ k. legal_value (value_at bytes k)) (count_of bytes) f (omega arith) (sym tested ∙ w))

  pub passed_all : 9 + 5 * count_of bytes ≤ length bytes → f ≡ count → (legal_values bytes ≡ true) × (texts ≡ text_bytes (values_of bytes))
  passed_all arrays q = (
    legal_places bytes arrays ∙ sym (all_end (λ k. legal_value (value_at bytes k)) f (count_of bytes) p.legal (q ∙ e)),
    p.counted ∙ ap (λ n. text_bytes (upto n (value_at bytes))) (q ∙ e) ∙ sym (ap text_bytes (values_places bytes arrays)),
  )
