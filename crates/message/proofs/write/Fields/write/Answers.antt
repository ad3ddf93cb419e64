-- `message::write::Fields::write`: the four parts stand one after the other.
use Rattle.std.proofs.Common.{ℕ, ◌+◌, ◌*◌, List, [], ◌∷◌, ◌++◌, replicate, refl, ap, ◌∙◌, arith}
use lib.ListN.{length-replicate}
use Rattle.table.specs.View.{label_of, kind_at}
use Rattle.message.specs.Make.{four_bytes, high_of}
use Rattle.message.specs.inner.Layout.{put_at, in_a_row, laid, number_chosen}
use Rattle.message.proofs.laws.Layout.{put_all, run_length}
use Rattle.message.proofs.write.Fields.write.Goals as goal

pub returns : goal.returns
unfolding laid label_of four_bytes
returns c =
    let a = c.args in
    let s = a.self.now in
    let kinds : ℕ → List ℕ = λ f. kind_at s.t.now (s.from + f) ∷ [] in
    let words : ℕ → List ℕ = λ f. four_bytes (number_chosen (high_of s.named) s.t.now s.from f) in
    let n = c.from-n.result in
    c.blank.ensures
    ∙ ap (put_at (9 + 5 * n) (replicate a.text 32))
    (c.numbers.ensures ∙ ap (put_at (9 + n) (in_a_row s.count words)) (c.kinds.ensures ∙ ap (put_at 9 (in_a_row s.count kinds)) c.head.ensures))
    ∙ put_all a.out.now (label_of a.label ++ (s.count ∷ [])) (in_a_row s.count kinds) (in_a_row s.count words) (replicate a.text 32) 9 (9 + n) (9 + 5 * n)
    refl (omega (arith, run_length kinds 1 (λ f. refl) s.count)) (omega (arith, run_length words 4 (λ f. refl) s.count))
    (omega (arith, length-replicate {A = ℕ} a.text 32))
