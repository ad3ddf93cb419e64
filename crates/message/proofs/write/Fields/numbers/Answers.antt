-- `message::write::Fields::numbers`: one number more in each turn.
use Rattle.std.proofs.Common.{◌≡◌, ℕ, ◌+◌, ◌*◌, length, refl, ap, ◌∙◌, arith}
use Rattle.message.specs.Make.{four_bytes, high_of}
use Rattle.message.specs.inner.Layout.{put_at, in_a_row, number_chosen}
use Rattle.message.proofs.laws.Layout.{put_none, run_length, put_more}
use Rattle.message.proofs.write.Fields.numbers.Goals as goal

pub loop-f-init : goal.loop-f-init
unfolding in_a_row
loop-f-init c = put_none _ _

words_length : (number : ℕ → ℕ) (n : ℕ) → length (in_a_row n (λ f. four_bytes (number f))) ≡ 4 * n
unfolding four_bytes
words_length number = run_length (λ f. four_bytes (number f)) 4 (λ f. refl)

pub loop-f-preserved : goal.loop-f-preserved
loop-f-preserved c =
    let a = c.args in
    let number : ℕ → ℕ = number_chosen (high_of a.self.now.named) a.self.now.t.now a.self.now.from in
    let sized = words_length number c.loop-f.f in
    c.number-in-loop-f.ensures ∙ ap (λ n. put_at (a.at + 4 * c.from.result) (four_bytes n) c.loop-f.out) c.number.ensures
    ∙ put_more (λ f. four_bytes (number f)) a.at c.loop-f.f a.out.now (omega arith) c.loop-f.out (a.at + 4 * c.from.result) (omega arith) c.loop-f.invariant

pub returns : goal.returns
returns c = grind (arith, c.loop-f.invariant)
