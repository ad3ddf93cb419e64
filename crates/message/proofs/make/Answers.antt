-- `message::make`: a sound table's columns keep the limits, and what is written is the branch's message.
use Rattle.std.proofs.Common.{◌+◌, ◌*◌, sym, ap, ◌∙◌, arith}
use Rattle.table.specs.View.{kind_at, count_at}
use Rattle.message.specs.Make.{high_of, made_numbers, making}
use Rattle.message.specs.inner.Layout.{put_at, laid, number_chosen}
use Rattle.message.proofs.laws.Making.{columns, text_few, no_room, room}
use Rattle.message.proofs.make.Goals as goal

pub bounds-t-k : goal.bounds-t-k
bounds-t-k c = omega (arith, (columns _ c.from-k.result (sym c.sound.ensures ∙ c.if-not-sound.false) (omega arith)).1)

pub overflow_cast-fields : goal.overflow_cast-fields
overflow_cast-fields c = record { fits = omega (arith, (columns _ c.from-k.result (sym c.sound.ensures ∙ c.if-not-sound.false) (omega arith)).0) }

pub invariant_of-fields : goal.invariant_of-fields
invariant_of-fields c =
    let p = columns _ c.from-k.result (sym c.sound.ensures ∙ c.if-not-sound.false) (omega arith) in
    record { few = p.0; placed = omega (arith, p.1); known = p.2 }

pub returns-then-out-size : goal.returns-then-out-size
unfolding made_numbers
returns-then-out-size c =
    let a = c.args in
    let e =
    ap (λ k. making a.t.now k (high_of a.named) a.out.now) (sym c.from-k.ensures)
    ∙ no_room a.t.now c.from-k.result (sym c.sound.ensures ∙ c.if-not-sound.false) (omega arith) (high_of a.named) a.out.now
    (sym c.has_named.ensures ∙ c.if-not-has_named.false) c.text-text.result c.text-text.ensures.0 (omega arith) in
    record { result_value = ap (λ m. m.numbers) (sym e); out_after = ap (λ m. m.buffer) (sym e) }

pub overflow_cast-result : goal.overflow_cast-result
overflow_cast-result c =
    let s = sym c.sound.ensures ∙ c.if-not-sound.false in
    record {
      fits = omega (
        arith,
        (columns c.args.t.now c.from-k.result s (omega arith)).0,
        text_few c.args.t.now c.from-k.result s (omega arith) (high_of c.args.named) c.args.out.now
            (sym c.has_named.ensures ∙ c.if-not-has_named.false) c.text-text.result c.text-text.ensures.0,
      );
    }

pub returns : goal.returns
unfolding made_numbers
returns c =
    let a = c.args in
    let t = a.t.now in
    let k = c.from-k.result in
    let text = c.text-text.result in
    let e =
    ap (λ k. making t k (high_of a.named) a.out.now) (sym c.from-k.ensures)
    ∙ room t k (sym c.sound.ensures ∙ c.if-not-sound.false) (omega arith) (high_of a.named) a.out.now
    (sym c.has_named.ensures ∙ c.if-not-has_named.false) text c.text-text.ensures.0 (omega arith) in
    record {
      result_value = ap (λ n. (0, 9 + 5 * n + text)) c.from-2.ensures ∙ ap (λ m. m.numbers) (sym e);
      out_after =
          c.write.ensures
          ∙ ap (λ w. put_at 0 (laid w (count_at t k) (λ f. kind_at t (4 * k + f)) (number_chosen (high_of a.named) t (4 * k)) text) a.out.now) c.label_word-label.ensures
          ∙ ap (λ m. m.buffer) (sym e);
    }
