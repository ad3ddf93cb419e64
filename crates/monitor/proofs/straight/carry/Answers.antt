use Rattle.std.proofs.Common.{◌≡◌, ◌+◌, ◌*◌, ◌≤◌, length, ap, sym, ◌∙◌, refl, below_more, arith}
use Rattle.table.specs.Lists.{upto}
use Rattle.table.specs.inner.Scans.{all}
use Rattle.table.proofs.laws.Lists.{all_yes, all_end}
use Rattle.message.specs.Message.{count_of, text_bytes, legal_value, number_at}
use Rattle.message.proofs.laws.Message.{value_at, values_places, legal_places, texts_text, texts_other}
use Rattle.monitor.proofs.laws.Leaves.{kind_yes, inside_read}
use Rattle.monitor.proofs.laws.Carried.{value_legal, text_length}
use Rattle.monitor.proofs.straight.carry.Goals as goal
use Rattle.monitor.proofs.straight.carry.Goals.{then-kind-eq1, else-kind-eq1}

pub loop-f-init : goal.loop-f-init
unfolding all upto text_bytes
loop-f-init c = record { kinds = refl; numbers = λ j l. absurd (omega arith); legal = refl; texts_are = refl; few = omega arith }

pub overflow_sub-texts : goal.overflow_sub-texts
overflow_sub-texts c =
    let f = c.loop-f.f in
    let m = c.args.message.now in
    let inside = inside_read _ _ (c.args.at + f) f c.within.ensures (omega arith) c.number-number.ensures (omega arith) ∙ c.if-not-within.false in
    let legal = value_legal _ m (c.args.at + f) f (c.requires.legal f (omega arith)) (sym c.from.ensures ∙ c.if-from-t.false) inside in
    (text_length m f legal c.if-kind-eq1.true (c.number-number.ensures ∙ ap (number_at m) (omega arith))).0

pub loop-f-preserved : goal.loop-f-preserved
loop-f-preserved c =
    let f = c.loop-f.f in
    let m = c.args.message.now in
    let h = c.loop-f.invariant in
    let same = sym c.from.ensures ∙ c.if-from-t.false in
    let inside = inside_read _ _ (c.args.at + f) f c.within.ensures (omega arith) c.number-number.ensures (omega arith) ∙ c.if-not-within.false in
    let legal = value_legal _ m (c.args.at + f) f (c.requires.legal f (omega arith)) same inside in
    let number : c.number-number.result ≡ (value_at m f).number = c.number-number.ensures ∙ ap (number_at m) (omega arith) in
    record {
      kinds = all_yes _ f h.kinds (kind_yes _ _ _ _ same);
      numbers = below_more _ _ h.numbers inside;
      legal = all_yes (λ k. legal_value (value_at m k)) f h.legal legal;
      texts_are =
          elim c.if-kind-eq1.branch [
            | then-kind-eq1 w ↦ w.texts-is ∙ texts_text f c.loop-f.texts (value_at m) h.texts_are _ w.if-kind-eq1.true number
            | else-kind-eq1 w ↦ w.texts-is ∙ texts_other f c.loop-f.texts (value_at m) h.texts_are w.if-kind-eq1.false
          ];
      few =
          elim c.if-kind-eq1.branch [
            | then-kind-eq1 w ↦ omega (arith, text_length m f legal w.if-kind-eq1.true number)
            | else-kind-eq1 w ↦ omega arith
          ];
    }

pub returns : goal.returns
returns c =
    let f = c.loop-f.f in
    let m = c.args.message.now in
    let h = c.loop-f.invariant in
    let arrays : 9 + 5 * count_of m ≤ length m = omega (arith, c.requires.counted, c.requires.arrays) in
    record {
      kinds = sym (all_end _ f _ h.kinds (omega arith));
      numbers = λ j l. h.numbers j (omega arith);
      legal = legal_places m arrays ∙ sym (all_end (λ k. legal_value (value_at m k)) f (count_of m) h.legal (omega (arith, c.requires.counted)));
      texts_are =
          h.texts_are ∙ ap (λ n. text_bytes (upto n (value_at m))) (omega (arith, c.requires.counted)) ∙ sym (ap text_bytes (values_places m arrays));
      few = omega (arith, h.few, c.requires.few);
    }
