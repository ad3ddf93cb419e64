-- `message::fields::texts`: after f texts the rest decides.
use Rattle.std.proofs.Common.{◌+◌, ◌*◌, length, drop, sym, ap, ◌∙◌, arith}
use Rattle.std.proofs.lemmas.Slice.{between_to_end}
use Rattle.table.proofs.laws.Lists.{left_fails, left_passes}
use Rattle.message.proofs.laws.LegalTexts.{left_legal, texts_begin, texts_step, texts_end}
use Rattle.message.proofs.fields.texts.Goals as goal

pub loop-f-init : goal.loop-f-init
loop-f-init c =
    let b = c.args.bytes.now in
    texts_begin b ∙ ap (left_legal b 0) (ap (λ n. drop (9 + 5 * n) b) (sym c.requires.0) ∙ sym (between_to_end b (9 + 5 * c.args.count) (length b) (omega arith)))

pub returns-then-not-is_utf8 : goal.returns-then-not-is_utf8
returns-then-not-is_utf8 c =
    sym (texts_step _ _ _ _ _ _ _ _ c.requires c.loop-f-test.true (grind arith) c.min.ensures c.split_at.ensures.front c.split_at.ensures.back c.loop-f.invariant
    ∙ left_fails _ (sym c.is_utf8.ensures ∙ c.if-not-is_utf8.true))

pub loop-f-preserved : goal.loop-f-preserved
loop-f-preserved c =
    texts_step _ _ _ _ _ _ _ _ c.requires c.loop-f-test.true (grind arith) c.min.ensures c.split_at.ensures.front c.split_at.ensures.back c.loop-f.invariant
    ∙ left_passes _ (sym c.is_utf8.ensures ∙ c.if-not-is_utf8.false)

pub returns : goal.returns
returns c = sym (c.loop-f.invariant ∙ texts_end c.args.bytes.now (omega arith) c.loop-f.f c.loop-f.rest.now (omega arith))
