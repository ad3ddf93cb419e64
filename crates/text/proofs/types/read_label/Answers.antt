-- `text::types::read_label`: the tests on the way say which case holds. Assumes nothing.
use Rattle.std.proofs.Common.{◌≡◌, rules}
use Rattle.text.specs.inner.Kinds.{number_of_kind}
use Rattle.text.proofs.laws.HeadAt.{label_wrong, label_twice, label_new}
use Rattle.text.proofs.types.read_label.Goals as goal

pub returns-then-ne-clause-is : goal.returns-then-ne-clause-is
returns-then-ne-clause-is c = λ T H n. label_wrong _ T H _ _ _ _ c.token-k.ensures.is _ (λ e. search rules) c.unexpected.ensures

pub returns-then-label_taken-clause-is : goal.returns-then-label_taken-clause-is
returns-then-label_taken-clause-is c =
    λ T H n. let e : number_of_kind c.token-k.result.kind ≡ 65 = search rules in
    rw c.new.ensures
    (label_twice _ T H _ _ _ _ c.token-k.ensures.is _ _ _ e n c.word_of-word.ensures c.label_taken.ensures c.if-label_taken.true)

pub returns-clause-is : goal.returns-clause-is
returns-clause-is c =
    λ T H n. let e : number_of_kind c.token-k.result.kind ≡ 65 = search rules in
    label_new _ T H _ _ _ _ c.token-k.ensures.is _ _ _ e n c.word_of-word.ensures c.label_taken.ensures
    c.if-label_taken.false
