-- `text::read_text`: the parts that were read, and the token after them, say which case holds. Assumes nothing.
use Rattle.std.proofs.Common.{◌≡◌, refl, sym, subst, rules}
use Rattle.table.proofs.laws.Question.{number_no_zero}
use Rattle.text.specs.inner.Kinds.{number_of_kind}
use Rattle.text.specs.inner.Recursive.{Env, Room}
use Rattle.text.proofs.laws.Env.{room_empty}
use Rattle.text.proofs.laws.ReadText.{text_long, opening_refused, text_refused, text_wrong, text_read}
use Rattle.text.proofs.laws.Told.{left}
use Rattle.text.proofs.read_text.Goals as goal

pub returns-then-text-gt-BYTES : goal.returns-then-text-gt-BYTES
returns-then-text-gt-BYTES c = rw c.new.ensures (text_long _ _ c.if-text-gt-BYTES.true)

pub returns-in_err-read_opening : goal.returns-in_err-read_opening
returns-in_err-read_opening c =
    rw (left _ c.from_residual.ensures.1) (opening_refused _ c.if-text-gt-BYTES.false _ _ c.in_err-read_opening.ensures.is (number_no_zero _))

pub read_type-requires : goal.read_type-requires
read_type-requires c = subst (λ (e : Env). Room e 16) (sym c.new-env.ensures) room_empty

pub returns-in_err-read_type : goal.returns-in_err-read_type
returns-in_err-read_type c =
    let r = rw c.in_ok-read_opening.ensures.same at c.in_err-read_type.ensures.is in
    rw (left _ c.from_residual-in_err-read_type.ensures.1)
    (text_refused _ c.if-text-gt-BYTES.false _ _ c.in_ok-read_opening.ensures.is refl _ _ _ c.new-env.ensures r (number_no_zero _))

pub returns-then-ne : goal.returns-then-ne
returns-then-ne c =
    let r = rw c.in_ok-read_opening.ensures.same at c.in_ok-read_type.ensures.is in
    let k = rw (c.in_ok-read_type.ensures.same, c.in_ok-read_opening.ensures.same) at c.token-k.ensures.is in
    text_wrong _ c.if-text-gt-BYTES.false _ _ c.in_ok-read_opening.ensures.is refl _ _ _ c.new-env.ensures r refl _ k _
    (λ e. search rules) c.unexpected.ensures

pub returns : goal.returns
returns c =
    let r = rw c.in_ok-read_opening.ensures.same at c.in_ok-read_type.ensures.is in
    let k = rw (c.in_ok-read_type.ensures.same, c.in_ok-read_opening.ensures.same) at c.token-k.ensures.is in
    let e : number_of_kind c.token-k.result.kind ≡ 0 = search rules in
    text_read _ c.if-text-gt-BYTES.false _ _ c.in_ok-read_opening.ensures.is refl _ _ _ c.new-env.ensures r refl _ k e
