-- `report::play::Machine::speak` meets its contract.
use Rattle.std.proofs.Common.{ap, sym, ◌∙◌}
use Rattle.table.specs.View.{sort_at}
use Rattle.report.proofs.laws.Effect.{spoken_as, speaks_device, speaks_host}
use Rattle.report.proofs.play.Machine.speak.Goals as goal

pub say-n-requires : goal.say-n-requires
say-n-requires c =
    let r = speaks_device c.args.self.d.sound c.args.self.p.sound c.requires.0 (ap (λ i. sort_at c.args.self.d.words.now i) (sym c.from.ensures) ∙ c.if-self-from-eq1.true) in
    (r.has, c.requires.1, c.requires.2)

pub returns-then-self-from-eq1 : goal.returns-then-self-from-eq1
returns-then-self-from-eq1 c =
    spoken_as (speaks_device c.args.self.d.sound c.args.self.p.sound c.requires.0 (ap (λ i. sort_at c.args.self.d.words.now i) (sym c.from.ensures) ∙ c.if-self-from-eq1.true)) c.say-n.ensures

pub say-n-requires-2 : goal.say-n-requires-2
say-n-requires-2 c =
    let r = speaks_host c.args.self.d.sound c.args.self.p.sound c.requires.0 (λ e. c.if-self-from-eq1.false (ap (λ i. sort_at c.args.self.d.words.now i) c.from.ensures ∙ e)) in
    (r.has, c.requires.1, c.requires.2)

pub returns : goal.returns
returns c =
    spoken_as (speaks_host c.args.self.d.sound c.args.self.p.sound c.requires.0 (λ e. c.if-self-from-eq1.false (ap (λ i. sort_at c.args.self.d.words.now i) c.from.ensures ∙ e))) c.say-n-2.ensures
