-- `report::play::hear` meets its contract: what the verdict says.
use Rattle.std.proofs.Common.{ap, sym, ◌∙◌, inl, inr, replicate, rules}
use Rattle.conversation.specs.declared.Verdict.{Verdict}
use Rattle.report.specs.inner.Playing.{heard_of}
use Rattle.report.proofs.laws.HeardAt.{heard_as, hears}
use Rattle.report.proofs.play.hear.Goals as goal

pub returns-in-Forwarded : goal.returns-in-Forwarded
unfolding heard_of heard_as
returns-in-Forwarded c =
    let a = c.args in
    let q = c.requires in
    let r = c.step-heard.result in
    sym (ap (λ (v : Verdict). heard_as v r.state) c.in-Forwarded.is)
    ∙ hears a.t.words.now a.t.sound a.position a.side q.0 a.message.now q.1 (replicate 285 0) (search rules) r _ _ c.fresh.ensures _ c.step-heard.ensures

pub returns-in-Blamed : goal.returns-in-Blamed
unfolding heard_of heard_as
returns-in-Blamed c =
    let a = c.args in
    let q = c.requires in
    let r = c.step-heard.result in
    let heard = hears a.t.words.now a.t.sound a.position a.side q.0 a.message.now q.1 (replicate 285 0) (search rules) r _ _ c.fresh.ensures _ c.step-heard.ensures in
    elim c.in-Blamed.is [
      | inl w ↦ sym (ap (λ (v : Verdict). heard_as v r.state) w.2) ∙ heard
      | inr w ↦ sym (ap (λ (v : Verdict). heard_as v r.state) w.1) ∙ heard
    ]
