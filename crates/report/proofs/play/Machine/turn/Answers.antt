-- `report::play::Machine::turn` meets its contract.
use Rattle.std.proofs.Common.{List, ℕ, ap, ◌∙◌}
use Rattle.table.specs.View.{view}
use Rattle.message.specs.Message.{read}
use Rattle.message.specs.Judge.{allows}
use Rattle.report.specs.inner.Playing.{settled}
use Rattle.report.proofs.laws.Effect.{effect_settled, said_size, both_turn}
use Rattle.report.proofs.play.Machine.turn.Goals as goal

pub meet-requires : goal.meet-requires
meet-requires c =
    let w = c.speak-side.ensures in
    let u = both_turn c.requires.0 w.turn in
    (u.0, u.1, rw w.said.message_is c.requires.0.speaking.formed, rw w.said.message_is (said_size w.said))

pub returns : goal.returns
returns c =
    let a = c.args in
    let w = c.speak-side.ensures in
    let u = both_turn c.requires.0 w.turn in
    record {
      pair_is =
          c.meet.ensures
          ∙ ap (λ (x : List ℕ). settled a.i a.j c.speak-side.result.0
          (allows (view a.self.d.words.now) a.i (read x)) (allows (view a.self.p.words.now) a.j (read x))) w.said.message_is
          ∙ effect_settled (view a.self.d.words.now) (view a.self.p.words.now) a.i a.j _ _ w.whose c.requires.0.speaking.formed u.0.turn u.1.turn;
      written = w.said.written;
      most = w.said.most;
      most_low = w.said.most_low;
    }
