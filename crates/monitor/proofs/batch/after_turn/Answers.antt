-- The later answer, if there is one, is the last. Assumes nothing.
use Rattle.std.proofs.Common.{◌≡◌, refl, ap}
use Rattle.std.specs.Prelude as Std
use Rattle.std.specs.Option.{option_or}
use Rattle.conversation.specs.declared.Verdict.{Verdict}
use Rattle.conversation.specs.Batch.{latest, last_of, lane_of, batched}
use Rattle.monitor.proofs.batch.after_turn.Goals as goal

later : (x before : Std.Option Verdict) → last_of (option_or x before) ≡ latest (last_of x) (last_of before)
unfolding last_of latest
later Std.None before = refl
later (Std.Some v) before = refl

pub returns : goal.returns
unfolding batched
returns c counts td th =
    rw c.or-last.ensures (
    ap
    (λ l. record {
      state = c.args.x.state;
      counts = counts;
      lanes = record { device = lane_of c.args.device th; host = lane_of c.args.host td };
      last = l;
    })
    (later c.args.x.answer c.args.before)
    )
