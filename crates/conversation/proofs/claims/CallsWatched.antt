-- All that a program calls is one conversation, of which demand 2 holds.
-- Assumes nothing.
use mathlib.Core.Path.{sym, ap, subst, ◌∙◌}
use mathlib.Core.List.{[]}
use Rattle.table.specs.View.{view}
use Rattle.message.specs.Rules.{table_rules}
use Rattle.message.proofs.laws.Judge.{some_eq}
use Rattle.conversation.specs.Step.{fresh}
use Rattle.conversation.specs.Conversation.{conversation, blamed_first}
use Rattle.conversation.specs.Counts.{Started, starting}
use Rattle.conversation.specs.Counting.{Tallied}
use Rattle.conversation.specs.Programs.{run_from, messages_of, awaited_by, CallsWatched}
use Rattle.conversation.proofs.laws.Conversation.{stands_fresh}
use Rattle.conversation.proofs.laws.Counts.{legal, starts}
use Rattle.conversation.proofs.laws.Tallied.{tallied_then}
use Rattle.conversation.proofs.laws.Programs.{done_played, comes, awaited_then}
use Rattle.conversation.proofs.claims.DemandTwo.{demand_two}

pub calls_watched : CallsWatched
unfolding conversation starting
calls_watched t z sound low high calls =
    let tally = tallied_then t z sound (legal z low high) in
    let x = comes t sound [] fresh (stands_fresh t) (starting t z).counts (λ events. (tally events).sound) calls in
    let counts = subst (Tallied t z x.events) (sym x.counts) (tally x.events) in
    record {
      starts = ap (λ (r : Started). r.question) (starts t z sound (legal z low high));
      events = x.events;
      answers = x.done;
      conversing = done_played t x.done;
      watched = (demand_two t sound (messages_of x.events)).demand;
      awaits = λ a e.
          awaited_then t sound x.events (run_from t z calls).state x.stands (run_from t z calls).counts counts.sound
          ∙ ap (λ i. awaited_by (table_rules (view t)) i (blamed_first x.events)) (some_eq (sym x.stands.position ∙ e));
      tallied = counts;
    }
