-- Demand 2 over whole conversations: the state that verdicts and type give after each message is the program's, and each way of a step is right there.
-- Assumes nothing.
use Rattle.conversation.specs.Step.{fresh}
use Rattle.conversation.specs.Conversation.{conversation, DemandTwo}
use Rattle.conversation.proofs.laws.Conversation.{all_sent, each_right}

pub demand_two : DemandTwo
unfolding conversation
demand_two t sound sent =
    record {
      demand = record { all_met = all_sent t sound fresh sent; each = λ earlier e later h. (each_right t sound sent earlier e later h).met };
      before = λ earlier e later h. (each_right t sound sent earlier e later h).before;
      after = λ earlier e later h. (each_right t sound sent earlier e later h).after;
    }
