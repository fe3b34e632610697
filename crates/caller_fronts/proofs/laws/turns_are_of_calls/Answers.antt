use Rattle.flow_model.specs.Machine.State.{entries, outs}
use Rattle.flow_model.specs.Machine.Next.{next, next_at}
use Rattle.caller_fronts.proofs.Turns.{next-next, next_at-next, turn-own, turn-no_end}
use Rattle.caller_fronts.proofs.laws.turns_are_of_calls.Goals as goal

pub returns-clause-next : goal.returns-clause-next
returns-clause-next c graph is_graph s lawful t lives =
    let h = next-next graph s (entries s) (outs s) t in
    record {
      allowed = λ step is. c.next_is_allowed.ensures graph is_graph s lawful t lives step is;
      own = λ step is. turn-own t (next graph s t) step h is;
      goes_on = λ step is. turn-no_end t (next graph s t) step h is;
    }

pub returns-clause-next_at : goal.returns-clause-next_at
returns-clause-next_at c graph s lawful t n lives =
    let h = next_at-next graph s (entries s) (outs s) t n in
    record {
      allowed = λ step is. c.next_at_is_allowed.ensures graph s lawful t n lives step is;
      own = λ step is. turn-own t (next_at graph s t n) step h is;
      goes_on = λ step is. turn-no_end t (next_at graph s t n) step h is;
    }
