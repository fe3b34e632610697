use Rattle.flow_model.proofs.OrderStays.FullListsAreCollected.{full-collects, collect-leaves}
use Rattle.flow_model.proofs.laws.full_lists_are_collected.Goals as goal

pub returns-clause-allowed : goal.returns-clause-allowed
returns-clause-allowed c = full-collects

pub returns-clause-left : goal.returns-clause-left
returns-clause-left c = collect-leaves
