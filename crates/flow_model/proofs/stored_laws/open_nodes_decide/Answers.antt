use Rattle.flow_model.proofs.Known.OpenNodesDecide.{due-opens, asks-over_open}
use Rattle.flow_model.proofs.stored_laws.open_nodes_decide.Goals as goal

pub returns-clause-due : goal.returns-clause-due
returns-clause-due c = due-opens

pub returns-clause-asks : goal.returns-clause-asks
returns-clause-asks c = asks-over_open
