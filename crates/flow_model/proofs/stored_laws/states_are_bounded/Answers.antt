use Rattle.flow_model.proofs.Known.Bounds.{names-nodes, has-bounds}
use Rattle.flow_model.proofs.Known.OpenNodesDecide.{end-looks}
use Rattle.flow_model.proofs.stored_laws.states_are_bounded.Goals as goal

pub returns-clause-nodes : goal.returns-clause-nodes
returns-clause-nodes c = names-nodes

pub returns-clause-bounds : goal.returns-clause-bounds
returns-clause-bounds c = has-bounds

pub returns-clause-looks : goal.returns-clause-looks
returns-clause-looks c = end-looks
