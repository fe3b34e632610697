use Rattle.flow_model.proofs.Known.ListsAnswer.{lists-answer}
use Rattle.flow_model.proofs.Known.OrderTakes.{order-takes, ends-first}
use Rattle.flow_model.proofs.Known.RoomForEdges.{new-edge}
use Rattle.flow_model.proofs.stored_laws.operations_fit.Goals as goal

pub returns-clause-lists : goal.returns-clause-lists
returns-clause-lists c = lists-answer

pub returns-clause-order : goal.returns-clause-order
returns-clause-order c = order-takes

pub returns-clause-end : goal.returns-clause-end
returns-clause-end c = ends-first

pub returns-clause-edge : goal.returns-clause-edge
returns-clause-edge c = new-edge
