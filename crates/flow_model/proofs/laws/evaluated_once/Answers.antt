use Rattle.flow_model.proofs.Histories.Moves.{keeps_of}
use Rattle.flow_model.proofs.Histories.EvaluatedOnce.{evaluated-once, body-once}
use Rattle.flow_model.proofs.laws.evaluated_once.Goals as goal

pub returns-clause-node : goal.returns-clause-node
returns-clause-node c graph g = evaluated-once graph g (keeps_of graph (c.lawful_stays.ensures.step graph g) (c.lawful_stays.ensures.begin graph g))

pub returns-clause-body : goal.returns-clause-body
returns-clause-body c graph g = body-once graph g (keeps_of graph (c.lawful_stays.ensures.step graph g) (c.lawful_stays.ensures.begin graph g))
