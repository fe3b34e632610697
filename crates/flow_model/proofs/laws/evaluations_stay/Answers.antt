use Rattle.flow_model.proofs.Others.EvaluationsStay.{evaluate-stays, body-stays}
use Rattle.flow_model.proofs.laws.evaluations_stay.Goals as goal

pub returns-clause-node : goal.returns-clause-node
returns-clause-node c = evaluate-stays

pub returns-clause-body : goal.returns-clause-body
returns-clause-body c = body-stays
