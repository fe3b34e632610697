use Rattle.flow_model.proofs.Callers.CallersHaveTheirCalls.{history-made, history-one_live, history-begun}
use Rattle.flow_model.proofs.laws.callers_have_their_calls.Goals as goal

pub returns-clause-made : goal.returns-clause-made
returns-clause-made c = history-made

pub returns-clause-one_live : goal.returns-clause-one_live
returns-clause-one_live c = history-one_live

pub returns-clause-begun : goal.returns-clause-begun
returns-clause-begun c = history-begun
