use Rattle.flow_model.proofs.Histories.Moves.{keeps_of}
use Rattle.flow_model.proofs.Others.CallersFindTheirCalls.{call-found, caller-idle, evaluate-found, body-found}
use Rattle.flow_model.proofs.laws.callers_find_their_calls.Goals as goal

pub returns-clause-call : goal.returns-clause-call
returns-clause-call c = call-found

pub returns-clause-idle : goal.returns-clause-idle
returns-clause-idle c = caller-idle

pub returns-clause-node : goal.returns-clause-node
returns-clause-node c graph g = evaluate-found graph (keeps_of graph (c.lawful_stays.ensures.step graph g) (c.lawful_stays.ensures.begin graph g))

pub returns-clause-body : goal.returns-clause-body
returns-clause-body c graph g = body-found graph (keeps_of graph (c.lawful_stays.ensures.step graph g) (c.lawful_stays.ensures.begin graph g))
