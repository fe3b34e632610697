use Rattle.flow_model.proofs.Histories.Moves.{keeps_of}
use Rattle.flow_model.proofs.Known.HistoriesHaveBounds.{history-nodes, history-bounds, history-counted}
use Rattle.flow_model.proofs.stored_laws.histories_have_bounds.Goals as goal

pub returns-clause-nodes : goal.returns-clause-nodes
returns-clause-nodes c graph g = history-nodes graph g (keeps_of graph (c.lawful_stays.ensures.step graph g) (c.lawful_stays.ensures.begin graph g))

pub returns-clause-bounds : goal.returns-clause-bounds
returns-clause-bounds c graph g = history-bounds graph g (keeps_of graph (c.lawful_stays.ensures.step graph g) (c.lawful_stays.ensures.begin graph g))

pub returns-clause-counted : goal.returns-clause-counted
returns-clause-counted c = history-counted
