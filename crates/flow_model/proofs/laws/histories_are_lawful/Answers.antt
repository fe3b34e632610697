use Rattle.flow_model.proofs.Histories.Moves.{keeps_of, history-lawful}
use Rattle.flow_model.proofs.laws.histories_are_lawful.Goals as goal

pub returns : goal.returns
returns c graph g = history-lawful graph g (keeps_of graph (c.lawful_stays.ensures.step graph g) (c.lawful_stays.ensures.begin graph g))
