use Rattle.flow_model.proofs.Histories.Moves.{keeps_of}
use Rattle.flow_model.proofs.Lengths.FewInputs.{few_inputs}
use Rattle.flow_model.proofs.Lengths.HistoriesAreBounded.{history-length}
use Rattle.flow_model.proofs.laws.histories_are_bounded.Goals as goal

pub returns : goal.returns
returns c graph g = history-length graph g (few_inputs graph (c.inputs_are_few.ensures graph g)) (keeps_of graph (c.lawful_stays.ensures.step graph g) (c.lawful_stays.ensures.begin graph g))
