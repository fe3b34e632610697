use Rattle.flow_model.proofs.Histories.Moves.{keeps_of}
use Rattle.flow_model.proofs.Lengths.FewInputs.{few_inputs}
use Rattle.flow_model.proofs.Lengths.HistoriesAreBounded.{moves-length, next-length}
use Rattle.flow_model.proofs.laws.moves_are_bounded.Goals as goal

pub returns-clause-moves : goal.returns-clause-moves
returns-clause-moves c graph g = moves-length graph g (few_inputs graph (c.inputs_are_few.ensures graph g)) (keeps_of graph (c.lawful_stays.ensures.step graph g) (c.lawful_stays.ensures.begin graph g))

pub returns-clause-alone : goal.returns-clause-alone
returns-clause-alone c graph g = next-length graph g (few_inputs graph (c.inputs_are_few.ensures graph g)) (keeps_of graph (c.lawful_stays.ensures.step graph g) (c.lawful_stays.ensures.begin graph g))
