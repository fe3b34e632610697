use Rattle.flow_model.proofs.Histories.Moves.{keeps_of}
use Rattle.flow_model.proofs.Histories.LastValues.{last_values-final, history-values_final, history-picks_final, all-ended_len}
use Rattle.flow_model.proofs.laws.last_values_are_final.Goals as goal

pub returns-clause-lawful : goal.returns-clause-lawful
returns-clause-lawful c = last_values-final

pub returns-clause-values : goal.returns-clause-values
returns-clause-values c graph g = history-values_final graph g (keeps_of graph (c.lawful_stays.ensures.step graph g) (c.lawful_stays.ensures.begin graph g))

pub returns-clause-picks : goal.returns-clause-picks
returns-clause-picks c graph g = history-picks_final graph g (keeps_of graph (c.lawful_stays.ensures.step graph g) (c.lawful_stays.ensures.begin graph g))

pub returns-clause-lists : goal.returns-clause-lists
returns-clause-lists c = all-ended_len
