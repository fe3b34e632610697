use Rattle.flow_model.proofs.Histories.Moves.{keeps_of}
use Rattle.flow_model.proofs.Histories.GatheredValues.{gathered-right}
use Rattle.flow_model.proofs.Histories.ValuesBefore.{before-right}
use Rattle.flow_model.proofs.laws.gathered_values_are_right.Goals as goal

pub returns-clause-gathered : goal.returns-clause-gathered
returns-clause-gathered c graph g = gathered-right graph g (record {
  values_are = c.values_are.ensures.each graph g;
  values_size = c.values_are.ensures.all graph;
  new_values_are = c.new_values_are.ensures graph g;
  after_size = c.literal.ensures.size graph;
}) (keeps_of graph (c.lawful_stays.ensures.step graph g) (c.lawful_stays.ensures.begin graph g))

pub returns-clause-acc : goal.returns-clause-acc
returns-clause-acc c graph g = before-right graph g (record {
  values_are = c.values_are.ensures.each graph g;
  values_size = c.values_are.ensures.all graph;
  new_values_are = c.new_values_are.ensures graph g;
  after_size = c.literal.ensures.size graph;
}) (keeps_of graph (c.lawful_stays.ensures.step graph g) (c.lawful_stays.ensures.begin graph g))
