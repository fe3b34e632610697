use Rattle.flow_model.proofs.Together.LawfulStays.{step-lawful, begin-lawful}
use Rattle.flow_model.proofs.laws.lawful_stays.Goals as goal

pub returns-clause-step : goal.returns-clause-step
returns-clause-step c graph is_graph = step-lawful graph is_graph (record {
  values_are = c.values_are.ensures.each graph is_graph;
  values_size = c.values_are.ensures.all graph;
  new_values_are = c.new_values_are.ensures graph is_graph;
  after_size = c.literal.ensures.size graph;
})

pub returns-clause-begin : goal.returns-clause-begin
returns-clause-begin c graph is_graph = begin-lawful graph
