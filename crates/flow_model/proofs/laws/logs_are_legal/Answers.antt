use Rattle.flow_model.proofs.Histories.Moves.{keeps_of}
use Rattle.flow_model.proofs.Histories.LogsAreLegal.{history-Legal}
use Rattle.flow_model.proofs.laws.logs_are_legal.Goals as goal

pub returns : goal.returns
returns c graph g = history-Legal graph g (record {
  values_are = c.values_are.ensures.each graph g;
  values_size = c.values_are.ensures.all graph;
  new_values_are = c.new_values_are.ensures graph g;
  after_size = c.literal.ensures.size graph;
}) (keeps_of graph (c.lawful_stays.ensures.step graph g) (c.lawful_stays.ensures.begin graph g))
