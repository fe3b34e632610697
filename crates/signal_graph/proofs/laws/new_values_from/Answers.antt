use Rattle.signal_graph.proofs.Literal.{values_again}
use Rattle.signal_graph.proofs.laws.new_values_from.Goals as goal

pub returns : goal.returns
returns c = values_again
