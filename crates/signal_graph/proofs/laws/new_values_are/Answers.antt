use Rattle.signal_graph.proofs.NewValues.{new_values_are}
use Rattle.signal_graph.proofs.laws.new_values_are.Goals as goal

pub returns : goal.returns
returns c = new_values_are
