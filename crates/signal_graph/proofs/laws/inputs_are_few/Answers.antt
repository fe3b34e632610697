use Rattle.signal_graph.proofs.ScriptNames.{graph_few}
use Rattle.signal_graph.proofs.laws.inputs_are_few.Goals as goal

pub returns : goal.returns
returns c = graph_few
