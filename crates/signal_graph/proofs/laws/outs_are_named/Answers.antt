use Rattle.signal_graph.proofs.ScriptNames.{graph_outs}
use Rattle.signal_graph.proofs.laws.outs_are_named.Goals as goal

pub returns : goal.returns
returns c = graph_outs
