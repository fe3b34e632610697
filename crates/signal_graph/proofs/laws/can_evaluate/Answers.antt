use Rattle.script_tree.specs.declared.value.Fault.TheVariants.{Kind}
use Rattle.script_tree.specs.declared.value.Value.TheVariants.{Fault as Faulty}
use Rattle.signal_graph.specs.declared.node.Node.TheVariants.{Source}
use Rattle.signal_graph.proofs.GraphNodes.{all_can_evaluate}
use Rattle.signal_graph.proofs.laws.can_evaluate.Goals as goal

pub returns : goal.returns
returns c graph is_graph n within = all_can_evaluate graph.names graph.nodes is_graph.nodes n (Source (Faulty Kind)) within
