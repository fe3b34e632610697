use Rattle.std.proofs.Common.{arith}
use Rattle.signal_graph.proofs.GraphNodes.{few_selectors}
use Rattle.signal_graph.proofs.graph.Graph.selectors.Goals as goal

pub overflow_cast-result : goal.overflow_cast-result
overflow_cast-result c = rw c.selectors.ensures (omega (arith, few_selectors c.args.self.now.names c.args.node c.node.result.now c.node.ensures.kept))
