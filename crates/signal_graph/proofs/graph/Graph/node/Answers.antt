use Rattle.std.proofs.Common.{◌<◌, length, sym, subst, zero-add}
use Rattle.signal_graph.specs.Graph.{Graph, IsNode}
use Rattle.signal_graph.proofs.GraphNodes.{node_is}
use Rattle.signal_graph.proofs.graph.Graph.node.Goals as goal

pub returns-clause-kept : goal.returns-clause-kept
returns-clause-kept c =
    let below = subst (λ (g : Graph). c.args.node < length g.nodes) (sym c.self.view_is) c.requires in
    let is = rw zero-add at (node_is c.self.inside.names 0 c.self.inside.nodes.items c.args.node c.index.result.now c.self.invariant.is_graph.nodes below) in
    rw (← c.self.view_is) (subst (IsNode c.self.inside.names c.args.node) (sym c.index.ensures) is)
