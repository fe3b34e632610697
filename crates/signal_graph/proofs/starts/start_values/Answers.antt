use Rattle.signal_graph.proofs.GraphStarts.{starts_step}
use Rattle.signal_graph.proofs.starts.start_values.Goals as goal

pub loop-node-preserved : goal.loop-node-preserved
loop-node-preserved c =
    starts_step c.args.nodes.now c.loop-node.node-index c.node-item.result c.loop-node.starts.items _ _ _ _ c.loop-node-test.true c.loop-node.invariant c.node-item.is c.start_value.ensures c.as_slice.ensures.value c.evaluate-found.ensures.value c.in_ok-push.ensures.items
