use Rattle.std.proofs.Common.{arith}
use Rattle.signal_graph.proofs.Members.{index-in}
use Rattle.step_rules.proofs.searches.first_open.Goals as goal

pub opens-requires : goal.opens-requires
opens-requires c =
    let below = c.requires.inside _ (index-in c.args.nodes.now c.loop-node.node-index 0 c.loop-node-test.true) in
    let size = c.seat-seat.ensures.size in
    omega (arith, below, size)
