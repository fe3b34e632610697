use Rattle.std.proofs.Common.{arith}
use Rattle.flow_state.specs.Booked.{node_count}
use Rattle.step_rules.proofs.Going.{item_below}
use Rattle.step_rules.proofs.resting.any_open.Goals as goal

pub opens-requires-clause-node : goal.opens-requires-clause-node
opens-requires-clause-node c = item_below (node_count c.args.book.now) c.args.nodes.now c.loop-node.node-index 0 c.requires.inside (omega arith)
