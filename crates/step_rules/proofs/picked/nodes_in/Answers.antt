use Rattle.std.proofs.Common.{arith}
use Rattle.step_rules.proofs.Nodes.{nodes-few, room-left}
use Rattle.step_rules.proofs.picked.nodes_in.Goals as goal

pub push-requires : goal.push-requires
push-requires c = (omega arith, room-left _ _ c.loop-index.index c.len-index-end.result _ c.loop-index.invariant (nodes-few c.args.picks.now c.loop-index.index) c.loop-index-test.true c.len-index-end.ensures.few)
