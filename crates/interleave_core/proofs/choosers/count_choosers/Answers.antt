use Rattle.std.proofs.Common.{arith}
use Rattle.interleave_core.proofs.Counted.{counting_more, all_counted}
use Rattle.interleave_core.proofs.choosers.count_choosers.Goals as goal

pub loop-node-preserved : goal.loop-node-preserved
loop-node-preserved c = (
  c.count_node.ensures.up_to,
  counting_more c.args.graph.now c.loop-node.node _ _ _ _ c.loop-node.invariant.0 c.loop-node.invariant.1 c.count_node.ensures.tells,
)

pub returns : goal.returns
returns c = all_counted c.args.graph.now c.loop-node.node _ _ c.loop-node.invariant.1 (let e = c.len-len.ensures.value in omega (arith, e))
