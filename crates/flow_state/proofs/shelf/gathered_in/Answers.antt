use Rattle.std.proofs.Common.{arith}
use Rattle.flow_state.proofs.Walks.{gathered_found, gathered_more}
use Rattle.flow_state.proofs.shelf.gathered_in.Goals as goal

pub returns-then-node-input : goal.returns-then-node-input
returns-then-node-input c = gathered_found c.args.gathered.now c.args.input c.loop-node.node-index _ (omega arith) c.loop-node.invariant c.if-node-input.true

pub loop-node-preserved : goal.loop-node-preserved
loop-node-preserved c = gathered_more c.args.gathered.now c.args.input c.loop-node.node-index _ (omega arith) c.loop-node.invariant c.if-node-input.false
