use Rattle.std.proofs.Common.{arith}
use Rattle.flow_state.proofs.Walks.{set_found, set_more}
use Rattle.flow_state.proofs.seat.last_set.Goals as goal
use Rattle.flow_state.proofs.seat.last_set.Goals.{then-source-node, else-source-node}

pub loop-source-preserved : goal.loop-source-preserved
loop-source-preserved c = elim c.if-source-node.branch [
  | then-source-node w ↦ set_found c.args.sets.now c.args.node c.loop-source.source-index c.loop-source.last _ _ _ (omega arith) c.loop-source.invariant w.if-source-node.true w.last-is
  | else-source-node w ↦ set_more c.args.sets.now c.args.node c.loop-source.source-index c.loop-source.last _ _ _ (omega arith) c.loop-source.invariant w.if-source-node.false w.last-is
]
