use Rattle.std.proofs.Common.{arith, ◌∙◌}
use Rattle.signal_graph.proofs.GraphOuts.{inputs_known, outs_below, outs_step}
use Rattle.signal_graph.proofs.outs.static_outs.Goals as goal

pub add_outs-requires-clause-known : goal.add_outs-requires-clause-known
add_outs-requires-clause-known c =
    inputs_known c.args.nodes.now c.loop-number.number _ c.index-nodes-number.result c.inputs.result.now c.requires.earlier c.loop-number-test.true (omega arith) c.index-nodes-number.is c.inputs.ensures

pub add_outs-requires-clause-below : goal.add_outs-requires-clause-below
add_outs-requires-clause-below c =
    outs_below c.args.nodes.now c.loop-number.number _ c.loop-number.lists.items (omega arith) c.loop-number.invariant.0 c.loop-number.invariant.1

pub loop-number-preserved : goal.loop-number-preserved
loop-number-preserved c = (
  c.in_ok-add_outs.ensures.len ∙ c.loop-number.invariant.0,
  outs_step c.args.nodes.now c.loop-number.number _ c.index-nodes-number.result c.inputs.result.now c.loop-number.lists.items c.add_outs.new.lists.items c.loop-number-test.true c.loop-number.invariant.0 c.index-nodes-number.is c.inputs.ensures c.loop-number.invariant.1 c.in_ok-add_outs.ensures.added,
)
