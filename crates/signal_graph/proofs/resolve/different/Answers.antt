use Rattle.signal_graph.proofs.BuilderLists.{different-step}
use Rattle.signal_graph.proofs.resolve.different.Goals as goal

pub loop-input-preserved : goal.loop-input-preserved
loop-input-preserved c =
    let step = different-step c.args.inputs.now c.loop-input.input-index 0 c.loop-input-test.true in cc (c.in_ok-add_new.ensures)
