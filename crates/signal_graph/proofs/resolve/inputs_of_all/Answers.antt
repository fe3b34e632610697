use Rattle.signal_graph.proofs.BuilderLists.{inputs_of_all-step}
use Rattle.signal_graph.proofs.resolve.inputs_of_all.Goals as goal

pub loop-selector-preserved : goal.loop-selector-preserved
loop-selector-preserved c =
    let step = inputs_of_all-step c.args.selectors.now c.loop-selector.selector-index c.selector-item.result c.loop-selector-test.true in
    cc (c.in_ok-extend_from_slice.ensures.ok, c.as_slice.ensures, c.selector-item.is)
