use Rattle.std.proofs.Common.{◌≡◌, take}
use Rattle.signal_graph.specs.Graph.{inputs_of_all}
use Rattle.signal_graph.proofs.resolve.inputs_of_all.Given as goal

abbrev pub invariant-loop-selector : goal.invariant-loop-selector
invariant-loop-selector l = l.inputs ≡ inputs_of_all (take l.selector-index l.selectors)
