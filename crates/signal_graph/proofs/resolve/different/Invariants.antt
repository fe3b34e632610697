use Rattle.std.proofs.Common.{◌≡◌, take}
use Rattle.signal_graph.specs.Graph.{different}
use Rattle.signal_graph.proofs.resolve.different.Given as goal

abbrev pub invariant-loop-input : goal.invariant-loop-input
invariant-loop-input l = l.found ≡ different (take l.input-index l.inputs)
