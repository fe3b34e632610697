use Rattle.std.proofs.Common.{◌≡◌, [], map, take}
use Rattle.signal_graph.specs.Values.{values_from, start_value}
use Rattle.signal_graph.proofs.starts.start_values.Given as goal

abbrev pub invariant-loop-node : goal.invariant-loop-node
invariant-loop-node l = l.starts.items ≡ values_from [] (take l.node-index l.nodes) (map start_value l.nodes)
