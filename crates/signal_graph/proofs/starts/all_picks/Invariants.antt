use Rattle.std.proofs.Common.{◌≡◌, map, take}
use Rattle.signal_graph.specs.Values.{picks_of}
use Rattle.signal_graph.proofs.starts.all_picks.Given as goal

abbrev pub invariant-loop-node : goal.invariant-loop-node
invariant-loop-node l = l.picked.items ≡ map (λ node. picks_of node l.values) (take l.node-index l.nodes)
