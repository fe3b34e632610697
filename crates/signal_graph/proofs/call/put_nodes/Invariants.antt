use Rattle.std.proofs.Common.{◌≡◌, ◌≤◌, None, map, take, length, vec_capacity}
use Rattle.signal_graph.specs.Graph.{number_of}
use Rattle.signal_graph.specs.Machine.{first_wrong, names_node}
use Rattle.signal_graph.proofs.call.put_nodes.Given as goal

abbrev pub invariant-loop-index : goal.invariant-loop-index
invariant-loop-index l =
    (first_wrong l.from (map (names_node l.graph) (take l.index l.looks)) ≡ None)
    × (l.found.items ≡ map (number_of l.graph) (take l.index l.looks)) × (length l.found.items ≡ l.index)
    × (length l.looks ≤ vec_capacity l.found)
