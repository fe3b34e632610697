use Rattle.std.proofs.Common.{take}
use Rattle.signal_graph.specs.Graph.{is_in}
use Rattle.signal_graph.specs.Values.{nodes_in}
use Rattle.interleave_core.specs.Opening.{GainsEdges}
use Rattle.interleave_core.proofs.opening.add_edges.Given as goal

abbrev pub invariant-loop-index : goal.invariant-loop-index
invariant-loop-index l = GainsEdges l.node (λ m. is_in m (nodes_in (take l.index l.picks))) l.initial.lists.items l.lists.items
