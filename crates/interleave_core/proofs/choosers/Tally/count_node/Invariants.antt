use Rattle.std.proofs.Common.{◌+◌, take}
use Rattle.signal_graph.specs.Graph.{node_at, selectors_of}
use Rattle.flow_model.specs.Kept.Lawful.{lists_candidate}
use Rattle.interleave_core.specs.Choosers.{Tells, IsUpTo}
use Rattle.interleave_core.proofs.choosers.Tally.count_node.Given as goal

abbrev pub invariant-loop-selector : goal.invariant-loop-selector
invariant-loop-selector l =
    IsUpTo (l.node + 1) l.self.counts.items l.self.marks.items
    × Tells l.node (λ m. lists_candidate m (take l.selector-index (selectors_of (node_at l.graph l.node)))) l.initial.self.counts.items l.initial.self.marks.items l.self.counts.items l.self.marks.items
