use Rattle.std.proofs.Common.{◌+◌, take}
use Rattle.signal_graph.specs.Graph.{is_in}
use Rattle.interleave_core.specs.Choosers.{Tells, IsUpTo}
use Rattle.interleave_core.proofs.choosers.Tally.count_all.Given as goal

abbrev pub invariant-loop-candidate : goal.invariant-loop-candidate
invariant-loop-candidate l =
    IsUpTo (l.node + 1) l.self.counts.items l.self.marks.items
    × Tells l.node (λ m. is_in m (take l.candidate-index l.candidates)) l.initial.self.counts.items l.initial.self.marks.items l.self.counts.items l.self.marks.items
