use Rattle.interleave_core.specs.Choosers.{IsUpTo}
use Rattle.interleave_core.proofs.Counted.{IsCounted}
use Rattle.interleave_core.proofs.choosers.count_choosers.Given as goal

abbrev pub invariant-loop-node : goal.invariant-loop-node
invariant-loop-node l = IsUpTo l.node l.tally.counts.items l.tally.marks.items × IsCounted l.graph l.node l.tally.counts.items l.tally.marks.items
