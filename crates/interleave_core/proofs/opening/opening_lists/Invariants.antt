use Rattle.interleave_core.proofs.StartEdges.{IsOpened}
use Rattle.interleave_core.proofs.opening.opening_lists.Given as goal

abbrev pub invariant-loop-node : goal.invariant-loop-node
invariant-loop-node l = IsOpened l.graph l.callers l.node l.lists.items
