use Rattle.std.proofs.Common.{length}
use Rattle.node_versions.proofs.LastDone.{IsSearched}
use Rattle.node_versions.proofs.list.last_done_place.Given as goal

abbrev pub invariant-loop-entry : goal.invariant-loop-entry
invariant-loop-entry l = IsSearched l.fn.entries l.rest

abbrev pub decreases-loop-entry : goal.decreases-loop-entry
decreases-loop-entry l = length l.rest
