use Rattle.node_versions.proofs.FromEnd.{IsLookedThrough}
use Rattle.std.proofs.Common.{length}
use Rattle.node_versions.proofs.list.NodeList.index_of.Given as goal

abbrev pub invariant-loop-entry : goal.invariant-loop-entry
invariant-loop-entry l = IsLookedThrough l.self.entries l.rest l.version

abbrev pub decreases-loop-entry : goal.decreases-loop-entry
decreases-loop-entry l = length l.rest
