use Rattle.std.proofs.Common.{◌≡◌, length}
use Rattle.flow_state.specs.Seats.{Follow}
use Rattle.flow_state.proofs.counts.want_none.Given as goal

abbrev pub invariant-loop-node : goal.invariant-loop-node
invariant-loop-node l = (l.wanted.size ≡ l.initial.wanted.size) × (length l.counts ≡ length l.initial.counts) × Follow l.initial.counts l.initial.wanted.nodes l.counts l.wanted.nodes

abbrev pub decreases-loop-node : goal.decreases-loop-node
decreases-loop-node l = length l.wanted.nodes
