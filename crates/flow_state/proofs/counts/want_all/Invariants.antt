use Rattle.std.proofs.Common.{◌≡◌, drop, length}
use Rattle.flow_model.specs.Machine.Sets.{put_all}
use Rattle.flow_model.specs.Machine.Steps.{nodes_set}
use Rattle.flow_state.specs.Seats.{Follow}
use Rattle.flow_state.proofs.counts.want_all.Given as goal

abbrev pub invariant-loop-node : goal.invariant-loop-node
invariant-loop-node l = (put_all (nodes_set (drop l.node-index l.sets)) l.wanted.nodes ≡ put_all (nodes_set l.sets) l.initial.wanted.nodes) × (l.wanted.size ≡ l.initial.wanted.size) × (length l.counts ≡ length l.initial.counts) × Follow l.initial.counts l.initial.wanted.nodes l.counts l.wanted.nodes
