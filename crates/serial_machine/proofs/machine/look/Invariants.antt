use Rattle.std.proofs.Common.{◌≡◌, ◌≤◌, map, take, length}
use Rattle.std.specs.Prelude.{vec_len, vec_capacity}
use Rattle.signal_graph.specs.Values.{at}
use Rattle.serial_machine.proofs.machine.look.Given as goal

abbrev pub invariant-loop-node : goal.invariant-loop-node
invariant-loop-node l = (l.seen.items ≡ map (at l.values) (take l.node-index l.nodes)) × (vec_len l.seen ≡ l.node-index) × (length l.nodes ≤ vec_capacity l.seen)
