use Rattle.std.proofs.Common.{◌≡◌, ◌*◌, ◌≤◌, map}
use Rattle.std.specs.List.{range_with_len, sum}
use Rattle.flow_state.specs.Booked.{room_at}
use Rattle.flow_state.specs.Shelves.{laid_out}
use Rattle.flow_state.proofs.shelf.laid_out.Given as goal

abbrev pub invariant-loop-node : goal.invariant-loop-node
invariant-loop-node l = (l.shelves.items ≡ laid_out 0 (map (room_at l.graph) (range_with_len 0 l.node))) × (l.places ≡ sum (map (room_at l.graph) (range_with_len 0 l.node))) × (l.places ≤ 68 * l.node)
