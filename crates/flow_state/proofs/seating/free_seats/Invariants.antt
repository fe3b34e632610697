use Rattle.std.proofs.Common.{◌≡◌, map}
use Rattle.std.specs.List.{range_with_len}
use Rattle.flow_state.specs.Seats.{free_seat}
use Rattle.flow_state.proofs.seating.free_seats.Given as goal

abbrev pub invariant-loop-slot : goal.invariant-loop-slot
invariant-loop-slot l = l.seats.items ≡ map (free_seat l.nodes) (range_with_len 0 l.slot)
