use Rattle.flow_state.specs.Seats.{free_seat}
use Rattle.flow_state.proofs.Openings.{one_more}
use Rattle.flow_state.proofs.seating.free_seats.Goals as goal

pub loop-slot-preserved : goal.loop-slot-preserved
loop-slot-preserved c = one_more (free_seat c.args.nodes) c.loop-slot.slot c.loop-slot.seats.items _ c.in_ok-seat.seat c.in_ok-push.ensures.items c.loop-slot.invariant c.in_ok-seat.ensures
