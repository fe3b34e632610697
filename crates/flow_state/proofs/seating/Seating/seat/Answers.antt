use Rattle.std.proofs.Common.{arith}
use Rattle.std.specs.Vec.{vec_capacity}
use Rattle.flow_state.proofs.SeatLemmas.{slot_read, read_size, read_call}
use Rattle.flow_state.proofs.seating.Seating.seat.Goals as goal

pub index-requires : goal.index-requires
index-requires c =
    let at = slot_read c.self.inside.callers c.self.inside.nodes (vec_capacity c.self.inside.live) c.self.inside.seats.items c.self.inside.live.items c.self.inside.order c.args.version c.slot_of-slot.result c.args.self.now c.self.invariant.kept c.self.view_is c.requires c.slot_of-slot.ensures in
    let inside = at.inside in
    omega (arith, inside)

pub returns-clause-call : goal.returns-clause-call
returns-clause-call c =
    let at = slot_read c.self.inside.callers c.self.inside.nodes (vec_capacity c.self.inside.live) c.self.inside.seats.items c.self.inside.live.items c.self.inside.order c.args.version c.slot_of-slot.result c.args.self.now c.self.invariant.kept c.self.view_is c.requires c.slot_of-slot.ensures in
    read_call c.self.inside.callers c.self.inside.nodes c.self.inside.seats.items c.self.inside.live.items c.self.inside.order c.args.version c.slot_of-slot.result c.index.result.now c.args.self.now c.self.view_is at c.index.ensures

pub returns-clause-size : goal.returns-clause-size
returns-clause-size c =
    let at = slot_read c.self.inside.callers c.self.inside.nodes (vec_capacity c.self.inside.live) c.self.inside.seats.items c.self.inside.live.items c.self.inside.order c.args.version c.slot_of-slot.result c.args.self.now c.self.invariant.kept c.self.view_is c.requires c.slot_of-slot.ensures in
    read_size c.self.inside.callers c.self.inside.nodes (vec_capacity c.self.inside.live) c.self.inside.seats.items c.self.inside.live.items c.self.inside.order c.slot_of-slot.result c.index.result.now c.args.self.now c.self.invariant.kept c.self.view_is at.inside c.index.ensures
