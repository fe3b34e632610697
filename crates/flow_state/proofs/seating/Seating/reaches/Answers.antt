use Rattle.std.proofs.Common.{◌∙◌}
use Rattle.std.specs.Vec.{vec_capacity}
use Rattle.flow_state.proofs.SeatLemmas.{slot_read}
use Rattle.flow_state.proofs.PairLemmas.{reach_seen, slot_fits}
use Rattle.flow_state.proofs.seating.Seating.reaches.Goals as goal

pub precedes-requires-clause-a_is_slot : goal.precedes-requires-clause-a_is_slot
precedes-requires-clause-a_is_slot c =
    let s = c.self.inside in
    let at = slot_read s.callers s.nodes (vec_capacity s.live) s.seats.items s.live.items s.order c.args.before c.slot_of-first.result c.args.self.now c.self.invariant.kept c.self.view_is c.requires.before c.slot_of-first.ensures in
    slot_fits s.callers s.nodes (vec_capacity s.live) s.seats.items s.live.items s.order c.args.before c.slot_of-first.result c.self.invariant.kept at

pub precedes-requires-clause-b_is_slot : goal.precedes-requires-clause-b_is_slot
precedes-requires-clause-b_is_slot c =
    let s = c.self.inside in
    let at = slot_read s.callers s.nodes (vec_capacity s.live) s.seats.items s.live.items s.order c.args.after c.slot_of-second.result c.args.self.now c.self.invariant.kept c.self.view_is c.requires.after c.slot_of-second.ensures in
    slot_fits s.callers s.nodes (vec_capacity s.live) s.seats.items s.live.items s.order c.args.after c.slot_of-second.result c.self.invariant.kept at

pub returns : goal.returns
returns c =
    let s = c.self.inside in
    let a = slot_read s.callers s.nodes (vec_capacity s.live) s.seats.items s.live.items s.order c.args.before c.slot_of-first.result c.args.self.now c.self.invariant.kept c.self.view_is c.requires.before c.slot_of-first.ensures in
    let b = slot_read s.callers s.nodes (vec_capacity s.live) s.seats.items s.live.items s.order c.args.after c.slot_of-second.result c.args.self.now c.self.invariant.kept c.self.view_is c.requires.after c.slot_of-second.ensures in
    c.precedes.ensures.test ∙ reach_seen s.callers s.nodes (vec_capacity s.live) s.seats.items s.live.items s.order c.args.before c.args.after c.slot_of-first.result c.slot_of-second.result c.args.self.now c.self.invariant.kept c.self.view_is a b
