use Rattle.std.proofs.Common.{◌∙◌}
use Rattle.std.specs.Vec.{vec_capacity}
use Rattle.flow_state.proofs.SeatLemmas.{slot_read}
use Rattle.flow_state.proofs.PairLemmas.{reach_seen, slot_fits, slots_apart, not_reached, link_kept, link_seen}
use Rattle.flow_state.proofs.seating.Seating.link.Goals as goal

pub link-requires-clause-a_is_slot : goal.link-requires-clause-a_is_slot
link-requires-clause-a_is_slot c =
    let s = c.self.inside in
    let at = slot_read s.callers s.nodes (vec_capacity s.live) s.seats.items s.live.items s.order c.args.before c.slot_of-first.result c.args.self.now c.self.invariant.kept c.self.view_is c.requires.before c.slot_of-first.ensures in
    slot_fits s.callers s.nodes (vec_capacity s.live) s.seats.items s.live.items s.order c.args.before c.slot_of-first.result c.self.invariant.kept at

pub link-requires-clause-b_is_slot : goal.link-requires-clause-b_is_slot
link-requires-clause-b_is_slot c =
    let s = c.self.inside in
    let at = slot_read s.callers s.nodes (vec_capacity s.live) s.seats.items s.live.items s.order c.args.after c.slot_of-second.result c.args.self.now c.self.invariant.kept c.self.view_is c.requires.after c.slot_of-second.ensures in
    slot_fits s.callers s.nodes (vec_capacity s.live) s.seats.items s.live.items s.order c.args.after c.slot_of-second.result c.self.invariant.kept at

pub link-requires-clause-apart : goal.link-requires-clause-apart
link-requires-clause-apart c =
    let s = c.self.inside in
    let a = slot_read s.callers s.nodes (vec_capacity s.live) s.seats.items s.live.items s.order c.args.before c.slot_of-first.result c.args.self.now c.self.invariant.kept c.self.view_is c.requires.before c.slot_of-first.ensures in
    let b = slot_read s.callers s.nodes (vec_capacity s.live) s.seats.items s.live.items s.order c.args.after c.slot_of-second.result c.args.self.now c.self.invariant.kept c.self.view_is c.requires.after c.slot_of-second.ensures in
    slots_apart s.seats.items s.live.items c.args.before c.args.after c.slot_of-first.result c.slot_of-second.result a b c.requires.apart

pub link-requires-clause-forward : goal.link-requires-clause-forward
link-requires-clause-forward c =
    let s = c.self.inside in
    let a = slot_read s.callers s.nodes (vec_capacity s.live) s.seats.items s.live.items s.order c.args.before c.slot_of-first.result c.args.self.now c.self.invariant.kept c.self.view_is c.requires.before c.slot_of-first.ensures in
    let b = slot_read s.callers s.nodes (vec_capacity s.live) s.seats.items s.live.items s.order c.args.after c.slot_of-second.result c.args.self.now c.self.invariant.kept c.self.view_is c.requires.after c.slot_of-second.ensures in
    not_reached s.order.pairs c.slot_of-second.result c.slot_of-first.result
    (reach_seen s.callers s.nodes (vec_capacity s.live) s.seats.items s.live.items s.order c.args.after c.args.before c.slot_of-second.result c.slot_of-first.result c.args.self.now c.self.invariant.kept c.self.view_is b a ∙ c.requires.forward)

pub invariant_of-self : goal.invariant_of-self
invariant_of-self c =
    let s = c.self.inside in
    let a = slot_read s.callers s.nodes (vec_capacity s.live) s.seats.items s.live.items s.order c.args.before c.slot_of-first.result c.args.self.now c.self.invariant.kept c.self.view_is c.requires.before c.slot_of-first.ensures in
    let b = slot_read s.callers s.nodes (vec_capacity s.live) s.seats.items s.live.items s.order c.args.after c.slot_of-second.result c.args.self.now c.self.invariant.kept c.self.view_is c.requires.after c.slot_of-second.ensures in
    record { kept = link_kept s.callers s.nodes (vec_capacity s.live) s.seats.items s.live.items s.order c.link.new.self c.args.before c.args.after c.slot_of-first.result c.slot_of-second.result c.args.node c.self.invariant.kept a b c.link.ensures.callers c.link.ensures.pairs; hint_count = c.self.invariant.hint_count; free_kept = c.self.invariant.free_kept; count_each = c.self.invariant.count_each; counted = c.self.invariant.counted }

pub returns : goal.returns
returns c =
    let s = c.self.inside in
    let a = slot_read s.callers s.nodes (vec_capacity s.live) s.seats.items s.live.items s.order c.args.before c.slot_of-first.result c.args.self.now c.self.invariant.kept c.self.view_is c.requires.before c.slot_of-first.ensures in
    let b = slot_read s.callers s.nodes (vec_capacity s.live) s.seats.items s.live.items s.order c.args.after c.slot_of-second.result c.args.self.now c.self.invariant.kept c.self.view_is c.requires.after c.slot_of-second.ensures in
    link_seen s.callers s.nodes (vec_capacity s.live) s.seats.items s.live.items s.order c.link.new.self c.args.before c.args.after c.slot_of-first.result c.slot_of-second.result c.args.node c.args.self.now c.self.invariant.kept c.self.view_is a b c.link.ensures.pairs
