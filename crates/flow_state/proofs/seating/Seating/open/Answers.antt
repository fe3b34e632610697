use Rattle.std.proofs.Common.{List, ℕ, length, subst, refl, arith, ap, ◌∙◌}
use Rattle.std.specs.Vec.{vec_capacity}
use Rattle.flow_state.specs.Booked.{opened_one}
use Rattle.flow_state.specs.Seats.{Seated, count_at, one_if, Follow}
use Rattle.flow_state.proofs.SeatLemmas.{slot_read, seat_read, read_size, changed_kept, changed_seen}
use Rattle.flow_state.proofs.CountLemmas.{counted_one, counts_back, opened_follow}
use Rattle.flow_state.proofs.seating.Seating.open.Goals as goal

pub index_mut-requires : goal.index_mut-requires
index_mut-requires c =
    let at = slot_read c.self.inside.callers c.self.inside.nodes (vec_capacity c.self.inside.live) c.self.inside.seats.items c.self.inside.live.items c.self.inside.order c.args.version c.slot_of-slot.result c.args.self.now c.self.invariant.kept c.self.view_is c.requires.live c.slot_of-slot.ensures in
    let inside = at.inside in
    omega (arith, inside)

pub open-was_wanted-requires : goal.open-was_wanted-requires
open-was_wanted-requires c =
    let at = slot_read c.self.inside.callers c.self.inside.nodes (vec_capacity c.self.inside.live) c.self.inside.seats.items c.self.inside.live.items c.self.inside.order c.args.version c.slot_of-slot.result c.args.self.now c.self.invariant.kept c.self.view_is c.requires.live c.slot_of-slot.ensures in
    let size = read_size c.self.inside.callers c.self.inside.nodes (vec_capacity c.self.inside.live) c.self.inside.seats.items c.self.inside.live.items c.self.inside.order c.slot_of-slot.result c.index_mut.result.now c.args.self.now c.self.invariant.kept c.self.view_is at.inside c.index_mut.ensures.value in
    let node = c.requires.node in
    omega (arith, size, node)

pub lower-requires-clause-some : goal.lower-requires-clause-some
lower-requires-clause-some c =
    let at = slot_read c.self.inside.callers c.self.inside.nodes (vec_capacity c.self.inside.live) c.self.inside.seats.items c.self.inside.live.items c.self.inside.order c.args.version c.slot_of-slot.result c.args.self.now c.self.invariant.kept c.self.view_is c.requires.live c.slot_of-slot.ensures in
    let lent = ap (λ (cs : List ℕ). count_at cs c.args.node) c.as_mut_slice.ensures.value in
    let one = counted_one c.self.inside.counts.items c.self.inside.seats.items c.slot_of-slot.result c.index_mut.result.now c.self.invariant.counted at.inside (seat_read c.self.inside.seats.items c.slot_of-slot.result c.index_mut.result.now at.inside c.index_mut.ensures.value) c.args.node in
    let was = ap one_if c.open-was_wanted.ensures.was_wanted in
    omega (arith, one, was, lent)

pub invariant_of-self : goal.invariant_of-self
invariant_of-self c =
    let at = slot_read c.self.inside.callers c.self.inside.nodes (vec_capacity c.self.inside.live) c.self.inside.seats.items c.self.inside.live.items c.self.inside.order c.args.version c.slot_of-slot.result c.args.self.now c.self.invariant.kept c.self.view_is c.requires.live c.slot_of-slot.ensures in
    let read = seat_read c.self.inside.seats.items c.slot_of-slot.result c.index_mut.result.now at.inside c.index_mut.ensures.value in
    let follow = opened_follow c.as_mut_slice.result.now c.lower.new.counts c.args.node c.index_mut.result.now c.open-was_wanted.new.self c.open-was_wanted.result (ap (λ (s : Seated). s.call) c.open-was_wanted.ensures.seat) c.open-was_wanted.ensures.was_wanted c.lower.ensures.counts in
    let back = counts_back c.self.inside.counts.len c.self.inside.nodes c.self.inside.counts.items c.lower.new.counts c.self.inside.seats.items c.slot_of-slot.result c.index_mut.result.now c.open-was_wanted.new.self c.self.invariant.count_each c.self.invariant.counted (omega arith) (c.lower.ensures.size ∙ ap length c.as_mut_slice.ensures.value) at.inside read
    (subst (λ (cs : List ℕ). Follow cs c.index_mut.result.now.call.wanted c.lower.new.counts c.open-was_wanted.new.self.call.wanted) c.as_mut_slice.ensures.value follow) in
    record { kept = changed_kept c.self.inside.callers c.self.inside.nodes (vec_capacity c.self.inside.live) c.self.inside.seats.items c.self.inside.live.items c.self.inside.order c.args.version c.slot_of-slot.result c.index_mut.result.now c.open-was_wanted.new.self (opened_one c.args.node) (record { version = λ _. refl; slot = λ _. refl; looks = λ _. refl }) c.self.invariant.kept at c.index_mut.ensures.value c.open-was_wanted.ensures.seat; hint_count = c.self.invariant.hint_count; free_kept = c.self.invariant.free_kept; count_each = back.0; counted = back.1 }

pub returns : goal.returns
returns c =
    changed_seen c.self.inside.callers c.self.inside.nodes (vec_capacity c.self.inside.live) c.self.inside.seats.items c.self.inside.live.items c.self.inside.order c.args.version c.slot_of-slot.result c.index_mut.result.now c.open-was_wanted.new.self (opened_one c.args.node) c.args.self.now (record { version = λ _. refl; slot = λ _. refl; looks = λ _. refl }) c.self.invariant.kept c.self.view_is c.requires.live c.slot_of-slot.ensures c.index_mut.ensures.value c.open-was_wanted.ensures.seat
