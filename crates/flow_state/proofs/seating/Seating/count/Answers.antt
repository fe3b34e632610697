use Rattle.std.proofs.Common.{refl, ap, arith}
use Rattle.std.specs.Vec.{vec_capacity}
use Rattle.flow_model.specs.Machine.State.{LiveCall}
use Rattle.flow_model.specs.Machine.Steps.{counted}
use Rattle.flow_state.specs.Seats.{Seated}
use Rattle.flow_state.proofs.SeatLemmas.{slot_read, seat_read, read_call, changed_kept, changed_seen}
use Rattle.flow_state.proofs.CountLemmas.{counted_still}
use Rattle.flow_state.proofs.seating.Seating.count.Goals as goal

pub index_mut-requires : goal.index_mut-requires
index_mut-requires c =
    let at = slot_read c.self.inside.callers c.self.inside.nodes (vec_capacity c.self.inside.live) c.self.inside.seats.items c.self.inside.live.items c.self.inside.order c.args.version c.slot_of-slot.result c.args.self.now c.self.invariant.kept c.self.view_is c.requires.live c.slot_of-slot.ensures in
    let inside = at.inside in
    omega (arith, inside)

pub count-requires : goal.count-requires
count-requires c =
    let at = slot_read c.self.inside.callers c.self.inside.nodes (vec_capacity c.self.inside.live) c.self.inside.seats.items c.self.inside.live.items c.self.inside.order c.args.version c.slot_of-slot.result c.args.self.now c.self.invariant.kept c.self.view_is c.requires.live c.slot_of-slot.ensures in
    let call = read_call c.self.inside.callers c.self.inside.nodes c.self.inside.seats.items c.self.inside.live.items c.self.inside.order c.args.version c.slot_of-slot.result c.index_mut.result.now c.args.self.now c.self.view_is at c.index_mut.ensures.value in
    let same = ap (λ (x : LiveCall). x.evaluated) call in
    let few = c.requires.few in
    omega (arith, same, few)

pub invariant_of-self : goal.invariant_of-self
invariant_of-self c =
    let at = slot_read c.self.inside.callers c.self.inside.nodes (vec_capacity c.self.inside.live) c.self.inside.seats.items c.self.inside.live.items c.self.inside.order c.args.version c.slot_of-slot.result c.args.self.now c.self.invariant.kept c.self.view_is c.requires.live c.slot_of-slot.ensures in
    let read = seat_read c.self.inside.seats.items c.slot_of-slot.result c.index_mut.result.now at.inside c.index_mut.ensures.value in
    record { kept = changed_kept c.self.inside.callers c.self.inside.nodes (vec_capacity c.self.inside.live) c.self.inside.seats.items c.self.inside.live.items c.self.inside.order c.args.version c.slot_of-slot.result c.index_mut.result.now c.count.new.self counted (record { version = λ _. refl; slot = λ _. refl; looks = λ _. refl }) c.self.invariant.kept at c.index_mut.ensures.value c.count.ensures; hint_count = c.self.invariant.hint_count; free_kept = c.self.invariant.free_kept; count_each = c.self.invariant.count_each; counted = counted_still c.self.inside.counts.items c.self.inside.seats.items c.slot_of-slot.result c.index_mut.result.now c.count.new.self c.self.invariant.counted at.inside read (ap (λ (s : Seated). s.call.wanted) c.count.ensures) }

pub returns : goal.returns
returns c =
    changed_seen c.self.inside.callers c.self.inside.nodes (vec_capacity c.self.inside.live) c.self.inside.seats.items c.self.inside.live.items c.self.inside.order c.args.version c.slot_of-slot.result c.index_mut.result.now c.count.new.self counted c.args.self.now (record { version = λ _. refl; slot = λ _. refl; looks = λ _. refl }) c.self.invariant.kept c.self.view_is c.requires.live c.slot_of-slot.ensures c.index_mut.ensures.value c.count.ensures
