use Rattle.std.proofs.Common.{List, ℕ, set, sym, ap, ◌∙◌, subst, arith}
use Rattle.std.specs.Vec.{vec_capacity}
use Rattle.flow_model.specs.Machine.Steps.{logged}
use Rattle.flow_state.specs.Seats.{live_calls, AreSeats}
use Rattle.flow_state.specs.declared.seating.Tenant.{Tenant}
use Rattle.flow_state.proofs.SeatLemmas.{slot_read, seat_read, read_call}
use Rattle.flow_state.proofs.PairLemmas.{slot_fits}
use Rattle.flow_state.proofs.FreeSlots.{free_given}
use Rattle.flow_state.proofs.Leaving.{none_before, left_kept, left_seen, left_fewer}
use Rattle.flow_state.proofs.CountLemmas.{counted_still}
use Rattle.flow_state.proofs.seating.Seating.end.Goals as goal

pub retire-requires-clause-a_is_slot : goal.retire-requires-clause-a_is_slot
retire-requires-clause-a_is_slot c =
    let s = c.self.inside in
    let at = slot_read s.callers s.nodes (vec_capacity s.live) s.seats.items s.live.items s.order c.args.version c.slot_of-slot.result c.args.self.now c.self.invariant.kept c.self.view_is c.requires.live c.slot_of-slot.ensures in
    slot_fits s.callers s.nodes (vec_capacity s.live) s.seats.items s.live.items s.order c.args.version c.slot_of-slot.result c.self.invariant.kept at

pub retire-requires-clause-first : goal.retire-requires-clause-first
retire-requires-clause-first c =
    let s = c.self.inside in
    let at = slot_read s.callers s.nodes (vec_capacity s.live) s.seats.items s.live.items s.order c.args.version c.slot_of-slot.result c.args.self.now c.self.invariant.kept c.self.view_is c.requires.live c.slot_of-slot.ensures in
    none_before s.callers s.nodes (vec_capacity s.live) s.seats.items s.live.items s.order c.args.version c.slot_of-slot.result c.args.self.now c.self.invariant.kept c.self.view_is at c.requires.first

pub index_mut-requires : goal.index_mut-requires
index_mut-requires c =
    let s = c.self.inside in
    let at = slot_read s.callers s.nodes (vec_capacity s.live) s.seats.items s.live.items s.order c.args.version c.slot_of-slot.result c.args.self.now c.self.invariant.kept c.self.view_is c.requires.live c.slot_of-slot.ensures in
    let inside = at.inside in
    omega (arith, inside)

pub returns-clause-logged : goal.returns-clause-logged
returns-clause-logged c =
    let s = c.self.inside in
    let at = slot_read s.callers s.nodes (vec_capacity s.live) s.seats.items s.live.items s.order c.args.version c.slot_of-slot.result c.args.self.now c.self.invariant.kept c.self.view_is c.requires.live c.slot_of-slot.ensures in
    c.end.ensures.logged ∙ ap logged (read_call s.callers s.nodes s.seats.items s.live.items s.order c.args.version c.slot_of-slot.result c.index_mut.result.now c.args.self.now c.self.view_is at c.index_mut.ensures.value)

pub invariant_of-self : goal.invariant_of-self
invariant_of-self c =
    let s = c.self.inside in
    let at = slot_read s.callers s.nodes (vec_capacity s.live) s.seats.items s.live.items s.order c.args.version c.slot_of-slot.result c.args.self.now c.self.invariant.kept c.self.view_is c.requires.live c.slot_of-slot.ensures in
    let P : ℕ → List Tenant → Type 0 = λ cap xs. AreSeats s.callers s.nodes cap (set s.seats.items c.slot_of-slot.result c.end.new.self) xs c.retire.new.self in
    let kept = left_kept s.callers s.nodes (vec_capacity s.live) s.seats.items s.live.items s.order c.retire.new.self c.args.version c.slot_of-slot.result c.index_mut.result.now c.end.new.self c.self.invariant.kept at
    (seat_read s.seats.items c.slot_of-slot.result c.index_mut.result.now at.inside c.index_mut.ensures.value) (record { version = c.end.ensures.version; slot = c.end.ensures.slot; size = c.end.ensures.size })
    c.retire.ensures.callers c.retire.ensures.pairs in
    record {
      kept = subst (λ (cap : ℕ). P cap c.take_tenant.new.live.items) (sym c.take_tenant.ensures.capacity) (subst (P (vec_capacity s.live)) (sym c.take_tenant.ensures.items) kept);
      hint_count = c.self.invariant.hint_count;
      free_kept = free_given s.callers s.seats.items s.live.items c.take_tenant.new.live.items c.args.version c.slot_of-slot.result s.free c.insert.new.self (vec_capacity s.live) s.nodes s.order c.self.invariant.kept at c.self.invariant.free_kept c.take_tenant.ensures.items c.insert.ensures.nodes;
      count_each = c.self.invariant.count_each;
      counted = counted_still s.counts.items s.seats.items c.slot_of-slot.result c.index_mut.result.now c.end.new.self c.self.invariant.counted at.inside (seat_read s.seats.items c.slot_of-slot.result c.index_mut.result.now at.inside c.index_mut.ensures.value) c.end.ensures.wanted;
    }

pub insert-requires : goal.insert-requires
insert-requires c =
    let s = c.self.inside in
    let at = slot_read s.callers s.nodes (vec_capacity s.live) s.seats.items s.live.items s.order c.args.version c.slot_of-slot.result c.args.self.now c.self.invariant.kept c.self.view_is c.requires.live c.slot_of-slot.ensures in
    let inside = at.inside in
    let count = c.self.invariant.kept.count in
    let size = c.self.invariant.free_kept.size in
    omega (arith, inside, count, size)

pub returns-clause-left : goal.returns-clause-left
returns-clause-left c =
    let s = c.self.inside in
    let at = slot_read s.callers s.nodes (vec_capacity s.live) s.seats.items s.live.items s.order c.args.version c.slot_of-slot.result c.args.self.now c.self.invariant.kept c.self.view_is c.requires.live c.slot_of-slot.ensures in
    ap (λ (xs : List Tenant). live_calls s.callers s.nodes (set s.seats.items c.slot_of-slot.result c.end.new.self) xs c.retire.new.self) c.take_tenant.ensures.items
    ∙ left_seen s.callers s.nodes (vec_capacity s.live) s.seats.items s.live.items s.order c.retire.new.self c.args.version c.slot_of-slot.result c.end.new.self c.args.self.now c.self.invariant.kept c.self.view_is at c.retire.ensures.pairs

pub returns-clause-fewer : goal.returns-clause-fewer
returns-clause-fewer c =
    let s = c.self.inside in
    let at = slot_read s.callers s.nodes (vec_capacity s.live) s.seats.items s.live.items s.order c.args.version c.slot_of-slot.result c.args.self.now c.self.invariant.kept c.self.view_is c.requires.live c.slot_of-slot.ensures in
    left_fewer s.callers s.nodes (vec_capacity s.live) s.seats.items _ s.live.items c.take_tenant.new.live.items s.live.items s.order c.args.version c.slot_of-slot.result c.args.self.now c.self.invariant.kept c.self.view_is c.requires.live c.take_tenant.ensures.items
