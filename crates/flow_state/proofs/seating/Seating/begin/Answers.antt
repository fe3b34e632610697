use Rattle.std.proofs.Common.{◌≡◌, ◌<◌, ◌≤◌, ℕ, List, true, false, length, sym, ap, subst, ◌∙◌, arith, length-set}
use Rattle.std.specs.Vec.{vec_capacity}
use Rattle.signal_graph.specs.Graph.{is_in}
use Rattle.flow_model.specs.Machine.Steps.{uses_slot}
use Rattle.flow_state.specs.declared.seating.Tenant.{Tenant}
use Rattle.flow_state.specs.Booked.{begun_call}
use Rattle.flow_state.specs.Seats.{Seated, LiveCalls, has_call, has_slot, has_version, one_if, count_at, Follow}
use Rattle.flow_state.proofs.SeatLemmas.{calls-has, seat_read}
use Rattle.flow_state.proofs.Beginning.{slot_used, few_live, taken_by, begun_kept, begun_seen}
use Rattle.flow_state.proofs.CountLemmas.{counted_one, counts_few, counts_back}
use Rattle.flow_state.proofs.FreeSlots.{free_taken}
use Rattle.flow_state.proofs.seating.Seating.begin.Goals as goal

pub push_reserved-requires : goal.push_reserved-requires
push_reserved-requires c =
    let s = c.self.inside in
    let k = c.free_slot-slot.result in
    let below : k < s.callers = let h = c.requires.slot in let e = c.free_slot-slot.ensures.slot in let v = ap (λ (l : LiveCalls). l.callers) c.self.view_is in omega (arith, h, e, v) in
    let unused : has_slot s.live.items k ≡ false = sym (slot_used s.callers s.nodes (vec_capacity s.live) s.seats.items s.live.items s.order k c.self.invariant.kept) ∙ ap (λ (l : LiveCalls). uses_slot k l.calls) c.self.view_is ∙ c.free_slot-slot.ensures.free (let v = ap (λ (l : LiveCalls). l.callers) c.self.view_is in omega (arith, below, v)) in
    let few = few_live s.callers s.nodes (vec_capacity s.live) s.seats.items s.live.items s.order k c.self.invariant.kept below unused in
    let room = c.self.invariant.kept.room in
    omega (arith, few, room)

pub remove-requires : goal.remove-requires
remove-requires c =
    let s = c.self.inside in
    let h = c.requires.slot in
    let e = c.free_slot-slot.ensures.slot in
    let v = ap (λ (l : LiveCalls). l.callers) c.self.view_is in
    let size = c.self.invariant.free_kept.size in
    omega (arith, h, e, v, size)

pub begin-last-requires-clause-counted : goal.begin-last-requires-clause-counted
begin-last-requires-clause-counted c =
    let s = c.self.inside in
    let k = c.free_slot-slot.result in
    let below : k < s.callers = let h = c.requires.slot in let e = c.free_slot-slot.ensures.slot in let v = ap (λ (l : LiveCalls). l.callers) c.self.view_is in omega (arith, h, e, v) in
    let count = c.self.invariant.kept.count in
    let inside : k < length s.seats.items = omega (arith, below, count) in
    let read = seat_read s.seats.items k c.index_mut.result.now inside c.index_mut.ensures.value in
    subst (λ (cs : List ℕ). (n : ℕ) → one_if (is_in n c.index_mut.result.now.call.wanted) ≤ count_at cs n) (sym c.as_mut_slice-counts.ensures.value) (counted_one s.counts.items s.seats.items k c.index_mut.result.now c.self.invariant.counted inside read)

pub begin-last-requires-clause-few : goal.begin-last-requires-clause-few
begin-last-requires-clause-few c =
    let s = c.self.inside in
    let count = c.self.invariant.kept.count in
    let few_callers = c.self.invariant.kept.few in
    subst (λ (cs : List ℕ). (n : ℕ) → count_at cs n ≤ 256) (sym c.as_mut_slice-counts.ensures.value) (counts_few s.counts.items s.seats.items c.self.invariant.counted (omega (arith, count, few_callers)))

pub invariant_of-self : goal.invariant_of-self
invariant_of-self c =
    let s = c.self.inside in
    let k = c.free_slot-slot.result in
    let below : k < s.callers = let h = c.requires.slot in let e = c.free_slot-slot.ensures.slot in let v = ap (λ (l : LiveCalls). l.callers) c.self.view_is in omega (arith, h, e, v) in
    let unused : has_slot s.live.items k ≡ false = sym (slot_used s.callers s.nodes (vec_capacity s.live) s.seats.items s.live.items s.order k c.self.invariant.kept) ∙ ap (λ (l : LiveCalls). uses_slot k l.calls) c.self.view_is ∙ c.free_slot-slot.ensures.free (let v = ap (λ (l : LiveCalls). l.callers) c.self.view_is in omega (arith, below, v)) in
    let n : Tenant = record { version = c.args.version; slot = k } in
    let count = c.self.invariant.kept.count in
    let read = seat_read s.seats.items k c.index_mut.result.now (omega (arith, below, count)) c.index_mut.ensures.value in
    let slot = ap (λ (x : Seated). x.call.slot) read ∙ c.self.invariant.kept.slots k below in
    let size = ap (λ (x : Seated). x.size) read ∙ c.self.invariant.kept.sizes k below in
    let newest : (t : ℕ) → has_version s.live.items t ≡ true → t < c.args.version = λ t h. c.requires.newest t (sym (ap (λ (l : LiveCalls). has_call l t) c.self.view_is) ∙ calls-has s.seats.items s.live.items t c.self.invariant.kept.tenants ∙ h) in
    let inside : k < length s.seats.items = omega (arith, below, count) in
    let back = counts_back s.counts.len s.nodes s.counts.items c.begin-last.new.counts s.seats.items k c.index_mut.result.now c.begin-last.new.self c.self.invariant.count_each c.self.invariant.counted (omega arith) (c.begin-last.ensures.count_each ∙ ap length c.as_mut_slice-counts.ensures.value) inside read
    (subst (λ (cs : List ℕ). Follow cs c.index_mut.result.now.call.wanted c.begin-last.new.counts c.begin-last.new.self.call.wanted) c.as_mut_slice-counts.ensures.value c.begin-last.ensures.counts) in
    record {
      kept = begun_kept s.callers s.nodes (vec_capacity s.live) _ s.seats.items s.live.items c.push_reserved.new.self.items s.order n c.begin-last.new.self c.self.invariant.kept below
          (taken_by c.args.room c.args.caller c.args.version k s.nodes c.args.call c.index_mut.result.now c.begin-last.new.self c.requires.some slot size c.begin-last.ensures.seat) newest unused c.push_reserved.ensures.items c.push_reserved.ensures.capacity;
      hint_count = length-set _ _ _ ∙ c.self.invariant.hint_count;
      free_kept = free_taken s.callers s.live.items c.push_reserved.new.self.items n s.free c.remove.new.self c.self.invariant.free_kept c.push_reserved.ensures.items c.remove.ensures.nodes;
      count_each = back.0;
      counted = back.1;
    }

pub returns : goal.returns
returns c =
    let s = c.self.inside in
    let k = c.free_slot-slot.result in
    let below : k < s.callers = let h = c.requires.slot in let e = c.free_slot-slot.ensures.slot in let v = ap (λ (l : LiveCalls). l.callers) c.self.view_is in omega (arith, h, e, v) in
    let unused : has_slot s.live.items k ≡ false = sym (slot_used s.callers s.nodes (vec_capacity s.live) s.seats.items s.live.items s.order k c.self.invariant.kept) ∙ ap (λ (l : LiveCalls). uses_slot k l.calls) c.self.view_is ∙ c.free_slot-slot.ensures.free (let v = ap (λ (l : LiveCalls). l.callers) c.self.view_is in omega (arith, below, v)) in
    let n : Tenant = record { version = c.args.version; slot = k } in
    let count = c.self.invariant.kept.count in
    let read = seat_read s.seats.items k c.index_mut.result.now (omega (arith, below, count)) c.index_mut.ensures.value in
    let slot = ap (λ (x : Seated). x.call.slot) read ∙ c.self.invariant.kept.slots k below in
    let size = ap (λ (x : Seated). x.size) read ∙ c.self.invariant.kept.sizes k below in
    let call = ap (λ (x : Seated). x.call) c.begin-last.ensures.seat ∙ ap (λ j. begun_call c.args.room c.args.caller c.args.version j c.args.call) (slot ∙ c.free_slot-slot.ensures.slot) in
    begun_seen s.callers s.nodes (vec_capacity s.live) s.seats.items s.live.items c.push_reserved.new.self.items s.order n c.begin-last.new.self _ c.args.self.now c.self.invariant.kept c.self.view_is below unused c.push_reserved.ensures.items call
