use Rattle.std.proofs.Common.{subst, arith}
use Rattle.std.specs.Vec.{vec_capacity}
use Rattle.flow_state.specs.Seats.{LiveCalls, calls_of}
use Rattle.flow_state.proofs.FreeSlots.{IsLeast, free_by_calls, first_tells, none_tells}
use Rattle.flow_state.proofs.seating.Seating.free_slot.Goals as goal

pub returns-in-Some-clause-slot : goal.returns-in-Some-clause-slot
returns-in-Some-clause-slot c =
    let s = c.self.inside in
    let size = c.self.invariant.free_kept.size in
    let tells = free_by_calls s.callers s.nodes (vec_capacity s.live) s.seats.items s.live.items s.order s.free c.self.invariant.kept c.self.invariant.free_kept in
    let here = first_tells s.callers (calls_of s.seats.items s.live.items) s.free.nodes c.is_kept.ensures.ascending (λ q h. let i = c.is_kept.ensures.inside q h in omega (arith, i, size)) tells c.in-Some.slot c.in-Some.ensures in
    (subst (λ (l : LiveCalls). IsLeast l.callers l.calls c.in-Some.slot) c.self.view_is here).slot

pub returns-in-Some-clause-free : goal.returns-in-Some-clause-free
returns-in-Some-clause-free c =
    let s = c.self.inside in
    let size = c.self.invariant.free_kept.size in
    let tells = free_by_calls s.callers s.nodes (vec_capacity s.live) s.seats.items s.live.items s.order s.free c.self.invariant.kept c.self.invariant.free_kept in
    let here = first_tells s.callers (calls_of s.seats.items s.live.items) s.free.nodes c.is_kept.ensures.ascending (λ q h. let i = c.is_kept.ensures.inside q h in omega (arith, i, size)) tells c.in-Some.slot c.in-Some.ensures in
    (subst (λ (l : LiveCalls). IsLeast l.callers l.calls c.in-Some.slot) c.self.view_is here).free

pub returns-in-None-clause-slot : goal.returns-in-None-clause-slot
returns-in-None-clause-slot c =
    let s = c.self.inside in
    let size = c.self.invariant.free_kept.size in
    let tells = free_by_calls s.callers s.nodes (vec_capacity s.live) s.seats.items s.live.items s.order s.free c.self.invariant.kept c.self.invariant.free_kept in
    let here = none_tells s.callers (calls_of s.seats.items s.live.items) s.free.nodes tells c.in-None.ensures in
    (subst (λ (l : LiveCalls). IsLeast l.callers l.calls s.callers) c.self.view_is here).slot
