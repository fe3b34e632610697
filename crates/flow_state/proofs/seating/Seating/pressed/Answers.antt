use Rattle.std.proofs.Common.{◌<◌, length, sym, ap, ◌∙◌, arith}
use Rattle.flow_state.specs.Seats.{Seated, LiveCalls, has_call, presses_live}
use Rattle.flow_state.proofs.SeatLemmas.{calls-has, seat_read}
use Rattle.flow_state.proofs.Leaving.{tenant_at, any_found, any_more, any_ends}
use Rattle.flow_state.proofs.CountLemmas.{unwanted_seen, not_pressed}
use Rattle.flow_state.proofs.seating.Seating.pressed.Goals as goal

pub index-seat-requires : goal.index-seat-requires
index-seat-requires c =
    let s = c.self.inside in
    let len = c.len-index-end.ensures in
    let x = c.index-tenant.result.now in
    let below : c.loop-index.index < length s.live.items = omega (arith, len) in
    let at = tenant_at s.seats.items s.live.items c.loop-index.index x c.self.invariant.kept.tenants below c.index-tenant.ensures in
    let inside = at.0.inside in
    omega (arith, inside)

pub presses-requires-clause-other : goal.presses-requires-clause-other
presses-requires-clause-other c =
    let s = c.self.inside in
    let len = c.len-index-end.ensures in
    let x = c.index-tenant.result.now in
    let below : c.loop-index.index < length s.live.items = omega (arith, len) in
    let at = tenant_at s.seats.items s.live.items c.loop-index.index x c.self.invariant.kept.tenants below c.index-tenant.ensures in
    sym (ap (λ (l : LiveCalls). has_call l x.version) c.self.view_is) ∙ calls-has s.seats.items s.live.items x.version c.self.invariant.kept.tenants ∙ at.1

pub presses-requires-clause-seat : goal.presses-requires-clause-seat
presses-requires-clause-seat c =
    let s = c.self.inside in
    let len = c.len-index-end.ensures in
    let x = c.index-tenant.result.now in
    let below : c.loop-index.index < length s.live.items = omega (arith, len) in
    let at = tenant_at s.seats.items s.live.items c.loop-index.index x c.self.invariant.kept.tenants below c.index-tenant.ensures in
    let inside = at.0.inside in
    let read = seat_read s.seats.items x.slot c.index-seat.result.now inside c.index-seat.ensures in
    ap (λ (y : Seated). y.call.version) read ∙ at.0.version

pub returns-then-presses : goal.returns-then-presses
returns-then-presses c =
    let s = c.self.inside in
    let len = c.len-index-end.ensures in
    let x = c.index-tenant.result.now in
    let below : c.loop-index.index < length s.live.items = omega (arith, len) in
    let at = tenant_at s.seats.items s.live.items c.loop-index.index x c.self.invariant.kept.tenants below c.index-tenant.ensures in
    let inside = at.0.inside in
    let read = seat_read s.seats.items x.slot c.index-seat.result.now inside c.index-seat.ensures in
    any_found (presses_live c.args.self.now c.args.version c.args.node) s.seats.items s.live.items c.loop-index.index x _ below c.index-tenant.ensures c.loop-index.invariant
    (ap (λ (y : Seated). presses_live c.args.self.now c.args.version c.args.node y.call) (sym read) ∙ sym c.presses.ensures ∙ c.if-presses.true)

pub loop-index-preserved : goal.loop-index-preserved
loop-index-preserved c =
    let s = c.self.inside in
    let len = c.len-index-end.ensures in
    let x = c.index-tenant.result.now in
    let below : c.loop-index.index < length s.live.items = omega (arith, len) in
    let at = tenant_at s.seats.items s.live.items c.loop-index.index x c.self.invariant.kept.tenants below c.index-tenant.ensures in
    let inside = at.0.inside in
    let read = seat_read s.seats.items x.slot c.index-seat.result.now inside c.index-seat.ensures in
    any_more (presses_live c.args.self.now c.args.version c.args.node) s.seats.items s.live.items c.loop-index.index x _ below c.index-tenant.ensures c.loop-index.invariant
    (ap (λ (y : Seated). presses_live c.args.self.now c.args.version c.args.node y.call) (sym read) ∙ sym c.presses.ensures ∙ c.if-presses.false)

pub returns : goal.returns
returns c = any_ends (presses_live c.args.self.now c.args.version c.args.node) c.self.inside.seats.items c.self.inside.live.items c.loop-index.index _ (let len = c.len-index-end.ensures in omega (arith, len)) c.loop-index.invariant

pub returns-then-is_unwanted : goal.returns-then-is_unwanted
returns-then-is_unwanted c =
    let s = c.self.inside in
    sym (not_pressed c.args.self.now c.args.version c.args.node
    (unwanted_seen s.callers s.nodes s.seats.items s.live.items s.order s.counts.items c.as_slice.result.now c.args.node c.is_unwanted.result c.args.self.now c.self.invariant.counted c.self.view_is c.as_slice.ensures.value c.is_unwanted.ensures c.if-is_unwanted.true))
