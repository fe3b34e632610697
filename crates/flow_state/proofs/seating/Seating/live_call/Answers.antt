use Rattle.std.proofs.Common.{◌<◌, ◌==◌, ℕ, length, sym, ap, ◌∙◌, arith}
use Rattle.std.proofs.lemmas.Bool.{eq-eqb, ne_eqb}
use Rattle.flow_model.specs.Machine.State.{LiveCall}
use Rattle.flow_state.specs.Seats.{Seated}
use Rattle.flow_state.proofs.SeatLemmas.{seat_read}
use Rattle.flow_state.proofs.Leaving.{tenant_at}
use Rattle.flow_state.proofs.Firsts.{first_found, first_more, first_ends}
use Rattle.flow_state.proofs.seating.Seating.live_call.Goals as goal

pub index-seat-requires : goal.index-seat-requires
index-seat-requires c =
    let s = c.self.inside in
    let len = c.len-index-end.ensures in
    let x = c.index-tenant.result.now in
    let below : c.loop-index.index < length s.live.items = omega (arith, len) in
    let at = tenant_at s.seats.items s.live.items c.loop-index.index x c.self.invariant.kept.tenants below c.index-tenant.ensures in
    let inside = at.0.inside in
    omega (arith, inside)

pub returns-then-caller : goal.returns-then-caller
returns-then-caller c =
    let s = c.self.inside in
    let len = c.len-index-end.ensures in
    let x = c.index-tenant.result.now in
    let below : c.loop-index.index < length s.live.items = omega (arith, len) in
    let at = tenant_at s.seats.items s.live.items c.loop-index.index x c.self.invariant.kept.tenants below c.index-tenant.ensures in
    let inside = at.0.inside in
    let read = seat_read s.seats.items x.slot c.index-seat.result.now inside c.index-seat.ensures in
    first_found (λ (l : LiveCall). l.caller == c.args.caller) s.seats.items s.live.items c.loop-index.index x _ c.self.invariant.kept.tenants c.self.invariant.kept.ascending below c.index-tenant.ensures c.loop-index.invariant
    (ap (λ (y : Seated). y.call.caller == c.args.caller) (sym read) ∙ ap (λ (k : ℕ). k == c.args.caller) (sym c.caller.ensures) ∙ eq-eqb _ _ c.if-caller.true)

pub loop-index-preserved : goal.loop-index-preserved
loop-index-preserved c =
    let s = c.self.inside in
    let len = c.len-index-end.ensures in
    let x = c.index-tenant.result.now in
    let below : c.loop-index.index < length s.live.items = omega (arith, len) in
    let at = tenant_at s.seats.items s.live.items c.loop-index.index x c.self.invariant.kept.tenants below c.index-tenant.ensures in
    let inside = at.0.inside in
    let read = seat_read s.seats.items x.slot c.index-seat.result.now inside c.index-seat.ensures in
    first_more (λ (l : LiveCall). l.caller == c.args.caller) s.seats.items s.live.items c.loop-index.index x _ below c.index-tenant.ensures c.loop-index.invariant
    (ap (λ (y : Seated). y.call.caller == c.args.caller) (sym read) ∙ ap (λ (k : ℕ). k == c.args.caller) (sym c.caller.ensures) ∙ ne_eqb _ _ c.if-caller.false)

pub returns : goal.returns
returns c = first_ends (λ (l : LiveCall). l.caller == c.args.caller) c.self.inside.seats.items c.self.inside.live.items c.loop-index.index _ (let len = c.len-index-end.ensures in omega (arith, len)) c.loop-index.invariant
