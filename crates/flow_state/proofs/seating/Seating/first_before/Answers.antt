use Rattle.std.proofs.Common.{◌<◌, ℕ, length, sym, ap, ◌∙◌, arith}
use Rattle.order_graph.specs.Order.{is_recorded}
use Rattle.flow_state.specs.Seats.{LiveCalls, has_call, before_live}
use Rattle.flow_state.proofs.SeatLemmas.{calls-has}
use Rattle.flow_state.proofs.Leaving.{tenant_at}
use Rattle.flow_state.proofs.Firsts.{first_found, first_more, first_ends}
use Rattle.flow_state.proofs.seating.Seating.first_before.Goals as goal

pub is_before-requires-clause-before : goal.is_before-requires-clause-before
is_before-requires-clause-before c =
    let s = c.self.inside in
    let len = c.len-index-end.ensures in
    let x = c.index-tenant.result.now in
    let below : c.loop-index.index < length s.live.items = omega (arith, len) in
    let at = tenant_at s.seats.items s.live.items c.loop-index.index x c.self.invariant.kept.tenants below c.index-tenant.ensures in
    sym (ap (λ (l : LiveCalls). has_call l x.version) c.self.view_is) ∙ calls-has s.seats.items s.live.items x.version c.self.invariant.kept.tenants ∙ at.1

pub returns-then-is_before : goal.returns-then-is_before
returns-then-is_before c =
    let s = c.self.inside in
    let len = c.len-index-end.ensures in
    let x = c.index-tenant.result.now in
    let below : c.loop-index.index < length s.live.items = omega (arith, len) in
    let at = tenant_at s.seats.items s.live.items c.loop-index.index x c.self.invariant.kept.tenants below c.index-tenant.ensures in
    first_found (before_live c.args.self.now c.args.version) s.seats.items s.live.items c.loop-index.index x _ c.self.invariant.kept.tenants c.self.invariant.kept.ascending below c.index-tenant.ensures c.loop-index.invariant
    (ap (λ (v : ℕ). is_recorded c.args.self.now.pairs v c.args.version) at.0.version ∙ sym c.is_before.ensures ∙ c.if-is_before.true)

pub loop-index-preserved : goal.loop-index-preserved
loop-index-preserved c =
    let s = c.self.inside in
    let len = c.len-index-end.ensures in
    let x = c.index-tenant.result.now in
    let below : c.loop-index.index < length s.live.items = omega (arith, len) in
    let at = tenant_at s.seats.items s.live.items c.loop-index.index x c.self.invariant.kept.tenants below c.index-tenant.ensures in
    first_more (before_live c.args.self.now c.args.version) s.seats.items s.live.items c.loop-index.index x _ below c.index-tenant.ensures c.loop-index.invariant
    (ap (λ (v : ℕ). is_recorded c.args.self.now.pairs v c.args.version) at.0.version ∙ sym c.is_before.ensures ∙ c.if-is_before.false)

pub returns : goal.returns
returns c = first_ends (before_live c.args.self.now c.args.version) c.self.inside.seats.items c.self.inside.live.items c.loop-index.index _ (let len = c.len-index-end.ensures in omega (arith, len)) c.loop-index.invariant
