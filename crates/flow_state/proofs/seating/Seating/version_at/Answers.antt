use Rattle.flow_state.proofs.SeatLemmas.{placed_read}
use Rattle.flow_state.proofs.seating.Seating.version_at.Goals as goal

pub returns-clause-version : goal.returns-clause-version
returns-clause-version c =
    let s = c.self.inside in
    let read = placed_read s.callers s.nodes s.seats.items s.live.items s.order c.args.place c.index.result.now c.args.self.now c.self.invariant.kept.tenants c.self.view_is c.requires c.index.ensures in
    read.1

pub returns-clause-call : goal.returns-clause-call
returns-clause-call c =
    let s = c.self.inside in
    let read = placed_read s.callers s.nodes s.seats.items s.live.items s.order c.args.place c.index.result.now c.args.self.now c.self.invariant.kept.tenants c.self.view_is c.requires c.index.ensures in
    read.0
