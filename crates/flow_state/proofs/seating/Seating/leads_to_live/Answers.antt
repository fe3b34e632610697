use Rattle.std.specs.Vec.{vec_capacity}
use Rattle.flow_state.proofs.Leaving.{leads_to}
use Rattle.flow_state.proofs.seating.Seating.leads_to_live.Goals as goal

pub returns : goal.returns
returns c = let s = c.self.inside in leads_to s.callers s.nodes (vec_capacity s.live) s.seats.items s.live.items s.order c.args.self.now c.self.invariant.kept c.self.view_is
