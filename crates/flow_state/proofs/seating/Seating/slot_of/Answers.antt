use Rattle.std.proofs.Common.{List, ap, ◌∙◌}
use Rattle.std.specs.Vec.{vec_capacity}
use Rattle.flow_state.specs.declared.seating.Tenant.{Tenant}
use Rattle.flow_state.specs.Seats.{slot_in}
use Rattle.flow_state.proofs.Hints.{slot_seen}
use Rattle.flow_state.proofs.seating.Seating.slot_of.Goals as goal

pub returns : goal.returns
returns c =
    let s = c.self.inside in
    c.slot_in.ensures
    ∙ ap (λ (xs : List Tenant). slot_in xs c.args.version) c.as_slice.ensures.value
    ∙ slot_seen s.callers s.nodes (vec_capacity s.live) s.seats.items s.live.items s.order c.args.version c.args.self.now c.self.invariant.kept c.self.view_is c.requires
