use Rattle.std.proofs.Common.{ap, ◌∙◌, length}
use Rattle.interleave_core.specs.Whole.{Whole}
use Rattle.interleave_core.proofs.Begins.{works_nodes, room_made}
use Rattle.interleave_core.proofs.core_state.Core.make_room.Goals as goal

pub returns-in-Ok-clause-room : goal.returns-in-Ok-clause-room
returns-in-Ok-clause-room c =
    let m = c.self.inside in
    λ few named. room_made c.in-Ok.room m.graph.now c.args.self.now.graph c.args.call.now _ (ap (λ (w : Whole). w.graph) c.self.view_is) c.in-Ok.ensures.room
    (works_nodes m.graph.now m.book m.lists.items c.self.invariant ∙ ap (λ (w : Whole). length w.graph.nodes) c.self.view_is)
