use Rattle.std.proofs.Common.{ap, ◌∙◌}
use Rattle.signal_graph.specs.Graph.{Graph}
use Rattle.flow_model.specs.Machine.State.{Core}
use Rattle.flow_model.specs.Machine.Next.{next_at}
use Rattle.flow_model.specs.Machine.Histories.{state}
use Rattle.sweeper.proofs.locked.Locked.next_at.Goals as goal

pub returns-clause-turn : goal.returns-clause-turn
returns-clause-turn g c =
    let j = g.J.Naming in
    let i = c.self.invariant.1 in
    c.next_at.ensures.turn
    ∙ ap (λ (x : Graph). next_at x c.self.inside.core.state c.args.version c.args.node) i.graph_is
    ∙ ap (λ (q : Core). next_at j.graph q c.args.version c.args.node) (i.state_is ∙ ap (state j.graph j.callers j.limit) (ap (λ h. h.moves) c.self.view_is))
