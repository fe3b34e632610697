use Rattle.std.proofs.Common.{◌≡◌, None, sym, subst}
use Rattle.signal_graph.specs.Graph.{Graph}
use Rattle.signal_graph.specs.Declarations.{refusal}
use Rattle.signal_graph.proofs.BuilderNodes.{is_graph_with}
use Rattle.signal_graph.proofs.builder.GraphBuilder.add_known.Goals as goal

pub invariant_of-self-in-Ok : goal.invariant_of-self-in-Ok
invariant_of-self-in-Ok c =
    let free = subst (λ (g : Graph). refusal g c.args.name c.args.kind ≡ None) (sym c.self.view_is) c.requires.free in
    rw (c.in-Ok.ensures.ok, c.in_ok-push.ensures.items, c.in_ok-node.ensures) (is_graph_with _ c.args.name c.args.kind c.self.invariant c.requires.declaration c.scripts_are_kept.ensures free)
