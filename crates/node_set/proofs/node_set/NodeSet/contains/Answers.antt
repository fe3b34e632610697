use Rattle.std.proofs.Common.{◌<◌, sym, ap, ◌∙◌, List, ℕ, arith}
use Rattle.script_tree.specs.Bits.{is_set}
use Rattle.signal_graph.specs.Graph.{is_in}
use Rattle.node_set.specs.Members.{Members}
use Rattle.node_set.proofs.Nodes.{in_nodes}
use Rattle.node_set.proofs.node_set.NodeSet.contains.Goals as goal

pub returns : goal.returns
returns c =
    let below : c.args.node < c.self.inside.size = omega (arith, ap (λ (m : Members). m.size) c.self.view_is) in
    c.is_set.ensures
    ∙ ap (λ (ws : List ℕ). is_set ws c.args.node) c.as_slice.ensures.value
    ∙ sym (in_nodes c.self.inside.words.items c.self.inside.size c.args.node below)
    ∙ ap (λ (m : Members). is_in c.args.node m.nodes) c.self.view_is
