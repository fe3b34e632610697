use Rattle.std.proofs.Common.{◌≡◌, ◌<◌, ℕ, true, subst}
use Rattle.signal_graph.specs.Graph.{is_in}
use Rattle.flow_model.specs.Machine.Sets.{IsSet}
use Rattle.node_set.specs.Members.{Members}
use Rattle.node_set.proofs.Nodes.{nodes_IsSet, nodes_inside}
use Rattle.node_set.proofs.node_set.NodeSet.is_kept.Goals as goal

pub returns-clause-ascending : goal.returns-clause-ascending
returns-clause-ascending c = subst (λ (m : Members). IsSet m.nodes) c.self.view_is (nodes_IsSet c.self.inside.words.items c.self.inside.size)

pub returns-clause-inside : goal.returns-clause-inside
returns-clause-inside c = subst (λ (m : Members). (q : ℕ) → is_in q m.nodes ≡ true → q < m.size) c.self.view_is (nodes_inside c.self.inside.words.items c.self.inside.size)
