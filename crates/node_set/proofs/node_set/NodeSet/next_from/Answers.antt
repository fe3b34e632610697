use Rattle.std.proofs.Common.{sym, ap, ◌∙◌}
use Rattle.node_set.specs.Members.{Members, first_from}
use Rattle.node_set.proofs.Nodes.{found_from, first_from-past}
use Rattle.node_set.proofs.node_set.NodeSet.next_from.Goals as goal

pub returns-then-node-self : goal.returns-then-node-self
returns-then-node-self c = sym (first_from-past c.self.inside.words.items c.self.inside.size c.args.node c.if-node-self.true) ∙ ap (λ (m : Members). first_from c.args.node m.nodes) c.self.view_is

pub returns : goal.returns
returns c =
    found_from c.self.inside.words.items c.as_slice.result.now c.self.inside.size c.args.node c.next_set.result c.as_slice.ensures.value c.self.invariant.inside c.next_set.ensures.some c.next_set.ensures.none
    ∙ ap (λ (m : Members). first_from c.args.node m.nodes) c.self.view_is
