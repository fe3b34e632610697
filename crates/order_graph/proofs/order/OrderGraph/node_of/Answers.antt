use Rattle.std.proofs.Common.{◌<◌, ◌∙◌, sym, ap, arith, false}
use Rattle.std.specs.Vec.{vec_capacity}
use Rattle.order_graph.specs.Order.{node_of}
use Rattle.order_graph.proofs.KeptLemmas.{node_unknown, recorded_there}
use Rattle.order_graph.proofs.order.OrderGraph.node_of.Goals as goal

pub returns-else-contains : goal.returns-else-contains
returns-else-contains c =
    let fits : c.args.b < c.self.inside.callers = omega (arith, ap (λ o. o.callers) c.self.view_is) in
    sym (node_unknown c.self.inside.pairs.items c.args.a c.args.b (recorded_there c.self.inside.callers (vec_capacity c.self.inside.pairs) c.self.inside.pairs.items c.self.inside.direct.items c.self.inside.nodes.items c.self.inside.before.items c.self.inside.after.items c.args.b c.args.a c.index.result.now false c.self.invariant fits c.index.ensures (sym c.contains.ensures ∙ c.if-contains.false)))
    ∙ ap (λ o. node_of o.pairs c.args.a c.args.b) c.self.view_is
