use Rattle.std.proofs.Common.{◌<◌, ◌∙◌, ap, arith}
use Rattle.std.specs.FinSet as set
use Rattle.order_graph.specs.Order.{reaches}
use Rattle.order_graph.specs.Sets.{slots_at}
use Rattle.order_graph.proofs.KeptLemmas.{read_set}
use Rattle.order_graph.proofs.Reaching.{test_is_reaches}
use Rattle.order_graph.proofs.order.OrderGraph.precedes.Goals as goal

pub returns-clause-test : goal.returns-clause-test
returns-clause-test c =
    let fits : c.args.b < c.self.inside.callers = omega (arith, ap (λ o. o.callers) c.self.view_is) in
    c.contains.ensures
    ∙ ap (λ s. set.contains s c.args.a) (read_set c.self.inside.before.items c.args.b c.index.result.now (omega (arith, c.self.invariant.masks)) c.index.ensures)
    ∙ test_is_reaches (set.contains (slots_at c.self.inside.before.items c.args.b) c.args.a) c.self.inside.pairs.items c.args.a c.args.b (c.self.invariant.closure c.args.a c.args.b)
    ∙ ap (λ o. reaches o.pairs c.args.a c.args.b) c.self.view_is
