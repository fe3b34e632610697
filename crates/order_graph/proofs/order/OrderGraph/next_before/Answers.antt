use Rattle.std.proofs.Common.{ℕ, ◌<◌, ◌≤◌, ap, subst, arith}
use Rattle.std.specs.Prelude.{IfSome, IfNone, IsTrue}
use Rattle.std.specs.Vec.{vec_capacity}
use Rattle.order_graph.specs.Order.{Order, is_recorded, IsNextBefore}
use Rattle.order_graph.proofs.KeptLemmas.{next_is_slot, next_is_least, none_is_next, none_precedes}
use Rattle.order_graph.proofs.order.OrderGraph.next_before.Goals as goal

pub returns-clause-slot : goal.returns-clause-slot
returns-clause-slot c =
    let fits : c.args.b < c.self.inside.callers = omega (arith, ap (λ o. o.callers) c.self.view_is) in
    let P = λ (o : Order). IfSome c.least_from.result (λ a. a < o.callers) in
    subst P c.self.view_is (next_is_slot c.self.inside.callers (vec_capacity c.self.inside.pairs) c.self.inside.pairs.items c.self.inside.direct.items c.self.inside.nodes.items c.self.inside.before.items c.self.inside.after.items c.args.b c.args.from c.index.result.now c.least_from.result c.self.invariant fits c.index.ensures c.least_from.ensures.some)

pub returns-clause-some : goal.returns-clause-some
returns-clause-some c =
    let fits : c.args.b < c.self.inside.callers = omega (arith, ap (λ o. o.callers) c.self.view_is) in
    let P = λ (o : Order). IfSome c.least_from.result (IsNextBefore o.pairs c.args.b c.args.from) in
    subst P c.self.view_is (next_is_least c.self.inside.callers (vec_capacity c.self.inside.pairs) c.self.inside.pairs.items c.self.inside.direct.items c.self.inside.nodes.items c.self.inside.before.items c.self.inside.after.items c.args.b c.args.from c.index.result.now c.least_from.result c.self.invariant fits c.index.ensures c.least_from.ensures.some)

pub returns-clause-none : goal.returns-clause-none
returns-clause-none c =
    let fits : c.args.b < c.self.inside.callers = omega (arith, ap (λ o. o.callers) c.self.view_is) in
    let P = λ (o : Order). IfNone c.least_from.result ((x : ℕ) → c.args.from ≤ x → ¬ (IsTrue (is_recorded o.pairs x c.args.b))) in
    subst P c.self.view_is (none_is_next c.self.inside.callers (vec_capacity c.self.inside.pairs) c.self.inside.pairs.items c.self.inside.direct.items c.self.inside.nodes.items c.self.inside.before.items c.self.inside.after.items c.args.b c.args.from c.index.result.now c.least_from.result c.self.invariant fits c.index.ensures c.least_from.ensures.none)

pub returns-clause-first : goal.returns-clause-first
returns-clause-first c = λ at_start. none_precedes c.args.self.now.pairs c.args.b c.args.from c.least_from.result at_start (returns-clause-none c)
