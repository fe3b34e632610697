use Rattle.std.proofs.Common.{◌≡◌, ◌<◌, false, ◌∙◌, sym, ap, subst, arith}
use Rattle.std.specs.Vec.{vec_capacity}
use Rattle.script_tree.proofs.Lists.{whole_slice}
use Rattle.order_graph.specs.Order.{Order, Precedes, is_recorded}
use Rattle.order_graph.proofs.KeptLemmas.{after_link, after_pass, known_stays, recorded_there, room_for_pair}
use Rattle.order_graph.proofs.order.OrderGraph.link.Goals as goal

pub push_reserved-requires : goal.push_reserved-requires
push_reserved-requires c =
    let few : c.args.a < c.self.inside.callers = omega (arith, ap (λ o. o.callers) c.self.view_is) in
    let fits : c.args.b < c.self.inside.callers = omega (arith, ap (λ o. o.callers) c.self.view_is) in
    let new : is_recorded c.self.inside.pairs.items c.args.a c.args.b ≡ false =
    recorded_there c.self.inside.callers (vec_capacity c.self.inside.pairs) c.self.inside.pairs.items c.self.inside.direct.items c.self.inside.nodes.items c.self.inside.before.items c.self.inside.after.items c.args.b c.args.a c.index.result.now false c.self.invariant fits c.index.ensures (sym c.contains-recorded.ensures ∙ c.if-recorded.false) in
    let room = room_for_pair c.self.inside.callers c.self.inside.pairs.items c.args.a c.args.b c.self.invariant.slots c.self.invariant.apart few fits new in
    omega (arith, room, c.self.invariant.room)

pub invariant_of-self : goal.invariant_of-self
invariant_of-self c =
    let few : c.args.a < c.self.inside.callers = omega (arith, ap (λ o. o.callers) c.self.view_is) in
    let fits : c.args.b < c.self.inside.callers = omega (arith, ap (λ o. o.callers) c.self.view_is) in
    let P = λ (o : Order). ¬ (Precedes o.pairs c.args.b c.args.a) in
    let passed =
    after_pass c.self.inside.before.items c.self.inside.after.items c.as_mut_slice.result.now c.as_mut_slice-then-not-contains.result.now c.pass_on.new.before c.pass_on.new.after _ _ c.args.a c.args.b
    c.as_mut_slice.ensures.value c.as_mut_slice-then-not-contains.ensures.value (omega arith) (omega arith) c.pass_on.ensures.passed c.pass_on.ensures.mirror
    (whole_slice c.self.inside.before.len c.pass_on.new.before c.self.inside.before.items (omega arith) (omega arith))
    (whole_slice c.self.inside.after.len c.pass_on.new.after c.self.inside.after.items (omega arith) (omega arith)) in
    after_link c.self.inside.callers (vec_capacity c.self.inside.pairs) (vec_capacity c.push_reserved.new.self) c.self.inside.pairs.items c.self.inside.direct.items c.self.inside.nodes.items c.self.inside.before.items c.self.inside.after.items
    c.args.a c.args.b c.args.node c.index.result.now c.index_mut.result.now c.insert.new.self c.push_reserved.new.self.items _ _
    c.self.invariant c.push_reserved.ensures.capacity few fits c.requires.apart (subst P (sym c.self.view_is) c.requires.forward)
    c.index.ensures (sym c.contains-recorded.ensures ∙ c.if-recorded.false) c.push_reserved.ensures.items
    c.index_mut.ensures.value c.insert.ensures passed

pub invariant_of-self-else-not-contains : goal.invariant_of-self-else-not-contains
invariant_of-self-else-not-contains c =
    let few : c.args.a < c.self.inside.callers = omega (arith, ap (λ o. o.callers) c.self.view_is) in
    let fits : c.args.b < c.self.inside.callers = omega (arith, ap (λ o. o.callers) c.self.view_is) in
    let P = λ (o : Order). ¬ (Precedes o.pairs c.args.b c.args.a) in
    let stays = known_stays c.self.inside.callers (vec_capacity c.self.inside.pairs) c.self.inside.pairs.items c.self.inside.direct.items c.self.inside.nodes.items c.self.inside.before.items c.self.inside.after.items
    c.args.a c.args.b c.index-2.result.now c.self.invariant fits c.index-2.ensures (sym c.contains.ensures ∙ c.if-not-contains.false) in
    after_link c.self.inside.callers (vec_capacity c.self.inside.pairs) (vec_capacity c.push_reserved.new.self) c.self.inside.pairs.items c.self.inside.direct.items c.self.inside.nodes.items c.self.inside.before.items c.self.inside.after.items
    c.args.a c.args.b c.args.node c.index.result.now c.index_mut.result.now c.insert.new.self c.push_reserved.new.self.items _ _
    c.self.invariant c.push_reserved.ensures.capacity few fits c.requires.apart (subst P (sym c.self.view_is) c.requires.forward)
    c.index.ensures (sym c.contains-recorded.ensures ∙ c.if-recorded.false) c.push_reserved.ensures.items
    c.index_mut.ensures.value c.insert.ensures stays

pub returns-then-not-contains-clause-masks : goal.returns-then-not-contains-clause-masks
returns-then-not-contains-clause-masks c = (invariant_of-self c).closure

pub returns-else-not-contains-clause-masks : goal.returns-else-not-contains-clause-masks
returns-else-not-contains-clause-masks c = (invariant_of-self-else-not-contains c).closure
