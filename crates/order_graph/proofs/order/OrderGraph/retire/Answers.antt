use Rattle.std.proofs.Common.{◌≡◌, ℕ, ◌<◌, ◌∙◌, not, sym, ap, subst, arith}
use Rattle.std.specs.Vec.{vec_capacity}
use Rattle.script_tree.proofs.Lists.{whole_slice}
use Rattle.order_graph.specs.Order.{Order, Precedes, retired}
use Rattle.order_graph.proofs.KeptLemmas.{after_retire, later_slots, retired_alone}
use Rattle.order_graph.proofs.order.OrderGraph.retire.Goals as goal

pub returns-then-is_none-clause-pairs : goal.returns-then-is_none-clause-pairs
returns-then-is_none-clause-pairs c =
    let few : c.args.a < c.self.inside.callers = omega (arith, ap (λ o. o.callers) c.self.view_is) in
    let P = λ (o : Order). (x : ℕ) → ¬ (Precedes o.pairs x c.args.a) in
    let Q = λ (o : Order). o.pairs ≡ retired o.pairs c.args.a in
    subst Q c.self.view_is (retired_alone c.self.inside.callers (vec_capacity c.self.inside.pairs) c.self.inside.pairs.items c.self.inside.direct.items c.self.inside.nodes.items c.self.inside.before.items c.self.inside.after.items
    c.args.a c.index.result.now c.least_from.result c.self.invariant few c.index.ensures c.least_from.ensures.none (c.is_none.ensures ∙ ap not c.if-is_none.true) (subst P (sym c.self.view_is) c.requires.first))

pub take_out-requires-clause-inside : goal.take_out-requires-clause-inside
take_out-requires-clause-inside c = λ y h.
    let few : c.args.a < c.self.inside.callers = omega (arith, ap (λ o. o.callers) c.self.view_is) in
    let below = later_slots c.self.inside.callers (vec_capacity c.self.inside.pairs) c.self.inside.pairs.items c.self.inside.direct.items c.self.inside.nodes.items c.self.inside.before.items c.self.inside.after.items
    c.args.a c.index_mut.result.now c.replace-later.result c.self.invariant few c.index_mut.ensures.value c.replace-later.ensures.value y h in
    omega (arith, below, c.self.invariant.sets)

pub invariant_of-self : goal.invariant_of-self
invariant_of-self c =
    let few : c.args.a < c.self.inside.callers = omega (arith, ap (λ o. o.callers) c.self.view_is) in
    let P = λ (o : Order). (x : ℕ) → ¬ (Precedes o.pairs x c.args.a) in
    after_retire c.self.inside.callers (vec_capacity c.self.inside.pairs) (vec_capacity c.remove_pairs.new.pairs) c.self.inside.pairs.items c.remove_pairs.new.pairs.items c.self.inside.direct.items c.self.inside.nodes.items c.self.inside.before.items c.self.inside.after.items
    c.as_mut_slice.result.now c.take_out.new.sets _ c.as_mut_slice-2.result.now c.take_out.new.others _ c.args.a c.index_mut.result.now c.replace-later.result _
    c.self.invariant c.remove_pairs.ensures.capacity (subst P (sym c.self.view_is) c.requires.first) few c.remove_pairs.ensures.pairs
    c.index_mut.ensures.value c.replace-later.ensures.value (c.replace-later.ensures.after ∙ c.new.ensures)
    c.as_mut_slice.ensures.value (omega arith) c.take_out.ensures.sets (whole_slice c.self.inside.direct.len c.take_out.new.sets c.self.inside.direct.items (omega arith) (omega arith))
    c.as_mut_slice-2.ensures.value (omega arith) c.take_out.ensures.others (whole_slice c.self.inside.before.len c.take_out.new.others c.self.inside.before.items (omega arith) (omega arith))

pub returns-clause-masks : goal.returns-clause-masks
returns-clause-masks c = (invariant_of-self c).closure
