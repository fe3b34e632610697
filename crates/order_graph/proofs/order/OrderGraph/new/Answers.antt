use Rattle.std.proofs.Common.{List, [], replicate, sym, subst, arith}
use Rattle.std.specs.FinSet as set
use Rattle.std.specs.Vec.{vec_capacity}
use Rattle.order_graph.specs.Slots.{Slots}
use Rattle.order_graph.specs.Order.{Pair}
use Rattle.order_graph.specs.Kept.{IsKept}
use Rattle.order_graph.proofs.KeptLemmas.{kept_at_first}
use Rattle.order_graph.proofs.order.OrderGraph.new.Goals as goal

pub invariant_of-result : goal.invariant_of-result
invariant_of-result c =
    let n = c.args.callers in
    let room = vec_capacity c.in_ok-with_capacity.field-0 in
    let nodes = c.in_ok-vec.field-0.items in
    let direct = c.in_ok-empty_sets.field-0.items in
    let before = c.in_ok-empty_sets-2.field-0.items in
    let P = λ (d : List Slots). IsKept n room [] d nodes (replicate n set.empty) (replicate n set.empty) in
    let Q = λ (m : List Slots). IsKept n room [] direct nodes m (replicate n set.empty) in
    let R = λ (m : List Slots). IsKept n room [] direct nodes before m in
    let S = λ (ps : List Pair). IsKept n room ps direct nodes before c.in_ok-empty_sets-3.field-0.items in
    subst S (sym c.in_ok-with_capacity.ensures.items) (subst R (sym c.in_ok-empty_sets-3.ensures) (subst Q (sym c.in_ok-empty_sets-2.ensures) (subst P (sym c.in_ok-empty_sets.ensures)
    (kept_at_first n room nodes c.requires.some c.requires.few (omega (arith, c.in_ok-with_capacity.ensures.exact)) (omega (arith, c.in_ok-vec.ensures.len))))))
