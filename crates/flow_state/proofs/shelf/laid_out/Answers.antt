use Rattle.std.proofs.Common.{◌≡◌, ◌+◌, length, map, ap, ◌∙◌, arith}
use Rattle.std.specs.List.{range_with_len, sum}
use Rattle.flow_state.specs.Booked.{room_at}
use Rattle.flow_state.specs.Shelves.{laid_out}
use Rattle.flow_state.proofs.ShelfLemmas.{one_shelf, more_places, all_rooms}
use Rattle.flow_state.proofs.shelf.laid_out.Goals as goal

pub loop-node-preserved : goal.loop-node-preserved
loop-node-preserved c =
    let l = c.loop-node in
    let same = ap length c.inputs.ensures in
    let below = c.loop-node-test.true in
    let count = c.len-node-end.ensures.value in
    let few = c.inputs_are_few.ensures c.args.graph.now c.len.ensures.kept l.node (omega (arith, below, count)) in
    let most = l.invariant.2 in
    let room = ap (λ n. n + 4) same in (
      one_shelf c.args.graph.now l.node l.places _ l.shelves.items _ c.in_ok-push.ensures.items l.invariant.0 l.invariant.1 room,
      more_places c.args.graph.now l.node l.places _ l.invariant.1 room,
      omega (arith, few, same, most),
    )

pub returns-clause-shelves : goal.returns-clause-shelves
returns-clause-shelves c =
    let l = c.loop-node in
    let past = c.loop-node-test.false in
    let end = l.auto.node-end in
    let count = c.len-node-end.ensures.value in
    let all : l.node ≡ length c.args.graph.now.nodes = omega (arith, past, end, count) in
    l.invariant.0 ∙ ap (λ n. laid_out 0 (map (room_at c.args.graph.now) (range_with_len 0 n))) all ∙ ap (laid_out 0) (all_rooms c.args.graph.now)

pub returns-clause-places : goal.returns-clause-places
returns-clause-places c =
    let l = c.loop-node in
    let past = c.loop-node-test.false in
    let end = l.auto.node-end in
    let count = c.len-node-end.ensures.value in
    let all : l.node ≡ length c.args.graph.now.nodes = omega (arith, past, end, count) in
    l.invariant.1 ∙ ap (λ n. sum (map (room_at c.args.graph.now) (range_with_len 0 n))) all ∙ ap sum (all_rooms c.args.graph.now)
