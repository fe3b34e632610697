use Rattle.std.proofs.Common.{arith}
use Rattle.interleave_core.proofs.Begins.{opened_whole, opened_seen, start_size}
use Rattle.interleave_core.proofs.core_state.Core.new.Goals as goal

pub invariant_of-result : goal.invariant_of-result
invariant_of-result c =
    let many = start_size c.args.graph.now c.args.callers c.in_ok-lists.lists.items c.in_ok-lists.ensures in
    let nodes = c.len.ensures.value in
    let room = c.in_ok-finals.ensures.capacity in
    (c.in_ok-finals.ensures.items, (omega (arith, many, nodes, room), tt))

pub invariant_of-result-2 : goal.invariant_of-result-2
invariant_of-result-2 c = opened_whole c.opening_is_lawful.ensures c.args.graph.now c.args.callers c.args.versions c.in_ok-book.book c.in_ok-lists.lists.items c.len.ensures.kept c.in_ok-book.ensures c.in_ok-lists.ensures

pub returns : goal.returns
returns c = opened_seen c.args.graph.now c.args.callers c.args.versions c.in_ok-book.book c.in_ok-lists.lists.items c.in_ok-book.ensures c.in_ok-lists.ensures
