use Rattle.std.proofs.Common.{ap, ◌∙◌, sym, map, arith}
use Rattle.std.specs.List.{range_with_len}
use Rattle.flow_state.proofs.Openings.{one_more}
use Rattle.interleave_core.specs.Opening.{bare_list}
use Rattle.interleave_core.proofs.StartEdges.{bare_is}
use Rattle.interleave_core.proofs.Counted.{chooser_at, choosers_many, numbers_are}
use Rattle.interleave_core.proofs.opening.bare_lists.Goals as goal

pub index-requires : goal.index-requires
index-requires c =
    let n = choosers_many c.args.graph.now c.in_ok-choosers.choosers.items c.in_ok-choosers.ensures in
    let e = c.len-node-end.ensures.value in
    let h = c.loop-node-test.true in
    omega (arith, n, e, h)

pub loop-node-preserved : goal.loop-node-preserved
loop-node-preserved c =
    let graph = c.args.graph.now in
    let n = c.loop-node.node in
    let e = c.len-node-end.ensures.value in
    let h = c.loop-node-test.true in
    let count = chooser_at graph c.in_ok-choosers.choosers.items n c.index.result.now c.in_ok-choosers.ensures (omega (arith, e, h)) c.index.ensures in
    one_more (bare_list graph c.args.callers) n c.loop-node.lists.items _ c.in_ok-list.list c.in_ok-push.ensures.items c.loop-node.invariant
    (bare_is graph c.args.callers n _ _ _ c.in_ok-list.list c.in_ok-list.ensures count c.start_value.ensures c.start_picks.ensures)

pub returns : goal.returns
returns c =
    let e = c.len-node-end.ensures.value in
    let h = c.loop-node-test.false in
    let far = c.loop-node.auto.node-end in
    c.loop-node.invariant
    ∙ ap (map (bare_list c.args.graph.now c.args.callers)) (ap (range_with_len 0) (omega (arith, e, h, far)) ∙ sym (numbers_are c.args.graph.now))
