use Rattle.std.proofs.Common.{arith, subst, List, Option, ℕ}
use Rattle.signal_graph.specs.Graph.{is_in}
use Rattle.signal_graph.specs.Values.{nodes_in}
use Rattle.interleave_core.specs.Opening.{GainsEdges}
use Rattle.interleave_core.proofs.StartEdges.{bare_opened, opened_can, opened_more, opened_all}
use Rattle.interleave_core.proofs.opening.opening_lists.Goals as goal

pub loop-node-init : goal.loop-node-init
loop-node-init c = bare_opened c.args.graph.now c.args.callers _ c.in_ok-lists.ensures

pub add_edges-requires : goal.add_edges-requires
add_edges-requires c =
    let e = c.len-node-end.ensures.value in
    let h = c.loop-node-test.true in
    opened_can c.args.graph.now c.args.callers c.loop-node.node _ c.start_picks-picks.result c.len-node-end.ensures.kept (omega (arith, e, h)) c.loop-node.invariant c.start_picks-picks.ensures

pub loop-node-preserved : goal.loop-node-preserved
loop-node-preserved c =
    opened_more c.args.graph.now c.args.callers c.loop-node.node _ _ c.loop-node.invariant (subst (λ (ps : List (Option ℕ)). GainsEdges c.loop-node.node (λ m. is_in m (nodes_in ps)) c.loop-node.lists.items c.add_edges.new.lists.items) c.start_picks-picks.ensures c.add_edges.ensures)

pub returns : goal.returns
returns c =
    let e = c.len-node-end.ensures.value in
    let h = c.loop-node-test.false in
    opened_all c.args.graph.now c.args.callers c.loop-node.node _ c.loop-node.invariant (let far = c.loop-node.auto.node-end in omega (arith, e, h, far))
