use Rattle.std.proofs.Common.{arith}
use Rattle.interleave_core.proofs.StartEdges.{can_next, edges_more, all_taken}
use Rattle.interleave_core.proofs.opening.add_edges.Goals as goal

pub add_new-requires-clause-can : goal.add_new-requires-clause-can
add_new-requires-clause-can c = can_next c.args.node c.args.picks.now c.loop-index.index _ _ (let e = c.len-index-end.ensures.value in let h = c.loop-index-test.true in omega (arith, e, h)) c.requires c.loop-index.invariant

pub loop-index-preserved : goal.loop-index-preserved
loop-index-preserved c = edges_more c.args.node c.args.picks.now c.loop-index.index _ _ _ (let e = c.len-index-end.ensures.value in let h = c.loop-index-test.true in omega (arith, e, h)) c.loop-index.invariant c.add_new.ensures

pub returns : goal.returns
returns c = all_taken c.args.node c.args.picks.now c.loop-index.index _ _ (let e = c.len-index-end.ensures.value in let h = c.loop-index-test.false in omega (arith, e, h)) c.loop-index.invariant
