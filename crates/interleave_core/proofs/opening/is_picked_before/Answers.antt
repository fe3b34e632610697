use Rattle.std.proofs.Common.{arith, sym, ◌∙◌}
use Rattle.interleave_core.proofs.StartEdges.{pick_in, not_further}
use Rattle.interleave_core.proofs.opening.is_picked_before.Goals as goal

pub returns-then-is_node : goal.returns-then-is_node
returns-then-is_node c = sym (pick_in c.args.picks.now c.args.index c.loop-earlier.earlier c.args.picked c.get.result c.loop-earlier-test.true c.get.ensures (sym c.is_node.ensures ∙ c.if-is_node.true))

pub loop-earlier-preserved : goal.loop-earlier-preserved
loop-earlier-preserved c = not_further c.args.picks.now c.loop-earlier.earlier c.args.picked c.get.result (let h = c.loop-earlier-test.true in let r = c.requires in omega (arith, h, r)) c.get.ensures c.loop-earlier.invariant (sym c.is_node.ensures ∙ c.if-is_node.false)
