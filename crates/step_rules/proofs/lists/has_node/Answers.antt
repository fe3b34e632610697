use Rattle.std.proofs.Common.{arith}
use Rattle.std.proofs.lemmas.Bool.{eq-eqb, ne_eqb}
use Rattle.step_rules.proofs.Seen.{node-here}
use Rattle.step_rules.proofs.lists.has_node.Goals as goal

pub returns-then-node-chooser : goal.returns-then-node-chooser
returns-then-node-chooser c =
    let here = node-here c.args.list.now.outs c.loop-index.index c.args.chooser c.out-node.result c.out-node.ensures in
    let so = c.loop-index.invariant in let is = eq-eqb _ _ c.if-node-chooser.true in grind (arith, here, so, is)

pub loop-index-preserved : goal.loop-index-preserved
loop-index-preserved c =
    let here = node-here c.args.list.now.outs c.loop-index.index c.args.chooser c.out-node.result c.out-node.ensures in
    let so = c.loop-index.invariant in let is = ne_eqb _ _ c.if-node-chooser.false in grind (arith, here, so, is)
