use Rattle.std.proofs.Common.{arith}
use Rattle.step_rules.proofs.Seen.{out-here}
use Rattle.step_rules.proofs.lists.has_out.Goals as goal

pub returns-then-eq : goal.returns-then-eq
returns-then-eq c =
    let here = out-here c.args.list.now.outs c.loop-index.index c.args.chooser c.args.since c.out.result c.out.ensures in
    let so = c.loop-index.invariant in let is = c.if-eq.ensures in grind (arith, here, so, is)

pub loop-index-preserved : goal.loop-index-preserved
loop-index-preserved c =
    let here = out-here c.args.list.now.outs c.loop-index.index c.args.chooser c.args.since c.out.result c.out.ensures in
    let so = c.loop-index.invariant in let is = c.if-eq.ensures in grind (arith, here, so, is)
