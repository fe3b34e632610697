use Rattle.dynamic_edges.proofs.Removed.{since-found, since-more}
use Rattle.dynamic_edges.proofs.dropping.since_of.Goals as goal

pub returns-then-chooser-node : goal.returns-then-chooser-node
returns-then-chooser-node c = since-found c.args.node c.loop-index.index c.out-chooser.result c.args.list.now.outs _ c.out-chooser.ensures c.loop-index.invariant c.if-chooser-node.true

pub loop-index-preserved : goal.loop-index-preserved
loop-index-preserved c = since-more c.args.node c.loop-index.index c.out-chooser.result c.args.list.now.outs _ c.out-chooser.ensures c.loop-index.invariant c.if-chooser-node.false
