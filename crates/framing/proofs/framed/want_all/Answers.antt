use Rattle.std.proofs.Common.{arith}
use Rattle.std.proofs.lemmas.List.{drop_all, drop_more}
use Rattle.flow_state.specs.Booked.{node_count}
use Rattle.framing.proofs.Wanting.{wanting_begins, wanting_more, wanting_ends, below_at}
use Rattle.framing.proofs.framed.want_all.Goals as goal

pub loop-node-init : goal.loop-node-init
loop-node-init c = wanting_begins c.args.book.now c.args.version c.args.nodes.now c.requires.live

pub want-requires-clause-live : goal.want-requires-clause-live
want-requires-clause-live c = c.loop-node.invariant.lives

pub want-requires-clause-node : goal.want-requires-clause-node
want-requires-clause-node c =
    let n = below_at (node_count c.args.book.now) c.args.nodes.now c.loop-node.node-index 0 (omega arith) c.requires.below in
    let same = c.loop-node.invariant.nodes in
    omega (arith, n, same)

pub loop-node-preserved : goal.loop-node-preserved
loop-node-preserved c = wanting_more c.args.book.now c.loop-node.book c.want.new.self c.args.version _ c.args.nodes.now _ _ c.loop-node.invariant (drop_more c.args.nodes.now c.loop-node.node-index 0 (omega arith)) c.want.ensures

pub returns : goal.returns
returns c = wanting_ends c.args.book.now c.loop-node.book c.args.version c.args.nodes.now _ c.loop-node.invariant (drop_all c.loop-node.node-index c.args.nodes.now (omega arith))
