use Rattle.std.proofs.Common.{drop}
use Rattle.framing.proofs.Wanting.{IsWanting}
use Rattle.framing.proofs.framed.want_all.Given as goal

abbrev pub invariant-loop-node : goal.invariant-loop-node
invariant-loop-node l = IsWanting l.initial.book l.book l.version l.nodes (drop l.node-index l.nodes)
