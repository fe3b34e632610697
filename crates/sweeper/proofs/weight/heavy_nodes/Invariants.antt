use Rattle.std.proofs.Common.{◌≡◌, length}
use Rattle.sweeper.proofs.weight.heavy_nodes.Given as goal

abbrev pub invariant-loop-number : goal.invariant-loop-number
invariant-loop-number l = l.heavy.size ≡ length l.graph.nodes
