use Rattle.std.proofs.Common.{◌≡◌, drop}
use Rattle.dynamic_edges.specs.Edges.{first_since}
use Rattle.dynamic_edges.proofs.dropping.since_of.Given as goal

abbrev pub invariant-loop-index : goal.invariant-loop-index
invariant-loop-index l = first_since l.node (drop l.index l.list.outs) ≡ first_since l.node l.list.outs
