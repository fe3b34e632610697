use Rattle.std.proofs.Common.{◌≡◌, drop}
use Rattle.signal_graph.specs.Graph.{is_in}
use Rattle.signal_graph.specs.Values.{nodes_in}
use Rattle.step_rules.proofs.working.has_pick.Given as goal

abbrev pub invariant-loop-index : goal.invariant-loop-index
invariant-loop-index l = is_in l.node (nodes_in (drop l.index l.picks)) ≡ is_in l.node (nodes_in l.picks)
