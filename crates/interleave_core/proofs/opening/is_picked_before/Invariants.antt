use Rattle.std.proofs.Common.{◌≡◌, false, take}
use Rattle.signal_graph.specs.Graph.{is_in}
use Rattle.signal_graph.specs.Values.{nodes_in}
use Rattle.interleave_core.proofs.opening.is_picked_before.Given as goal

abbrev pub invariant-loop-earlier : goal.invariant-loop-earlier
invariant-loop-earlier l = is_in l.picked (nodes_in (take l.earlier l.picks)) ≡ false
