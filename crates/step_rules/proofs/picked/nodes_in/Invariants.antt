use Rattle.std.proofs.Common.{◌≡◌, take}
use Rattle.signal_graph.specs.Values.{nodes_in}
use Rattle.step_rules.proofs.picked.nodes_in.Given as goal

abbrev pub invariant-loop-index : goal.invariant-loop-index
invariant-loop-index l = l.nodes.items ≡ nodes_in (take l.index l.picks)
