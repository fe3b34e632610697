use Rattle.std.proofs.Common.{◌≡◌, drop}
use Rattle.std.specs.List.{list_any}
use Rattle.signal_graph.specs.Values.{nodes_in}
use Rattle.signal_graph.specs.Machine.{differs}
use Rattle.serial_machine.proofs.compare.any_picked_differs.Given as goal

abbrev pub invariant-loop-index : goal.invariant-loop-index
invariant-loop-index l = list_any (differs l.before l.now) (nodes_in (drop l.index l.picks)) ≡ list_any (differs l.before l.now) (nodes_in l.picks)
