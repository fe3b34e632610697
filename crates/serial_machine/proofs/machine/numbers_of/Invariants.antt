use Rattle.std.proofs.Common.{◌≡◌, map, take}
use Rattle.signal_graph.specs.Graph.{number_of}
use Rattle.serial_machine.proofs.machine.numbers_of.Given as goal

abbrev pub invariant-loop-name : goal.invariant-loop-name
invariant-loop-name l = l.numbers.items ≡ map (number_of l.graph) (take l.name-index l.names)
