use Rattle.std.proofs.Common.{◌≡◌, map, take}
use Rattle.signal_graph.specs.Graph.{number_of}
use Rattle.serial_machine.proofs.machine.numbers_set.Given as goal

abbrev pub invariant-loop-set : goal.invariant-loop-set
invariant-loop-set l = l.numbers.items ≡ map (λ s. number_of l.graph s.0) (take l.set-index l.sets)
