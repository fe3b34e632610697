use Rattle.std.proofs.Common.{◌≡◌, ℕ, false, drop, map, length}
use Rattle.signal_graph.specs.Graph.{Graph, number_of}
use Rattle.signal_graph.specs.Values.{at}
use Rattle.signal_graph.specs.Machine.{with_sets}
use Rattle.serial_machine.specs.Marking.{is_marked}
use Rattle.serial_machine.proofs.machine.apply.Given as goal

abbrev pub invariant-loop-index : goal.invariant-loop-index
invariant-loop-index l =
    (length l.values.items ≡ length l.fn.values.items)
    × ((graph : Graph) → l.nodes ≡ map (λ s. number_of graph s.0) l.sets → with_sets graph l.values.items (drop l.index l.sets) ≡ with_sets graph l.fn.values.items l.sets)
    × (length l.marks ≡ length l.fn.marks)
    × ((n : ℕ) → is_marked l.marks n ≡ false → at l.values.items n ≡ at l.fn.values.items n)
