use Rattle.std.proofs.Common.{◌≡◌, ◌≤◌, ℕ, List, None, map, take, length, vec_capacity}
use Rattle.script_tree.specs.declared.value.Value.{Value}
use Rattle.signal_graph.specs.Graph.{number_of}
use Rattle.signal_graph.specs.Machine.{first_wrong, names_source}
use Rattle.signal_graph.proofs.call.put_sources.Given as goal

abbrev pub invariant-loop-index : goal.invariant-loop-index
invariant-loop-index l =
    (first_wrong 1 (map (λ (s : List ℕ × Value). names_source l.graph s.0) (take l.index l.sets)) ≡ None)
    × (l.found.items ≡ map (λ (s : List ℕ × Value). (number_of l.graph s.0, s.1)) (take l.index l.sets)) × (length l.found.items ≡ l.index)
    × (length l.sets ≤ vec_capacity l.found)
