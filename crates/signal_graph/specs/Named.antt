-- The nodes that a call names.
use Rattle.std.specs.Prelude.{ℕ, List, map}
use Rattle.script_tree.specs.declared.value.Value.{Value}
use Rattle.signal_graph.specs.declared.call.Call.{Call}
use Rattle.signal_graph.specs.Graph.{Graph, number_of}
use Rattle.signal_graph.specs.Machine.{sets_of, looks_of}

-- the numbers of the nodes that are set, and of those that are looked at
pub record Numbers : Type 0 where
  pub sets : List ℕ
  pub looks : List ℕ

-- the numbers of a call's names, in their order
abbrev pub numbers_in : Graph → Call → Numbers
numbers_in graph call = record {
  sets = map (λ (s : List ℕ × Value). number_of graph s.0) (sets_of call);
  looks = map (number_of graph) (looks_of call);
}
