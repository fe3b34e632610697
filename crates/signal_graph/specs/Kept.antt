-- What a graph of the program keeps beside its names and nodes.
use Rattle.std.specs.Prelude.{◌≡◌, ℕ, ◌+◌, ◌-◌, ◌<◌, ◌==◌, Bool, List, [], length, Option, slice_index_or}
use Rattle.std.specs.List.{All}
use Rattle.script_tree.specs.declared.value.Fault.TheVariants.{Kind}
use Rattle.script_tree.specs.declared.value.Value.TheVariants.{Fault as Faulty}
use Rattle.signal_graph.specs.declared.node.Node.{Node}
use Rattle.signal_graph.specs.declared.node.Node.TheVariants.{Source}
use Rattle.script_tree.specs.declared.value.Value.{Value}
use Rattle.signal_graph.specs.Graph.{Graph, IsGraph, inputs_of, static_outs}
use Rattle.signal_graph.specs.Values.{values, start, picks}

-- for each node the nodes whose scripts name it, its value at the start, and what it picks at the start
pub record IsKept (graph : Graph) (lists : List (List ℕ)) (found : List Value) (selected : List (List (Option ℕ))) : Type 0 where
  pub is_graph : IsGraph graph
  pub as_many_outs : length lists ≡ length graph.nodes
  pub outs : (m : ℕ) → m < length graph.nodes → slice_index_or lists m [] ≡ static_outs graph m
  pub starts : found ≡ values graph (start graph)
  pub as_many_picks : length selected ≡ length graph.nodes
  pub picked : (m : ℕ) → m < length graph.nodes → slice_index_or selected m [] ≡ picks graph (start graph) m

-- each node names earlier nodes alone
abbrev pub NamesEarlier : List Node → Type 0
NamesEarlier nodes = (n : ℕ) → n < length nodes → All (λ m. m < n) (inputs_of (slice_index_or nodes n (Source (Faulty Kind))))

-- a list of nodes without names
abbrev pub unnamed : List Node → Graph
unnamed nodes = record { names = []; nodes = nodes }

-- whether a number ends a list
abbrev pub ends_with : List ℕ → ℕ → Bool
ends_with ns n = slice_index_or ns (length ns - 1) (n + 1) == n
