-- A node has at most 64 inputs, also where the number is none of the graph.
use Rattle.std.proofs.Common.{ℕ, zero, suc, ◌<◌, ◌≤◌, arith, List, [], ◌∷◌, length, slice_index_or}
use Rattle.script_tree.specs.declared.limits.TheConstants.{INPUTS}
use Rattle.script_tree.specs.declared.value.Value.TheVariants.{Fault as Faulty}
use Rattle.script_tree.specs.declared.value.Fault.TheVariants.{Kind}
use Rattle.signal_graph.specs.declared.node.Node.{Node}
use Rattle.signal_graph.specs.declared.node.Node.TheVariants.{Source}
use Rattle.signal_graph.specs.Graph.{Graph, node_at, inputs_of}

-- The scripts of each node name at most so many different nodes.
abbrev pub HasFewInputs : Graph → Type 0
HasFewInputs graph = (n : ℕ) → length (inputs_of (node_at graph n)) ≤ INPUTS

-- It is so of each node of a graph, and any other number is of a node with no inputs.
pub few_inputs : (graph : Graph) → ((n : ℕ) → n < length graph.nodes → length (inputs_of (node_at graph n)) ≤ INPUTS) → HasFewInputs graph
few_inputs graph few n = go graph.nodes n (few n)
  where
    go : (nodes : List Node) (n : ℕ) → (n < length nodes → length (inputs_of (slice_index_or nodes n (Source (Faulty Kind)))) ≤ INPUTS) → length (inputs_of (slice_index_or nodes n (Source (Faulty Kind)))) ≤ INPUTS
    go [] n f = omega arith
    go (x ∷ xs) zero f = f (omega arith)
    go (x ∷ xs) (suc n) f = go xs n (λ k. f (omega (arith, k)))
