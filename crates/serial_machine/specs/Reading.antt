-- Which nodes can rest on a node.
use Rattle.std.specs.Prelude.{◌≡◌, ℕ, ◌<◌, Bool, true, ◌||◌, List, [], ◌∷◌, ◌++◌, length, slice_index_or}
use Rattle.signal_graph.specs.declared.node.Selector.{Selector}
use Rattle.signal_graph.specs.declared.node.Node.{Node}
use Rattle.signal_graph.specs.Graph.{Graph, node_at, is_in, inputs_of, selectors_of}

-- the nodes that selectors select among
abbrev pub candidates_of_all : List Selector → List ℕ
candidates_of_all [] = []
candidates_of_all (selector ∷ rest) = selector.candidates ++ candidates_of_all rest

abbrev pub candidates_of : Node → List ℕ
candidates_of node = candidates_of_all (selectors_of node)

-- whether a node can rest on another: its scripts name it, or it selects among nodes of which that is one
abbrev pub reads : Node → ℕ → Bool
reads node m = is_in m (inputs_of node) || is_in m (candidates_of node)

-- each list has what it had
abbrev pub HaveMore : List (List ℕ) → List (List ℕ) → Type 0
HaveMore lists more = (m n : ℕ) → is_in n (slice_index_or lists m []) ≡ true → is_in n (slice_index_or more m []) ≡ true

-- lists of nodes for each node: the one of a node has every choose that selects among nodes of which that is one
pub record AreChoosers (graph : Graph) (lists : List (List ℕ)) : Type 0 where
  pub as_many : length lists ≡ length graph.nodes
  pub all : (m n : ℕ) → m < length graph.nodes → n < length graph.nodes → is_in m (candidates_of (node_at graph n)) ≡ true
      → is_in n (slice_index_or lists m []) ≡ true
