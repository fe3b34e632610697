-- What contracts see of a machine.
use Rattle.std.specs.Prelude.{◌≡◌, ℕ, ◌<◌, Bool, List, [], length, Option, slice_index_or}
use Rattle.script_tree.specs.declared.value.Value.{Value}
use Rattle.signal_graph.specs.Graph.{Graph, node_at}
use Rattle.signal_graph.specs.Values.{Values, values, picks_of}
use Rattle.serial_machine.specs.Reading.{AreChoosers}

-- the graph, and the values of all its nodes
pub record State : Type 0 where
  pub graph : Graph
  pub all : List Value

-- a machine is in a state of its graph: the values of all nodes are those that the state gives
pub record IsAt (machine : State) (kept : Values) : Type 0 where
  pub fits : length kept ≡ length machine.graph.nodes
  pub gives : values machine.graph kept ≡ machine.all

-- picks beside the values of all nodes: those of each node over these values
pub record ArePicks (graph : Graph) (all : Values) (picked : List (List (Option ℕ))) : Type 0 where
  pub as_many : length picked ≡ length graph.nodes
  pub each : (n : ℕ) → n < length graph.nodes → slice_index_or picked n [] ≡ picks_of (node_at graph n) all

-- what a machine keeps: the values of all nodes follow from those of the sources and folds, and their picks stand
-- beside them
pub record IsKept (graph : Graph) (all : Values) (picked : List (List (Option ℕ))) : Type 0 where
  pub follow : values graph all ≡ all
  pub as_many : length all ≡ length graph.nodes
  pub picks : ArePicks graph all picked

-- and what stands beside that for the next fire: the same values, the chooses of each node, and room for a mark of each
pub record IsReady (graph : Graph) (all : Values) (picked : List (List (Option ℕ))) (before : Values) (choosers : List (List ℕ))
    (marks : List Bool) : Type 0 where
  pub kept : IsKept graph all picked
  pub copied : before ≡ all
  pub reached : AreChoosers graph choosers
  pub marked : length marks ≡ length graph.nodes
