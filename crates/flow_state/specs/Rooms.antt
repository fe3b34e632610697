-- How a seat is kept, and what contracts see in a `Room`.
use Rattle.std.specs.Prelude.{◌≡◌, ℕ, ◌≤◌, List, length}
use Rattle.script_tree.specs.declared.value.Value.{Value}
use Rattle.signal_graph.specs.declared.call.Call.{Call}
use Rattle.signal_graph.specs.Graph.{Graph}
use Rattle.flow_model.specs.Machine.Steps.{sets_in, looks_in}
use Rattle.node_set.specs.Members.{Members}

-- Its three sets are of one size, and there is room for so many values looked at.
pub record IsSeat (wanted open_nodes changed : Members) (looked : List Value) (looked_room room : ℕ) : Type 0 where
  pub open_size : open_nodes.size ≡ wanted.size
  pub changed_size : changed.size ≡ wanted.size
  pub looked_fits : length looked ≤ room
  pub looked_reserved : room ≤ looked_room

-- what contracts see in a `Room`: what its call sets and looks at, by node, and how many nodes its graph has
pub record Roomy : Type 0 where
  pub sets : List (ℕ × Value)
  pub looks : List ℕ
  pub nodes : ℕ

-- The room is one that was made for the call in this graph.
pub record IsRoomFor (graph : Graph) (call : Call) (room : Roomy) : Type 0 where
  pub sets : room.sets ≡ sets_in graph call
  pub looks : room.looks ≡ looks_in graph call
  pub nodes : room.nodes ≡ length graph.nodes
