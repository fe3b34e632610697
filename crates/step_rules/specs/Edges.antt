-- Out-edges of found candidates, and of those that were picked before.
use Rattle.std.specs.Prelude.{ℕ, Bool, not, ◌||◌, List, Option}
use Rattle.signal_graph.specs.Graph.{is_in}
use Rattle.signal_graph.specs.Values.{nodes_in}
use Rattle.node_versions.specs.Entries.{Versions, has_out, has_node}

-- The candidate was picked before the call, or has the node's out-edge of this call.
abbrev pub is_discovered_by : (ℕ → Versions) → ℕ → ℕ → List (Option ℕ) → ℕ → Bool
is_discovered_by lists t n picks c = is_in c (nodes_in picks) || has_out (lists c).outs n t

-- It is found, or has no out-edge of the node.
abbrev pub is_released_by : (ℕ → Versions) → ℕ → List (Option ℕ) → ℕ → Bool
is_released_by lists n found o = is_in o (nodes_in found) || not (has_node (lists o).outs n)
