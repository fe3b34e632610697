-- What follows in a lawful state: whatever it names are nodes of the graph, and there is so much of it at most.
use Rattle.std.specs.Prelude.{◌≡◌, ℕ, ◌+◌, ◌<◌, ◌≤◌, true, List, length, filter}
use Rattle.std.specs.List.{AllByRecursion}
use Rattle.script_tree.specs.declared.limits.TheConstants.{SELECTORS}
use Rattle.signal_graph.specs.Graph.{Graph, node_at, numbers, is_in, inputs_of, selectors_of}
use Rattle.flow_model.specs.Machine.State.{Core, LiveCall, call, cell, outs, wants, opens, changes}
use Rattle.flow_model.specs.Machine.Words.{is_gathered, found_candidates}
use Rattle.flow_model.specs.Machine.Steps.{nodes_set}
use Rattle.flow_model.specs.Kept.Lawful.{IsLive, lists_candidate}

-- Whatever live calls and the work at nodes name is a node of the graph.
pub record NamesNodes (graph : Graph) (s : Core) : Type 0 where
  pub wanted : (u n : ℕ) → wants s u n ≡ true → n < length graph.nodes
  pub open_nodes : (u n : ℕ) → opens s u n ≡ true → n < length graph.nodes
  pub changed : (u n : ℕ) → IsLive s u → changes s u n ≡ true → n < length graph.nodes
  pub sets : (u n : ℕ) → IsLive s u → is_in n (nodes_set (call s u).sets) ≡ true → n < length graph.nodes
  pub looks : (u n : ℕ) → IsLive s u → is_in n (call s u).looks ≡ true → n < length graph.nodes
  pub gathered : (n m : ℕ) → is_gathered s n m ≡ true → (n < length graph.nodes) × (m < n)

-- the choose nodes that list a node as a candidate
abbrev pub choosers : Graph → ℕ → List ℕ
choosers graph m = filter (λ n. lists_candidate m (selectors_of (node_at graph n))) (numbers graph)

-- There is a live call per caller at most, each has begun, and calls, lists and nodes have so much at most.
pub record HasBounds (graph : Graph) (s : Core) : Type 0 where
  pub calls : length s.calls ≤ s.callers
  pub log : length s.log + length s.calls ≤ s.limit
  pub versions : AllByRecursion (λ (c : LiveCall). (1 ≤ c.version) × (c.version ≤ s.begun)) s.calls
  pub found : (n : ℕ) → length (found_candidates s n) ≤ SELECTORS
  pub gathered : (n : ℕ) → length (cell s n).gathered ≤ length (inputs_of (node_at graph n)) + SELECTORS
  pub outs : (m : ℕ) → length (outs s m) ≤ length (choosers graph m)
  pub wanted : (u : ℕ) → length (call s u).wanted ≤ length graph.nodes
  pub open_nodes : (u : ℕ) → length (call s u).open_nodes ≤ length graph.nodes
  pub changed : (u : ℕ) → IsLive s u → length (call s u).changed ≤ length graph.nodes
  pub evaluated : (u : ℕ) → IsLive s u → (call s u).evaluated ≤ length graph.nodes
