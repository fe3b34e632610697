-- Separate decks: no source, and no fold, is reached by the sets of two threads.
use Rattle.std.specs.Prelude.{◌≡◌, ℕ, ◌<◌, Bool, true, ◌==◌, List, length}
use Rattle.std.specs.List.{list_any}
use Rattle.script_tree.specs.declared.value.Value.{Value}
use Rattle.signal_graph.specs.declared.node.NodeKind.TheVariants as kind
use Rattle.signal_graph.specs.declared.call.Call.{Call}
use Rattle.signal_graph.specs.Graph.{Graph, node_at, number_of, kind_of, is_source, inputs_of, is_in}
use Rattle.signal_graph.specs.Machine.{sets_of}
use Rattle.call_log.specs.Made.{script_of}

-- a call has a set of the node with this number
abbrev pub sets_node : Graph → ℕ → Call → Bool
sets_node graph m call = list_any (λ (s : List ℕ × Value). number_of graph s.0 == m) (sets_of call)

-- one of some calls sets the node
abbrev pub is_set_in : Graph → ℕ → List Call → Bool
is_set_in graph m calls = list_any (sets_node graph m) calls

-- the thread with this index, counted from 0, sets the node
abbrev pub ThreadSets : Graph → List (List Call) → ℕ → ℕ → Type 0
ThreadSets graph scripts thread m = is_set_in graph m (script_of scripts thread) ≡ true

-- the node with the number n is a fold, and one of its inputs has the number m
abbrev pub FoldsOver : Graph → ℕ → ℕ → Type 0
FoldsOver graph n m = (n < length graph.nodes) × (kind_of (node_at graph n) ≡ kind.Fold) × (is_in m (inputs_of (node_at graph n)) ≡ true)

-- no source is set by two threads; each input of a fold is a source; and those of one fold that are set at all are set
-- by one thread
pub record Separate (graph : Graph) (scripts : List (List Call)) : Type 0 where
  pub sources : (m i j : ℕ) → m < length graph.nodes → is_source (node_at graph m) ≡ true → ThreadSets graph scripts i m
      → ThreadSets graph scripts j m → i ≡ j
  pub inputs : (n m : ℕ) → FoldsOver graph n m → is_source (node_at graph m) ≡ true
  pub folds : (n m l i j : ℕ) → FoldsOver graph n m → FoldsOver graph n l → ThreadSets graph scripts i m → ThreadSets graph scripts j l
      → i ≡ j
