-- Calls made one after the other, and what a source or a fold follows.
use Rattle.std.specs.Prelude.{◌≡◌, ℕ, ◌<◌, true, false, ◌==◌, List, [], ◌∷◌, ◌++◌, length, None}
use Rattle.std.specs.List.{AllByRecursion}
use Rattle.signal_graph.specs.declared.node.Node.{Node}
use Rattle.signal_graph.specs.declared.node.Node.TheVariants.{Source, Signal, Fold, Choose}
use Rattle.signal_graph.specs.declared.call.Call.{Call}
use Rattle.signal_graph.specs.declared.log.Logged.{Logged}
use Rattle.signal_graph.specs.Graph.{Graph, node_at, is_source}
use Rattle.signal_graph.specs.Values.{Values, values, start}
use Rattle.signal_graph.specs.Machine.{misnamed}
use Rattle.signal_graph.specs.OnePass.{after_call}
use Rattle.call_log.specs.Made.{well_named}
use Rattle.separate_decks.specs.Separate.{sets_node}

-- the values of all nodes after calls, from those before them
abbrev pub values_after : Graph → Values → List Call → Values
values_after graph before [] = before
values_after graph before (call ∷ calls) = values_after graph (after_call graph before call) calls

-- all well-named calls, those of one thread after those of the other
abbrev pub thread_after_thread : Graph → List (List Call) → List Call
thread_after_thread graph [] = []
thread_after_thread graph (calls ∷ scripts) = well_named graph calls ++ thread_after_thread graph scripts

-- the values that they leave
abbrev pub serial_finals : Graph → List (List Call) → Values
serial_finals graph scripts = values_after graph (values graph (start graph)) (thread_after_thread graph scripts)

-- the nodes that a source or fold follows: a source itself, a fold its inputs
abbrev pub followed_by : Node → ℕ → List ℕ
followed_by (Source start) n = n ∷ []
followed_by (Signal script inputs) n = []
followed_by (Fold start script inputs) n = inputs
followed_by (Choose selectors body inputs) n = []

-- a source or a fold keeps a value from call to call
abbrev pub Keeps : Node → Type 0
Keeps (Source start) = Unit {0}
Keeps (Signal script inputs) = ⊥
Keeps (Fold start script inputs) = Unit {0}
Keeps (Choose selectors body inputs) = ⊥

-- some numbers are those of sources
abbrev pub AreSources : Graph → List ℕ → Type 0
AreSources graph ms = AllByRecursion (λ m. (m < length graph.nodes) × (is_source (node_at graph m) ≡ true)) ms

-- a call sets none of some nodes
abbrev pub SetsNone : Graph → List ℕ → Call → Type 0
SetsNone graph ms call = AllByRecursion (λ m. sets_node graph m call ≡ false) ms

-- every call of a log is well-named
abbrev pub AreNamed : Graph → List Logged → Type 0
AreNamed graph log = AllByRecursion (λ (e : Logged). misnamed graph e.call ≡ None) log

-- of the calls of a log all but those of one caller set none of some nodes
abbrev pub OthersSetNone : Graph → List ℕ → ℕ → List Logged → Type 0
OthersSetNone graph ms caller log = AllByRecursion (λ (e : Logged). (e.caller == caller) ≡ false → SetsNone graph ms e.call) log
