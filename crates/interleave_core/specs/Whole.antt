-- The state of a book and the lists of all nodes.
use Rattle.std.specs.Prelude.{◌≡◌, ℕ, ◌+◌, List, [], ◌∷◌, length}
use Rattle.script_tree.specs.declared.value.Value.{Value}
use Rattle.signal_graph.specs.declared.node.NodeKind.TheVariants.{Fold}
use Rattle.signal_graph.specs.Graph.{Graph, IsGraph, node_at, kind_of}
use Rattle.node_versions.specs.Entries.{Versions, value_before}
use Rattle.flow_model.specs.Machine.State.{Core, Cell, entries}
use Rattle.flow_model.specs.declared.step.Step.{Step}
use Rattle.flow_model.specs.Machine.Words.{list_room}
use Rattle.flow_model.specs.Machine.Steps.{apply}
use Rattle.flow_model.specs.Kept.Lawful.{IsLawful}
use Rattle.flow_state.specs.Booked.{Booked, rooms_for}
use Rattle.flow_model.specs.Parts.Books.{Work, Book}
use Rattle.flow_state.specs.Fitting.{choosers}

-- what contracts see in a `Core`
pub record Whole : Type 0 where
  pub graph : Graph
  pub state : Core
  pub rooms : ℕ

-- the same with another state
abbrev pub with_state : Whole → Core → Whole
with_state whole s = record whole { state = s }

-- after a step
abbrev pub after : Whole → Step → Whole
after whole step = with_state whole (apply whole.graph whole.state step)

-- what is kept of each node: its list, and the work there
abbrev pub cells_of : List Work → List Versions → List Cell
cells_of [] lists = []
cells_of (w ∷ ws) [] = []
cells_of (w ∷ ws) (l ∷ ls) =
    record { entries = l.entries; outs = l.outs; gathered = w.gathered; found = w.found; body = w.body } ∷ cells_of ws ls

-- the state of a book and lists
abbrev pub state_of : Book → List Versions → Core
state_of book lists = record {
  callers = book.callers;
  limit = book.limit;
  begun = book.begun;
  calls = book.calls;
  cells = cells_of book.works lists;
  pairs = book.pairs;
  log = book.log;
}

-- what is seen of them
abbrev pub whole_of : Graph → Booked → List Versions → Whole
whole_of graph book lists = record { graph = graph; state = state_of book.book lists; rooms = book.rooms }

-- the rooms of lists, from the node n on
abbrev pub HaveRooms : Graph → ℕ → ℕ → List Versions → Type 0
HaveRooms graph callers n [] = Unit {0}
HaveRooms graph callers n (l ∷ ls) = (l.room ≡ list_room callers) × (l.outs_room ≡ choosers graph n) × HaveRooms graph callers (n + 1) ls

-- There is a list for each node, all rooms are those of the graph, and the state is a lawful one.
pub record IsWhole (graph : Graph) (book : Booked) (lists : List Versions) : Type 0 where
  pub is_graph : IsGraph graph
  pub many : length lists ≡ length book.book.works
  pub room_for : book.room_for ≡ rooms_for graph
  pub rooms : HaveRooms graph book.book.callers 0 lists
  pub lawful : IsLawful graph (state_of book.book lists)

-- What a fold's script reads as `acc` is the node's value before the call; no other script reads it.
abbrev pub IsAcc : Graph → Core → ℕ → ℕ → Value → Type 0
IsAcc graph s t n acc = kind_of (node_at graph n) ≡ Fold → acc ≡ value_before (entries s n) t
