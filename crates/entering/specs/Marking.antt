-- What a call's Mark in a list asks and makes.
use Rattle.std.specs.Prelude.{◌≡◌, ℕ, ◌<◌, true, length}
use Rattle.signal_graph.specs.Graph.{Graph}
use Rattle.node_versions.specs.Entries.{Versions}
use Rattle.flow_model.specs.Machine.State.{Core, live}
use Rattle.flow_model.specs.Machine.Changes.{ensure_mark}
use Rattle.flow_model.specs.Machine.Steps.{has_room_for}
use Rattle.flow_state.specs.Booked.{Booked, with_book}
use Rattle.flow_model.specs.Parts.Books.{book_of}
use Rattle.flow_state.specs.Fitting.{IsBookOf, list_of}

-- The state fits, the call is live, and it has an entry in the node's list or the list has room.
pub record CanMark (graph : Graph) (s : Core) (book : Booked) (n : ℕ) (list : Versions) (t : ℕ) : Type 0 where
  pub fits : IsBookOf graph s book
  pub is_list : list ≡ list_of graph s n
  pub node : n < length s.cells
  pub is_live : live s t ≡ true
  pub room : has_room_for s t n ≡ true

pub record SomeCanMark (book : Booked) (n : ℕ) (list : Versions) (t : ℕ) : Type 0 where
  pub graph : Graph
  pub state : Core
  pub can : CanMark graph state book n list t

-- In each such state the new book and list are those after the Mark.
abbrev pub Marks : Booked → ℕ → Versions → ℕ → Booked → Versions → Type 0
Marks book n list t new new_list =
    (graph : Graph) (s : Core) → CanMark graph s book n list t
    → (new ≡ with_book book (book_of (ensure_mark s t n))) × (new_list ≡ list_of graph (ensure_mark s t n) n)
