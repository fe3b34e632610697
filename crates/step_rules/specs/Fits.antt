-- A state that a book and the lists of nodes are of.
use Rattle.std.specs.Prelude.{◌≡◌, ℕ, ◌<◌, length}
use Rattle.signal_graph.specs.Graph.{Graph}
use Rattle.node_versions.specs.Entries.{Versions}
use Rattle.flow_model.specs.Machine.State.{Core}
use Rattle.flow_model.specs.Parts.Books.{Listing}
use Rattle.flow_state.specs.Booked.{Booked, call_in, node_count}
use Rattle.flow_state.specs.Fitting.{IsBookOf, list_of}
use Rattle.flow_state.specs.Seats.{Seated}

-- The state is a lawful one of the graph, with this book and, at the graph's nodes, these lists.
pub record IsWholeOf (graph : Graph) (s : Core) (book : Booked) (lists : ℕ → Versions) (count : ℕ) : Type 0 where
  pub fits : IsBookOf graph s book
  pub many : count ≡ length graph.nodes
  pub each : (n : ℕ) → n < count → lists n ≡ list_of graph s n

-- There is such a state.
pub record IsWhole (graph : Graph) (book : Booked) (lists : ℕ → Versions) (count : ℕ) : Type 0 where
  pub state : Core
  pub whole : IsWholeOf graph state book lists count

-- entries and out-edges alone
abbrev pub listed : (ℕ → Versions) → ℕ → Listing
listed lists n = record { entries = (lists n).entries; outs = (lists n).outs }

-- The seat is that of the call in the book.
pub record IsSeatOf (book : Booked) (t : ℕ) (seat : Seated) : Type 0 where
  pub call : seat.call ≡ call_in book t
  pub size : seat.size ≡ node_count book
