-- Discover in two parts, and what stands between them.
use Rattle.std.specs.Prelude.{◌≡◌, ℕ, true}
use Rattle.signal_graph.specs.Graph.{Graph}
use Rattle.node_versions.specs.Entries.{Versions}
use Rattle.flow_model.specs.declared.step.Step.TheVariants.{Discover}
use Rattle.flow_model.specs.Machine.State.{Core, with_cell}
use Rattle.flow_model.specs.Machine.Changes.{ensure_mark, add_edge}
use Rattle.flow_model.specs.Machine.Steps.{allowed, apply}
use Rattle.flow_model.specs.Kept.Lawful.{IsLawful}
use Rattle.flow_state.specs.Booked.{Booked, rooms_for, with_book}
use Rattle.flow_model.specs.Parts.Books.{book_of}
use Rattle.flow_state.specs.Fitting.{IsBookOf, list_of, book_after}

-- the state between: the call has an entry at the candidate, and the out-edge is there
abbrev pub joined : Core → ℕ → ℕ → ℕ → Core
joined s t n m = with_cell (ensure_mark s t m) m (add_edge n t)

-- The first part: in each fitting state that allows Discover, the new book and list are those of the state between.
abbrev pub MakesJoined : Graph → Booked → Versions → ℕ → ℕ → ℕ → Booked → Versions → Type 0
MakesJoined graph book list t n m new new_list =
    (s : Core) → IsBookOf graph s book → list ≡ list_of graph s m → allowed graph s (Discover t n m) ≡ true
    → (new ≡ with_book book (book_of (joined s t n m))) × (new_list ≡ list_of graph (joined s t n m) m)

-- The book and the list are those that the first part leaves of a lawful state that allows Discover.
pub record IsJoinedOf (graph : Graph) (s : Core) (t n m : ℕ) (book : Booked) (list : Versions) : Type 0 where
  pub lawful : IsLawful graph s
  pub allowed : allowed graph s (Discover t n m) ≡ true
  pub parts : book.book ≡ book_of (joined s t n m)
  pub room_for : book.room_for ≡ rooms_for graph
  pub is_list : list ≡ list_of graph (joined s t n m) m

pub record IsJoined (graph : Graph) (t n m : ℕ) (book : Booked) (list : Versions) : Type 0 where
  pub state : Core
  pub fits : IsJoinedOf graph state t n m book list

-- The second part: the new book is that of the state after Discover. The list stays.
abbrev pub MakesTold : Graph → ℕ → ℕ → ℕ → Booked → Versions → Booked → Type 0
MakesTold graph t n m book list new =
    (s : Core) → IsJoinedOf graph s t n m book list
    → (new ≡ book_after graph s (Discover t n m) book) × (list ≡ list_of graph (apply graph s (Discover t n m)) m)
