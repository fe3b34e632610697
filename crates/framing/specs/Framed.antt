-- What framing a node makes of a book and a list.
use Rattle.std.specs.Prelude.{◌≡◌, ℕ, ◌<◌, true, false, List, [], ◌∷◌, length}
use Rattle.std.specs.List.{AllByRecursion}
use Rattle.signal_graph.specs.Graph.{Graph}
use Rattle.node_versions.specs.declared.entry.State.TheVariants as state
use Rattle.node_versions.specs.Entries.{Versions, OutEdge, is_mark, has, at}
use Rattle.flow_model.specs.Machine.State.{Core, LiveCall, live, entries}
use Rattle.flow_model.specs.Machine.Words.{has_room}
use Rattle.flow_state.specs.Booked.{Booked, wanting, with_book}
use Rattle.flow_model.specs.Parts.Books.{book_of}
use Rattle.flow_model.specs.Follows.Others.{with_frame}
use Rattle.flow_state.specs.Fitting.{IsBookOf, list_of}

-- a call comes to want all nodes of a list, but for those that are open for it
abbrev pub wanting_all : List ℕ → LiveCall → LiveCall
wanting_all [] c = c
wanting_all (n ∷ ns) c = wanting_all ns (wanting n c)

-- The state fits, and the live call has a Mark in the node's list, or no entry and room for one.
pub record CanFrame (graph : Graph) (s : Core) (book : Booked) (n : ℕ) (list : Versions) (t : ℕ) : Type 0 where
  pub fits : IsBookOf graph s book
  pub is_list : list ≡ list_of graph s n
  pub node : n < length s.cells
  pub is_live : live s t ≡ true
  pub mark : has (entries s n) t ≡ true → at is_mark (entries s n) t ≡ true
  pub room : has (entries s n) t ≡ false → has_room s n ≡ true

pub record SomeCanFrame (book : Booked) (n : ℕ) (list : Versions) (t : ℕ) : Type 0 where
  pub graph : Graph
  pub state : Core
  pub can : CanFrame graph state book n list t

abbrev pub TakesFrame : Booked → ℕ → Versions → ℕ → Booked → Versions → Type 0
TakesFrame book n list t new new_list =
    (graph : Graph) (s : Core) → CanFrame graph s book n list t
    → (new ≡ with_book book (book_of (with_frame s t n))) × (new_list ≡ list_of graph (with_frame s t n) n)

-- all nodes are below a number
abbrev pub AreBelow : ℕ → List ℕ → Type 0
AreBelow size ns = AllByRecursion (λ (n : ℕ). n < size) ns

abbrev pub EdgesBelow : ℕ → List OutEdge → Type 0
EdgesBelow size outs = AllByRecursion (λ (edge : OutEdge). edge.0 < size) outs
