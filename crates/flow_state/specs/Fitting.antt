-- Lawful states that a book, and lists, are of: what a step may rely on, and what it makes.
use Rattle.std.specs.Prelude.{◌≡◌, ℕ, true, length, filter}
use Rattle.signal_graph.specs.Graph.{Graph, IsGraph, node_at, numbers, selectors_of}
use Rattle.node_versions.specs.Entries.{Versions}
use Rattle.flow_model.specs.declared.step.Step.{Step}
use Rattle.flow_model.specs.Machine.State.{Core, entries, outs}
use Rattle.flow_model.specs.Machine.Words.{list_room}
use Rattle.flow_model.specs.Machine.Steps.{allowed, apply}
use Rattle.flow_model.specs.Kept.Lawful.{IsLawful, lists_candidate}
use Rattle.flow_state.specs.Booked.{Booked, rooms_for, with_book}
use Rattle.flow_model.specs.Parts.Books.{book_of}

-- how many nodes list a node as a candidate: so many out-edges can stand at it
abbrev pub choosers : Graph → ℕ → ℕ
choosers graph m = length (filter (λ n. lists_candidate m (selectors_of (node_at graph n))) (numbers graph))

-- the list of a node in a state
abbrev pub list_of : Graph → Core → ℕ → Versions
list_of graph s n = record { entries = entries s n; outs = outs s n; room = list_room s.callers; outs_room = choosers graph n }

-- The state is a lawful one of the graph, and the book is its.
pub record IsBookOf (graph : Graph) (s : Core) (book : Booked) : Type 0 where
  pub is_graph : IsGraph graph
  pub lawful : IsLawful graph s
  pub parts : book.book ≡ book_of s
  pub room_for : book.room_for ≡ rooms_for graph

-- The book after a step.
abbrev pub book_after : Graph → Core → Step → Booked → Booked
book_after graph s step book = with_book book (book_of (apply graph s step))

-- ---- a step on the book alone

-- Some fitting state allows the step.
pub record IsBookStep (graph : Graph) (book : Booked) (step : Step) : Type 0 where
  pub state : Core
  pub fits : IsBookOf graph state book
  pub allowed : allowed graph state step ≡ true

-- In each fitting state that allows the step, the new book is that of the state after it.
abbrev pub MakesBook : Graph → Booked → Step → Booked → Type 0
MakesBook graph book step new =
    (s : Core) → IsBookOf graph s book → allowed graph s step ≡ true → new ≡ book_after graph s step book

-- ---- a step on the book and a node's list

pub record IsListStep (graph : Graph) (book : Booked) (n : ℕ) (list : Versions) (step : Step) : Type 0 where
  pub state : Core
  pub fits : IsBookOf graph state book
  pub is_list : list ≡ list_of graph state n
  pub allowed : allowed graph state step ≡ true

abbrev pub MakesList : Graph → Booked → ℕ → Versions → Step → Booked → Versions → Type 0
MakesList graph book n list step new new_list =
    (s : Core) → IsBookOf graph s book → list ≡ list_of graph s n → allowed graph s step ≡ true
    → (new ≡ book_after graph s step book) × (new_list ≡ list_of graph (apply graph s step) n)

-- ---- a step on the book alone that reads a node's list

-- `IsListStep` says where such a step is allowed.
abbrev pub MakesRead : Graph → Booked → ℕ → Versions → Step → Booked → Type 0
MakesRead graph book n list step new =
    (s : Core) → IsBookOf graph s book → list ≡ list_of graph s n → allowed graph s step ≡ true
    → new ≡ book_after graph s step book
