-- What a call's entry into a list asks and makes.
use Rattle.std.specs.Prelude.{◌≡◌, ◌≢◌, ℕ, ◌<◌, Bool, true, false, Option, Some, None, length}
use Rattle.signal_graph.specs.Graph.{Graph}
use Rattle.order_graph.specs.Order.{reaches}
use Rattle.node_versions.specs.declared.entry.State.{State}
use Rattle.node_versions.specs.declared.entry.Entry.{Entry}
use Rattle.node_versions.specs.Entries.{Versions, has}
use Rattle.flow_model.specs.Machine.State.{Core, live, entries}
use Rattle.flow_model.specs.Machine.Words.{has_room}
use Rattle.flow_model.specs.Machine.Changes.{enter}
use Rattle.flow_state.specs.Booked.{Booked, live_in, call_in, stops_in, with_book, link_calls}
use Rattle.flow_model.specs.Parts.Books.{book_of}
use Rattle.flow_state.specs.Fitting.{IsBookOf, list_of}

-- The state fits, the call is live and has no entry in the node's list, and the list has room.
pub record CanEnter (graph : Graph) (s : Core) (book : Booked) (n : ℕ) (list : Versions) (t : ℕ) : Type 0 where
  pub fits : IsBookOf graph s book
  pub is_list : list ≡ list_of graph s n
  pub node : n < length s.cells
  pub is_live : live s t ≡ true
  pub no_entry : has (entries s n) t ≡ false
  pub room : has_room s n ≡ true

pub record SomeCanEnter (book : Booked) (n : ℕ) (list : Versions) (t : ℕ) : Type 0 where
  pub graph : Graph
  pub state : Core
  pub can : CanEnter graph state book n list t

-- In each such state the new book and list are those after the entry.
abbrev pub Enters : Booked → ℕ → Versions → ℕ → State → Booked → Versions → Type 0
Enters book n list t state new new_list =
    (graph : Graph) (s : Core) → CanEnter graph s book n list t
    → (new ≡ with_book book (book_of (enter s t n state))) × (new_list ≡ list_of graph (enter s t n state) n)

-- ---- in a book

abbrev pub stops_entry : Booked → ℕ → Entry → Bool
stops_entry book t e = stops_in book t e.version

-- there is a call and it is live
abbrev pub lives_in : Booked → Option ℕ → Bool
lives_in book None = false
lives_in book (Some u) = live_in book u

-- the call's entry in a state
abbrev pub entry_in : Booked → ℕ → State → Entry
entry_in book t state = record { version = t; slot = (call_in book t).slot; state = state }

-- the book with a pair of a call and the one that enters, where that call is live
abbrev pub link_if : Bool → Booked → ℕ → ℕ → ℕ → Booked
link_if true book u v n = link_calls book u v n
link_if false book u v n = book

abbrev pub link_before : Booked → Option ℕ → ℕ → ℕ → Booked
link_before book None t n = book
link_before book (Some u) t n = link_if (live_in book u) book u t n

abbrev pub link_behind : Booked → Option ℕ → ℕ → ℕ → Booked
link_behind book None t n = book
link_behind book (Some u) t n = link_if (live_in book u) book t u n

-- a live call can be recorded before another
abbrev pub CanLink : Booked → ℕ → ℕ → Type 0
CanLink book u v = (u ≢ v) × (reaches book.book.pairs v u ≡ false)

abbrev pub CanLinkBefore : Booked → Option ℕ → ℕ → Type 0
CanLinkBefore book None t = Unit {0}
CanLinkBefore book (Some u) t = live_in book u ≡ true → CanLink book u t

abbrev pub CanLinkBehind : Booked → Option ℕ → ℕ → Type 0
CanLinkBehind book None t = Unit {0}
CanLinkBehind book (Some u) t = live_in book u ≡ true → CanLink book t u
