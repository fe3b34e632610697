-- What a beginning asks and makes.
use Rattle.std.specs.Prelude.{◌≡◌, ℕ, suc, ◌-◌, ◌<◌, true}
use Rattle.signal_graph.specs.declared.call.Call.{Call}
use Rattle.signal_graph.specs.Graph.{Graph}
use Rattle.flow_model.specs.Machine.State.{Core}
use Rattle.flow_model.specs.Machine.Steps.{can_begin, begin}
use Rattle.flow_state.specs.Booked.{Booked}
use Rattle.flow_model.specs.Parts.Books.{book_of}
use Rattle.flow_state.specs.Rooms.{Roomy, IsRoomFor}
use Rattle.flow_state.specs.Fitting.{IsBookOf}

-- Some fitting state of a graph allows the beginning, and the room is one that is out and was made for the call in this graph.
pub record IsBeginning (book : Booked) (caller : ℕ) (call : Call) (room : Roomy) : Type 0 where
  pub graph : Graph
  pub state : Core
  pub fits : IsBookOf graph state book
  pub allowed : can_begin graph state caller call ≡ true
  pub made : IsRoomFor graph call room
  pub out : 0 < book.rooms

-- the book after the beginning: one room less is out
abbrev pub book_begun : Graph → Core → ℕ → Call → Booked → Booked
book_begun graph s caller call book = record book { book = book_of (begin graph s caller call); rooms = book.rooms - 1 }

abbrev pub MakesBeginning : Booked → ℕ → Call → Roomy → Booked → ℕ → Type 0
MakesBeginning book caller call room new version =
    (graph : Graph) (s : Core) → IsBookOf graph s book → can_begin graph s caller call ≡ true → IsRoomFor graph call room
    → (new ≡ book_begun graph s caller call book) × (version ≡ suc s.begun)
