-- A core as rooms go out and come back, and as calls begin.
use Rattle.std.specs.Prelude.{ℕ, suc, ◌-◌}
use Rattle.signal_graph.specs.declared.call.Call.{Call}
use Rattle.flow_model.specs.Machine.Steps.{begin}
pub use Rattle.flow_state.specs.Rooms.{IsRoomFor}
use Rattle.interleave_core.specs.Whole.{Whole}

-- a room goes out
abbrev pub one_room_more : Whole → Whole
one_room_more whole = record whole { rooms = suc whole.rooms }

-- a room comes back
abbrev pub one_room_less : Whole → Whole
one_room_less whole = record whole { rooms = whole.rooms - 1 }

-- a call begins, in a room that was out
abbrev pub after_beginning : Whole → ℕ → Call → Whole
after_beginning whole caller call = record whole { state = begin whole.graph whole.state caller call; rooms = whole.rooms - 1 }
