-- Runs of a core: the public calls that change it, one after the other, each where its contract allows it.
use Rattle.std.specs.Prelude.{ℕ, Bool, true, ◌&&◌, nat_lt, List, [], ◌∷◌}
use Rattle.signal_graph.specs.declared.call.Call.{Call}
use Rattle.signal_graph.specs.Graph.{Graph}
use Rattle.flow_model.specs.declared.step.Step.{Step}
use Rattle.flow_model.specs.Machine.Steps.{can_begin, allowed}
use Rattle.flow_model.specs.Machine.Histories.{Move, Begin, Make}
use Rattle.interleave_core.specs.Whole.{Whole, after}
use Rattle.interleave_core.specs.Opening.{opened_core}
use Rattle.interleave_core.specs.Rooms.{one_room_more, one_room_less, after_beginning}

-- A room goes out or comes back, a call begins, or a step is made, by `apply` or by `put`.
pub data Act : Type 0 where
  MakeRoom : Act
  GiveBack : Act
  BeginCall : (caller : ℕ) (call : Call) → Act
  MakeStep : (step : Step) → Act

-- The core allows it.
abbrev pub can : Whole → Act → Bool
can core MakeRoom = true
can core GiveBack = nat_lt 0 core.rooms
can core (BeginCall caller call) = can_begin core.graph core.state caller call && nat_lt 0 core.rooms
can core (MakeStep step) = allowed core.graph core.state step

-- the core after it
abbrev pub after_act : Whole → Act → Whole
after_act core MakeRoom = one_room_more core
after_act core GiveBack = one_room_less core
after_act core (BeginCall caller call) = after_beginning core caller call
after_act core (MakeStep step) = after core step

-- the core after acts, one after the other
abbrev pub after_acts : Whole → List Act → Whole
after_acts core [] = core
after_acts core (act ∷ acts) = after_acts (after_act core act) acts

-- Each is allowed in the core before it.
abbrev pub can_all : Whole → List Act → Bool
can_all core [] = true
can_all core (act ∷ acts) = can core act && can_all (after_act core act) acts

-- The acts are a run of a core from its beginning on, and the core after them.
abbrev pub is_run : Graph → ℕ → ℕ → List Act → Bool
is_run graph callers limit acts = can_all (opened_core graph callers limit) acts

abbrev pub core_after : Graph → ℕ → ℕ → List Act → Whole
core_after graph callers limit acts = after_acts (opened_core graph callers limit) acts

-- the beginnings and steps of a run
abbrev pub moves_of : List Act → List Move
moves_of [] = []
moves_of (MakeRoom ∷ acts) = moves_of acts
moves_of (GiveBack ∷ acts) = moves_of acts
moves_of (BeginCall caller call ∷ acts) = Begin caller call ∷ moves_of acts
moves_of (MakeStep step ∷ acts) = Make step ∷ moves_of acts

-- a run of these beginnings and steps, with a room for each beginning
abbrev pub acts_of : List Move → List Act
acts_of [] = []
acts_of (Begin caller call ∷ moves) = MakeRoom ∷ BeginCall caller call ∷ acts_of moves
acts_of (Make step ∷ moves) = MakeStep step ∷ acts_of moves
