use Rattle.std.proofs.Common.{◌≡◌, drop}
use Rattle.std.specs.List.{list_any}
use Rattle.flow_state.specs.Seats.{calls_of, presses_live, pressed_live}
use Rattle.flow_state.proofs.seating.Seating.pressed.Given as goal

abbrev pub invariant-loop-index : goal.invariant-loop-index
invariant-loop-index l = list_any (presses_live l.self l.version l.node) (calls_of l.self-inside.seats.items (drop l.index l.self-inside.live.items)) ≡ pressed_live l.self l.version l.node
