use Rattle.std.proofs.Common.{◌≡◌, ℕ, ◌<◌, true}
use Rattle.signal_graph.specs.Graph.{is_in}
use Rattle.flow_state.proofs.seating.all_slots.Given as goal

abbrev pub invariant-loop-slot : goal.invariant-loop-slot
invariant-loop-slot l = (l.slots.size ≡ l.callers) × ((k : ℕ) → k < l.slot → is_in k l.slots.nodes ≡ true)
