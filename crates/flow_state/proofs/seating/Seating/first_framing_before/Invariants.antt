use Rattle.std.proofs.Common.{◌≡◌, drop}
use Rattle.flow_model.specs.Machine.Next.{least_version}
use Rattle.flow_state.specs.Seats.{calls_of, framing_before_live}
use Rattle.flow_state.proofs.seating.Seating.first_framing_before.Given as goal

abbrev pub invariant-loop-index : goal.invariant-loop-index
invariant-loop-index l = least_version (framing_before_live l.self l.version) (calls_of l.self-inside.seats.items (drop l.index l.self-inside.live.items)) ≡ least_version (framing_before_live l.self l.version) l.self.calls
